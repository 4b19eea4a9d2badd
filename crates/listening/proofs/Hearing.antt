-- From what a server did with one listener to what was heard of it.
use Rattle.std.proofs.Common.{◌≡◌, ◌≢◌, ◌⊎◌, ◌≤◌, ◌<◌, ◌-◌, ◌+◌, ◌^◌, ℕ, suc, Bool, true, false, List, [], ◌∷◌, All, length, length-take, map, min, drop, take, Option, None, Some, IfSome, IsTrue, if◌then◌else◌, inl, inr, refl, sym, ap, ◌∙◌, subst, arith}
use Rattle.std.specs.Option.{option_map}
use Rattle.std.proofs.Math.Decide.{dec_le}
use Rattle.std.proofs.lemmas.List.Elements.{All-take}
use Rattle.std.proofs.lemmas.Option.{get_or_from_slice_get, slice_get_within}
use Rattle.service_core.specs.Counts.{Rose}
use Rattle.service_core.specs.Link.{FailsAtMost, Identity}
use Rattle.service_core.specs.declared.ended.How.{How}
use Rattle.service_core.specs.declared.ended.How.TheVariants as how
use Rattle.service_core.specs.declared.link.Link.{Ghosts as LinkOf}
use Rattle.script_service.specs.Serving.{LeavesScript, ServesScript}
use Rattle.script_service.specs.Sites.{Site}
use Rattle.server.specs.Starting.{RoseBy, Started}
use Rattle.server_bind.specs.Limiting.{until}
use Rattle.server_bind.specs.Stock.{IsSteady, NeverFails}
use Rattle.server_run.specs.Delivery.{ComesBack, Delivers, IsServedFrom, left_at, once_below, rise}
use Rattle.server_run.specs.Done.{counted, served_count}
use Rattle.server_run.specs.Listener.{Mark, gives}
use Rattle.server_run.specs.Outcome.{is_stopped, outcome_of}
use Rattle.server_run.specs.Report.{Tells, is_stop}
use Rattle.server_run.specs.Serving.{HasCause, IsLostBy}
use Rattle.server_run.specs.declared.entry.Entry.{Entry}
use Rattle.server_run.specs.declared.outcome.Outcome.{Outcome}
use Rattle.server_run.specs.declared.outcome.Outcome.TheVariants.{Served, Memory as NoMemory}
use Rattle.server_run.specs.declared.outcome.Outcome.TheVariants as outcome
use Rattle.server_run.specs.declared.report.End.{End}
use Rattle.server_run.specs.declared.report.End.TheVariants.{Drained, Stopped, NoWorkers, Memory as NoRoom}
use Rattle.server_run.specs.declared.report.Report.{Report}
use Rattle.listening.proofs.Counting.{as_many, few as few_entries, few_served, first_alone}
use Rattle.listening.proofs.Ending.{all_came, drained_ended}
use Rattle.listening.specs.Listening.{Hears, IsWhole, LacksMemory}
use Rattle.listening.specs.Sites.{listen_site}
use Rattle.listening.specs.declared.heard.Heard.{Heard}

-- a link that never fails is served, unless memory runs out
module _ {L : Type 0} (g : LinkOf L) (law : (link : L) → FailsAtMost (g.identity link) (g.read_faults link) (g.write_faults link)) (link back : L) (never : NeverFails (g.identity link)) where
  no_fault : (before after : ℕ) (most : Option ℕ) → most ≡ Some 0 → IfSome most (λ n. after ≤ n) → Rose before after → ⊥
  no_fault before after most is few rose = let none = subst (λ (o : Option ℕ). IfSome o (λ n. after ≤ n)) is few in omega (arith, none, rose)

  not_upgraded : listen_site.echoes_upgrades ≡ true → ⊥
  not_upgraded is = cc

  by_how : (h : How) → ServesScript listen_site g link (record { link = back; how = h }) → (outcome_of h ≡ Served) ⊎ (outcome_of h ≡ NoMemory)
  by_how how.Served ends = inl refl
  by_how how.ReadFault ends = absurd (no_fault _ _ (g.identity back).read_fails (ap (λ (i : Identity). i.read_fails) ends.same ∙ never.0) (law back).0 ends.faults)
  by_how how.WriteFault ends = absurd (no_fault _ _ (g.identity back).write_fails (ap (λ (i : Identity). i.write_fails) ends.same ∙ never.1) (law back).1 ends.faults)
  by_how how.Upgraded ends = absurd (not_upgraded (ends.upgraded refl))
  by_how how.Memory ends = inr refl

  -- in a run that nothing stopped, and whose workers don't end by faults
  module _ (workers : ℕ) (may_fault : Type 0) (sound : may_fault → ⊥) (end : End) (unstopped : is_stop end ≡ false) (staffed : end ≢ NoWorkers) where
    served_or_memory : (outcome : Outcome) → (is_stopped outcome ≡ true → is_stop end ≡ true) → IsLostBy workers may_fault end outcome
        → ComesBack (ServesScript listen_site g) (LeavesScript listen_site g) link back outcome → (outcome ≡ Served) ⊎ (outcome ≡ NoMemory)
    served_or_memory out stopped lost (inl ended) = rw ended.1 (by_how ended.0 ended.2)
    served_or_memory outcome.Served stopped lost (inr held) = absurd held
    served_or_memory outcome.ReadFault stopped lost (inr held) = absurd held
    served_or_memory outcome.WriteFault stopped lost (inr held) = absurd held
    served_or_memory outcome.Upgraded stopped lost (inr held) = absurd held
    served_or_memory (outcome.Lost (Some worker)) stopped lost (inr held) = absurd (sound lost.1)
    served_or_memory (outcome.Lost None) stopped lost (inr held) = absurd (staffed lost)
    served_or_memory (outcome.Stopped forced) stopped lost (inr held) = absurd (let stop = stopped refl in cc)
    served_or_memory outcome.Memory stopped lost (inr held) = inr refl

module _ {Li W L : Type 0} (g : LinkOf L) (law : (link : L) → FailsAtMost (g.identity link) (g.read_faults link) (g.write_faults link))
    (left : Li → Option (List L)) (rest : Li → Option (List Mark)) (listener : Li) (limit : ℕ)
    (given faults : W → ℕ) (ended : W → Bool) (left_w : W → Option (List L)) (rest_w : W → Option (List Mark)) (old new : W)
    (left_is : left_w old ≡ option_map (take limit) (left listener)) (rest_is : rest_w old ≡ option_map (until limit) (rest listener))
    (at_end : IsTrue (ended new) → IfSome (left_w new) (λ links. links ≡ [])) (limited : given new - given old ≤ limit) (small : limit < 2 ^ 48)
    (entries : List (Entry L)) (report : Report) (retry_limit : ℕ) (retries : retry_limit ≢ 0)
    (delivers : Delivers given left_w g.identity (λ token. ServesScript listen_site g) (λ token. LeavesScript listen_site g) (old ∷ []) (new ∷ []) entries)
    (told : Tells rest_w ended faults retry_limit (old ∷ []) (new ∷ []) report) (unstopped : is_stop report.end ≡ false)
    (workers : ℕ) (may_fault : Type 0) (faulted : report.end ≡ NoWorkers → may_fault) (founded : All (HasCause workers may_fault report.end) entries) (sound : may_fault → ⊥)
    (heard : Heard) (connections : heard.connections ≡ counted (length entries)) (served : heard.served ≡ counted (served_count entries)) (end_is : heard.end ≡ report.end) where
  abbrev rises : ℕ → ℕ
  rises token = rise given (old ∷ []) (new ∷ []) token

  no_other : (n : ℕ) → rises (suc n) ≡ 0
  no_other n = refl

  many : length entries ≡ rises 0
  many = as_many rises entries delivers.places no_other

  few : length entries ≤ limit
  few = let m = many in omega (arith, m, limited)

  connections_are : heard.connections ≡ length entries
  connections_are = let f = few in connections ∙ omega (arith, f, small)

  served_are : heard.served ≡ served_count entries
  served_are = let f = few in let s = few_served entries in served ∙ omega (arith, f, s, small)

  abbrev IsFrom : Option (List L) → Entry L → Type 0
  IsFrom links entry = IsServedFrom g.identity (λ token. ServesScript listen_site g) (λ token. LeavesScript listen_site g) links entry

  links : All (IsFrom (option_map (take limit) (left listener))) entries
  links k d inside = each _ (first_alone rises entries delivers.places no_other k d inside) (delivers.links k d inside)
    where
      each : (e : Entry L) → e.token ≡ 0 → IsFrom (left_at left_w (old ∷ []) e.token) e → IsFrom (option_map (take limit) (left listener)) e
      each e is from = subst (λ (o : Option (List L)). IsFrom o e) (ap (λ (t : ℕ). left_at left_w (old ∷ []) t) is ∙ left_is) from

  module _ (all : List L) (left_all : left listener ≡ Some all) (rest_all : rest listener ≡ Some (map (λ (l : L). gives) all)) (never : All (λ link. NeverFails (g.identity link)) all) where
    abbrev most : ℕ
    most = min limit (length all)

    from_all : All (IsFrom (Some (take limit all))) entries
    from_all = subst (λ (o : Option (List L)). All (IsFrom o) entries) (ap (option_map (take limit)) left_all) links

    outcomes : All (λ entry. (entry.outcome ≡ Served) ⊎ (entry.outcome ≡ NoMemory)) entries
    outcomes k d inside = of _ (from_all k d inside) (founded k d inside)
      where
        of : (e : Entry L) → IsFrom (Some (take limit all)) e → HasCause workers may_fault report.end e → (e.outcome ≡ Served) ⊎ (e.outcome ≡ NoMemory)
        of e from cause =
            let within = slice_get_within (take limit all) e.place from.link from.in_place in
            let is = get_or_from_slice_get (take limit all) e.place from.link from.link from.in_place in
            let goes_on = subst (λ (l : L). NeverFails (g.identity l)) is (All-take (λ link. NeverFails (g.identity link)) limit all never e.place from.link within) in
            served_or_memory g law from.link e.link goes_on workers may_fault sound report.end unstopped (λ none. sound (faulted none)) e.outcome cause.stopped cause.lost from.comes_back

    no_more : length entries ≤ most
    no_more = few_entries rises entries delivers.places no_other most (λ k d inside. below _ (from_all k d inside))
      where
        below : (e : Entry L) → IsFrom (Some (take limit all)) e → e.place < most
        below e from =
            let within = slice_get_within (take limit all) e.place from.link from.in_place in
            let long = length-take limit all in omega (arith, within, long)

    all_of_them : report.end ≡ Drained → length entries ≡ most
    all_of_them drained =
        let is_ended = drained_ended rest_w ended faults left_w retry_limit old new report told retries all limit (rest_is ∙ ap (option_map (until limit)) rest_all) drained in
        let came = all_came rest_w ended faults left_w retry_limit old new report told retries all limit (rest_is ∙ ap (option_map (until limit)) rest_all) (rises 0) (at_end is_ended)
        (delivers.remains 0 ∙ ap (option_map (λ xs. drop (rises 0) xs)) (left_is ∙ ap (option_map (take limit)) left_all)) in
        let long = length-take limit all in let m = many in let n = no_more in omega (arith, came, long, m, n)

    by_end : (end : End) → report.end ≡ end → IsWhole most heard ⊎ LacksMemory most entries heard
    by_end (Stopped graceful) stopped = absurd (let none = subst (λ (e : End). is_stop e ≡ false) stopped unstopped in cc)
    by_end NoWorkers none = absurd (sound (faulted none))
    by_end NoRoom room = inr (record { few = let n = no_more in let c = connections_are in omega (arith, n, c); short = inr (end_is ∙ room); outcomes = outcomes })
    by_end Drained drained = elim (dec_le most (served_count entries)) [
      | yes whole ↦
          let a = all_of_them drained in let s = few_served entries in
          inl (connections_are ∙ a, served_are ∙ omega (arith, whole, a, s), end_is ∙ drained)
      | no short ↦
          let a = all_of_them drained in
          inr (record {
            few = let n = no_more in let c = connections_are in omega (arith, n, c);
            short = inl (connections_are ∙ a, (let s = served_are in omega (arith, s, short)), end_is ∙ drained);
            outcomes = outcomes;
          })
    ]

  of_steady : (found : Option (List L)) → left listener ≡ found → IsSteady left rest g.identity listener
      → IfSome found (λ all. IsWhole (min limit (length all)) heard ⊎ LacksMemory (min limit (length all)) entries heard)
  of_steady None is steady = tt
  of_steady (Some all) is steady =
      let goes_on = subst (λ (o : Option (List L)). IfSome o (λ links. (rest listener ≡ Some (map (λ (l : L). gives) links)) × All (λ link. NeverFails (g.identity link)) links)) is steady.goes_on in
      by_end all is goes_on.0 goes_on.1 report.end refl

  -- what was heard of the listener
  hears : Hears left rest g limit listener heard
  hears = record {
    entries = entries;
    connections = connections_are;
    served = served_are;
    few = few;
    places = λ place. delivers.places 0 place ∙ ap (λ (n : ℕ). once_below n place) (sym many);
    links = links;
    steady = of_steady (left listener) refl;
  }

-- no more workers were started where none may end by a fault
pub rose_by : (may_fault : Type 0) (n before now : ℕ) → Started may_fault n before now → (may_fault → ⊥) → RoseBy n before now
rose_by may_fault n before now started sound = record { at_least = started.at_least; at_most = few started.at_most }
  where
    few : (now ≤ before + n) ⊎ may_fault → now ≤ before + n
    few (inl most) = most
    few (inr fault) = absurd (sound fault)

-- a new listener with a limit
module _ {Li : Type 0} (inner listener : Li) (is : inner ≡ listener) (remaining limit : ℕ) (as_many : remaining ≡ limit) where
  pub left_of : {L : Type 0} (left : Li → Option (List L)) (ended : Bool) → ended ≡ false → option_map (take (if ended then 0 else remaining)) (left inner) ≡ option_map (take limit) (left listener)
  left_of left true goes_on = absurd (none goes_on)
    where
      none : true ≡ false → ⊥
      none same = cc
  left_of left false goes_on = ap (λ (n : ℕ). option_map (take n) (left inner)) as_many ∙ ap (λ (l : Li). option_map (take limit) (left l)) is

  pub rest_of : (rest : Li → Option (List Mark)) → option_map (until remaining) (rest inner) ≡ option_map (until limit) (rest listener)
  rest_of rest = ap (λ (n : ℕ). option_map (until n) (rest inner)) as_many ∙ ap (λ (l : Li). option_map (until limit) (rest l)) is

  -- gives no more than may come
  pub within : (left : ℕ) → 2 ^ 48 - 1 - left - (2 ^ 48 - 1 - remaining) ≤ limit
  within left = omega (arith, as_many)

none_more : (c n : ℕ) → c ≡ 0 → c + n ≡ n
none_more c n none = omega (arith, none)

-- what a server of this site heard of a listener with a limit
module _ {Li W L : Type 0} (g : LinkOf L) (law : (link : L) → FailsAtMost (g.identity link) (g.read_faults link) (g.write_faults link))
    (left : Li → Option (List L)) (rest : Li → Option (List Mark)) (listener : Li) (limit : ℕ)
    (given faults : W → ℕ) (ended : W → Bool) (left_w : W → Option (List L)) (rest_w : W → Option (List Mark)) (old : W)
    (left_is : left_w old ≡ option_map (take limit) (left listener)) (rest_is : rest_w old ≡ option_map (until limit) (rest listener))
    (at_end : (w : W) → IsTrue (ended w) → IfSome (left_w w) (λ links. links ≡ [])) (limited : (w : W) → given w - given old ≤ limit) (small : limit < 2 ^ 48)
    (entries : List (Entry L)) (report : Report) (retry_limit : ℕ) (retries : retry_limit ≡ 8) (site : Site) (site_is : site ≡ listen_site) where
  pub hears_of : (olds news : List W) → olds ≡ old ∷ [] → length news ≡ length olds
      → Delivers given left_w g.identity (λ token. ServesScript site g) (λ token. LeavesScript site g) olds news entries
      → Tells rest_w ended faults retry_limit olds news report → is_stop report.end ≡ false
      → (workers : ℕ) (may_fault : Type 0) → (report.end ≡ NoWorkers → may_fault) → All (HasCause workers may_fault report.end) entries → (may_fault → ⊥)
      → (heard : Heard) (connections served : ℕ) → connections ≡ 0 → served ≡ 0 → heard.connections ≡ counted (connections + length entries)
      → heard.served ≡ counted (served + served_count entries) → heard.end ≡ report.end → Hears left rest g limit listener heard
  hears_of olds [] is same delivers told unstopped workers may_fault faulted founded sound heard c s no_c no_s connections served end_is = let one = ap length is in absurd (omega (arith, same, one))
  hears_of olds (new ∷ other ∷ more) is same delivers told unstopped workers may_fault faulted founded sound heard c s no_c no_s connections served end_is = let one = ap length is in absurd (omega (arith, same, one))
  hears_of olds (new ∷ []) is same delivers told unstopped workers may_fault faulted founded sound heard c s no_c no_s connections served end_is =
      hears g law left rest listener limit given faults ended left_w rest_w old new left_is rest_is (at_end new) (limited new) small entries report retry_limit (λ none. (let eight = retries in omega (arith, none, eight)))
      (subst (λ (t : Site). Delivers given left_w g.identity (λ token. ServesScript t g) (λ token. LeavesScript t g) (old ∷ []) (new ∷ []) entries) site_is
      (subst (λ (ws : List W). Delivers given left_w g.identity (λ token. ServesScript site g) (λ token. LeavesScript site g) ws (new ∷ []) entries) is delivers))
      (subst (λ (ws : List W). Tells rest_w ended faults retry_limit ws (new ∷ []) report) is told) unstopped workers may_fault faulted founded sound
      heard (connections ∙ ap counted (none_more c (length entries) no_c)) (served ∙ ap counted (none_more s (served_count entries) no_s)) end_is
