-- What a report tells of a run, by what its listeners gave.
use Rattle.std.proofs.Common.{◌≡◌, ◌≢◌, ◌≤◌, ◌⊎◌, ℕ, zero, suc, Bool, true, false, List, [], ◌∷◌, ◌++◌, ◌-◌, ◌+◌, cond, length, map, not, drop, Option, Some, IfSome, IsTrue, slice_get, All, refl, sym, ◌∙◌, ap, subst, arith, inl, inr}
use Rattle.std.specs.List.{count_by}
use Rattle.std.specs.Option.{option_and_then, option_map}
use Rattle.std.specs.Prelude.{take}
use Rattle.std.proofs.lemmas.List.{length-drop, length-map}
use Rattle.std.proofs.lemmas.List.Sums.{sum_by-append}
use Rattle.std.proofs.lemmas.Option.{get_or_from_slice_get, same_Some, slice_get_within, slice_get-get_or}
use Rattle.service_core.specs.Counts.{Rose}
use Rattle.service_core.specs.Link.{FailsAtMost, Identity}
use Rattle.service_core.specs.declared.ended.How.{How}
use Rattle.service_core.specs.declared.ended.How.TheVariants as how
use Rattle.service_core.specs.declared.link.Link.{Ghosts as LinkOf}
use Rattle.service_core.specs.declared.peer.Peer.{Peer}
use Rattle.http_flow.specs.Upgrading.{Grew}
use Rattle.http1_dispatcher.specs.Ending.{GrewByPrefix, WroteBeyond, WroteSome}
use Rattle.server_run.specs.Delivery.{ComesBack, Delivers, IsServedFrom, left_at, rest_at, rise}
use Rattle.server_run.specs.Listener.{Mark, fails, gives}
use Rattle.server_run.specs.Memory.{links, marks}
use Rattle.server_run.specs.Outcome.{is_lost, is_stopped, outcome_of}
use Rattle.server_run.specs.Report.{Tells, is_stop}
use Rattle.server_run.specs.Steps.{is_read_fail, is_write_fail}
use Rattle.server_run.specs.declared.entry.Entry.{Entry}
use Rattle.server_run.specs.declared.listener_step.ListenerStep.{ListenerStep}
use Rattle.server_run.specs.declared.listener_step.ListenerStep.TheVariants as step
use Rattle.server_run.specs.declared.memory_link.MemoryLink.{MemoryLink}
use Rattle.server_run.specs.declared.memory_listener.MemoryListener.{MemoryListener}
use Rattle.server_run.specs.declared.outcome.Outcome.{Outcome}
use Rattle.server_run.specs.declared.outcome.Outcome.TheVariants as outcome
use Rattle.server_run.specs.declared.report.End.{End}
use Rattle.server_run.specs.declared.report.End.TheVariants.{Drained, Stopped, NoWorkers, Memory as NoRoom}
use Rattle.server_run.specs.declared.report.ListenerState.{ListenerState}
use Rattle.server_run.specs.declared.report.ListenerState.TheVariants.{Ended, Faulted, Open}
use Rattle.server_run.specs.declared.report.Report.{Report}
use Rattle.report.proofs.Placing as placing
use Rattle.report.specs.Report.{IsText, entries_of}
use Rattle.report.specs.Told.{Telling, Told, tellings_of, told_by}
use Rattle.script.proofs.Offered.{as_many as as_many_links, marks_of_answers}
use Rattle.script.specs.Offering.{AllOffer, AreFresh, IsFresh, Offers, marks_of}
use Rattle.script.specs.Planned.{Listening, Planned, held_of}
use Rattle.script.specs.Script.{Plan}
use Rattle.script_service.specs.Serving.{LeavesScript, ServesScript}
use Rattle.script_service.specs.Sites.{Site, answers_of, site_of}
use Rattle.replaying.proofs.Plainly.{by_plain}
use Rattle.replaying.specs.Running.{IsUndisturbed, ended_of, given_of, left_of, rest_of}
use Rattle.replaying.specs.Reported.{AreTelling, AreTold, GaveUp, IsBeyond, IsFront, IsReportOf, IsTelling, Shows, answers_to, is_failure}

some_rose : (before after most : ℕ) → Rose before after → after ≤ most → 1 ≤ most
some_rose before after most rose few = omega arith

module _ (site : Site) (g : LinkOf MemoryLink) (planned : Planned) (writes : (link : MemoryLink) → g.written link ≡ Some link.written)
    (few : (link : MemoryLink) → FailsAtMost (g.identity link) (g.read_faults link) (g.write_faults link))
    (link back : MemoryLink) (name : ℕ) (fresh : IsFresh g name planned link) where
  few_back : g.identity back ≡ g.identity link
      → (g.read_faults back ≤ count_by is_read_fail planned.reads) × (g.write_faults back ≤ count_by is_write_fail planned.writes)
  few_back same = subst (λ (i : Identity). FailsAtMost i (g.read_faults back) (g.write_faults back)) (same ∙ fresh.identity) (few back)

  whole : (bytes : List ℕ) → Grew (g.written link) (g.written back) bytes → back.written ≡ bytes
  whole bytes grew = same_Some _ _ (sym (writes back) ∙ grew ∙ ap (λ told. option_map (λ (w : List ℕ). w ++ bytes) told) fresh.written)

  -- what holds of the bytes that were not taken holds of all that the connection gives
  of_all : (P : Peer → List ℕ → Type 0) → IfSome (g.identity link).held (λ all. P (g.identity link).peer (drop (g.taken link) all))
      → P planned.peer (held_of planned)
  of_all P holds =
      subst (λ (t : ℕ). P planned.peer (drop t (held_of planned))) fresh.taken
      (subst (λ (i : Identity). IfSome i.held (λ all. P i.peer (drop (g.taken link) all))) fresh.identity holds)

  front_of : GrewByPrefix (g.written link) (g.written back) (answers_to site planned).0 → IsFront (answers_to site planned) back.written
  front_of p = record { back = p.back; is = p.is ∙ ap (λ (x : List ℕ). x ++ p.back) (sym (whole p.front p.grew)) }

  beyond_of : WroteBeyond g (answers_of site planned.peer) link back (held_of planned) → IsBeyond (answers_to site planned) back.written
  beyond_of w = record { head = w.head; rest = w.rest; is_up = w.is_up; more = w.more; is = whole _ w.grew }

  in_memory : WroteSome g (answers_of site planned.peer) link back (held_of planned)
      ⊎ WroteBeyond g (answers_of site planned.peer) link back (held_of planned) → Shows site planned outcome.Memory back.written
  in_memory (inl some) = inl (front_of some)
  in_memory (inr beyond) = inr (beyond_of beyond)

  by_how : (h : How) → ServesScript site g link (record { link = back; how = h }) → Shows site planned (outcome_of h) back.written
  by_how how.Served ends =
      whole _ (of_all (λ peer bytes. Grew (g.written link) (g.written back) (answers_of site peer bytes).0) ends.wrote.wrote)
  by_how how.ReadFault ends = (
    some_rose _ _ _ ends.faults (few_back ends.same).0,
    (
      g.taken back - g.taken link,
      whole _ (of_all (λ peer bytes. Grew (g.written link) (g.written back) (answers_of site peer (take (g.taken back - g.taken link) bytes)).0) ends.wrote),
    ),
  )
  by_how how.WriteFault ends = (
    some_rose _ _ _ ends.faults (few_back ends.same).1,
    front_of (of_all (λ peer bytes. WroteSome g (answers_of site peer) link back bytes) ends.wrote),
  )
  by_how how.Upgraded ends = (
    ends.upgraded refl,
    beyond_of (of_all (λ peer bytes. WroteBeyond g (answers_of site peer) link back bytes) ends.wrote),
  )
  by_how how.Memory ends =
      in_memory (of_all (λ peer bytes. WroteSome g (answers_of site peer) link back bytes ⊎ WroteBeyond g (answers_of site peer) link back bytes) ends.wrote)

  pub by_outcome : (out : Outcome) → (is_stopped out ≡ false) × (is_lost out ≡ false) → ComesBack (ServesScript site g) (LeavesScript site g) link back out
      → Shows site planned out back.written
  by_outcome out going (inl ended) = rw ended.1 (by_how ended.0 ended.2)
  by_outcome outcome.Served going (inr left) = absurd left
  by_outcome outcome.ReadFault going (inr left) = absurd left
  by_outcome outcome.WriteFault going (inr left) = absurd left
  by_outcome outcome.Upgraded going (inr left) = absurd left
  by_outcome (outcome.Lost worker) going (inr left) = absurd (let kept = going.1 in cc)
  by_outcome (outcome.Stopped forced) going (inr left) = absurd (let unstopped = going.0 in cc)
  by_outcome outcome.Memory going (inr left) = by_how how.Memory left

-- ---- elements of lists, one beside the other

-- where a list is as long as another, it has an element at each place of that
beside : {X Y : Type 0} (xs : List X) (ys : List Y) → length ys ≡ length xs → (i : ℕ) (x : X) → slice_get xs i ≡ Some x → (y : Y) × (slice_get ys i ≡ Some y)
beside [] ys same i x at = cc
beside (a ∷ xs) [] same i x at = absurd (omega (arith, same))
beside (a ∷ xs) (b ∷ ys) same zero x at = (b, refl)
beside (a ∷ xs) (b ∷ ys) same (suc i) x at = beside xs ys (omega (arith, same)) i x at

-- what a map has at a place
mapped_at : {X Y : Type 0} (f : X → Y) (xs : List X) (i : ℕ) (y : Y) → slice_get (map f xs) i ≡ Some y → (x : X) × (slice_get xs i ≡ Some x) × (y ≡ f x)
mapped_at f [] i y at = cc
mapped_at f (x ∷ xs) zero y at = (x, refl, sym (same_Some _ _ at))
mapped_at f (x ∷ xs) (suc i) y at = mapped_at f xs i y at

-- a listener for each that is planned
offers_at : (g : LinkOf MemoryLink) (planned : List Listening) (listeners : List MemoryListener) → AllOffer g planned listeners → (i : ℕ) (l : Listening)
    → slice_get planned i ≡ Some l → (o : MemoryListener) × (slice_get listeners i ≡ Some o) × Offers g l o
offers_at g [] listeners offer i l at = cc
offers_at g (p ∷ planned) [] offer i l at = absurd offer
offers_at g (p ∷ planned) (o ∷ listeners) offer zero l at = (o, refl, subst (λ (x : Listening). Offers g x o) (same_Some _ _ at) offer.0)
offers_at g (p ∷ planned) (o ∷ listeners) offer (suc i) l at = offers_at g planned listeners offer.1 i l at

pub as_many : (g : LinkOf MemoryLink) (planned : List Listening) (listeners : List MemoryListener) → AllOffer g planned listeners → length listeners ≡ length planned
as_many g [] [] offer = refl
as_many g [] (o ∷ listeners) offer = absurd offer
as_many g (p ∷ planned) [] offer = absurd offer
as_many g (p ∷ planned) (o ∷ listeners) offer = let more = as_many g planned listeners offer.1 in omega (arith, more)

-- a fresh link for each connection, and the name that it has
fresh_at : (g : LinkOf MemoryLink) (name : ℕ) (planned : List Planned) (links : List MemoryLink) → AreFresh g name planned links → (i : ℕ) (link : MemoryLink)
    → slice_get links i ≡ Some link → (c : Planned) × (slice_get planned i ≡ Some c) × ((n : ℕ) × IsFresh g n c link)
fresh_at g name planned [] fresh i link at = cc
fresh_at g name [] (l ∷ links) fresh i link at = absurd fresh
fresh_at g name (p ∷ planned) (l ∷ links) fresh zero link at = (p, refl, (name, subst (λ (x : MemoryLink). IsFresh g name p x) (same_Some _ _ at) fresh.0))
fresh_at g name (p ∷ planned) (l ∷ links) fresh (suc i) link at = fresh_at g (name + 1) planned links fresh.1 i link at

-- connections are told one by one
told_each : (site : Site) (connections : List Planned) (told : List Told)
    → ((i : ℕ) (t : Told) → slice_get told i ≡ Some t → (c : Planned) × (slice_get connections i ≡ Some c) × Shows site c t.0 t.1) → AreTold site connections told
told_each site connections [] each = tt
told_each site [] (t ∷ told) each = let none = each 0 t refl in absurd (cc (none.1))
told_each site (c ∷ connections) (t ∷ told) each = (
  let first = each 0 t refl in subst (λ (x : Planned). Shows site x t.0 t.1) (sym (same_Some _ _ first.1)) first.2,
  told_each site connections told (λ i x at. each (suc i) x at),
)

pub told_few : (site : Site) (connections : List Planned) (told : List Told) → AreTold site connections told → length told ≤ length connections
told_few site connections [] are = omega arith
told_few site [] (t ∷ told) are = absurd are
told_few site (c ∷ connections) (t ∷ told) are = let more = told_few site connections told are.1 in omega (arith, more)

-- so are listeners
telling_each : (site : Site) (retry_limit : ℕ) (listeners : List Listening) (tellings : List Telling) → length tellings ≡ length listeners
    → ((i : ℕ) (l : Listening) (t : Telling) → slice_get listeners i ≡ Some l → slice_get tellings i ≡ Some t → IsTelling site retry_limit l t)
    → AreTelling site retry_limit listeners tellings
telling_each site retry_limit [] [] many each = tt
telling_each site retry_limit [] (t ∷ tellings) many each = absurd (omega (arith, many))
telling_each site retry_limit (l ∷ listeners) [] many each = absurd (omega (arith, many))
telling_each site retry_limit (l ∷ listeners) (t ∷ tellings) many each =
    (each 0 l t refl refl, telling_each site retry_limit listeners tellings (omega (arith, many)) (λ i x y. each (suc i) x y))

-- what is told of the listener at a place
telling_at : (token : ℕ) (states : List ListenerState) (es : List (Entry MemoryLink)) (i : ℕ) (t : Telling) → slice_get (tellings_of token states es) i ≡ Some t
    → (s : ListenerState) × (slice_get states i ≡ Some s) × (t ≡ (map told_by (entries_of (token + i) es), s))
telling_at token [] es i t at = cc
telling_at token (s ∷ states) es zero t at =
    (s, refl, sym (same_Some _ _ at) ∙ ap (λ (k : ℕ). (map told_by (entries_of k es), s)) (omega arith))
telling_at token (s ∷ states) es (suc i) t at =
    let next = telling_at (token + 1) states es i t at in
    (next.0, next.1, next.2 ∙ ap (λ (k : ℕ). (map told_by (entries_of k es), next.0)) (omega arith))

length_tellings : (token : ℕ) (states : List ListenerState) (es : List (Entry MemoryLink)) → length (tellings_of token states es) ≡ length states
length_tellings token [] es = refl
length_tellings token (s ∷ states) es = let more = length_tellings (token + 1) states es in omega (arith, more)

-- ---- marks of a listener in memory

abbrev is_gift : Mark → Bool
is_gift mark = not (is_failure mark)

counted : (ms : List Mark) (m : Mark) → count_by is_gift (m ∷ ms) ≡ cond (is_gift m) 1 0 + count_by is_gift ms
counted ms m = sum_by-append (λ (x : Mark). cond (is_gift x) 1 0) (m ∷ []) ms ∙ omega arith

-- as many connections as links
gifts : (steps : List ListenerStep) → count_by is_gift (marks steps) ≡ length (links steps)
gifts [] = refl
gifts (step.Give link ∷ steps) = let more = gifts steps in let first = counted (marks steps) gives in omega (arith, more, first)
gifts (step.NotYet ∷ steps) = gifts steps
gifts (step.Skip ∷ steps) = gifts steps
gifts (step.Fail ∷ steps) = let more = gifts steps in let first = counted (marks steps) fails in omega (arith, more, first)

end_cases : (end : End) → is_stop end ≡ false → end ≢ NoWorkers → (end ≡ Drained) ⊎ (end ≡ NoRoom)
end_cases Drained unstopped staffed = inl refl
end_cases (Stopped graceful) unstopped staffed = absurd (cc)
end_cases NoWorkers unstopped staffed = absurd (staffed refl)
end_cases NoRoom unstopped staffed = inr refl

none_left : (n : ℕ) (xs : List MemoryLink) → drop n xs ≡ [] → length xs ≤ n
none_left n xs none = let len = length-drop n xs in let zero_len = ap length none in omega (arith, len, zero_len)

all_by_place : {X : Type 0} (P : X → Type 0) (xs : List X) → ((i : ℕ) (x : X) → slice_get xs i ≡ Some x → P x) → All P xs
all_by_place P xs each k d within = each k _ (slice_get-get_or xs k d within)

-- ---- a run

module _ (g : LinkOf MemoryLink) (writes : (link : MemoryLink) → g.written link ≡ Some link.written)
    (few : (link : MemoryLink) → FailsAtMost (g.identity link) (g.read_faults link) (g.write_faults link))
    (plan : Plan) (faults_of : MemoryListener → ℕ) (entries : List (Entry MemoryLink)) (report : Report) (old new : List MemoryListener) (text : List ℕ)
    (offer : AllOffer g plan.listeners old) (same : length new ≡ length old)
    (delivers : Delivers given_of left_of g.identity (λ token. ServesScript (site_of plan) g) (λ token. LeavesScript (site_of plan) g) old new entries)
    (told : Tells rest_of ended_of faults_of plan.retry_limit old new report) (printed : IsText entries report text)
    (unstopped : is_stop report.end ≡ false) (staffed : report.end ≢ NoWorkers) (undisturbed : All IsUndisturbed entries) where
  abbrev served_by : Entry MemoryLink → Type 0
  served_by e = IsServedFrom g.identity (λ token. ServesScript (site_of plan) g) (λ token. LeavesScript (site_of plan) g) (left_at left_of old e.token) e

  abbrev mine : ℕ → List (Entry MemoryLink)
  mine token = entries_of token printed.ordered

  abbrev rises : ℕ → ℕ
  rises = rise given_of old new

  many : (token : ℕ) → length (mine token) ≡ rises token
  many = placing.as_many printed rises delivers.places

  placed : (token i : ℕ) (e : Entry MemoryLink) → slice_get (mine token) i ≡ Some e → (e.token ≡ token) × (e.place ≡ i)
  placed = placing.placed printed rises delivers.places

  served : (token i : ℕ) (e : Entry MemoryLink) → slice_get (mine token) i ≡ Some e → served_by e
  served token i e at =
      subst served_by (get_or_from_slice_get (mine token) i e e at) (placing.All-entries_of printed served_by delivers.links token i e (slice_get_within (mine token) i e at))

  -- none was stopped or lost
  going : (token i : ℕ) (e : Entry MemoryLink) → slice_get (mine token) i ≡ Some e → IsUndisturbed e
  going token i e at =
      subst IsUndisturbed (get_or_from_slice_get (mine token) i e e at)
      (placing.All-entries_of printed IsUndisturbed undisturbed token i e (slice_get_within (mine token) i e at))

  module _ (token : ℕ) (l : Listening) (o n : MemoryListener) (s : ListenerState) (old_at : slice_get old token ≡ Some o) (new_at : slice_get new token ≡ Some n)
      (offers : Offers g l o) (state_at : slice_get report.listeners.items token ≡ Some s) where
    -- each entry of the listener shows its connection
    each_shown : (i : ℕ) (t : Told) → slice_get (map told_by (mine token)) i ≡ Some t → (c : Planned) × (slice_get l.connections i ≡ Some c) × Shows (site_of plan) c t.0 t.1
    each_shown i t at =
        let found = mapped_at told_by (mine token) i t at in
        let e = found.0 in
        let by = served token i e found.1 in
        let place = placed token i e found.1 in
        let at_token = subst (λ (k : ℕ). IfSome (left_at left_of old k) (λ ls. slice_get ls e.place ≡ Some by.link)) place.0 by.in_place in
        let at_place = subst (λ (k : ℕ). IfSome (left_at left_of old token) (λ ls. slice_get ls k ≡ Some by.link)) place.1 at_token in
        let there : slice_get (links o.steps.items) i ≡ Some by.link =
        subst (λ (found : Option MemoryListener). IfSome (option_and_then left_of found) (λ ls. slice_get ls i ≡ Some by.link)) old_at at_place in
        let planned = fresh_at g 0 l.connections (links o.steps.items) offers.fresh i by.link there in
        let shown = by_outcome (site_of plan) g planned.0 writes few by.link e.link planned.2.0 planned.2.1 e.outcome (going token i e found.1) by.comes_back in
        (planned.0, planned.1, subst (λ (x : Told). Shows (site_of plan) planned.0 x.0 x.1) (sym found.2) shown)

    connections : AreTold (site_of plan) l.connections (map told_by (mine token))
    connections = told_each (site_of plan) l.connections (map told_by (mine token)) each_shown

    told_many : length (map told_by (mine token)) ≡ rises token
    told_many = length-map (mine token) told_by ∙ many token

    remains : links n.steps.items ≡ drop (rises token) (links o.steps.items)
    remains =
        let at_new = subst (λ (x : Option MemoryListener). option_and_then left_of x ≡ option_map (drop (rises token)) (left_at left_of old token)) new_at (delivers.remains token) in
        same_Some _ _ (subst (λ (x : Option MemoryListener). left_of n ≡ option_map (drop (rises token)) (option_and_then left_of x)) old_at at_new)

    within : rises token ≤ length (links o.steps.items)
    within =
        let most = told_few (site_of plan) l.connections (map told_by (mine token)) connections in
        let same' = as_many_links g 0 l.connections (links o.steps.items) offers.fresh in
        let count = told_many in omega (arith, most, same', count)

    ended : s ≡ Ended → length (map told_by (mine token)) ≡ length l.connections
    ended is =
        let over = subst (λ (x : Option MemoryListener). IfSome x (λ listener. IsTrue (ended_of listener))) new_at (told.state_ended token (state_at ∙ ap Some is)) in
        let all = none_left (rises token) (links o.steps.items) (sym remains ∙ ap links (n.at_end over)) in
        let same' = as_many_links g 0 l.connections (links o.steps.items) offers.fresh in
        let count = told_many in
        let most = within in omega (arith, all, same', count, most)

    -- what came of the listener
    came_of : (came : List Mark) → rest_at rest_of old token ≡ option_map (λ ms. came ++ ms) (rest_at rest_of new token)
        → marks o.steps.items ≡ came ++ marks n.steps.items
    came_of came gone =
        let at_new = subst (λ (x : Option MemoryListener). rest_at rest_of old token ≡ option_map (λ ms. came ++ ms) (option_and_then rest_of x)) new_at gone in
        same_Some _ _ (subst (λ (x : Option MemoryListener). option_and_then rest_of x ≡ option_map (λ ms. came ++ ms) (rest_of n)) old_at at_new)

    gifts_of : (came : List Mark) → marks o.steps.items ≡ came ++ marks n.steps.items → count_by is_gift came ≡ rises token
    gifts_of came is =
        let before = gifts o.steps.items in
        let after = gifts n.steps.items in
        let both = sum_by-append (λ (x : Mark). cond (is_gift x) 1 0) came (marks n.steps.items) in
        let split = subst (λ (ms : List Mark). count_by is_gift ms ≡ length (links o.steps.items)) is before in
        let left = ap length remains ∙ length-drop (rises token) (links o.steps.items) in
        let most = within in omega (arith, after, both, split, left, most)

    gave_up : (failures : ℕ) → s ≡ Faulted failures → (failures ≡ plan.retry_limit) × GaveUp plan.retry_limit l (length (map told_by (mine token)))
    gave_up failures is =
        let most = (told.state_faulted token failures (state_at ∙ ap Some is)).0 in
        let failed = told.state_by_rest token (slice_get_within new token n new_at) in
        let gone = came_of failed.came failed.gone in (
          most,
          record {
            came = failed.came;
            back = marks n.steps.items;
            is = sym (marks_of_answers o.steps.items ∙ ap marks_of offers.answers) ∙ gone;
            in_row = failed.exactly.0 (state_at ∙ ap Some (is ∙ ap Faulted most));
            given = gifts_of failed.came gone ∙ sym told_many;
          },
        )

    telling : IsTelling (site_of plan) plan.retry_limit l (map told_by (mine token), s)
    telling = record { connections = connections; ended = ended; faulted = gave_up }

  abbrev tellings : List Telling
  tellings = tellings_of 0 report.listeners.items printed.ordered

  -- what is told of the listener at a place
  at_place : (i : ℕ) (t : Telling) → slice_get tellings i ≡ Some t → (s : ListenerState) × (slice_get report.listeners.items i ≡ Some s) × (t ≡ (map told_by (mine i), s))
  at_place i t at =
      let found = telling_at 0 report.listeners.items printed.ordered i t at in
      (found.0, found.1, found.2 ∙ ap (λ (k : ℕ). (map told_by (mine k), found.0)) (omega arith))

  each_telling : (i : ℕ) (l : Listening) (t : Telling) → slice_get plan.listeners i ≡ Some l → slice_get tellings i ≡ Some t → IsTelling (site_of plan) plan.retry_limit l t
  each_telling i l t planned_at told_at =
      let found = at_place i t told_at in
      let before = offers_at g plan.listeners old offer i l planned_at in
      let after = beside old new same i before.0 before.1 in
      subst (λ (x : Telling). IsTelling (site_of plan) plan.retry_limit l x) (sym found.2) (telling i l before.0 after.0 found.0 before.1 after.1 before.2 found.1)

  open_at : (i : ℕ) (t : Telling) → slice_get tellings i ≡ Some t → t.1 ≡ Open → report.end ≡ NoRoom
  open_at i t at opens =
      let found = at_place i t at in
      elim (end_cases report.end unstopped staffed) [
        | inl drained ↦ absurd (told.state_open i (found.1 ∙ ap Some (sym (ap (λ (x : Telling). x.1) found.2) ∙ opens)) drained)
        | inr room ↦ room
      ]

  as_many_tellings : length tellings ≡ length plan.listeners
  as_many_tellings =
      let told_of = length_tellings 0 report.listeners.items printed.ordered in
      let states = told.as_many in
      let planned = as_many g plan.listeners old offer in
      let all = same in omega (arith, told_of, states, planned, all)

  -- what the listeners and their connections show
  pub are_telling : AreTelling (site_of plan) plan.retry_limit plan.listeners (tellings_of 0 report.listeners.items printed.ordered)
  are_telling = telling_each (site_of plan) plan.retry_limit plan.listeners tellings as_many_tellings each_telling

  -- a listener is open only where memory ran out
  pub open_by : All (λ (t : Telling). t.1 ≡ Open → report.end ≡ NoRoom) (tellings_of 0 report.listeners.items printed.ordered)
  open_by = all_by_place (λ (t : Telling). t.1 ≡ Open → report.end ≡ NoRoom) tellings open_at

  -- what is printed of a run is the script's report
  pub report_is : plan.retry_limit ≢ 0 → IsReportOf plan text
  report_is some =
      let is = placing.tells_in_place printed rises delivers.places in
      record {
        tellings = tellings;
        end = report.end;
        is = is;
        told = are_telling;
        open_by = open_by;
        plain = λ p. by_plain plan some tellings report.end text is unstopped staffed are_telling open_by p;
      }
