-- What the acceptor did where its core alone moved on, and what waited may have been let go.
use Rattle.std.proofs.Common.{◌≡◌, ◌⊎◌, ◌^◌, ◌<◌, ◌++◌, [], ℕ, ◌+◌, Bool, true, false, List, length, map, All, Any, Contains, Option, Some, None, IfSome, refl, sym, ◌∙◌, ap, ap₂, arith, subst, inl, inr, append-nil}
use Rattle.std.specs.Prelude.{count_by, is_some, slice_get, slice_index, slice_index_or}
use Rattle.std.specs.List.{list_all}
use Rattle.std.specs.Option.{option_map}
use Rattle.std.proofs.lemmas.List.Elements.{All-append, All-cons, All-contains_itself, All-nil, Contains-append_left, Contains-append_right}
use Rattle.std.proofs.lemmas.List.Sums.{sum_by-append}
use Rattle.rtrb.specs.Ring.{received, sent}
use Rattle.service_core.specs.Link.{Identity}
use Rattle.server_core.specs.Runs.{AllAllowed, after_all}
use Rattle.server_core.specs.declared.event.Event.{Event}
use Rattle.server_run.specs.Delivery.{once_below, rest_at}
use Rattle.server_run.specs.Done.{Adds}
use Rattle.server_run.specs.Listener.{Mark}
use Rattle.server_run.specs.Outcome.{is_stopped}
use Rattle.server_run.specs.Serving.{Untouched}
use Rattle.server_run.specs.declared.entry.Entry.{Entry}
use Rattle.server_run.specs.declared.outcome.Outcome.{Outcome}
use Rattle.server_run.specs.declared.outcome.Outcome.TheVariants.{Lost, Stopped}
use Rattle.server_jobs.specs.Cards.{Card, of_entry}
use Rattle.server_jobs.specs.declared.note.Note.TheVariants.{Back, Ready}
use Rattle.server_jobs.specs.declared.waiting.Waiting.{Waiting}
use Rattle.server_acceptor.proofs.PutSteps.{puts_same}
use Rattle.server_acceptor.specs.Accepting.{Acts, is_back, is_failed, is_got, is_sent, marks_of, received_at}
use Rattle.server_acceptor.specs.Acceptors.{all_ready}
use Rattle.server_acceptor.specs.Carrying.{Carries, IsInPlace, IsLetGo, ParcelIsInPlace, came_back, each, has_place, has_serial, in_waiting, let_gone, put}
use Rattle.server_acceptor.specs.Commanding.{KeepsBeside, LetsGoAs, entry_of, gone_of}
use Rattle.server_acceptor.specs.Notes.{count_back}
use Rattle.server_acceptor.specs.Rings.{count_put, ring_in, ring_out}
use Rattle.server_acceptor.specs.declared.acceptor.Acceptor.{Acceptor}
use Rattle.server_acceptor.proofs.HandsDoes.{tells_same}
use Rattle.server_acceptor.proofs.LogSteps.{stops_later}
use Rattle.server_acceptor.proofs.MarkSteps.{marked_none, marks_without, row_none}

-- what is let go so may be
abbrev pub MayGo : Outcome → Bool → Type 0
MayGo outcome none_left = (outcome ≡ Stopped false) ⊎ ((outcome ≡ Lost None) × (none_left ≡ true))

-- its core moved on by these events, which tell of no ring and no listener; and it let go what waited, or nothing
pub record MovesOn {L D : Type 0} (taken : D → Option (List (Entry L))) (count served : D → ℕ) (outcome : Outcome) (reason : Type 0) (a b : Acceptor L) (old new : D) (events : List Event) : Type 0 where
  pub gone : List (Entry L)
  pub adds : Adds taken count served old new gone
  pub lets_go : LetsGoAs outcome reason a b gone
  pub early : a.serial ≡ 0 → gone ≡ []
  pub allowed : AllAllowed a.core events
  pub core : b.core ≡ after_all a.core events
  pub out : b.core.out ≡ a.core.out
  pub ended : b.core.ended ≡ a.core.ended
  pub failures : b.core.failures ≡ a.core.failures
  pub got : (t : ℕ) → count_by (is_got t) events ≡ 0
  pub failed : (t : ℕ) → count_by (is_failed t) events ≡ 0
  pub sent_on : (w : ℕ) → count_by (is_sent w) events ≡ 0
  pub back : (w : ℕ) → count_by (is_back w) events ≡ 0
  pub beside : KeepsBeside a b

-- ---- what is let go is carried on
weigh_gone : {L : Type 0} (identity : L → Identity) (h : Card → ℕ) (outcome : Outcome) (waiting : Option (Waiting L)) → let_gone identity h (gone_of outcome waiting) ≡ in_waiting identity h waiting
weigh_gone identity h outcome None = refl
weigh_gone identity h outcome (Some w) = omega arith

module _ {L : Type 0} (outcome : Outcome) (reason : Type 0) (a b : Acceptor L) (gone : List (Entry L)) where
  let_weigh : (identity : L → Identity) (h : Card → ℕ) → LetsGoAs outcome reason a b gone → in_waiting identity h b.waiting + let_gone identity h gone ≡ in_waiting identity h a.waiting
  let_weigh identity h (inl p) = omega (arith, ap (in_waiting identity h) p.0, ap (let_gone identity h) p.1)
  let_weigh identity h (inr p) = omega (arith, ap (in_waiting identity h) p.0, ap (let_gone identity h) p.1, weigh_gone identity h outcome a.waiting)

  let_founded : (reason → is_stopped outcome ≡ true → is_some b.core.stopping ≡ true) → LetsGoAs outcome reason a b gone → All (λ (e : Entry L). is_stopped e.outcome ≡ true → is_some b.core.stopping ≡ true) gone
  let_founded founded (inl p) = subst (All (λ (e : Entry L). is_stopped e.outcome ≡ true → is_some b.core.stopping ≡ true)) (sym p.1) (All-nil _)
  let_founded founded (inr p) = subst (All (λ (e : Entry L). is_stopped e.outcome ≡ true → is_some b.core.stopping ≡ true)) (sym p.1) (of_waiting a.waiting)
    where
      of_waiting : (waiting : Option (Waiting L)) → All (λ (e : Entry L). is_stopped e.outcome ≡ true → is_some b.core.stopping ≡ true) (gone_of outcome waiting)
      of_waiting None = All-nil _
      of_waiting (Some w) = All-cons (λ (e : Entry L). is_stopped e.outcome ≡ true → is_some b.core.stopping ≡ true) (entry_of outcome w) [] (founded p.2) (All-nil _)

  module _ {Li : Type 0} (left : Li → Option (List L)) (none_left : Bool) (first : List Li) where
    let_in_place : (reason → MayGo outcome none_left) → LetsGoAs outcome reason a b gone → IfSome a.waiting (λ w. IsInPlace left first w.token w.place w.link) → All (IsLetGo left first none_left) gone
    let_in_place may (inl p) waits = subst (All (IsLetGo left first none_left)) (sym p.1) (All-nil _)
    let_in_place may (inr p) waits = subst (All (IsLetGo left first none_left)) (sym p.1) (in_place a.waiting waits)
      where
        in_place : (waiting : Option (Waiting L)) → IfSome waiting (λ w. IsInPlace left first w.token w.place w.link) → All (IsLetGo left first none_left) (gone_of outcome waiting)
        in_place None waits = All-nil _
        in_place (Some w) waits = All-cons (IsLetGo left first none_left) (entry_of outcome w) [] (may p.2, waits) (All-nil _)

    let_waits : LetsGoAs outcome reason a b gone → IfSome a.waiting (λ w. IsInPlace left first w.token w.place w.link) → IfSome b.waiting (λ w. IsInPlace left first w.token w.place w.link)
    let_waits (inl p) waits = subst (λ o. IfSome o (λ w. IsInPlace left first w.token w.place w.link)) (sym p.0) waits
    let_waits (inr p) waits = rw p.0 tt

module _ {Li L D : Type 0} (given : Li → ℕ) (left : Li → Option (List L)) (identity : L → Identity) (none_left : Bool) (first ls : List Li) (taken : D → Option (List (Entry L))) (count served : D → ℕ)
    (outcome : Outcome) (reason : Type 0) (a b : Acceptor L) (d e : D) (events : List Event) (entries : List (Entry L)) where
  carries_moved : (m : MovesOn taken count served outcome reason a b d e events) → (reason → MayGo outcome none_left) → Carries given left identity none_left first ls a entries
      → Carries given left identity none_left first ls b (entries ++ m.gone)
  carries_moved m may c =
      let s = m.beside in
      record {
        gone = c.gone ++ m.gone;
        let_go = All-append (IsLetGo left first none_left) c.gone m.gone c.let_go (let_in_place outcome reason a b m.gone left none_left first may m.lets_go c.waits);
        count = weigh (λ c. 1) ∙ c.count ∙ sym s.serial;
        serials = λ k. weigh (each (has_serial k)) ∙ c.serials k ∙ ap (λ n. once_below n k) (sym s.serial);
        places = λ t k. weigh (each (has_place t k)) ∙ c.places t k;
        on_rings = subst (λ v. All (λ p. All (ParcelIsInPlace left first) (sent p)) v.items) (sym s.parcels) c.on_rings;
        waits = let_waits outcome reason a b m.gone left none_left first m.lets_go c.waits;
        remains = c.remains;
        rises = c.rises;
        next_places = λ t below. ap (λ v. slice_index_or v.items t 0) s.places ∙ c.next_places t (subst (λ v. t < length v.items) s.places below);
        back = λ h. omega (arith, c.back h, ap (λ v. came_back identity h v.items) s.notes, sum_by-append (of_entry identity h) c.gone m.gone, sum_by-append (of_entry identity h) entries m.gone);
        noted = All-append (λ x. Any (λ r. Contains (received r) (Back x)) b.notes.items ⊎ Contains (c.gone ++ m.gone) x) entries m.gone
            (λ k x inside. still _ (c.noted k x inside)) (λ k x inside. inr (Contains-append_right c.gone m.gone _ (All-contains_itself m.gone k x inside)));
        out = λ v. ap (λ x. count_put identity x.items v) s.parcels ∙ c.out v ∙ sym (ap₂ (λ n u. count_back identity n.items v + slice_index u v) s.notes m.out);
      }
    where
      weigh : (h : Card → ℕ) → (put identity h b.parcels.items + in_waiting identity h b.waiting) + let_gone identity h (c.gone ++ m.gone) ≡ (put identity h a.parcels.items + in_waiting identity h a.waiting) + let_gone identity h c.gone
      weigh h = omega (arith, ap (λ v. put identity h v.items) m.beside.parcels, let_weigh outcome reason a b m.gone identity h m.lets_go, sum_by-append (of_entry identity h) c.gone m.gone)

      still : (x : Entry L) → Any (λ r. Contains (received r) (Back x)) a.notes.items ⊎ Contains c.gone x → Any (λ r. Contains (received r) (Back x)) b.notes.items ⊎ Contains (c.gone ++ m.gone) x
      still x (inl any) = inl (subst (λ v. Any (λ r. Contains (received r) (Back x)) v.items) (sym m.beside.notes) any)
      still x (inr gone) = inr (Contains-append_left c.gone m.gone x gone)

module _ {Li L D : Type 0} (given : Li → ℕ) (left : Li → Option (List L)) (rest : Li → Option (List Mark)) (identity : L → Identity) (ended : Li → Bool) (faults : Li → ℕ)
    (taken : D → Option (List (Entry L))) (count served : D → ℕ) (outcome : Outcome) (reason : Type 0) (ls : List Li) (a b : Acceptor L) (d e : D) (events : List Event) (last : Bool) where
  -- nothing was let go before all are ready
  early_moved : (count d < 2 ^ 64) × (served d < 2 ^ 64) → MovesOn taken count served outcome reason a b d e events → all_ready b ≡ false → Untouched given left taken count served ls ls d e
  early_moved fits m less =
      let none : m.gone ≡ [] = m.early (sym m.beside.serial ∙ b.early less) in
      let adds : Adds taken count served d e [] = subst (λ es. Adds taken count served d e es) none m.adds in
      let few = fits.0 in
      let few_served = fits.1 in
      record {
        given_same = λ t. refl;
        left_same = λ t. refl;
        keeps = record { list = adds.list ∙ same (taken d); number = omega (arith, adds.number, few); number_served = omega (arith, adds.number_served, few_served) };
      }
    where
      same : (told : Option (List (Entry L))) → option_map (λ before. before ++ []) told ≡ told
      same None = refl
      same (Some entries) = ap Some (append-nil entries)

  -- what was let go had a reason, by which it may be
  pub moves_acts : (count d < 2 ^ 64) × (served d < 2 ^ 64) → (reason → is_stopped outcome ≡ true → is_some b.core.stopping ≡ true)
      → (reason → (none_left : Bool) → (last ≡ true → none_left ≡ true) → MayGo outcome none_left) → MovesOn taken count served outcome reason a b d e events
      → Acts given left rest identity ended faults taken count served ls ls a b d e events last
  moves_acts fits founded may m =
      let s = m.beside in
      record {
        logged = record {
          allowed = m.allowed;
          core = m.core;
          got = λ t. omega (arith, m.got t);
          failed = λ t some. absurd (omega (arith, some, m.failed t));
          marked = λ t. marked_none (rest_at rest ls t) (marks_of t events) (none_marked t);
          failures = λ t. row_none (slice_index a.core.failures t) (slice_index b.core.failures t) (marks_of t events) (none_marked t) (ap (λ xs. slice_index xs t) m.failures);
          sent_on = λ w. omega (arith, ap (λ v. count_put identity v.items w) s.parcels, m.sent_on w);
          back = λ w. omega (arith, ap (λ v. count_back identity v.items w) s.notes, m.back w);
        };
        passes = record {
          more = m.gone;
          adds = m.adds;
          founded = let_founded outcome reason a b m.gone founded m.lets_go;
          carries = λ none_left is first entries carries. carries_moved given left identity none_left first ls taken count served outcome reason a b d e events entries m (λ why. may why none_left is) carries;
        };
        awaits = record {
          stays_ready = λ r. ap (λ v. list_all (λ ready. ready) v.items) s.ready ∙ r;
          early = early_moved fits m;
          noted = λ n w marked. subst (λ v. IfSome (slice_get v.items w) (λ c. Contains (received c) Ready)) (sym s.notes) (n w (ap (λ v. slice_index_or v.items w false) (sym s.ready) ∙ marked));
        };
        tells = tells_same ended faults a.retry_limit ls a.core b.core m.ended m.failures;
        rings = record { parcels = ap (λ v. map ring_in v.items) s.parcels; notes = ap (λ v. map ring_out v.items) s.notes };
        puts = λ w. puts_same a b w s.parcels;
        receives = λ w. record { more = []; came = ap (λ v. received_at v.items w) s.notes ∙ sym (append-nil _) };
        as_many = refl;
        workers = ap (λ xs. length xs) m.out;
        listeners = ap (λ xs. length xs) m.ended;
        limit = s.retry_limit;
        max = s.limit;
        lacks = λ is. s.lacks_room ∙ is;
        stops = stops_later a.core b.core events m.core;
      }
    where
      none_marked : (t : ℕ) → marks_of t events ≡ []
      none_marked t = marks_without t events (m.got t) (m.failed t)
