-- The parts of a turn, put together.
use Rattle.std.proofs.Common.{◌≡◌, ◌<◌, ◌≤◌, ◌⊎◌, ◌++◌, [], ℕ, ◌+◌, ◌*◌, Bool, true, false, List, length, map, All, Any, Contains, Option, Some, None, IfSome, refl, sym, ◌∙◌, ap, ap₂, arith, subst, inl, inr}
use Rattle.std.specs.List.{list_all}
use Rattle.std.proofs.lemmas.Bool.Decides.{nat_tests}
use Rattle.std.specs.FinSet as set
use Rattle.rtrb.specs.Ring.{known_items, received, sent}
use Rattle.server_core.specs.declared.event.Event.TheVariants.{RingFull}
use Rattle.server_acceptor.specs.Sending.{sent_to}
use Rattle.server_acceptor.specs.declared.accept_turn.AcceptTurn.TheVariants.{WorkerEnded as TurnEnded}
use Rattle.server_core.specs.Runs.{AllAllowed, after_all}
use Rattle.server_jobs.specs.Cards.{Card}
use Rattle.server_run.specs.Delivery.{once_below}
use Rattle.server_jobs.specs.declared.note.Note.TheVariants.{Back, Ready}
use Rattle.server_acceptor.specs.Carrying.{Carries, IsInPlace, ParcelIsInPlace, came_back, each, has_place, has_serial, in_waiting, let_gone, put}
use Rattle.server_acceptor.specs.Notes.{AreLeft, count_back}
use Rattle.server_acceptor.specs.Logging.{AllOfUse}
use Rattle.server_acceptor.specs.Rings.{count_put, ring_in, ring_out}
use Rattle.server_acceptor.specs.Stopping.{AwaitsStop, LacksStop, StopsOnly}
use Rattle.service_core.specs.Counts.{Rose}
use Rattle.server_core.specs.Core.{Core}
use Rattle.server_acceptor.specs.declared.step.Step.{Step}
use Rattle.server_acceptor.specs.declared.step.Step.TheVariants.{On, Settled, Halted, WorkerEnded}
use Rattle.server_acceptor.proofs.DoesSteps.{does_trans}
use Rattle.std.specs.Prelude.{sum, nat_lt, IsSomeAnd, count_by, is_some, slice_get, slice_index, slice_index_or}
use Rattle.service_core.specs.Link.{Identity}
use Rattle.server_run.specs.Delivery.{given_at}
use Rattle.server_run.specs.Listener.{Mark, in_a_row}
use Rattle.server_run.specs.Outcome.{is_stopped}
use Rattle.server_run.specs.declared.entry.Entry.{Entry}
use Rattle.server_core.specs.declared.event.Event.{Event}
use Rattle.server_acceptor.specs.Accepting.{AcceptGoesOn, AsksInTurn, Does, EndsByFault, HasHalted, HasTaken, HasTold, IsAccepting, IsAskedOut, IsOver, IsShort, MayAsk, OnceEach, Proceeds, TellsEnds, is_back, is_command, is_failed, is_sent, marks_of, received_at, refused, turn_of}
use Rattle.server_acceptor.specs.Acceptors.{all_ready, core_of, events_of, failed_of, first_of, lacks_room_of, listeners_of, places_of, waiting_of, workers_of}
use Rattle.server_acceptor.specs.declared.acceptor.Acceptor.{Acceptor}

-- ---- what the events and the first listener say nothing of
pub record SameBut {L : Type 0} (a b : Acceptor L) : Type 0 where
  pub core : b.core ≡ a.core
  pub parcels : b.parcels ≡ a.parcels
  pub notes : b.notes ≡ a.notes
  pub ready : b.ready ≡ a.ready
  pub waiting : b.waiting ≡ a.waiting
  pub serial : b.serial ≡ a.serial
  pub places : b.places ≡ a.places
  pub failed : b.failed ≡ a.failed
  pub limit : b.limit ≡ a.limit
  pub retry_limit : b.retry_limit ≡ a.retry_limit
  pub lacks_room : b.lacks_room ≡ a.lacks_room

pub same_back : {L : Type 0} (a b : Acceptor L) → SameBut a b → SameBut b a
same_back a b s = record {
  core = sym s.core;
  parcels = sym s.parcels;
  notes = sym s.notes;
  ready = sym s.ready;
  waiting = sym s.waiting;
  serial = sym s.serial;
  places = sym s.places;
  failed = sym s.failed;
  limit = sym s.limit;
  retry_limit = sym s.retry_limit;
  lacks_room = sym s.lacks_room;
}

module _ {Li L : Type 0} (given : Li → ℕ) (left : Li → Option (List L)) (identity : L → Identity) (none_left : Bool) (first now : List Li) where
  carries_same : (a b : Acceptor L) (entries : List (Entry L)) → SameBut a b → Carries given left identity none_left first now a entries → Carries given left identity none_left first now b entries
  carries_same a b entries s c = record {
    gone = c.gone;
    let_go = c.let_go;
    count = weigh (λ c. 1) ∙ c.count ∙ sym s.serial;
    serials = λ k. weigh (each (has_serial k)) ∙ c.serials k ∙ ap (λ n. once_below n k) (sym s.serial);
    places = λ t k. weigh (each (has_place t k)) ∙ c.places t k;
    on_rings = subst (λ v. All (λ p. All (ParcelIsInPlace left first) (sent p)) v.items) (sym s.parcels) c.on_rings;
    waits = subst (λ o. IfSome o (λ w. IsInPlace left first w.token w.place w.link)) (sym s.waiting) c.waits;
    remains = c.remains;
    rises = c.rises;
    next_places = λ t below. ap (λ v. slice_index_or v.items t 0) s.places ∙ c.next_places t (subst (λ v. t < length v.items) s.places below);
    back = λ h. ap (λ v. came_back identity h v.items + let_gone identity h c.gone) s.notes ∙ c.back h;
    noted = subst (λ v. All (λ e. Any (λ r. Contains (received r) (Back e)) v.items ⊎ Contains c.gone e) entries) (sym s.notes) c.noted;
    out = λ v. ap (λ x. count_put identity x.items v) s.parcels ∙ c.out v ∙ sym (ap₂ (λ n o. count_back identity n.items v + slice_index o.out v) s.notes s.core);
  }
    where
      weigh : (h : Card → ℕ) → (put identity h b.parcels.items + in_waiting identity h b.waiting) + let_gone identity h c.gone ≡ (put identity h a.parcels.items + in_waiting identity h a.waiting) + let_gone identity h c.gone
      weigh h = ap₂ (λ p o. (put identity h p.items + in_waiting identity h o) + let_gone identity h c.gone) s.parcels s.waiting

module _ {Li L D : Type 0} (given : Li → ℕ) (left : Li → Option (List L)) (rest : Li → Option (List Mark)) (identity : L → Identity) (ended : Li → Bool) (faults : Li → ℕ)
    (taken : D → Option (List (Entry L))) (count served : D → ℕ) (l m : List Li) (x y : D) (events : List Event) where
  -- a part that began at an acceptor that was the same
  pub does_began : (a a2 b : Acceptor L) → SameBut a a2 → Does given left rest identity ended faults taken count served l m a b x y events → Does given left rest identity ended faults taken count served l m a2 b x y events
  does_began a a2 b s q =
      let p = q.acts in
      record {
        acts = record {
          logged = record {
            allowed = subst (λ k. AllAllowed k events) (sym s.core) p.logged.allowed;
            core = p.logged.core ∙ ap (λ k. after_all k events) (sym s.core);
            got = p.logged.got;
            failed = p.logged.failed;
            marked = p.logged.marked;
            failures = λ t. p.logged.failures t ∙ ap (λ k. in_a_row (slice_index k.failures t) (marks_of t events)) (sym s.core);
            sent_on = λ w. p.logged.sent_on w ∙ ap (λ v. count_put identity v.items w + count_by (is_sent w) events) (sym s.parcels);
            back = λ w. p.logged.back w ∙ ap (λ v. count_back identity v.items w + count_by (is_back w) events) (sym s.notes);
          };
          passes = record { more = p.passes.more; adds = p.passes.adds; founded = p.passes.founded; carries = λ none_left is first entries c. p.passes.carries none_left is first entries (carries_same given left identity none_left first l a2 a entries (same_back a a2 s) c) };
          awaits = record {
            stays_ready = λ r. p.awaits.stays_ready (ap (λ v. list_all (λ ready. ready) v.items) (sym s.ready) ∙ r);
            early = p.awaits.early;
            noted = λ n. p.awaits.noted (λ w marked. subst (λ v. IfSome (slice_get v.items w) (λ c. Contains (received c) Ready)) s.notes (n w (ap (λ v. slice_index_or v.items w false) s.ready ∙ marked)));
          };
          tells = subst (λ k. TellsEnds ended faults k l m a2.core b.core) (sym s.retry_limit) (subst (λ k. TellsEnds ended faults a.retry_limit l m k b.core) (sym s.core) p.tells);
          rings = record { parcels = p.rings.parcels ∙ ap (λ v. map ring_in v.items) (sym s.parcels); notes = p.rings.notes ∙ ap (λ v. map ring_out v.items) (sym s.notes) };
          puts = λ w. record { more = (p.puts w).more; went = (p.puts w).went ∙ ap (λ v. sent_to v.items w ++ (p.puts w).more) (sym s.parcels) };
          receives = λ w. record { more = (p.receives w).more; came = (p.receives w).came ∙ ap (λ v. received_at v.items w ++ (p.receives w).more) (sym s.notes) };
          as_many = p.as_many;
          workers = p.workers ∙ ap (λ k. length k.out) (sym s.core);
          listeners = p.listeners ∙ ap (λ k. length k.ended) (sym s.core);
          limit = p.limit ∙ sym s.retry_limit;
          max = p.max ∙ sym s.limit;
          lacks = λ is. p.lacks (sym s.lacks_room ∙ is);
          stops = λ is. p.stops (ap (λ k. is_some k.stopping) (sym s.core) ∙ is);
        };
        of_use = subst (λ k. AllOfUse k events) (sym s.core) q.of_use;
      }

  -- and one that came to an acceptor that is the same
  pub does_came : (a b b2 : Acceptor L) → SameBut b b2 → Does given left rest identity ended faults taken count served l m a b x y events → Does given left rest identity ended faults taken count served l m a b2 x y events
  does_came a b b2 s q =
      let p = q.acts in
      record {
        acts = record {
          logged = record {
            allowed = p.logged.allowed;
            core = s.core ∙ p.logged.core;
            got = p.logged.got;
            failed = p.logged.failed;
            marked = p.logged.marked;
            failures = λ t. ap (λ k. slice_index k.failures t) s.core ∙ p.logged.failures t;
            sent_on = λ w. ap (λ v. count_put identity v.items w) s.parcels ∙ p.logged.sent_on w;
            back = λ w. ap (λ v. count_back identity v.items w) s.notes ∙ p.logged.back w;
          };
          passes = record { more = p.passes.more; adds = p.passes.adds; founded = subst (λ k. All (λ (e : Entry L). is_stopped e.outcome ≡ true → is_some k.stopping ≡ true) p.passes.more) (sym s.core) p.passes.founded; carries = λ none_left is first entries c. carries_same given left identity none_left first m b b2 (entries ++ p.passes.more) s (p.passes.carries none_left is first entries c) };
          awaits = record {
            stays_ready = λ r. ap (λ v. list_all (λ ready. ready) v.items) s.ready ∙ p.awaits.stays_ready r;
            early = λ lacks. p.awaits.early (ap (λ v. list_all (λ ready. ready) v.items) (sym s.ready) ∙ lacks);
            noted = λ n w marked. subst (λ v. IfSome (slice_get v.items w) (λ c. Contains (received c) Ready)) (sym s.notes) (p.awaits.noted n w (ap (λ v. slice_index_or v.items w false) (sym s.ready) ∙ marked));
          };
          tells = subst (λ k. TellsEnds ended faults a.retry_limit l m a.core k) (sym s.core) p.tells;
          rings = record { parcels = ap (λ v. map ring_in v.items) s.parcels ∙ p.rings.parcels; notes = ap (λ v. map ring_out v.items) s.notes ∙ p.rings.notes };
          puts = λ w. record { more = (p.puts w).more; went = ap (λ v. sent_to v.items w) s.parcels ∙ (p.puts w).went };
          receives = λ w. record { more = (p.receives w).more; came = ap (λ v. received_at v.items w) s.notes ∙ (p.receives w).came };
          as_many = p.as_many;
          workers = ap (λ k. length k.out) s.core ∙ p.workers;
          listeners = ap (λ k. length k.ended) s.core ∙ p.listeners;
          limit = s.retry_limit ∙ p.limit;
          max = s.limit ∙ p.max;
          lacks = λ is. s.lacks_room ∙ p.lacks is;
          stops = λ is. ap (λ k. is_some k.stopping) s.core ∙ p.stops is;
        };
        of_use = q.of_use;
      }

-- A turn: it begins with no event, and ends with the stops, which are no events.
module _ {Li L D : Type 0} (given : Li → ℕ) (left : Li → Option (List L)) (rest : Li → Option (List Mark)) (identity : L → Identity) (ended : Li → Bool) (faults : Li → ℕ)
    (taken : D → Option (List (Entry L))) (count served : D → ℕ) (l m : List Li) (x y : D) where
  pub turn_does : (a began made next : Acceptor L) → SameBut began a → events_of began ≡ [] → SameBut made next → events_of next ≡ events_of made
      → Proceeds given left rest identity ended faults taken count served l m began made x y → Does given left rest identity ended faults taken count served l m a next x y (events_of next)
  turn_does a began made next same none kept events p =
      let all : events_of next ≡ p.more = events ∙ p.appended ∙ ap (λ es. es ++ p.more) none in
      subst (λ es. Does given left rest identity ended faults taken count served l m a next x y es) (sym all)
      (does_began given left rest identity ended faults taken count served l m x y p.more began a next same
      (does_came given left rest identity ended faults taken count served l m x y p.more began made next kept p.does))

  pub turn_does_stops : (a next last : Acceptor L) → StopsOnly next last → Proceeds given left rest identity ended faults taken count served m m next last y y
      → Does given left rest identity ended faults taken count served l m a next x y (events_of next) → Does given left rest identity ended faults taken count served l m a last x y (events_of last)
  turn_does_stops a next last only q p =
      let none : events_of next ++ q.more ≡ events_of last = sym q.appended in
      subst (λ es. Does given left rest identity ended faults taken count served l m a last x y es) none
      (does_trans given left rest identity ended faults taken count served l m m a next last x y y (events_of next) q.more p q.does)

-- why a turn goes on
short_or_not : {L : Type 0} (a : Acceptor L) → IsShort a ⊎ (IsShort a → ⊥)
short_or_not a = elim (nat_lt (8 * workers_of a + 600) (length (events_of a) + (2 * workers_of a + 4))) as (λ b. nat_lt (8 * workers_of a + 600) (length (events_of a) + (2 * workers_of a + 4)) ≡ b → IsShort a ⊎ (IsShort a → ⊥)) [
  | true ↦ λ t. inl (grind (arith, nat_tests))
  | false ↦ λ f. inr (λ short. absurd (grind (arith, nat_tests)))
] refl

told_by : {L : Type 0} (a : Acceptor L) → (IsShort a → ⊥) → HasTaken a → (w : ℕ) → HasTold a w
told_by a long taken w = elim (taken w) [
  | inl told ↦ told
  | inr short ↦ absurd (long short)
]

-- what the end of a turn adds to why it goes on
pub record TurnWaits {L Co : Type 0} (idles : Co → ℕ) (source source_then : Co) (a : Acceptor L) (now : ℕ) : Type 0 where
  pub commands : Rose (idles source) (idles source_then) ⊎ (256 ≤ count_by is_command (events_of a))
  pub stops : (core_of a).stopping ≡ None → IsOver a → waiting_of a ≡ None → sum (core_of a).out ≡ 0 → (w : ℕ) × LacksStop a w
  pub stop : is_some (core_of a).stopping ≡ true → AwaitsStop a now

module _ {Li L Co : Type 0} (given waits skips : Li → ℕ) (idles : Co → ℕ) (l m : List Li) (source source_then : Co) (a : Acceptor L) (now : ℕ) where
  -- it asked the listeners, where it may
  abbrev pub AskedThem : Type 0
  AskedThem = all_ready a ≡ true → lacks_room_of a ≡ false → IsAccepting (core_of a) → count_by is_command (events_of a) < 256 → (t : ℕ) → t < listeners_of a → IsAskedOut given waits skips l m a now t

  none_waits : waiting_of a ≡ None → is_some (waiting_of a) ≡ true → ⊥
  none_waits none waits = absurd (let e : false ≡ true = sym (ap (λ o. is_some o) none) ∙ waits in cc)

  settled_goes_on : (IsShort a → ⊥) → MayAsk a → AskedThem → TurnWaits idles source source_then a now → AcceptGoesOn given waits skips idles l m source source_then a now
  settled_goes_on long may asked w = record {
    commands = w.commands;
    notes = told_by a long may.told;
    placing = λ waits. absurd (none_waits may.none waits);
    asked = λ _. asked;
    stops = w.stops;
    stop = w.stop;
  }

  halted_goes_on : (IsShort a → ⊥) → HasHalted a → TurnWaits idles source source_then a now → AcceptGoesOn given waits skips idles l m source source_then a now
  halted_goes_on long halted w = elim halted.cause [
    | inl short ↦ absurd (long short)
    | inr (inl waits) ↦ record {
      commands = w.commands;
      notes = told_by a long halted.told;
      placing = λ _. waits.1;
      asked = λ none. absurd (none_waits none waits.0);
      stops = w.stops;
      stop = w.stop;
    }
    | inr (inr lacks) ↦ record {
      commands = w.commands;
      notes = told_by a long halted.told;
      placing = λ some. absurd (none_waits lacks.0 some);
      asked = λ _ _ has. absurd (let e : false ≡ true = sym has ∙ lacks.1 in cc);
      stops = w.stops;
      stop = w.stop;
    }
  ]

  pub turn_goes_on : (s : Step) → (s ≡ On → ⊥) → (s ≡ Settled → MayAsk a × AskedThem)
      → (s ≡ Halted → HasHalted a) → ((w : ℕ) → s ≡ WorkerEnded w → ⊥) → TurnWaits idles source source_then a now → IsShort a ⊎ AcceptGoesOn given waits skips idles l m source source_then a now
  turn_goes_on s on settled halted ended w = elim (short_or_not a) [
    | inl short ↦ inl short
    | inr long ↦ inr (by_step s refl long)
  ]
    where
      by_step : (r : Step) → s ≡ r → (IsShort a → ⊥) → AcceptGoesOn given waits skips idles l m source source_then a now
      by_step On is long = absurd (on is)
      by_step Settled is long = settled_goes_on long (settled is).0 (settled is).1 w
      by_step Halted is long = halted_goes_on long (halted is) w
      by_step (WorkerEnded v) is long = absurd (ended v is)

-- a turn that took fewer than 256 commands found none any more
pub few_idle : (idle : Bool) (n : ℕ) → (idle ≡ false → 256 ≤ n) → n < 256 → idle ≡ true
few_idle true n many few = refl
few_idle false n many few = absurd (omega (arith, many refl, few))

pub idle_or_many : (R : Type 0) (idle : Bool) (n : ℕ) → (idle ≡ true → R) → (idle ≡ false → 256 ≤ n) → R ⊎ (256 ≤ n)
idle_or_many R true n left many = inl (left refl)
idle_or_many R false n left many = inr (many refl)

-- in a turn that began with no event a listener failed at most once
pub once_each : (xs ys zs : List Event) → ((t : ℕ) → count_by (is_failed t) xs ≡ 0) → ((t : ℕ) → count_by (is_failed t) ys ≡ count_by (is_failed t) xs) → ((t : ℕ) → count_by (is_failed t) zs ≤ count_by (is_failed t) ys + 1)
    → is_some (refused (Some []) zs) ≡ true → OnceEach zs
once_each xs ys zs none same more refusals = record {
  failures = λ t. omega (arith, same t, more t, none t);
  refusals = refusals;
}

-- none was refused in a turn that just began
pub unrefused_first : (xs ys : List Event) → refused (Some []) xs ≡ Some [] → refused (Some []) ys ≡ refused (Some []) xs → refused (Some []) ys ≡ Some []
unrefused_first xs ys none same = same ∙ none

pub is_some_of : (o : Option (List ℕ)) → o ≡ Some [] → is_some o ≡ true
is_some_of o is = ap (λ p. is_some p) is

module _ {Li L : Type 0} (given waits skips : Li → ℕ) where
  -- none was asked
  pub in_turn_none : (ls : List Li) (a b : Acceptor L) (now : ℕ) → AsksInTurn given waits skips ls ls a b now
  in_turn_none ls a b now = record { order = λ t u below under before. inl refl; rests = λ t off. refl }

  -- the same, from before they were asked
  pub in_turn_from : (ls ms : List Li) (a b c : Acceptor L) (now : ℕ) → first_of b ≡ first_of a → ((t : ℕ) → slice_index_or (failed_of b) t None ≡ slice_index_or (failed_of a) t None)
      → AsksInTurn given waits skips ls ms b c now → AsksInTurn given waits skips ls ms a c now
  in_turn_from ls ms a b c now first failed p = record {
    order = λ t u below under. subst (λ f. turn_of f (listeners_of c) t < turn_of f (listeners_of c) u → (slice_get ms u ≡ slice_get ls u) ⊎ IsAskedOut given waits skips ls ms c now t) first (p.order t u below under);
    rests = λ t off. p.rests t (subst (λ o. IsSomeAnd o (λ failed. now < failed + 500)) (sym (failed t)) off);
  }

  pub given_kept : (ls : List Li) (a b : Acceptor L) → places_of b ≡ places_of a → ((t : ℕ) → slice_index_or (places_of a) t 0 ≤ given_at given ls t) → (t : ℕ) → slice_index_or (places_of b) t 0 ≤ given_at given ls t
  given_kept ls a b same below t = subst (λ xs. slice_index_or xs t 0 ≤ given_at given ls t) (sym same) (below t)

  pub asked_out_same : (ls ms : List Li) (c c2 : Acceptor L) (now t : ℕ) → core_of c2 ≡ core_of c → failed_of c2 ≡ failed_of c → IsAskedOut given waits skips ls ms c now t → IsAskedOut given waits skips ls ms c2 now t
  asked_out_same ls ms c c2 now t core failed (inl over) = inl (ap (λ k. slice_index_or k.ended t true) core ∙ over)
  asked_out_same ls ms c c2 now t core failed (inr (inl waited)) = inr (inl waited)
  asked_out_same ls ms c c2 now t core failed (inr (inr (inl enough))) = inr (inr (inl enough))
  asked_out_same ls ms c c2 now t core failed (inr (inr (inr off))) = inr (inr (inr (subst (λ xs. IsSomeAnd (slice_index_or xs t None) (λ failed. now < failed + 500)) (sym failed) off)))

  -- the same of an acceptor that differs in what this says nothing of
  pub in_turn_same : (ls ms : List Li) (a a2 c c2 : Acceptor L) (now now2 : ℕ) → now2 ≡ now → first_of a2 ≡ first_of a → failed_of a2 ≡ failed_of a → core_of c2 ≡ core_of c → failed_of c2 ≡ failed_of c
      → AsksInTurn given waits skips ls ms a c now → AsksInTurn given waits skips ls ms a2 c2 now2
  in_turn_same ls ms a a2 c c2 now now2 time first failed core failed_c p = subst (λ n. AsksInTurn given waits skips ls ms a2 c2 n) (sym time) (record {
    order = λ t u below under before. elim (p.order t u (subst (λ k. t < length k.ended) core below) (subst (λ k. u < length k.ended) core under)
        (subst (λ f. turn_of f (listeners_of c) t < turn_of f (listeners_of c) u) first (subst (λ k. turn_of (first_of a2) (length k.ended) t < turn_of (first_of a2) (length k.ended) u) core before))) [
          | inl same ↦ inl same
          | inr out ↦ inr (asked_out_same ls ms c c2 now t core failed_c out)
        ];
    rests = λ t off. p.rests t (subst (λ xs. IsSomeAnd (slice_index_or xs t None) (λ failed. now < failed + 500)) failed off);
  })

-- a worker's fault, seen from the turn's start
pub ends_same : {L : Type 0} (a a2 b b2 : Acceptor L) (w : ℕ) → a2.notes ≡ a.notes → b2.notes ≡ b.notes → EndsByFault a b w → EndsByFault a2 b2 w
ends_same a a2 b b2 w began came e = record {
  more = e.more;
  came = ap (λ v. received_at v.items w) came ∙ e.came ∙ ap (λ v. received_at v.items w ++ e.more) (sym began);
  faulted = e.faulted;
}

-- ---- an acceptor of which what a turn's end asks for is the same
pub record SeenSame {L : Type 0} (a b : Acceptor L) : Type 0 where
  pub core : b.core ≡ a.core
  pub events : b.events ≡ a.events
  pub notes : b.notes ≡ a.notes
  pub ready : b.ready ≡ a.ready
  pub waiting : b.waiting ≡ a.waiting
  pub failed : b.failed ≡ a.failed
  pub lacks_room : b.lacks_room ≡ a.lacks_room

module _ {L : Type 0} (a b : Acceptor L) (s : SeenSame a b) where
  short_same : IsShort a → IsShort b
  short_same short = omega (arith, short, ap (λ k. length k.out) s.core, ap (λ v. length v.items) s.events)

  told_same : (w : ℕ) → HasTold a w → HasTold b w
  told_same w told = subst (λ v. IfSome (slice_get v.items w) (λ c. AreLeft (slice_index b.core.out w) b.core.stopping (known_items c))) (sym s.notes)
      (subst (λ k. IfSome (slice_get a.notes.items w) (λ c. AreLeft (slice_index k.out w) k.stopping (known_items c))) (sym s.core) told)

  taken_same : HasTaken a → HasTaken b
  taken_same taken w = elim (taken w) [
    | inl told ↦ inl (told_same w told)
    | inr short ↦ inr (short_same short)
  ]

  pub may_same : MayAsk a → MayAsk b
  may_same may = record {
    none = s.waiting ∙ may.none;
    unrefused = ap (λ v. refused (Some []) v.items) s.events ∙ may.unrefused;
    told = taken_same may.told;
  }

  pub halted_same : HasHalted a → HasHalted b
  halted_same halted = record {
    cause = elim halted.cause [
      | inl short ↦ inl (short_same short)
      | inr (inl waits) ↦ inr (inl (
        ap (λ o. is_some o) s.waiting ∙ waits.0,
        λ w free. subst (λ v. Contains v.items (RingFull w)) (sym s.events) (waits.1 w (ap (λ k. set.contains k.free w) (sym s.core) ∙ free)),
      ))
      | inr (inr lacks) ↦ inr (inr (s.waiting ∙ lacks.0, s.lacks_room ∙ lacks.1))
    ];
    told = taken_same halted.told;
  }

  pub asked_same : {Li : Type 0} (given waits skips : Li → ℕ) (l m : List Li) (now : ℕ) (idle : Bool)
      → (all_ready a ≡ true → lacks_room_of a ≡ false → IsAccepting (core_of a) → idle ≡ true → (t : ℕ) → t < listeners_of a → IsAskedOut given waits skips l m a now t)
      → (count_by is_command (events_of b) < 256 → idle ≡ true)
      → all_ready b ≡ true → lacks_room_of b ≡ false → IsAccepting (core_of b) → count_by is_command (events_of b) < 256 → (t : ℕ) → t < listeners_of b → IsAskedOut given waits skips l m b now t
  asked_same given waits skips l m now idle asked few_commands ready room accepts few t below = asked_out_same given waits skips l m a b now t s.core (ap (λ v. v.items) s.failed)
      (asked (ap (λ v. list_all (λ r. r) v.items) (sym s.ready) ∙ ready) (sym s.lacks_room ∙ room) (subst (λ (k : Core). IsAccepting k) s.core accepts) (few_commands few) t (subst (λ k. t < length k.ended) s.core below))

-- the answer of a turn names the worker that its last step named
pub ended_same : {L : Type 0} (a b : Acceptor L) (v w : ℕ) → TurnEnded v ≡ TurnEnded w → (v < workers_of b) × EndsByFault a b v → (w < workers_of b) × EndsByFault a b w
ended_same a b v w is e = let same : v ≡ w = cc in subst (λ u. (u < workers_of b) × EndsByFault a b u) same e

-- why a turn goes on, at its answer of the clock
pub goes_on_at : {Li L Co : Type 0} (given waits skips : Li → ℕ) (idles : Co → ℕ) (l m : List Li) (source source_then : Co) (a : Acceptor L) (now now2 : ℕ) → now2 ≡ now
    → IsShort a ⊎ AcceptGoesOn given waits skips idles l m source source_then a now → IsShort a ⊎ AcceptGoesOn given waits skips idles l m source source_then a now2
goes_on_at given waits skips idles l m source source_then a now now2 time goes = subst (λ n. IsShort a ⊎ AcceptGoesOn given waits skips idles l m source source_then a n) (sym time) goes
