-- Stops and force messages to all workers, one after the other.
use Rattle.std.proofs.Common.{◌≡◌, ◌≢◌, ◌⊎◌, ◌<◌, ◌≤◌, [], ◌∷◌, ℕ, suc, ◌+◌, ◌*◌, Bool, true, false, true≢false, List, length, All, Some, None, refl, sym, ◌∙◌, ap, arith, subst, inl, inr}
use Rattle.std.specs.Prelude.{◌&&◌, IsSomeAnd, is_some, slice_index_or, sum}
use Rattle.std.specs.List.{list_all}
use Rattle.std.specs.Option.{option_map}
use Rattle.std.proofs.lemmas.Bool.{cases_eq}
use Rattle.std.proofs.lemmas.List.Elements.{All-cons, All-nil}
use Rattle.server_core.specs.Core.{held}
use Rattle.server_run.specs.declared.report.End.TheVariants.{Stopped}
use Rattle.server_acceptor.specs.Accepting.{Finishes}
use Rattle.server_acceptor.specs.Acceptors.{core_of, forced_of, stopped_of, workers_of}
use Rattle.server_acceptor.specs.Stopping.{AwaitsStop, AwaitsWorkers, ForcesAll, GotWord, IsDue, LacksWord}
use Rattle.server_acceptor.specs.declared.acceptor.Acceptor.{Acceptor}
use Rattle.server_acceptor.specs.declared.stop.Stop.{Stop as FirstStop}
use Rattle.server_acceptor.proofs.CommandSteps.{held_none}
use Rattle.server_acceptor.proofs.StopSteps.{all_got}

pub and_left : (a b : Bool) → (a && b) ≡ true → a ≡ true
and_left true b both = refl
and_left false b both = both

pub and_right : (a b : Bool) → (a && b) ≡ true → b ≡ true
and_right true b both = both
and_right false b both = absurd (true≢false (sym both))

pub and_none : (a b : Bool) → (a && b) ≡ false → (a ≡ false) ⊎ (b ≡ false)
and_none true b none = inr none
and_none false b none = inl refl

-- each worker got its word, or lacks it still
pub record Words {L : Type 0} (a : Acceptor L) (force all : Bool) (w : ℕ) : Type 0 where
  pub each : (v : ℕ) → v < w → GotWord a force v ⊎ LacksWord a force v
  pub got : all ≡ true → (v : ℕ) → v < w → GotWord a force v
  pub lacks : all ≡ false → (v : ℕ) × LacksWord a force v × (v < w)

pub words_none : {L : Type 0} (a : Acceptor L) (force : Bool) → Words a force true 0
words_none a force = record {
  each = λ v below. absurd (omega (arith, below));
  got = λ _ v below. absurd (omega (arith, below));
  lacks = λ is. absurd (true≢false is);
}

pub words_more : {L : Type 0} (a b : Acceptor L) (force all sent : Bool) (w : ℕ) → Words a force all w → (sent ≡ true → GotWord b force w) → (sent ≡ false → LacksWord b force w)
    → ((v : ℕ) → GotWord a force v → GotWord b force v) → ((v : ℕ) → v ≢ w → LacksWord a force v → LacksWord b force v) → Words b force (all && sent) (w + 1)
words_more a b force all sent w p got lacks others still = record {
  each = λ v below. elim (cases_eq v w) [
    | inl same ↦ rw same (here sent refl)
    | inr other ↦ elim (p.each v (omega (arith, below, other))) [
      | inl has ↦ inl (others v has)
      | inr less ↦ inr (still v other less)
    ]
  ];
  got = λ both v below. elim (cases_eq v w) [
    | inl same ↦ rw same (got (and_right all sent both))
    | inr other ↦ others v (p.got (and_left all sent both) v (omega (arith, below, other)))
  ];
  lacks = λ none. elim (and_none all sent none) [
    | inl before ↦
        let l = p.lacks before in
        let under = l.2 in
        (l.0, still l.0 (λ same. absurd (omega (arith, under, same))) l.1, omega (arith, under))
    | inr this ↦ (w, lacks this, omega arith)
  ];
}
  where
    here : (s : Bool) → sent ≡ s → GotWord b force w ⊎ LacksWord b force w
    here true is = inl (got is)
    here false is = inr (lacks is)

got_stop : {L : Type 0} (a : Acceptor L) (force : Bool) (v : ℕ) → GotWord a force v → slice_index_or (stopped_of a) v false ≡ true
got_stop a true v got = got.0
got_stop a false v got = got

pub words_stopped : {L : Type 0} (a : Acceptor L) (force all : Bool) (w : ℕ) → Words a force all w → workers_of a ≤ w → all ≡ true → All (λ stopped. stopped ≡ true) (stopped_of a)
words_stopped a force all w p many is = all_got (stopped_of a) (workers_of a) a.workers.3 (λ v below. got_stop a force v (p.got is v (omega (arith, below, many))))

-- ---- what follows after a stop
pub due_same : {L : Type 0} (a b : Acceptor L) (now : ℕ) → b.stop ≡ a.stop → b.shutdown_timeout ≡ a.shutdown_timeout → IsDue a now → IsDue b now
due_same a b now stop timeout due = subst (λ o. IsSomeAnd o (λ (s : FirstStop). (s.graceful ≡ false) ⊎ (s.since + 1000 * b.shutdown_timeout ≤ now))) (sym stop)
    (subst (λ t. IsSomeAnd a.stop (λ (s : FirstStop). (s.graceful ≡ false) ⊎ (s.since + 1000 * t ≤ now))) (sym timeout) due)

pub lacks_awaits : {L : Type 0} (a : Acceptor L) (now : ℕ) (force : Bool) → (force ≡ true → IsDue a now) → ((v : ℕ) × LacksWord a force v) → AwaitsStop a now
lacks_awaits a now true due lacks = inr (inl (due refl, lacks))
lacks_awaits a now false due lacks = inl lacks

pub forces_all : {L : Type 0} (a : Acceptor L) (now : ℕ) (force : Bool) → (force ≡ false → IsDue a now → ⊥) → ((v : ℕ) → v < workers_of a → GotWord a force v ⊎ LacksWord a force v) → ForcesAll a now
forces_all a now true none each due v below = elim (each v below) [
  | inl got ↦ inl (a.forced_sent v got.1)
  | inr lacks ↦ inr lacks.2
]
forces_all a now false none each due v below = absurd (none refl due)

-- without a stop none is due
pub none_due : {L : Type 0} (a : Acceptor L) (now : ℕ) → a.stop ≡ None → IsDue a now → ⊥
none_due a now none due = subst (λ o. IsSomeAnd o (λ (s : FirstStop). (s.graceful ≡ false) ⊎ (s.since + 1000 * a.shutdown_timeout ≤ now))) none due

some_false : (xs : List Bool) → list_all (λ b. b) xs ≡ false → (w : ℕ) × (w < length xs) × (slice_index_or xs w true ≡ false)
some_false [] none = absurd (true≢false none)
some_false (false ∷ xs) none = (0, omega arith, refl)
some_false (true ∷ xs) none = let s = some_false xs none in let below = s.1 in (suc s.0, omega (arith, below), s.2)

pub all_true : (xs : List Bool) → list_all (λ b. b) xs ≡ true → All (λ b. b ≡ true) xs
all_true [] all = All-nil _
all_true (true ∷ xs) all = All-cons (λ b. b ≡ true) true xs refl (all_true xs all)
all_true (false ∷ xs) all = absurd (true≢false (sym all))

pub awaits_workers : {L : Type 0} (a : Acceptor L) → All (λ stopped. stopped ≡ true) (stopped_of a) → 0 < a.out → list_all (λ forced. forced) (forced_of a) ≡ false → AwaitsWorkers a
awaits_workers a stopped some none =
    let s = some_false (forced_of a) none in
    let below = s.1 in
    (stopped, omega (arith, some, a.out_counted), (s.0, omega (arith, below, a.as_many_forced), s.2))

-- nothing waits after a stop
stopped_waits : {L : Type 0} (a : Acceptor L) → is_some a.core.stopping ≡ true → a.waiting ≡ None
stopped_waits a is = held_none a.waiting (ap (λ o. held o) (sym a.waits) ∙ a.kept.stopped is)

stopping_is : {L : Type 0} (a : Acceptor L) (stop : FirstStop) → a.stop ≡ Some stop → a.core.stopping ≡ Some stop.graceful
stopping_is a stop is = a.agrees ∙ ap (option_map (λ (s : FirstStop). s.graceful)) is

pub finishes_stopped : {L : Type 0} (a : Acceptor L) (stop : FirstStop) → a.stop ≡ Some stop → All (λ stopped. stopped ≡ true) (stopped_of a)
    → (a.out ≡ 0) ⊎ (list_all (λ forced. forced) (forced_of a) ≡ true) → Finishes a (Stopped stop.graceful)
finishes_stopped a stop is stopped none = (stopping_is a stop is, stopped_waits a (ap (λ o. is_some o) (stopping_is a stop is)), stopped, by_none none)
  where
    by_none : (a.out ≡ 0) ⊎ (list_all (λ forced. forced) (forced_of a) ≡ true) → (sum (core_of a).out ≡ 0) ⊎ All (λ forced. forced ≡ true) (forced_of a)
    by_none (inl zero_out) = inl (sym a.out_counted ∙ zero_out)
    by_none (inr all) = inr (all_true (forced_of a) all)

pub forced_or_due : (X Y : Type 0) (force : Bool) → (force ≡ true → Y) → X ⊎ (force ≡ true) → X ⊎ Y
forced_or_due X Y force due (inl before) = inl before
forced_or_due X Y force due (inr now) = inr (due now)
