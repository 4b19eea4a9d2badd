-- The ledger of all connections, over every list of events.
use Rattle.std.proofs.Common.{◌≡◌, ◌≢◌, ℕ, zero, suc, ◌+◌, ◌<◌, Bool, true, false, true≢false, cond, List, [], ◌∷◌, ◌++◌, length, get_or, set as put, Option, Some, None, nat_eq, refl, sym, ap, subst, ◌∙◌, inl, inr, arith, length-set, length-append, get_or-set_other, get_or-set_same}
use Rattle.std.specs.Prelude.{◌==◌, ◌&&◌, ◌-◌, ◌^◌, not, slice_get, is_some, is_none, nat_lt, replicate}
use Rattle.std.specs.FinSet as set
use Rattle.std.proofs.lemmas.Bool.Decides.{nat_tests}
use Rattle.std.proofs.lemmas.List.Sums.{sum_by-set, sum_by_push, sum_by-cons}
use Rattle.std.proofs.lemmas.Option.{slice_get_within, get_or_from_slice_get}
use Rattle.server_core.specs.Core.{Core, allowed, step, held, fresh, all_retired, let_go, is_worker, is_open, may_take}
use Rattle.server_core.specs.Ledger.{Place, waits, at_worker, is_done, Ledger, same_place, how_many, OneGoes, WaitingIsDone, Moves, LeadsTo, IsLedgerOf, GoesOn, AllGoOn, AtMostOneMoves}
use Rattle.server_core.specs.Runs.{AllAllowed, after_all}
use Rattle.server_core.specs.declared.command.Command.TheVariants.{Pause, Resume, Stop}
use Rattle.server_core.specs.declared.event.Event.{Event}
use Rattle.server_core.specs.declared.event.Event.TheVariants.{Command, Notice, Back, Got, Sent, RingFull, Faulted, Replaced, Retired, ListenerFailed, ListenerEnded}
use Rattle.server_core.proofs.Orders.{and_left, and_right}

-- ---- counts of a place
abbrev one : Place → Place → ℕ
one q p = cond (same_place q p) 1 0

same : (p : Place) → same_place p p ≡ true
same waits = refl
same (at_worker w) = grind (arith, nat_tests)
same is_done = refl

is_same : (p q : Place) → same_place p q ≡ true → q ≡ p
is_same waits waits e = refl
is_same (at_worker v) (at_worker w) e = let equal : w ≡ v = grind (arith, nat_tests) in ap at_worker equal
is_same is_done is_done e = refl
is_same waits (at_worker w) e = absurd (true≢false (sym e))
is_same waits is_done e = absurd (true≢false (sym e))
is_same (at_worker v) waits e = absurd (true≢false (sym e))
is_same (at_worker v) is_done e = absurd (true≢false (sym e))
is_same is_done waits e = absurd (true≢false (sym e))
is_same is_done (at_worker w) e = absurd (true≢false (sym e))

moved : (q from to : Place) (before after : Ledger) (k : ℕ) → slice_get before k ≡ Some from → after ≡ put before k to
    → how_many q after + one q from ≡ how_many q before + one q to
moved q from to before after k e m =
    let total = sum_by-set (one q) before k to from (slice_get_within before k from e) in
    let there = ap (one q) (get_or_from_slice_get before k from from e) in
    let new = ap (how_many q) m in
    omega arith

as_long : (before after : Ledger) (k : ℕ) (to : Place) → after ≡ put before k to → length after ≡ length before
as_long before after k to m = ap length m ∙ length-set before k to

-- ---- what each event does to the counts
unmoved : (s t : Core) (before after : Ledger) → t.given ≡ s.given → t.waiting ≡ s.waiting → t.out ≡ s.out → t.done ≡ s.done
    → after ≡ before → IsLedgerOf s before → IsLedgerOf t after
unmoved s t before after given waiting out done m h = record {
  given = ap length m ∙ h.given ∙ sym given;
  waiting = ap (how_many waits) m ∙ h.waiting ∙ ap held (sym waiting);
  out = λ w. ap (how_many (at_worker w)) m ∙ h.out w ∙ ap (λ xs. get_or xs w 0) (sym out);
  done = ap (how_many is_done) m ∙ h.done ∙ sym done;
}

held_le : (o : Option ℕ) → held o < 2
held_le None = omega arith
held_le (Some t) = omega arith

held_some : (o : Option ℕ) → is_some o ≡ true → held o ≡ 1
held_some None e = absurd (true≢false (sym e))
held_some (Some t) e = refl

held_none : (o : Option ℕ) → is_none o ≡ true → held o ≡ 0
held_none None e = refl
held_none (Some t) e = absurd (true≢false (sym e))

gone : (s t : Core) (before after : Ledger) → t.given ≡ s.given → t.waiting ≡ None → t.out ≡ s.out → t.done ≡ s.done + held s.waiting
    → WaitingIsDone before after → IsLedgerOf s before → IsLedgerOf t after
gone s t before after given waiting out done (inr (z, m)) h =
    let none = h.waiting in
    let at_end = h.done in
    record {
      given = ap length m ∙ h.given ∙ sym given;
      waiting = ap (how_many waits) m ∙ z ∙ ap held (sym waiting);
      out = λ w. ap (how_many (at_worker w)) m ∙ h.out w ∙ ap (λ xs. get_or xs w 0) (sym out);
      done = ap (how_many is_done) m ∙ omega arith;
    }
gone s t before after given waiting out done (inl (k, e, m)) h =
    let few = held_le s.waiting in
    let wait = moved waits waits is_done before after k e m in
    let end = moved is_done waits is_done before after k e m in
    let waited = h.waiting in
    let ended = h.done in
    record {
      given = as_long before after k is_done m ∙ h.given ∙ sym given;
      waiting = let nothing : how_many waits after ≡ 0 = omega arith in nothing ∙ ap held (sym waiting);
      out = λ w. let stays = moved (at_worker w) waits is_done before after k e m in let was = h.out w in
          let equal : how_many (at_worker w) after ≡ how_many (at_worker w) before = omega arith in equal ∙ was ∙ ap (λ xs. get_or xs w 0) (sym out);
      done = omega arith;
    }

is_below : (s : Core) (w : ℕ) → is_worker s w ≡ true → w < length s.out
is_below s w e = grind (arith, nat_tests)

at_put : (xs : List ℕ) (w v x : ℕ) → w < length xs → get_or (put xs w x) v 0 ≡ cond (v == w) x (get_or xs v 0)
at_put xs w v x inside =
    elim (v == w) as (λ b. (v == w) ≡ b → get_or (put xs w x) v 0 ≡ cond b x (get_or xs v 0)) [
      | true ↦ λ e. let same : v ≡ w = grind (arith, nat_tests) in rw same (get_or-set_same xs w x 0 inside)
      | false ↦ λ e. let other : v ≢ w = grind (arith, nat_tests) in get_or-set_other xs w v x 0 other
    ] refl

more_there : (xs : List ℕ) (w v n m : ℕ) → w < length xs → n + 0 ≡ m + cond (v == w) 1 0 → m ≡ get_or xs v 0 → n ≡ get_or (put xs w (get_or xs w 0 + 1)) v 0
more_there xs w v n m inside step was =
    elim (v == w) as (λ b. (v == w) ≡ b → n + 0 ≡ m + cond b 1 0 → n ≡ cond b (get_or xs w 0 + 1) (get_or xs v 0)) [
      | true ↦ λ e f. let same : v ≡ w = grind (arith, nat_tests) in let there = ap (λ i. get_or xs i 0) same in omega arith
      | false ↦ λ e f. omega arith
    ] refl step ∙ sym (at_put xs w v (get_or xs w 0 + 1) inside)

less_there : (xs : List ℕ) (w v n m : ℕ) → w < length xs → 0 < get_or xs w 0 → n + cond (v == w) 1 0 ≡ m + 0 → m ≡ get_or xs v 0 → n ≡ get_or (put xs w (get_or xs w 0 - 1)) v 0
less_there xs w v n m inside some step was =
    elim (v == w) as (λ b. (v == w) ≡ b → n + cond b 1 0 ≡ m + 0 → n ≡ cond b (get_or xs w 0 - 1) (get_or xs v 0)) [
      | true ↦ λ e f. let same : v ≡ w = grind (arith, nat_tests) in let there = ap (λ i. get_or xs i 0) same in omega arith
      | false ↦ λ e f. omega arith
    ] refl step ∙ sym (at_put xs w v (get_or xs w 0 - 1) inside)

sent : (s : Core) (w : ℕ) (remains : Bool) (before after : Ledger) → allowed s (Sent w remains) ≡ true → OneGoes waits (at_worker w) before after
    → IsLedgerOf s before → IsLedgerOf (step s (Sent w remains)) after
sent s w remains before after a (k, e, m) h =
    let placed = and_left _ _ a in
    let below = is_below s w (and_left _ _ placed) in
    let one_waits = held_some s.waiting (and_right (is_worker s w) (is_some s.waiting) placed) in
    let wait = moved waits waits (at_worker w) before after k e m in
    let end = moved is_done waits (at_worker w) before after k e m in
    let waited = h.waiting in
    let ended = h.done in
    record {
      given = as_long before after k (at_worker w) m ∙ h.given;
      waiting = omega arith;
      out = λ v. more_there s.out w v (how_many (at_worker v) after) (how_many (at_worker v) before) below (moved (at_worker v) waits (at_worker w) before after k e m) (h.out v);
      done = omega arith;
    }

back : (s : Core) (w : ℕ) (before after : Ledger) → allowed s (Back w) ≡ true → OneGoes (at_worker w) is_done before after
    → IsLedgerOf s before → IsLedgerOf (step s (Back w)) after
back s w before after a (k, e, m) h =
    let below = is_below s w (and_left _ _ a) in
    let some : 0 < get_or s.out w 0 = let more = and_right (is_worker s w) (nat_lt 0 (get_or s.out w 0)) a in grind (arith, nat_tests) in
    let wait = moved waits (at_worker w) is_done before after k e m in
    let end = moved is_done (at_worker w) is_done before after k e m in
    let waited = h.waiting in
    let ended = h.done in
    record {
      given = as_long before after k is_done m ∙ h.given;
      waiting = omega arith;
      out = λ v. less_there s.out w v (how_many (at_worker v) after) (how_many (at_worker v) before) below some (moved (at_worker v) (at_worker w) is_done before after k e m) (h.out v);
      done = omega arith;
    }

free : (s : Core) (t : ℕ) → allowed s (Got t) ≡ true → is_none s.waiting ≡ true
free s t a =
    let takes = and_right (is_open s t) (may_take s) a in
    let goes_on = and_left (is_none s.waiting && not s.paused && is_none s.stopping) (nat_lt s.given (2 ^ 60)) takes in
    let unpaused = and_left (is_none s.waiting && not s.paused) (is_none s.stopping) goes_on in
    and_left (is_none s.waiting) (not s.paused) unpaused

got : (s : Core) (t : ℕ) (before after : Ledger) → allowed s (Got t) ≡ true → after ≡ before ++ waits ∷ []
    → IsLedgerOf s before → IsLedgerOf (step s (Got t)) after
got s t before after a m h =
    let none = held_none s.waiting (free s t a) in
    let size : length (before ++ waits ∷ []) ≡ length before + 1 = length-append before (waits ∷ []) in
    let given = h.given in
    let waited = h.waiting in
    record {
      given = ap length m ∙ omega arith;
      waiting = ap (how_many waits) m ∙ sum_by_push (one waits) before waits ∙ omega arith;
      out = λ w. ap (how_many (at_worker w)) m ∙ sum_by_push (one (at_worker w)) before waits ∙ omega (arith, h.out w);
      done = ap (how_many is_done) m ∙ sum_by_push (one is_done) before waits ∙ omega (arith, h.done);
    }

same_retired : (b : Bool) (s : Core) → all_retired (cond b (let_go s) s) ≡ all_retired s
same_retired true s = refl
same_retired false s = refl

retired : (s : Core) (w : ℕ) (before after : Ledger) → Moves s (Retired w) before after → IsLedgerOf s before → IsLedgerOf (step s (Retired w)) after
retired s w before after m h =
    let left : Core = record s { retired = set.insert s.retired w } in
    let n : cond (all_retired left) (WaitingIsDone before after) (after ≡ before) = subst (λ b. cond b (WaitingIsDone before after) (after ≡ before)) (same_retired (all_retired left) left) m in
    elim (all_retired left) as (λ b. cond b (WaitingIsDone before after) (after ≡ before) → IsLedgerOf (cond b (let_go left) left) after) [
      | true ↦ λ goes. gone s _ before after refl refl refl refl goes h
      | false ↦ λ stays. unmoved s _ before after refl refl refl refl stays h
    ] n

moves_on : (s : Core) (e : Event) (before after : Ledger) → allowed s e ≡ true → Moves s e before after → IsLedgerOf s before → IsLedgerOf (step s e) after
moves_on s (Command Pause) before after a m h = unmoved s _ before after refl refl refl refl m h
moves_on s (Command Resume) before after a m h = unmoved s _ before after refl refl refl refl m h
moves_on s (Command (Stop graceful)) before after a m h = gone s _ before after refl refl refl refl m h
moves_on s (Notice w) before after a m h = unmoved s _ before after refl refl refl refl m h
moves_on s (Back w) before after a m h = back s w before after a m h
moves_on s (Got t) before after a m h = got s t before after a m h
moves_on s (Sent w remains) before after a m h = sent s w remains before after a m h
moves_on s (RingFull w) before after a m h = unmoved s _ before after refl refl refl refl m h
moves_on s (Faulted w) before after a m h = unmoved s _ before after refl refl refl refl m h
moves_on s (Replaced w) before after a m h = unmoved s _ before after refl refl refl refl m h
moves_on s (Retired w) before after a m h = retired s w before after m h
moves_on s (ListenerFailed t) before after a m h = unmoved s _ before after refl refl refl refl m h
moves_on s (ListenerEnded t) before after a m h = unmoved s _ before after refl refl refl refl m h

pub runs_on : (s : Core) (es : List Event) (before after : Ledger) → AllAllowed s es → LeadsTo s before es after → IsLedgerOf s before → IsLedgerOf (after_all s es) after
runs_on s [] before after a m h = subst (λ l. IsLedgerOf s l) (sym m) h
runs_on s (e ∷ es) before after a m h = runs_on (step s e) es m.0 after a.1 m.2 (moves_on s e before m.0 a.0 m.1 h)

none_out : (n w : ℕ) → get_or {A = ℕ} (replicate n 0) w 0 ≡ 0
none_out zero w = refl
none_out (suc n) zero = refl
none_out (suc n) (suc w) = none_out n w

pub starts : (workers listeners : ℕ) → IsLedgerOf (fresh workers listeners) []
starts workers listeners = record {
  given = refl;
  waiting = refl;
  out = λ w. sym (none_out workers w);
  done = refl;
}

-- ---- there is such a ledger
holds_one : (place : Place) (ledger : Ledger) → 0 < how_many place ledger → (k : ℕ) × (slice_get ledger k ≡ Some place)
holds_one place [] h = absurd (omega arith)
holds_one place (p ∷ ledger) h =
    elim (same_place place p) as (λ b. same_place place p ≡ b → (k : ℕ) × (slice_get (p ∷ ledger) k ≡ Some place)) [
      | true ↦ λ e. (0, ap (λ q. Some q) (is_same place p e))
      | false ↦ λ e.
          let here : one place p ≡ 0 = ap (λ b. cond b 1 0) e in
          let first = sum_by-cons (one place) p ledger in
          let rest = holds_one place ledger (omega arith) in
          (suc rest.0, rest.1)
    ] refl

one_goes : (from to : Place) (before : Ledger) → 0 < how_many from before → (after : Ledger) × OneGoes from to before after
one_goes from to before h = let found = holds_one from before h in (put before found.0 to, (found.0, found.1, refl))

waiting_goes : (before : Ledger) → (after : Ledger) × WaitingIsDone before after
waiting_goes before =
    elim (how_many waits before == 0) as (λ b. (how_many waits before == 0) ≡ b → (after : Ledger) × WaitingIsDone before after) [
      | true ↦ λ e. let none : how_many waits before ≡ 0 = grind (arith, nat_tests) in (before, inr (none, refl))
      | false ↦ λ e. let some : 0 < how_many waits before = grind (arith, nat_tests) in let goes = one_goes waits is_done before some in (goes.0, inl goes.1)
    ] refl

can_move : (s : Core) (e : Event) (before : Ledger) → allowed s e ≡ true → IsLedgerOf s before → (after : Ledger) × Moves s e before after
can_move s (Command Pause) before a h = (before, refl)
can_move s (Command Resume) before a h = (before, refl)
can_move s (Command (Stop graceful)) before a h = waiting_goes before
can_move s (Notice w) before a h = (before, refl)
can_move s (Back w) before a h = one_goes (at_worker w) is_done before (let some : 0 < get_or s.out w 0 = let more = and_right (is_worker s w) (nat_lt 0 (get_or s.out w 0)) a in grind (arith, nat_tests) in omega (arith, h.out w))
can_move s (Got t) before a h = (before ++ waits ∷ [], refl)
can_move s (Sent w remains) before a h = one_goes waits (at_worker w) before (let some = held_some s.waiting (and_right (is_worker s w) (is_some s.waiting) (and_left _ _ a)) in omega (arith, h.waiting))
can_move s (RingFull w) before a h = (before, refl)
can_move s (Faulted w) before a h = (before, refl)
can_move s (Replaced w) before a h = (before, refl)
can_move s (Retired w) before a h =
    elim (all_retired (step s (Retired w))) as (λ b. (after : Ledger) × cond b (WaitingIsDone before after) (after ≡ before)) [
      | true ↦ waiting_goes before
      | false ↦ (before, refl)
    ]
can_move s (ListenerFailed t) before a h = (before, refl)
can_move s (ListenerEnded t) before a h = (before, refl)

leads_on : (s : Core) (es : List Event) (before : Ledger) → IsLedgerOf s before → AllAllowed s es → (after : Ledger) × LeadsTo s before es after
leads_on s [] before h a = (before, refl)
leads_on s (e ∷ es) before h a =
    let next = can_move s e before a.0 h in
    let rest = leads_on (step s e) es next.0 (moves_on s e before next.0 a.0 next.1 h) a.1 in
    (rest.0, (next.0, next.1, rest.1))

front_allowed : (s : Core) (before after : List Event) → AllAllowed s (before ++ after) → AllAllowed s before
front_allowed s [] after a = tt
front_allowed s (e ∷ before) after a = (a.0, front_allowed (step s e) before after a.1)

rest_allowed : (s : Core) (before after : List Event) → AllAllowed s (before ++ after) → AllAllowed (after_all s before) after
rest_allowed s [] after a = a
rest_allowed s (e ∷ before) after a = rest_allowed (step s e) before after a.1

pub leads_further : (workers listeners : ℕ) (before after : List Event) (ledger : Ledger)
    → AllAllowed (fresh workers listeners) (before ++ after) → LeadsTo (fresh workers listeners) [] before ledger
    → (later : Ledger) × LeadsTo (after_all (fresh workers listeners) before) ledger after later
leads_further workers listeners before after ledger a m =
    let first = fresh workers listeners in
    let here = runs_on first before [] ledger (front_allowed first before after a) m (starts workers listeners) in
    leads_on (after_all first before) after ledger here (rest_allowed first before after a)

-- ---- each entry goes on
stays_so : (p : Place) → GoesOn p p
stays_so waits = tt
stays_so (at_worker w) = inl refl
stays_so is_done = refl

and_then : (p q r : Place) → GoesOn p q → GoesOn q r → GoesOn p r
and_then waits q r g h = tt
and_then (at_worker w) q r (inl e) h = subst (λ x. GoesOn x r) e h
and_then (at_worker w) q r (inr e) h = inr (subst (λ x. GoesOn x r) e h)
and_then is_done q r g h = subst (λ x. GoesOn x r) g h

get-put_other : (xs : Ledger) (k j : ℕ) (p : Place) → j ≢ k → slice_get (put xs k p) j ≡ slice_get xs j
get-put_other [] k j p d = refl
get-put_other (x ∷ xs) zero zero p d = absurd (d refl)
get-put_other (x ∷ xs) zero (suc j) p d = refl
get-put_other (x ∷ xs) (suc k) zero p d = refl
get-put_other (x ∷ xs) (suc k) (suc j) p d = get-put_other xs k j p (λ e. d (ap suc e))

get-put_same : (xs : Ledger) (k : ℕ) (from p : Place) → slice_get xs k ≡ Some from → slice_get (put xs k p) k ≡ Some p
get-put_same [] k from p e = cc
get-put_same (x ∷ xs) zero from p e = refl
get-put_same (x ∷ xs) (suc k) from p e = get-put_same xs k from p e

get-push : (xs : Ledger) (j : ℕ) (p q : Place) → slice_get xs j ≡ Some p → slice_get (xs ++ q ∷ []) j ≡ Some p
get-push [] j p q e = cc
get-push (x ∷ xs) zero p q e = e
get-push (x ∷ xs) (suc j) p q e = get-push xs j p q e

all_stay : (before after : Ledger) → after ≡ before → AllGoOn before after
all_stay before after m = λ k from e. (from, ap (λ l. slice_get l k) m ∙ e, stays_so from)

one_goes_on : (from to : Place) (before after : Ledger) → GoesOn from to → OneGoes from to before after → AllGoOn before after
one_goes_on from to before after g (k, e, m) = λ j p f.
    elim (nat_eq j k) as (λ b. nat_eq j k ≡ b → (q : Place) × (slice_get after j ≡ Some q) × GoesOn p q) [
      | true ↦ λ t. let same : j ≡ k = grind (arith, nat_tests) in
          let there : Some p ≡ Some from = sym f ∙ ap (slice_get before) same ∙ e in
          let equal : p ≡ from = cc in
          (to, ap (slice_get after) same ∙ ap (λ l. slice_get l k) m ∙ get-put_same before k from to e, subst (λ x. GoesOn x to) (sym equal) g)
      | false ↦ λ t. let other : j ≢ k = grind (arith, nat_tests) in
          (p, ap (λ l. slice_get l j) m ∙ get-put_other before k j to other ∙ f, stays_so p)
    ] refl

waiting_goes_on : (before after : Ledger) → WaitingIsDone before after → AllGoOn before after
waiting_goes_on before after (inl m) = one_goes_on waits is_done before after tt m
waiting_goes_on before after (inr (z, m)) = all_stay before after m

step_goes_on : (s : Core) (e : Event) (before after : Ledger) → Moves s e before after → AllGoOn before after
step_goes_on s (Command Pause) before after m = all_stay before after m
step_goes_on s (Command Resume) before after m = all_stay before after m
step_goes_on s (Command (Stop graceful)) before after m = waiting_goes_on before after m
step_goes_on s (Notice w) before after m = all_stay before after m
step_goes_on s (Back w) before after m = one_goes_on (at_worker w) is_done before after (inr refl) m
step_goes_on s (Got t) before after m = λ k from e. (from, ap (λ l. slice_get l k) m ∙ get-push before k from waits e, stays_so from)
step_goes_on s (Sent w remains) before after m = one_goes_on waits (at_worker w) before after tt m
step_goes_on s (RingFull w) before after m = all_stay before after m
step_goes_on s (Faulted w) before after m = all_stay before after m
step_goes_on s (Replaced w) before after m = all_stay before after m
step_goes_on s (Retired w) before after m =
    elim (all_retired (step s (Retired w))) as (λ b. cond b (WaitingIsDone before after) (after ≡ before) → AllGoOn before after) [
      | true ↦ waiting_goes_on before after
      | false ↦ all_stay before after
    ] m
step_goes_on s (ListenerFailed t) before after m = all_stay before after m
step_goes_on s (ListenerEnded t) before after m = all_stay before after m

pub all_go_on : (s : Core) (es : List Event) (before after : Ledger) → LeadsTo s before es after → AllGoOn before after
all_go_on s [] before after m = all_stay before after m
all_go_on s (e ∷ es) before after m = λ k from h.
    let first = step_goes_on s e before m.0 m.1 k from h in
    let rest = all_go_on (step s e) es m.0 after m.2 k first.0 first.1 in
    (rest.0, rest.1, and_then from first.0 rest.0 first.2 rest.2)

-- ---- at most one moves
none_moves : (before after : Ledger) → after ≡ before → AtMostOneMoves before after
none_moves before after m = λ j k g h. absurd (g.1 (ap (λ l. slice_get l j) m))

is_that : (from to : Place) (before after : Ledger) (k j : ℕ) → after ≡ put before k to → slice_get after j ≢ slice_get before j → j ≡ k
is_that from to before after k j m d =
    elim (nat_eq j k) as (λ b. nat_eq j k ≡ b → j ≡ k) [
      | true ↦ λ t. grind (arith, nat_tests)
      | false ↦ λ t. let other : j ≢ k = grind (arith, nat_tests) in absurd (d (ap (λ l. slice_get l j) m ∙ get-put_other before k j to other))
    ] refl

one_moves : (from to : Place) (before after : Ledger) → OneGoes from to before after → AtMostOneMoves before after
one_moves from to before after (p, e, m) = λ j k g h. is_that from to before after p j m g.1 ∙ sym (is_that from to before after p k m h.1)

waiting_moves : (before after : Ledger) → WaitingIsDone before after → AtMostOneMoves before after
waiting_moves before after (inl m) = one_moves waits is_done before after m
waiting_moves before after (inr (z, m)) = none_moves before after m

get-front : (xs : Ledger) (k : ℕ) (q : Place) → k < length xs → slice_get (xs ++ q ∷ []) k ≡ slice_get xs k
get-front [] k q h = absurd (omega arith)
get-front (x ∷ xs) zero q h = refl
get-front (x ∷ xs) (suc k) q h = get-front xs k q (omega arith)

pub step_moves : (s : Core) (e : Event) (before after : Ledger) → Moves s e before after → AtMostOneMoves before after
step_moves s (Command Pause) before after m = none_moves before after m
step_moves s (Command Resume) before after m = none_moves before after m
step_moves s (Command (Stop graceful)) before after m = waiting_moves before after m
step_moves s (Notice w) before after m = none_moves before after m
step_moves s (Back w) before after m = one_moves (at_worker w) is_done before after m
step_moves s (Got t) before after m = λ j k g h. absurd (g.1 (ap (λ l. slice_get l j) m ∙ get-front before j waits g.0))
step_moves s (Sent w remains) before after m = one_moves waits (at_worker w) before after m
step_moves s (RingFull w) before after m = none_moves before after m
step_moves s (Faulted w) before after m = none_moves before after m
step_moves s (Replaced w) before after m = none_moves before after m
step_moves s (Retired w) before after m =
    elim (all_retired (step s (Retired w))) as (λ b. cond b (WaitingIsDone before after) (after ≡ before) → AtMostOneMoves before after) [
      | true ↦ waiting_moves before after
      | false ↦ none_moves before after
    ] m
step_moves s (ListenerFailed t) before after m = none_moves before after m
step_moves s (ListenerEnded t) before after m = none_moves before after m
