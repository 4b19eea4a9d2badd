-- Each event keeps what an accept core keeps.
use Rattle.std.proofs.Common.{◌≡◌, ℕ, ◌+◌, ◌-◌, ◌<◌, ◌^◌, Bool, true, false, true≢false, cond, List, [], ◌∷◌, ◌++◌, length, get_or, set as put, Option, Some, None, refl, sym, ◌∙◌, arith, nat_lt, length-set, length-append}
use Rattle.std.specs.Prelude.{◌&&◌, not, sum, is_some, is_none}
use Rattle.std.specs.FinSet as set
use Rattle.std.proofs.lemmas.Bool.Decides.{nat_tests}
use Rattle.std.proofs.lemmas.List.Sums.{sum_by-set}
use Rattle.server_core.specs.Numbers.{Numbers}
use Rattle.server_core.specs.Core.{Core, IsKept, allowed, step, held, let_go, all_retired, in_order, is_worker, is_open, without, place_of}
use Rattle.server_core.specs.declared.command.Command.TheVariants.{Stop}
use Rattle.server_core.specs.declared.event.Event.TheVariants.{Command, Notice, Back, Got, Sent, RingFull, Faulted, Replaced, Retired, ListenerFailed, ListenerEnded}
use Rattle.server_core.proofs.Orders.{and_left, and_right, not_true, lies-remove, lies-insert, lies-without, lies-push, below_without, below-push, distinct_without, distinct-push, place_within}

is_below : (s : Core) (w : ℕ) → is_worker s w ≡ true → w < length s.out
is_below s w e = grind (arith, nat_tests)

held_none : (o : Option ℕ) → is_none o ≡ true → held o ≡ 0
held_none None e = refl
held_none (Some t) e = absurd (true≢false (sym e))

held_some : (o : Option ℕ) → is_some o ≡ true → held o ≡ 1
held_some (Some t) e = refl
held_some None e = absurd (true≢false (sym e))

unstopped : (o : Option Bool) → is_none o ≡ true → is_some o ≡ true → held (Some 0) ≡ 0
unstopped None e f = absurd (true≢false (sym f))
unstopped (Some g) e f = absurd (true≢false (sym e))

sum-put : (xs : List ℕ) (i y : ℕ) → i < length xs → sum (put xs i y) + get_or xs i 0 ≡ sum xs + y
sum-put xs i y h = sum_by-set (λ x. x) xs i y 0 h

pub kept_gone : (s : Core) → IsKept s → IsKept (let_go s)
kept_gone s h = let balance = h.balance in record {
  workers = h.workers;
  listeners = h.listeners;
  balance = omega arith;
  bound = h.bound;
  stopped = λ _. refl;
  numbers = h.numbers;
  distinct = h.distinct;
  free_in_order = h.free_in_order;
  next_is_place = h.next_is_place;
}

pub kept_stop : (s : Core) (graceful : Bool) → IsKept s → IsKept (step s (Command (Stop graceful)))
kept_stop s graceful h = let balance = h.balance in record {
  workers = h.workers;
  listeners = h.listeners;
  balance = omega arith;
  bound = h.bound;
  stopped = λ _. refl;
  numbers = h.numbers;
  distinct = h.distinct;
  free_in_order = h.free_in_order;
  next_is_place = h.next_is_place;
}

pub kept_marked : (s : Core) (w : ℕ) → IsKept s → in_order s.order w ≡ true → IsKept (record s { free = set.insert s.free w })
kept_marked s w h e = record {
  workers = h.workers;
  listeners = h.listeners;
  balance = h.balance;
  bound = h.bound;
  stopped = h.stopped;
  numbers = h.numbers;
  distinct = h.distinct;
  free_in_order = lies-insert s.free s.order w e h.free_in_order;
  next_is_place = h.next_is_place;
}

pub kept_notice : (s : Core) (w : ℕ) → IsKept s → IsKept (step s (Notice w))
kept_notice s w h =
    elim (in_order s.order w) as (λ b. in_order s.order w ≡ b → IsKept (record s { free = cond b (set.insert s.free w) s.free })) [
      | true ↦ λ e. kept_marked s w h e
      | false ↦ λ _. h
    ] refl

pub kept_back : (s : Core) (w : ℕ) → IsKept s → allowed s (Back w) ≡ true → IsKept (step s (Back w))
kept_back s w h a =
    let below = is_below s w (and_left _ _ a) in
    let some : 0 < get_or s.out w 0 = let more = and_right (is_worker s w) (nat_lt 0 (get_or s.out w 0)) a in grind (arith, nat_tests) in
    let total = sum-put s.out w (get_or s.out w 0 - 1) below in
    let size : length (put s.out w (get_or s.out w 0 - 1)) ≡ length s.out = length-set s.out w (get_or s.out w 0 - 1) in
    let balance = h.balance in
    let workers = h.workers in
    record {
      workers = omega arith;
      listeners = h.listeners;
      balance = omega arith;
      bound = h.bound;
      stopped = h.stopped;
      numbers = λ v i. rw size (h.numbers v i);
      distinct = h.distinct;
      free_in_order = h.free_in_order;
      next_is_place = h.next_is_place;
    }

pub kept_got : (s : Core) (t : ℕ) → IsKept s → allowed s (Got t) ≡ true → IsKept (step s (Got t))
kept_got s t h a =
    let takes = and_right (is_open s t) (is_none s.waiting && not s.paused && is_none s.stopping && nat_lt s.given (2 ^ 60)) a in
    let less : s.given < 2 ^ 60 = let small = and_right (is_none s.waiting && not s.paused && is_none s.stopping) (nat_lt s.given (2 ^ 60)) takes in grind (arith, nat_tests) in
    let free = and_left (is_none s.waiting && not s.paused && is_none s.stopping) (nat_lt s.given (2 ^ 60)) takes in
    let goes_on = and_right (is_none s.waiting && not s.paused) (is_none s.stopping) free in
    let unpaused = and_left (is_none s.waiting && not s.paused) (is_none s.stopping) free in
    let nothing = held_none s.waiting (and_left (is_none s.waiting) (not s.paused) unpaused) in
    let size : length (put s.failures t 0) ≡ length s.failures = length-set s.failures t 0 in
    let listeners = h.listeners in
    let balance = h.balance in
    record {
      workers = h.workers;
      listeners = size ∙ h.listeners;
      balance = omega arith;
      bound = omega arith;
      stopped = unstopped s.stopping goes_on;
      numbers = h.numbers;
      distinct = h.distinct;
      free_in_order = h.free_in_order;
      next_is_place = h.next_is_place;
    }

kept_free : (s : Core) (w : ℕ) (remains : Bool) → IsKept s → (v : ℕ) → set.contains (cond remains s.free (set.remove s.free w)) v ≡ true → in_order s.order v ≡ true
kept_free s w true h = h.free_in_order
kept_free s w false h = lies-remove s.free s.order w h.free_in_order

pub kept_sent : (s : Core) (w : ℕ) (remains : Bool) → IsKept s → allowed s (Sent w remains) ≡ true → IsKept (step s (Sent w remains))
kept_sent s w remains h a =
    let placed = and_left _ _ a in
    let below = is_below s w (and_left _ _ placed) in
    let one = held_some s.waiting (and_right (is_worker s w) (is_some s.waiting) placed) in
    let total = sum-put s.out w (get_or s.out w 0 + 1) below in
    let size : length (put s.out w (get_or s.out w 0 + 1)) ≡ length s.out = length-set s.out w (get_or s.out w 0 + 1) in
    let balance = h.balance in
    let workers = h.workers in
    record {
      workers = omega arith;
      listeners = h.listeners;
      balance = omega arith;
      bound = h.bound;
      stopped = λ _. refl;
      numbers = λ v i. rw size (h.numbers v i);
      distinct = h.distinct;
      free_in_order = kept_free s w remains h;
      next_is_place = place_within s.order (place_of s.order w + 1);
    }

pub kept_ring_full : (s : Core) (w : ℕ) → IsKept s → IsKept (step s (RingFull w))
kept_ring_full s w h = record {
  workers = h.workers;
  listeners = h.listeners;
  balance = h.balance;
  bound = h.bound;
  stopped = h.stopped;
  numbers = h.numbers;
  distinct = h.distinct;
  free_in_order = lies-remove s.free s.order w h.free_in_order;
  next_is_place = place_within s.order (place_of s.order w + 1);
}

pub kept_faulted : (s : Core) (w : ℕ) → IsKept s → in_order s.order w ≡ true → IsKept (step s (Faulted w))
kept_faulted s w h e = record {
  workers = h.workers;
  listeners = h.listeners;
  balance = h.balance;
  bound = h.bound;
  stopped = h.stopped;
  numbers = below_without (length s.out) s.order w e h.numbers;
  distinct = distinct_without s.order w e h.distinct;
  free_in_order = lies-without s.free s.order w e h.free_in_order;
  next_is_place = place_within (without s.order w) s.next;
}

-- what allows w to return
pub returns_out : (s : Core) (w : ℕ) → allowed s (Replaced w) ≡ true → in_order s.order w ≡ false
returns_out s w a =
    let unretired = and_left (is_worker s w && not (in_order s.order w) && not (set.contains s.retired w)) _ a in
    let apart = and_left (is_worker s w && not (in_order s.order w)) _ unretired in
    not_true (in_order s.order w) (and_right (is_worker s w) (not (in_order s.order w)) apart)

pub returns_below : (s : Core) (w : ℕ) → allowed s (Replaced w) ≡ true → w < length s.out
returns_below s w a =
    let unretired = and_left (is_worker s w && not (in_order s.order w) && not (set.contains s.retired w)) _ a in
    let apart = and_left (is_worker s w && not (in_order s.order w)) _ unretired in
    is_below s w (and_left (is_worker s w) (not (in_order s.order w)) apart)

longer : (order : List ℕ) (w k : ℕ) → (0 < k → k < length order) → 0 < k → k < length (order ++ w ∷ [])
longer order w k h p = let small = h p in let size = length-append order (w ∷ []) in omega arith

pub kept_replaced : (s : Core) (w : ℕ) → IsKept s → allowed s (Replaced w) ≡ true → IsKept (step s (Replaced w))
kept_replaced s w h a = record {
  workers = h.workers;
  listeners = h.listeners;
  balance = h.balance;
  bound = h.bound;
  stopped = h.stopped;
  numbers = below-push (length s.out) s.order w (returns_below s w a) h.numbers;
  distinct = distinct-push s.order w (returns_out s w a) h.distinct;
  free_in_order = lies-push s.free s.order w h.free_in_order;
  next_is_place = longer s.order w s.next h.next_is_place;
}

-- the set of the retired workers is free to change
pub kept_retired_set : (s : Core) (retired : Numbers) → IsKept s → IsKept (record s { retired = retired })
kept_retired_set s retired h = record {
  workers = h.workers;
  listeners = h.listeners;
  balance = h.balance;
  bound = h.bound;
  stopped = h.stopped;
  numbers = h.numbers;
  distinct = h.distinct;
  free_in_order = h.free_in_order;
  next_is_place = h.next_is_place;
}

kept_cond : (b : Bool) (s t : Core) → IsKept s → IsKept t → IsKept (cond b s t)
kept_cond true s t h i = h
kept_cond false s t h i = i

pub kept_retired : (s : Core) (w : ℕ) → IsKept s → IsKept (step s (Retired w))
kept_retired s w h =
    let all = kept_retired_set s (set.insert s.retired w) h in
    kept_cond (all_retired (record s { retired = set.insert s.retired w })) _ _ (kept_gone _ all) all

pub kept_paused : (s : Core) (paused : Bool) → IsKept s → IsKept (record s { paused = paused })
kept_paused s paused h = record {
  workers = h.workers;
  listeners = h.listeners;
  balance = h.balance;
  bound = h.bound;
  stopped = h.stopped;
  numbers = h.numbers;
  distinct = h.distinct;
  free_in_order = h.free_in_order;
  next_is_place = h.next_is_place;
}

pub kept_failed : (s : Core) (t : ℕ) → IsKept s → IsKept (step s (ListenerFailed t))
kept_failed s t h = record {
  workers = h.workers;
  listeners = length-set s.failures t _ ∙ h.listeners;
  balance = h.balance;
  bound = h.bound;
  stopped = h.stopped;
  numbers = h.numbers;
  distinct = h.distinct;
  free_in_order = h.free_in_order;
  next_is_place = h.next_is_place;
}

pub kept_ended : (s : Core) (t : ℕ) → IsKept s → IsKept (step s (ListenerEnded t))
kept_ended s t h = record {
  workers = h.workers;
  listeners = h.listeners ∙ sym (length-set s.ended t true);
  balance = h.balance;
  bound = h.bound;
  stopped = h.stopped;
  numbers = h.numbers;
  distinct = h.distinct;
  free_in_order = h.free_in_order;
  next_is_place = h.next_is_place;
}
