-- Each step of a worker keeps its services in order.
use Rattle.std.proofs.Common.{◌≡◌, ℕ, ◌+◌, ◌<◌, ◌≤◌, Bool, true, false, true≢false, List, [], ◌∷◌, ◌++◌, length, map, get_or, set, take, drop, Option, Some, None, suc, zero, refl, sym, ap, ◌∙◌, arith, add-one, length-set}
use Rattle.std.specs.Prelude.{◌||◌, not, if◌then◌else◌, cond, count_by, position, replicate}
use Rattle.std.specs.List.{list_any, position_or_len, refill}
use Rattle.std.proofs.lemmas.Bool.Decides.{nat_tests}
use Rattle.std.proofs.lemmas.Grind.{common_steps}
use Rattle.std.proofs.lemmas.List.{length-map, length-replicate}
use Rattle.std.proofs.lemmas.List.Folds.{sum_by-replicate}
use Rattle.std.proofs.lemmas.List.Quantifiers.{position-Some}
use Rattle.std.proofs.lemmas.List.Sums.{sum_by-cons, sum_by-set}
use Rattle.worker_core.specs.Statuses.{is_asked, is_available, is_failed, is_restarting}
use Rattle.worker_core.specs.WorkerCore.{IsKept, MayAsk, MayRestart, Worker, answer_status, restarted_at, status_of, with_available}
use Rattle.worker_core.specs.declared.ready_answer.ReadyAnswer.{ReadyAnswer}
use Rattle.worker_core.specs.declared.ready_answer.ReadyAnswer.TheVariants.{Ready, NotReady, Err}
use Rattle.worker_core.specs.declared.service_status.ServiceStatus.{ServiceStatus}
use Rattle.worker_core.specs.declared.service_status.ServiceStatus.TheVariants.{Available, Unavailable, Failed, Restarting, Stopping, Stopped}

-- a write of a whole vector as a slice
pub refill_same : {X : Type 0} (xs ws : List X) → length ws ≡ length xs → refill (length xs) xs ws ≡ ws
refill_same xs ws e = grind (arith, common_steps)

pub refill-set : {X : Type 0} (xs : List X) (i : ℕ) (y : X) → refill (length xs) xs (set xs i y) ≡ set xs i y
refill-set xs i y = refill_same xs (set xs i y) (simp length-set)

pub refill-set_twice : {X : Type 0} (xs : List X) (i j : ℕ) (y z : X) → refill (length (refill (length xs) xs (set xs i y))) (refill (length xs) xs (set xs i y)) (set (refill (length xs) xs (set xs i y)) j z) ≡ set (set xs i y) j z
refill-set_twice xs i j y z = refill-set (refill (length xs) xs (set xs i y)) j z ∙ ap (λ ys. set ys j z) (refill-set xs i y)

pub refill-map : {X : Type 0} (xs : List X) (f : X → X) → refill (length xs) xs (map f xs) ≡ map f xs
refill-map xs f = refill_same xs (map f xs) (simp length-map)

-- how a write changes a count
pub count_by-set : {X : Type 0} (p : X → Bool) (xs : List X) (i : ℕ) (y d : X) → i < length xs → count_by p (set xs i y) + cond (p (get_or xs i d)) 1 0 ≡ count_by p xs + cond (p y) 1 0
count_by-set p xs i y d h = sum_by-set (λ x. cond (p x) 1 0) xs i y d h

count_by-cons : {X : Type 0} (p : X → Bool) (x : X) (xs : List X) → count_by p (x ∷ xs) ≡ cond (p x) 1 0 + count_by p xs
count_by-cons p x xs = sum_by-cons (λ y. cond (p y) 1 0) x xs

any_some : {X : Type 0} (p : X → Bool) (xs : List X) → list_any p xs ≡ true → 0 < count_by p xs
any_some p [] e = absurd (true≢false (sym e))
any_some p (x ∷ xs) e =
    rw (count_by-cons p x xs) (elim (p x) as (λ v. (v || list_any p xs) ≡ true → 0 < cond v 1 0 + count_by p xs) [ true ↦ λ _. omega arith | false ↦ λ rest. let more : 0 < count_by p xs = any_some p xs rest in omega arith ] e)

any_none : {X : Type 0} (p : X → Bool) (xs : List X) → list_any p xs ≡ false → count_by p xs ≡ 0
any_none p [] e = refl
any_none p (x ∷ xs) e =
    rw (count_by-cons p x xs) (elim (p x) as (λ v. (v || list_any p xs) ≡ false → cond v 1 0 + count_by p xs ≡ 0) [ true ↦ λ bad. absurd (true≢false bad) | false ↦ λ rest. let fewer : count_by p xs ≡ 0 = any_none p xs rest in omega arith ] e)

past_none : {X : Type 0} (p : X → Bool) (xs : List X) → length xs ≤ position_or_len p xs → count_by p xs ≡ 0
past_none p [] h = refl
past_none p (x ∷ xs) h =
    rw (count_by-cons p x xs) (elim (p x) as (λ v. suc (length xs) ≤ cond (not v) (1 + position_or_len p xs) 0 → cond v 1 0 + count_by p xs ≡ 0) [ true ↦ λ far. absurd (omega arith) | false ↦ λ far. let fewer : count_by p xs ≡ 0 = past_none p xs (omega arith) in omega arith ] h)

position_none : {X : Type 0} (p : X → Bool) (xs : List X) → position p xs ≡ None → count_by p xs ≡ 0
position_none p xs e = past_none p xs (grind (arith, nat_tests))

asked_waits : (s : ServiceStatus) → is_asked s ≡ true → (is_restarting s ≡ false) × (is_failed s ≡ false)
asked_waits Available e = (refl, refl)
asked_waits Unavailable e = (refl, refl)
asked_waits Failed e = absurd (true≢false (sym e))
asked_waits Restarting e = absurd (true≢false (sym e))
asked_waits Stopping e = absurd (true≢false (sym e))
asked_waits Stopped e = absurd (true≢false (sym e))

failed_waits : (s : ServiceStatus) → is_failed s ≡ true → is_restarting s ≡ false
failed_waits Failed e = refl
failed_waits Available e = refl
failed_waits Unavailable e = refl
failed_waits Restarting e = absurd (true≢false (sym e))
failed_waits Stopping e = refl
failed_waits Stopped e = refl

-- a service that was asked gets a status
kept_asked : (services : List ServiceStatus) (token : ℕ) (status : ServiceStatus) → IsKept services → token < length services → is_asked (get_or services token Unavailable) ≡ true → count_by is_restarting services + cond (is_restarting status) 1 0 ≤ 1 → (0 < cond (is_failed status) 1 0 → 0 < count_by is_restarting services) → IsKept (set services token status)
kept_asked services token status kept listens asked one waits =
    let was = asked_waits _ asked in
    let restarting = rw (was.0) at (count_by-set is_restarting services token status Unavailable listens) in
    let failed = rw (was.1) at (count_by-set is_failed services token status Unavailable listens) in
    let same : length (set services token status) ≡ length services = simp length-set in
    let waited = kept.failed_waits in
    record { some = omega arith; fits = omega arith; one_restarts = omega arith; failed_waits = λ h. grind arith }

kept_failure : (w : Worker) (token : ℕ) → IsKept w.services → token < length w.services → is_asked (status_of w token) ≡ true → (v : Bool) → list_any is_restarting w.services ≡ v → IsKept (set w.services token (if v then Failed else Restarting))
kept_failure w token kept listens asked true e =
    let other = any_some is_restarting w.services e in
    let one = kept.one_restarts in
    kept_asked w.services token Failed kept listens asked (omega arith) (λ _. other)
kept_failure w token kept listens asked false e =
    let fewer = any_none is_restarting w.services e in
    kept_asked w.services token Restarting kept listens asked (omega arith) (λ h. omega arith)

pub kept_answered : (w : Worker) (token : ℕ) (a : ReadyAnswer) → IsKept w.services → MayAsk w token → IsKept (set w.services token (answer_status w a))
kept_answered w token Ready kept may = let one = kept.one_restarts in kept_asked w.services token Available kept may.listens may.asked (omega arith) (λ h. omega arith)
kept_answered w token NotReady kept may = let one = kept.one_restarts in kept_asked w.services token Unavailable kept may.listens may.asked (omega arith) (λ h. omega arith)
kept_answered w token Err kept may = kept_failure w token kept may.listens may.asked (list_any is_restarting w.services) refl

pub kept_ready : (w : Worker) (services : List ServiceStatus) (token : ℕ) (a : ReadyAnswer) → services ≡ w.services → IsKept services → MayAsk w token → IsKept (set services token (answer_status w a))
kept_ready w services token a same kept may = rw same (kept_answered w token a (rw same at kept) may)

-- no service restarts once the one that did is made
kept_next : (services : List ServiceStatus) → 0 < length services → length services ≤ 64 → count_by is_restarting services ≡ 0 → (next : Option ℕ) → position is_failed services ≡ next → IsKept (restarted_at services next)
kept_next services some fits fewer None e =
    let waits = position_none is_failed services e in
    record { some = some; fits = fits; one_restarts = omega arith; failed_waits = λ h. absurd (omega arith) }
kept_next services some fits fewer (Some token) e =
    let found = position-Some is_failed services token Unavailable e in
    let counted = rw (failed_waits _ found.1) at (count_by-set is_restarting services token Restarting Unavailable found.0) in
    let same : length (set services token Restarting) ≡ length services = simp length-set in
    record { some = omega arith; fits = omega arith; one_restarts = omega arith; failed_waits = λ h. omega arith }

pub kept_made : (w : Worker) (token : ℕ) → IsKept w.services → MayRestart w token → (next : Option ℕ) → position is_failed (set w.services token Unavailable) ≡ next → IsKept (restarted_at (set w.services token Unavailable) next)
kept_made w token kept may next e =
    let counted = rw (may.restarts) at (count_by-set is_restarting w.services token Unavailable Unavailable may.listens) in
    let same : length (set w.services token Unavailable) ≡ length w.services = simp length-set in
    let one = kept.one_restarts in
    let some = kept.some in
    let fits = kept.fits in
    kept_next (set w.services token Unavailable) (omega arith) (omega arith) (omega arith) next e

pub kept_restarted : (w : Worker) (services : List ServiceStatus) (token : ℕ) → services ≡ w.services → IsKept services → MayRestart w token → (next : Option ℕ) → position is_failed (set services token Unavailable) ≡ next → IsKept (restarted_at (set services token Unavailable) next)
kept_restarted w services token same kept may next e = rw same (kept_made w token (rw same at kept) may next (rw same at e))

count_by-map : {X : Type 0} (p : X → Bool) (f : X → X) → ((x : X) → p (f x) ≡ p x) → (xs : List X) → count_by p (map f xs) ≡ count_by p xs
count_by-map p f same [] = refl
count_by-map p f same (x ∷ xs) = rw (count_by-cons p (f x) (map f xs), count_by-cons p x xs, same x, count_by-map p f same xs) refl

replaced_restarting : (status : ServiceStatus) → is_restarting status ≡ false → (s : ServiceStatus) → is_restarting (if is_available s then status else s) ≡ is_restarting s
replaced_restarting status e Available = e
replaced_restarting status e Unavailable = refl
replaced_restarting status e Failed = refl
replaced_restarting status e Restarting = refl
replaced_restarting status e Stopping = refl
replaced_restarting status e Stopped = refl

replaced_failed : (status : ServiceStatus) → is_failed status ≡ false → (s : ServiceStatus) → is_failed (if is_available s then status else s) ≡ is_failed s
replaced_failed status e Available = e
replaced_failed status e Unavailable = refl
replaced_failed status e Failed = refl
replaced_failed status e Restarting = refl
replaced_failed status e Stopping = refl
replaced_failed status e Stopped = refl

pub kept_stopped : (status : ServiceStatus) → is_restarting status ≡ false → is_failed status ≡ false → (services : List ServiceStatus) → IsKept services → IsKept (with_available status services)
kept_stopped status restarts_not failed_not services kept =
    let restarting = count_by-map is_restarting (λ s. if is_available s then status else s) (replaced_restarting status restarts_not) services in
    let failed = count_by-map is_failed (λ s. if is_available s then status else s) (replaced_failed status failed_not) services in
    let same : length (with_available status services) ≡ length services = simp length-map in
    let waited = kept.failed_waits in
    record { some = omega arith; fits = omega arith; one_restarts = omega arith; failed_waits = λ h. omega arith }

pub kept_new : (listeners : ℕ) → 0 < listeners → listeners ≤ 64 → IsKept (replicate listeners Unavailable)
kept_new listeners some fits =
    let restarting = sum_by-replicate (λ s. cond (is_restarting s) 1 0) listeners Unavailable in
    let failed = sum_by-replicate (λ s. cond (is_failed s) 1 0) listeners Unavailable in
    let same = length-replicate listeners Unavailable in
    record { some = omega arith; fits = omega arith; one_restarts = omega arith; failed_waits = λ h. absurd (omega arith) }

-- one more element is mapped in place
replaced_at : {X : Type 0} (f : X → X) (xs : List X) (i : ℕ) (d : X) → i < length xs → set (map f (take i xs) ++ drop i xs) i (f (get_or (map f (take i xs) ++ drop i xs) i d)) ≡ map f (take (suc i) xs) ++ drop (suc i) xs
replaced_at f [] i d h = absurd (omega arith)
replaced_at f (x ∷ xs) zero d h = refl
replaced_at f (x ∷ xs) (suc i) d h = ap (λ ys. f x ∷ ys) (replaced_at f xs i d (omega arith))

replaced_more : {X : Type 0} (f : X → X) (xs ys : List X) (i : ℕ) (d : X) → i < length xs → ys ≡ map f (take i xs) ++ drop i xs → set ys i (f (get_or ys i d)) ≡ map f (take (i + 1) xs) ++ drop (i + 1) xs
replaced_more f xs ys i d h e = rw (e, add-one) (replaced_at f xs i d h)

pub replaced_yes : (status : ServiceStatus) (xs ys : List ServiceStatus) (i : ℕ) (d : ServiceStatus) → i < length xs → ys ≡ with_available status (take i xs) ++ drop i xs → is_available (get_or ys i d) ≡ true → set ys i status ≡ with_available status (take (i + 1) xs) ++ drop (i + 1) xs
replaced_yes status xs ys i d h e yes_is = rw yes_is at (replaced_more (λ s. if is_available s then status else s) xs ys i d h e)

pub replaced_no : (status : ServiceStatus) (xs ys : List ServiceStatus) (i : ℕ) (d : ServiceStatus) → i < length xs → ys ≡ with_available status (take i xs) ++ drop i xs → is_available (get_or ys i d) ≡ false → set ys i (get_or ys i d) ≡ with_available status (take (i + 1) xs) ++ drop (i + 1) xs
replaced_no status xs ys i d h e no_is = rw no_is at (replaced_more (λ s. if is_available s then status else s) xs ys i d h e)
