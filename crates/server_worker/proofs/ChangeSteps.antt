-- A service changes its state at most twice in a turn: at its own check, and where it waited for another one, ahead of that or behind.
use Rattle.std.proofs.Common.{◌≡◌, ◌≢◌, ◌≤◌, ◌<◌, ◌⊎◌, ℕ, zero, suc, ◌+◌, ◌∷◌, [], List, sym, ◌∙◌, ap, arith, subst, inl, inr, true≢false}
use Rattle.std.proofs.lemmas.Bool.{cases_eq}
use Rattle.worker_core.specs.Statuses.{is_asked}
use Rattle.worker_core.specs.WorkerCore.{Worker, after_ready, after_restarted, status_of}
use Rattle.worker_core.specs.WorkerRuns.{AllAllowed, WorkerCall}
use Rattle.worker_core.specs.declared.service_status.ServiceStatus.TheVariants.{Failed, Restarting, Unavailable}
use Rattle.server_worker.specs.Asking.{Check, asked, calls_from, passed, remade}
use Rattle.server_worker.specs.Changes.{ChangesAtMost}
use Rattle.server_worker.proofs.Statuses.{Passes, answered_other, restarted_other, restarted_own}

-- one call, that changes a service as it may, and the calls behind it
abbrev Changes : Worker → Worker → List WorkerCall → ℕ → ℕ → Type 0
Changes w v calls t n = ((status_of v t ≡ status_of w t) × ChangesAtMost v calls t n) ⊎ ((m : ℕ) × (n ≡ m + 1) × ChangesAtMost v calls t m)

passed_later : (w v : Worker) (calls : List WorkerCall) (t n : ℕ) → (status_of w t ≡ Failed → 1 ≤ n) → Passes (status_of w t) (status_of v t)
    → ((m : ℕ) → (status_of v t ≡ Failed → 1 ≤ m) → ChangesAtMost v calls t m) → Changes w v calls t n
passed_later w v calls t n enough (inl same) next = inl (same, next n (λ failed. enough (sym same ∙ failed)))
passed_later w v calls t zero enough (inr it) next = absurd (let one = enough it.0 in omega (arith, one))
passed_later w v calls t (suc m) enough (inr it) next = inr (m, omega arith, next m (λ failed. absurd (let no : Restarting ≡ Failed = sym it.1 ∙ failed in cc)))

-- behind its own check only one that waits changes, once
later : (from : ℕ) (checks : List Check) (w : Worker) (t : ℕ) → t < from → (n : ℕ) → (status_of w t ≡ Failed → 1 ≤ n) → ChangesAtMost w (calls_from from checks) t n
later from [] w t before n enough = tt
later from (passed ∷ checks) w t before n enough = later (from + 1) checks w t (omega (arith, before)) n enough
later from (asked it ∷ checks) w t before n enough =
    let same = answered_other w from t it (omega (arith, before)) in
    inl (same, later (from + 1) checks (after_ready w from it) t (omega (arith, before)) n (λ failed. enough (sym same ∙ failed)))
later from (remade ∷ checks) w t before n enough = passed_later w (after_restarted w from) (calls_from (from + 1) checks) t n enough (restarted_other w from t (omega (arith, before)))
    (λ m some. later (from + 1) checks (after_restarted w from) t (omega (arith, before)) m some)

-- at its own check it changes at most once
own : (from : ℕ) (checks : List Check) (v : Worker) (n : ℕ) → 1 ≤ n → (status_of v from ≡ Failed → 2 ≤ n) → (m : ℕ) × (n ≡ m + 1) × ChangesAtMost v (calls_from (from + 1) checks) from m
own from checks v zero some enough = absurd (omega (arith, some))
own from checks v (suc m) some enough = (m, omega arith, later (from + 1) checks v from (omega arith) m (λ failed. let two = enough failed in omega (arith, two)))

passed_ahead : (w v : Worker) (calls : List WorkerCall) (t n : ℕ) → 1 ≤ n → (status_of w t ≢ Restarting → 2 ≤ n) → Passes (status_of w t) (status_of v t)
    → ((m : ℕ) → 1 ≤ m → (status_of v t ≢ Restarting → 2 ≤ m) → ChangesAtMost v calls t m) → Changes w v calls t n
passed_ahead w v calls t n some enough (inl same) next = inl (same, next n some (λ not. enough (λ is. not (same ∙ is))))
passed_ahead w v calls t zero some enough (inr it) next = absurd (omega (arith, some))
passed_ahead w v calls t (suc m) some enough (inr it) next =
    let two : 2 ≤ suc m = enough (λ is. let no : Failed ≡ Restarting = sym it.0 ∙ is in cc) in
    inr (m, omega arith, next m (omega (arith, two)) (λ not. absurd (not it.1)))

ahead : (from : ℕ) (checks : List Check) (w : Worker) (t : ℕ) → from ≤ t → AllAllowed w (calls_from from checks) → (n : ℕ) → 1 ≤ n → (status_of w t ≢ Restarting → 2 ≤ n) → ChangesAtMost w (calls_from from checks) t n
ahead from [] w t behind all n some enough = tt
ahead from (passed ∷ checks) w t behind all n some enough = elim (cases_eq t from) [
  | inl same ↦ later (from + 1) checks w t (omega (arith, same)) n (λ failed. some)
  | inr other ↦ ahead (from + 1) checks w t (omega (arith, behind, other)) all n some enough
]
ahead from (asked it ∷ checks) w t behind all n some enough = elim (cases_eq t from) [
  | inl same ↦
      let stands : status_of w t ≢ Restarting = λ is. true≢false (sym all.0.asked ∙ ap is_asked (subst (λ k. status_of w k ≡ Restarting) same is)) in
      subst (λ k. ChangesAtMost w (calls_from from (asked it ∷ checks)) k n) (sym same) (inr (own from checks (after_ready w from it) n some (λ failed. enough stands)))
  | inr other ↦
      let still = answered_other w from t it other in
      inl (still, ahead (from + 1) checks (after_ready w from it) t (omega (arith, behind, other)) all.1 n some (λ not. enough (λ is. not (still ∙ is))))
]
ahead from (remade ∷ checks) w t behind all n some enough = elim (cases_eq t from) [
  | inl same ↦ subst (λ k. ChangesAtMost w (calls_from from (remade ∷ checks)) k n) (sym same) (inr (own from checks (after_restarted w from) n some
      (λ failed. absurd (let no : Unavailable ≡ Failed = sym (restarted_own w from all.0.listens) ∙ failed in cc))))
  | inr other ↦ passed_ahead w (after_restarted w from) (calls_from (from + 1) checks) t n some enough (restarted_other w from t other)
      (λ m one two. ahead (from + 1) checks (after_restarted w from) t (omega (arith, behind, other)) all.1 m one two)
]

pub twice : (checks : List Check) (w : Worker) (t : ℕ) → AllAllowed w (calls_from 0 checks) → ChangesAtMost w (calls_from 0 checks) t 2
twice checks w t all = ahead 0 checks w t (omega arith) all 2 (omega arith) (λ not. omega arith)
