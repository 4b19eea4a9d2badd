-- A new acceptor.
use Rattle.std.proofs.Common.{◌≡◌, ◌^◌, ◌<◌, ◌≤◌, ℕ, zero, suc, true, replicate, refl, sym, ◌∙◌, ap, arith}
use Rattle.std.specs.Prelude.{nat_lt, slice_index_or, sum}
use Rattle.std.specs.List.{range_with_len}
use Rattle.std.specs.FinSet.{contains-from_list_nat}
use Rattle.std.proofs.lemmas.Bool.Decides.{nat_tests}
use Rattle.server_core.specs.Core.{fresh}
use Rattle.std.proofs.lemmas.List.Folds.{sum_by-replicate}
use Rattle.server_acceptor.proofs.PlaceSteps.{IsPatient, IsRuled}

pub zero_at : (n t : ℕ) → slice_index_or {A = ℕ} (replicate n 0) t 0 ≡ 0
zero_at zero t = refl
zero_at (suc n) zero = refl
zero_at (suc n) (suc t) = zero_at n t

pub new_small : (n t : ℕ) → slice_index_or (replicate n 0) t 0 < 2 ^ 48
new_small n t = omega (arith, zero_at n t)

pub new_patient : (workers listeners limit : ℕ) → 1 ≤ limit → IsPatient (fresh workers listeners) limit
new_patient workers listeners limit some t opened = omega (arith, some, zero_at listeners t)

pub new_ruled : (workers listeners limit : ℕ) → 1 ≤ limit → IsRuled (fresh workers listeners) limit
new_ruled workers listeners limit some v there =
    let fits : nat_lt 0 limit ≡ true = grind (arith, nat_tests) in
    contains-from_list_nat (range_with_len 0 workers) v ∙ there ∙ sym fits ∙ ap (λ n. nat_lt n limit) (sym (zero_at workers v))

pub new_sum : (n : ℕ) → 0 ≡ sum (replicate n 0)
new_sum n = omega (arith, sum_by-replicate (λ k. k) n 0)
