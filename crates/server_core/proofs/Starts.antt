-- A new core.
use Rattle.std.proofs.Common.{◌≡◌, ℕ, zero, suc, ◌+◌, ◌<◌, ◌≤◌, true, false, true≢false, [], ◌∷◌, ◌++◌, length, refl, sym, ap, subst, ◌∙◌, arith, nat_eq}
use Rattle.std.specs.Prelude.{◌==◌, replicate, sum}
use Rattle.std.specs.List.{range_with_len, IsDistinct}
use Rattle.std.specs.Cmp.{nat_cmp_total}
use Rattle.std.specs.FinSet as set
use Rattle.std.specs.FinSet.{contains-from_list_nat, from_list_push, nat_cmp-IsAntisymmetric}
use Rattle.std.proofs.lemmas.Bool.Decides.{nat_tests}
use Rattle.std.proofs.lemmas.List.{length-replicate}
use Rattle.std.proofs.lemmas.List.Sums.{sum_by-cons}
use Rattle.server_core.specs.Numbers.{Numbers}
use Rattle.server_core.specs.Core.{IsKept, fresh, in_order}
use Rattle.server_core.proofs.Orders.{or_true, distinct-push}

pub range_more : (a n : ℕ) → range_with_len a n ++ (a + n) ∷ [] ≡ range_with_len a (suc n)
range_more a zero = ap (λ k. k ∷ []) (omega arith)
range_more a (suc n) = ap (λ k. a ∷ (range_with_len (a + 1) n ++ k ∷ [])) (omega arith) ∙ ap (λ xs. a ∷ xs) (range_more (a + 1) n)

range_suc : (n : ℕ) → range_with_len 0 n ++ n ∷ [] ≡ range_with_len 0 (suc n)
range_suc n = let zero_on : n ≡ 0 + n = omega arith in ap (λ k. range_with_len 0 n ++ k ∷ []) zero_on ∙ range_more 0 n

pub range_next : (n : ℕ) → range_with_len 0 n ++ n ∷ [] ≡ range_with_len 0 (n + 1)
range_next n = let more : suc n ≡ n + 1 = omega arith in range_suc n ∙ ap (range_with_len 0) more

abbrev pub numbers_to : ℕ → Numbers
numbers_to n = set.from_list (range_with_len 0 n)

pub all_next : (n : ℕ) → set.insert (set.from_list (range_with_len 0 n)) n ≡ numbers_to (n + 1)
all_next n = sym (from_list_push nat_cmp_total nat_cmp-IsAntisymmetric (range_with_len 0 n) n) ∙ ap (λ xs. set.from_list xs) (range_next n)

within_range : (a n v : ℕ) → in_order (range_with_len a n) v ≡ true → v < a + n
within_range a zero v i = absurd (true≢false (sym i))
within_range a (suc n) v i =
    elim (a == v) as (λ b. (a == v) ≡ b → v < a + suc n) [
      | true ↦ λ t. grind (arith, nat_tests)
      | false ↦ λ t. let rest = within_range (a + 1) n v (or_true (a == v) (in_order (range_with_len (a + 1) n) v) i t) in omega arith
    ] refl

pub past_range : (n : ℕ) → in_order (range_with_len 0 n) n ≡ false
past_range n =
    elim (in_order (range_with_len 0 n) n) as (λ b. in_order (range_with_len 0 n) n ≡ b → b ≡ false) [
      | true ↦ λ t. let small = within_range 0 n n t in absurd (omega arith)
      | false ↦ λ _. refl
    ] refl

distinct_range : (n : ℕ) → IsDistinct nat_eq (range_with_len 0 n)
unfolding IsDistinct
distinct_range zero = tt
distinct_range (suc n) = subst (λ xs. IsDistinct nat_eq xs) (range_suc n) (distinct-push (range_with_len 0 n) n (past_range n) (distinct_range n))

sum_zeros : (n : ℕ) → sum (replicate n 0) ≡ 0
sum_zeros zero = refl
sum_zeros (suc n) = sum_by-cons (λ x. x) 0 (replicate n 0) ∙ ap (λ k. 0 + k) (sum_zeros n)

pub kept_fresh : (workers listeners : ℕ) → workers ≤ 512 → IsKept (fresh workers listeners)
kept_fresh workers listeners few =
    let size : length (replicate {A = ℕ} workers 0) ≡ workers = length-replicate workers 0 in
    let nothing : sum (replicate workers 0) ≡ 0 = sum_zeros workers in
    record {
      workers = omega arith;
      listeners = length-replicate listeners 0 ∙ sym (length-replicate listeners false);
      balance = omega arith;
      bound = omega arith;
      stopped = λ _. refl;
      numbers = λ w i. let small = within_range 0 workers w i in omega arith;
      distinct = distinct_range workers;
      free_in_order = λ w i. sym (contains-from_list_nat (range_with_len 0 workers) w) ∙ i;
      next_is_place = λ h. absurd (omega arith);
    }
