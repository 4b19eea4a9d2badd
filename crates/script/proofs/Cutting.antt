-- Bytes that are cut into pieces.
use Rattle.std.proofs.Common.{◌≡◌, ◌≤◌, ◌<◌, ℕ, zero, suc, ◌+◌, ◌-◌, ◌*◌, ◌/◌, ltb, Bool, true, false, List, [], ◌∷◌, ◌++◌, length, take, drop, map, min, refl, sym, ◌∙◌, ap, arith, take-append-drop, length-drop, append_assoc, append-nil}
use Rattle.std.proofs.Math.Nat.{add-div_right, div-eq_of_lt, div-le_self, lt-div-mul-add, mul_comm}
use Rattle.std.proofs.lemmas.Bool.Decides.{nat_tests}
use Rattle.std.proofs.lemmas.List.{take_min, drop_min}
use Rattle.std.specs.Simd.{first_chunks}
use Rattle.std.specs.Slice.Iter.{chunk_count}
use Rattle.server_run.specs.declared.read_step.ReadStep.{ReadStep}
use Rattle.server_run.specs.declared.read_step.ReadStep.TheVariants.{Give}
use Rattle.server_run.specs.Steps.{given_by}
use Rattle.script.specs.Planned.{gives, pieces}

-- a part more than a count that is one part less has
parts_more : (n m k : ℕ) → 0 < k → n ≡ m + k → n / k ≡ m / k + 1
parts_more n m k some is = ap (λ a. a / k) is ∙ add-div_right m some

-- how many parts there are, without the bound that the definition shows
parts : (n k : ℕ) → 0 < k → chunk_count n k ≡ (n + k - 1) / k
parts zero k some = let e : (0 + k - 1) / k ≡ 0 = div-eq_of_lt (omega (arith, some)) in omega (arith, e)
parts (suc n) k some =
    let e : (suc n + k - 1) / k ≡ n / k + 1 = parts_more (suc n + k - 1) n k some (omega arith) in
    let small : n / k ≤ n = div-le_self n k in
    omega (arith, e, small)

-- one part more than the rest has
count_more : (n k : ℕ) → 0 < k → 0 < n → chunk_count n k ≡ suc (chunk_count (n - k) k)
count_more n k some more = by_size (ltb n k) refl
  where
    by_size : (t : Bool) → ltb n k ≡ t → chunk_count n k ≡ suc (chunk_count (n - k) k)
    by_size true is =
        let less : n < k = grind (arith, nat_tests, is) in
        let e : (n + k - 1) / k ≡ (n - 1) / k + 1 = parts_more (n + k - 1) (n - 1) k some (omega (arith, more)) in
        let z : (n - 1) / k ≡ 0 = div-eq_of_lt (omega (arith, less)) in
        let rest : chunk_count (n - k) k ≡ 0 = omega (arith, less) in
        omega (arith, e, z, rest, parts n k some)
    by_size false is =
        let enough : k ≤ n = grind (arith, nat_tests, is) in
        let e : (n + k - 1) / k ≡ (n - k + k - 1) / k + 1 = parts_more (n + k - 1) (n - k + k - 1) k some (omega (arith, enough, some)) in
        omega (arith, e, parts n k some, parts (n - k) k some)

-- the first piece, and those behind it
first_piece : (cut : ℕ) (bytes : List ℕ) → 0 < cut → 0 < length bytes → pieces cut bytes ≡ take cut bytes ∷ pieces cut (drop cut bytes)
first_piece cut bytes some more =
    ap (λ n. first_chunks cut n bytes) (count_more (length bytes) cut some more)
    ∙ ap (λ n. take cut bytes ∷ first_chunks cut (chunk_count n cut) (drop cut bytes)) (sym (length-drop cut bytes))

-- there are enough pieces
all_counted : (n k : ℕ) → 0 < k → n ≤ k * chunk_count n k
all_counted n k some =
    let over : n ≤ (n + k - 1) / k * k = omega (arith, lt-div-mul-add {a = n + k - 1} {b = k} some, some) in
    rw (parts n k some, mul_comm k ((n + k - 1) / k)) over

-- the pieces together are the bytes
together : (cut n : ℕ) (bytes : List ℕ) → length bytes ≤ cut * n → given_by (map Give (first_chunks cut n bytes)) ≡ bytes
together cut zero [] within = refl
together cut zero (b ∷ bytes) within = absurd (omega (arith, within))
together cut (suc n) bytes within =
    let rest : length (drop cut bytes) ≤ cut * n = rw length-drop (omega (arith, within)) in
    ap (λ more. take cut bytes ++ more) (together cut n (drop cut bytes) rest) ∙ take-append-drop cut bytes

pub pieces_together : (cut : ℕ) (bytes : List ℕ) → 0 < cut → given_by (gives cut bytes) ≡ bytes
pieces_together cut bytes some = together cut (chunk_count (length bytes) cut) bytes (all_counted (length bytes) cut some)

no_bytes : (cut : ℕ) (rest : List ℕ) → length rest ≡ 0 → gives cut rest ≡ []
no_bytes cut [] none = let few : chunk_count 0 cut ≡ 0 = omega arith in ap (λ n. map Give (first_chunks cut n [])) few
no_bytes cut (b ∷ rest) none = absurd (omega (arith, none))

-- one piece was given, and the rest is still to be given
module _ (cut : ℕ) (before now : List ReadStep) (bytes rest : List ℕ) (some : 0 < cut) where
  pub one_given : now ++ gives cut rest ≡ before ++ gives cut bytes → 0 < length rest
      → (now ++ Give (take (min cut (length rest)) rest) ∷ []) ++ gives cut (drop (min cut (length rest)) rest) ≡ before ++ gives cut bytes
  one_given so_far more =
      rw (take_min, drop_min) (append_assoc now (Give (take cut rest) ∷ []) (gives cut (drop cut rest))
      ∙ ap (λ (steps : List (List ℕ)). now ++ map Give steps) (sym (first_piece cut rest some more)) ∙ so_far)

  pub all_given : now ++ gives cut rest ≡ before ++ gives cut bytes → length rest ≡ 0 → now ≡ before ++ gives cut bytes
  all_given so_far none = sym (append-nil now) ∙ ap (λ steps. now ++ steps) (sym (no_bytes cut rest none)) ∙ so_far
