-- What sums of answers are, and what a map that adds one adds.
use Rattle.std.proofs.Common.{◌≡◌, ◌∙◌, ℕ, ◌+◌, ◌%◌, ◌^◌, ◌<◌, Result, Ok, Err, inl, inr, refl, sym, rules, arith, sum, map}
use Rattle.std.proofs.Math.Nat.{add-mod, mod-add-mod}
use Rattle.std.proofs.lemmas.List.FromFn.{sum_by-map-range_with_len_more}
use Rattle.std.specs.List.{range_with_len}
use Rattle.service_combine.specs.Meaning.{Mapped, OkBy, OrRefused}
use Rattle.bench_combine.specs.Adding.{Adds, total}

pub total-more : (k calls : ℕ) → (total k calls + (calls + k) % 2 ^ 32) % 2 ^ 32 ≡ total k (calls + 1)
total-more k calls =
    let so_far : ℕ = sum (map (λ n. n + k) (range_with_len 0 calls)) in
    let more : sum (map (λ n. n + k) (range_with_len 0 (calls + 1))) ≡ so_far + (calls + k)
    = sum_by-map-range_with_len_more (λ n. n) (λ n. n + k) 0 calls calls (omega arith) in
    rw more (sym (add-mod so_far (calls + k) (2 ^ 32)))

pub one-more : (n k : ℕ) → ((n + k) % 2 ^ 32 + 1) % 2 ^ 32 ≡ (n + (k + 1)) % 2 ^ 32
one-more n k =
    let same : n + (k + 1) ≡ n + k + 1 = omega arith in
    rw same (mod-add-mod (n + k) (2 ^ 32) 1)

pub unchanged : (n : ℕ) → n < 2 ^ 32 → n ≡ (n + 0) % 2 ^ 32
unchanged n fits = omega arith

same-ok : {E : Type 0} (r : Result ℕ E) (a b : ℕ) → r ≡ Ok a → r ≡ Ok b → a ≡ b
same-ok r a b one other = cc

apart : {E : Type 0} (r : Result ℕ E) (a : ℕ) (e : E) → r ≡ Ok a → r ≡ Err e → ⊥
apart r a e ok err = let no : Ok a ≡ Err e = sym ok ∙ err in search rules

module _ {E : Type 0} (k n : ℕ) (may : Result ℕ E → Type 0) (turned : ℕ → ℕ → Type 0) where
  mapped-from : ((b : ℕ) → may (Ok b) → b ≡ (n + k) % 2 ^ 32)
      → ((b c : ℕ) → turned b c → c ≡ (b + 1) % 2 ^ 32)
      → (from r : Result ℕ E) (a : ℕ) → r ≡ Ok a → may from → OkBy turned from r → a ≡ (n + (k + 1)) % 2 ^ 32
  mapped-from adds turns from r a is given (inl ok) =
      let adds-k : ok.0 ≡ (n + k) % 2 ^ 32 = adds ok.0 (rw ok.2 at given) in
      let adds-one : ok.1 ≡ (ok.0 + 1) % 2 ^ 32 = turns ok.0 ok.1 ok.4 in
      let adds-both : ok.1 ≡ (n + (k + 1)) % 2 ^ 32 = (rw adds-k at adds-one) ∙ one-more n k in
      same-ok r a ok.1 is ok.3 ∙ adds-both
  mapped-from adds turns from r a is given (inr err) = absurd (apart r a err.0 is err.2)

  mapped-adds : (refusal : E) → ((b : ℕ) → may (Ok b) → b ≡ (n + k) % 2 ^ 32)
      → ((b c : ℕ) → turned b c → c ≡ (b + 1) % 2 ^ 32)
      → (r : Result ℕ E) (a : ℕ) → r ≡ Ok a → OrRefused (Mapped may turned) refusal r → a ≡ (n + (k + 1)) % 2 ^ 32
  mapped-adds refusal adds turns r a is (inl follows) =
      mapped-from adds turns follows.value r a is follows.comes follows.holds
  mapped-adds refusal adds turns r a is (inr refused) = absurd (apart r a refusal is refused)

-- a map that adds one, over a service that adds k
pub map-adds : {E : Type 0} (k : ℕ) (may : ℕ → Result ℕ E → Type 0) (turned : ℕ → ℕ → Type 0) (refusal : E)
    → Adds k may → ((b c : ℕ) → turned b c → c ≡ (b + 1) % 2 ^ 32)
    → Adds (k + 1) (λ q. OrRefused (Mapped (may q) turned) refusal)
map-adds k may turned refusal adds turns n a fits given =
    mapped-adds k n (may n) turned refusal (λ b given. adds n b fits given) turns (Ok a) a refl given
