-- The answers to one request after another.
use Rattle.std.proofs.Common.{◌≡◌, ◌-◌, ℕ, zero, suc, List, [], ◌++◌, arith, refl, sym, ap, ◌∙◌, Option, Some, None}
use Rattle.http1_grammar.specs.Next.{Next, next}
use Rattle.http1_grammar.specs.Answers.{Settings, Answers, done, on_next, answers_within}
use Rattle.http_plain.specs.HandedOn.{turned}

pub no_count : {P : Type 0} (count : ℕ) (settings : Settings P) (peer : P) (bytes : List ℕ) → count ≡ 0
    → ([], done) ≡ answers_within count settings peer bytes
unfolding answers_within
no_count count settings peer bytes e = rw e refl

counted : {P : Type 0} (count : ℕ) (settings : Settings P) (peer : P) (bytes : List ℕ) → (count ≡ 0 → ⊥)
    → on_next settings (answers_within (count - 1) settings peer) peer (next settings.limits bytes) ≡ answers_within count settings peer bytes
unfolding answers_within
counted zero settings peer bytes n = absurd (n refl)
counted (suc count) settings peer bytes n = rw (one_less count) refl
  where
    one_less : (n : ℕ) → suc n - 1 ≡ n
    one_less n = omega arith

module _ {P : Type 0} (count : ℕ) (settings : Settings P) (peer : P) (bytes written : List ℕ) (rest : Option (List ℕ)) (step : Next)
    (some : count ≡ 0 → ⊥) (is : step ≡ next settings.limits bytes)
    (turn : turned (answers_within (count - 1) settings peer) written rest ≡ on_next settings (answers_within (count - 1) settings peer) peer step) where
  counts : turned (answers_within (count - 1) settings peer) written rest ≡ answers_within count settings peer bytes
  counts = turn ∙ ap (on_next settings (answers_within (count - 1) settings peer) peer) is ∙ counted count settings peer bytes some

  pub ends : rest ≡ None → (written, done) ≡ answers_within count settings peer bytes
  ends e = ap (turned (answers_within (count - 1) settings peer) written) (sym e) ∙ counts

  pub goes_on : (more seen behind all : List ℕ) → rest ≡ Some more → seen ≡ more
      → (behind, done) ≡ answers_within (count - 1) settings peer seen → all ≡ written ++ behind → (all, done) ≡ answers_within count settings peer bytes
  goes_on more seen behind all e s b w =
      ap (λ x. (x, done)) w ∙ ap (λ (a : Answers). (written ++ a.0, a.1)) (b ∙ ap (answers_within (count - 1) settings peer) s)
      ∙ ap (turned (answers_within (count - 1) settings peer) written) (sym e) ∙ counts
