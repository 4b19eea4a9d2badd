-- One byte of a text more.
use Rattle.std.proofs.Common.{◌≡◌, ◌≢◌, ◌==◌, ◌<◌, ℕ, false, List, [], ◌∷◌, ◌++◌, Option, Some, None, refl, sym, ◌∙◌, ap, append_assoc, arith, ◌≤◌, length, drop, take, ◌-◌, get_or}
use Rattle.std.proofs.lemmas.List.{take_rest}
use Rattle.std.specs.Option.{option_map}
use Rattle.std.proofs.lemmas.Bool.Decides.{nat_tests}
use Rattle.script.specs.Script.{before, escaped, hex_byte, text_bytes}

-- a byte that is another
is_other : (b other : ℕ) → b ≢ other → (b == other) ≡ false
is_other b other differ = grind (arith, nat_tests)

-- a byte that is no backslash stands for itself
pub text_plain : (b : ℕ) (rest : List ℕ) → b ≢ 92 → text_bytes (b ∷ rest) ≡ before (Some b) (text_bytes rest)
text_plain b [] other = rw (is_other b 92 other)
text_plain b (c ∷ []) other = rw (is_other b 92 other)
text_plain b (c ∷ d ∷ []) other = rw (is_other b 92 other)
text_plain b (c ∷ d ∷ e ∷ rest) other = rw (is_other b 92 other)

-- a letter behind a backslash
pub text_escaped : (c : ℕ) (rest : List ℕ) → c ≢ 120 → text_bytes (92 ∷ c ∷ rest) ≡ before (escaped c) (text_bytes rest)
text_escaped c [] other = refl
text_escaped c (d ∷ []) other = refl
text_escaped c (d ∷ e ∷ rest) other = rw (is_other c 120 other)

-- the text so far has one byte more
pub next_byte : (text : Option (List ℕ)) (bytes rest tail : List ℕ) (b : ℕ) → text ≡ option_map (λ more. bytes ++ more) (text_bytes rest) → text_bytes rest ≡ before (Some b) (text_bytes tail)
    → text ≡ option_map (λ more. (bytes ++ b ∷ []) ++ more) (text_bytes tail)
next_byte text bytes rest tail b so_far one = so_far ∙ ap (λ told. option_map (λ more. bytes ++ more) told) one ∙ joined (text_bytes tail)
  where
    joined : (told : Option (List ℕ)) → option_map (λ more. bytes ++ more) (before (Some b) told) ≡ option_map (λ more. (bytes ++ b ∷ []) ++ more) told
    joined None = refl
    joined (Some more) = ap Some (sym (append_assoc bytes (b ∷ []) more))

module _ (text : Option (List ℕ)) (bytes more : List ℕ) (rest tail : List ℕ) (byte : ℕ)
    (so_far : text ≡ option_map (λ others. bytes ++ others) (text_bytes rest)) (pushed : more ≡ bytes ++ byte ∷ []) where
  pub plain_step : tail ≡ drop 1 rest → 1 ≤ length rest → get_or rest 0 0 ≢ 92 → byte ≡ get_or rest 0 0 → text ≡ option_map (λ others. more ++ others) (text_bytes tail)
  plain_step behind some other is = plain rest so_far behind some other is
    where
      plain : (rest : List ℕ) → text ≡ option_map (λ others. bytes ++ others) (text_bytes rest) → tail ≡ drop 1 rest → 1 ≤ length rest → get_or rest 0 0 ≢ 92 → byte ≡ get_or rest 0 0 → text ≡ option_map (λ others. more ++ others) (text_bytes tail)
      plain [] so_far behind some other is = absurd (omega arith)
      plain (b ∷ after) so_far behind some other is = rw (pushed, behind) (next_byte text bytes (b ∷ after) after byte so_far (rw is (text_plain b after other)))

  pub escaped_step : (after : List ℕ) → after ≡ drop 1 rest → tail ≡ drop 1 after → 1 ≤ length rest → 1 ≤ length after → get_or rest 0 0 ≡ 92 → get_or after 0 0 ≢ 120
      → escaped (get_or after 0 0) ≡ Some byte → text ≡ option_map (λ others. more ++ others) (text_bytes tail)
  escaped_step after first behind some one backslash letter is = step rest after so_far first behind some one backslash letter is
    where
      step : (rest after : List ℕ) → text ≡ option_map (λ others. bytes ++ others) (text_bytes rest) → after ≡ drop 1 rest → tail ≡ drop 1 after → 1 ≤ length rest → 1 ≤ length after → get_or rest 0 0 ≡ 92 → get_or after 0 0 ≢ 120
          → escaped (get_or after 0 0) ≡ Some byte → text ≡ option_map (λ others. more ++ others) (text_bytes tail)
      step [] after so_far first behind some one backslash letter is = absurd (omega arith)
      step (b ∷ others) [] so_far first behind some one backslash letter is = absurd (omega arith)
      step (b ∷ others) (c ∷ after) so_far first behind some one backslash letter is =
          let all : b ∷ others ≡ 92 ∷ c ∷ after = cc in
          rw (pushed, behind) (next_byte text bytes (b ∷ others) after byte so_far (ap text_bytes all ∙ text_escaped c after letter ∙ ap (λ told. before told (text_bytes after)) is))

  pub hex_step : (after : List ℕ) (digits : List ℕ) → after ≡ drop 1 rest → digits ≡ drop 1 after → tail ≡ drop 2 digits → 1 ≤ length rest → 1 ≤ length after → 2 ≤ length digits → get_or rest 0 0 ≡ 92 → get_or after 0 0 ≡ 120
      → hex_byte (get_or digits 0 0) (get_or digits 1 0) ≡ Some byte → text ≡ option_map (λ others. more ++ others) (text_bytes tail)
  hex_step after digits first second behind some one two backslash letter is = step rest after digits so_far first second behind some one two backslash letter is
    where
      step : (rest after digits : List ℕ) → text ≡ option_map (λ others. bytes ++ others) (text_bytes rest) → after ≡ drop 1 rest → digits ≡ drop 1 after → tail ≡ drop 2 digits → 1 ≤ length rest → 1 ≤ length after → 2 ≤ length digits → get_or rest 0 0 ≡ 92 → get_or after 0 0 ≡ 120
          → hex_byte (get_or digits 0 0) (get_or digits 1 0) ≡ Some byte → text ≡ option_map (λ others. more ++ others) (text_bytes tail)
      step [] after digits so_far first second behind some one two backslash letter is = absurd (omega arith)
      step (b ∷ others) [] digits so_far first second behind some one two backslash letter is = absurd (omega arith)
      step (b ∷ others) (c ∷ after) [] so_far first second behind some one two backslash letter is = absurd (omega arith)
      step (b ∷ others) (c ∷ after) (d ∷ []) so_far first second behind some one two backslash letter is = absurd (omega arith)
      step (b ∷ others) (c ∷ after) (d ∷ e ∷ digits) so_far first second behind some one two backslash letter is =
          let all : b ∷ others ≡ 92 ∷ 120 ∷ d ∷ e ∷ digits = cc in
          rw (pushed, behind) (next_byte text bytes (b ∷ others) digits byte so_far (ap text_bytes all ∙ ap (λ told. before told (text_bytes digits)) is))

-- what a slice's pattern binds behind n elements
abbrev pub behind_first : ℕ → List ℕ → List ℕ
behind_first n xs = take (length xs - n) (drop n xs)

module _ (text : Option (List ℕ)) (bytes more : List ℕ) (rest : List ℕ) (byte : ℕ)
    (so_far : text ≡ option_map (λ others. bytes ++ others) (text_bytes rest)) (pushed : more ≡ bytes ++ byte ∷ []) where
  pub after_plain : 1 ≤ length rest → get_or rest 0 0 ≢ 92 → byte ≡ get_or rest 0 0 → text ≡ option_map (λ others. more ++ others) (text_bytes (behind_first 1 rest))
  after_plain some other is = plain_step text bytes more rest (behind_first 1 rest) byte so_far pushed (take_rest rest 1) some other is

  pub after_escaped : 1 ≤ length rest → 1 ≤ length (behind_first 1 rest) → get_or rest 0 0 ≡ 92 → get_or (behind_first 1 rest) 0 0 ≢ 120
      → Some byte ≡ escaped (get_or (behind_first 1 rest) 0 0) → text ≡ option_map (λ others. more ++ others) (text_bytes (behind_first 1 (behind_first 1 rest)))
  after_escaped some one backslash letter is = escaped_step text bytes more rest (behind_first 1 (behind_first 1 rest)) byte so_far pushed (behind_first 1 rest) (take_rest rest 1) (take_rest (behind_first 1 rest) 1) some one backslash letter (sym is)

  pub after_hex : 1 ≤ length rest → 1 ≤ length (behind_first 1 rest) → 2 ≤ length (behind_first 1 (behind_first 1 rest)) → get_or rest 0 0 ≡ 92 → get_or (behind_first 1 rest) 0 0 ≡ 120
      → Some byte ≡ hex_byte (get_or (behind_first 1 (behind_first 1 rest)) 0 0) (get_or (behind_first 1 (behind_first 1 rest)) 1 0)
      → text ≡ option_map (λ others. more ++ others) (text_bytes (behind_first 2 (behind_first 1 (behind_first 1 rest))))
  after_hex some one two backslash letter is = hex_step text bytes more rest (behind_first 2 (behind_first 1 (behind_first 1 rest))) byte so_far pushed (behind_first 1 rest) (behind_first 1 (behind_first 1 rest))
      (take_rest rest 1) (take_rest (behind_first 1 rest) 1) (take_rest (behind_first 1 (behind_first 1 rest)) 2) some one two backslash letter (sym is)

-- a backslash with no escape behind it
module _ (text : Option (List ℕ)) (bytes rest : List ℕ) (so_far : text ≡ option_map (λ others. bytes ++ others) (text_bytes rest)) where
  none_then : text_bytes rest ≡ None → None ≡ text
  none_then none = sym (so_far ∙ ap (option_map (λ others. bytes ++ others)) none)

  pub no_letter : 1 ≤ length rest → length (behind_first 1 rest) < 1 → get_or rest 0 0 ≡ 92 → None ≡ text
  no_letter some few backslash = none_then (alone rest (behind_first 1 rest) (take_rest rest 1) some few backslash)
    where
      alone : (rest after : List ℕ) → after ≡ drop 1 rest → 1 ≤ length rest → length after < 1 → get_or rest 0 0 ≡ 92 → text_bytes rest ≡ None
      alone [] after behind some few backslash = absurd (omega arith)
      alone (b ∷ others) (c ∷ after) behind some few backslash = absurd (omega arith)
      alone (b ∷ others) [] behind some few backslash = let all : b ∷ others ≡ 92 ∷ [] = cc in ap text_bytes all

  pub no_digits : 1 ≤ length rest → 1 ≤ length (behind_first 1 rest) → length (behind_first 1 (behind_first 1 rest)) < 2 → get_or rest 0 0 ≡ 92 → get_or (behind_first 1 rest) 0 0 ≡ 120
      → None ≡ text
  no_digits some one few backslash letter =
      none_then (cut rest (behind_first 1 rest) (behind_first 1 (behind_first 1 rest)) (take_rest rest 1) (take_rest (behind_first 1 rest) 1) some one few backslash letter)
    where
      cut : (rest after digits : List ℕ) → after ≡ drop 1 rest → digits ≡ drop 1 after → 1 ≤ length rest → 1 ≤ length after → length digits < 2 → get_or rest 0 0 ≡ 92 → get_or after 0 0 ≡ 120
          → text_bytes rest ≡ None
      cut [] after digits behind second some one few backslash letter = absurd (omega arith)
      cut (b ∷ others) [] digits behind second some one few backslash letter = absurd (omega arith)
      cut (b ∷ others) (c ∷ after) [] behind second some one few backslash letter = let all : b ∷ others ≡ 92 ∷ 120 ∷ [] = cc in ap text_bytes all
      cut (b ∷ others) (c ∷ after) (d ∷ []) behind second some one few backslash letter = let all : b ∷ others ≡ 92 ∷ 120 ∷ d ∷ [] = cc in ap text_bytes all
      cut (b ∷ others) (c ∷ after) (d ∷ e ∷ digits) behind second some one few backslash letter = absurd (omega arith)

  pub no_escape : 1 ≤ length rest → 1 ≤ length (behind_first 1 rest) → get_or rest 0 0 ≡ 92 → get_or (behind_first 1 rest) 0 0 ≢ 120
      → None ≡ escaped (get_or (behind_first 1 rest) 0 0) → None ≡ text
  no_escape some one backslash letter is = none_then (other rest (behind_first 1 rest) (take_rest rest 1) some one backslash letter is)
    where
      other : (rest after : List ℕ) → after ≡ drop 1 rest → 1 ≤ length rest → 1 ≤ length after → get_or rest 0 0 ≡ 92 → get_or after 0 0 ≢ 120 → None ≡ escaped (get_or after 0 0)
          → text_bytes rest ≡ None
      other [] after behind some one backslash letter is = absurd (omega arith)
      other (b ∷ others) [] behind some one backslash letter is = absurd (omega arith)
      other (b ∷ others) (c ∷ after) behind some one backslash letter is =
          let all : b ∷ others ≡ 92 ∷ c ∷ after = cc in
          ap text_bytes all ∙ text_escaped c after letter ∙ ap (λ told. before told (text_bytes after)) (sym is)
