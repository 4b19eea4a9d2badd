-- Words that ask to listen.
use Rattle.std.proofs.Common.{◌≡◌, ℕ, Bool, true, false, List, [], ◌∷◌, Option, None, Some, if◌then◌else◌, codes, get_or, IsUtf8, refl, ap}
use Rattle.std.proofs.lemmas.Str.{IsUtf8-from_is_utf8, is_utf8-from_IsUtf8}
use Rattle.std.specs.Option.{option_and_then, option_map}
use Rattle.std.specs.Str.{bytes_eq, is_utf8}
use Rattle.script.specs.Numbers.{number_in, number_to}
use Rattle.server_program.specs.Forms.{form_of, generate_form, listen_form}
use Rattle.server_program.specs.declared.form.Form.{Form}
use Rattle.server_program.specs.declared.form.Form.TheVariants.{Replay, Listen, Generate}

module _ (limit : ℕ) where
  not_replay : (b : Bool) → (if b then Some Replay else None) ≡ Some (Listen limit) → ⊥
  not_replay true is = cc
  not_replay false is = cc

  not_none : None ≡ Some (Listen limit) → ⊥
  not_none is = cc

  not_seeded : (count : ℕ) (seed : Option ℕ) → option_map (λ k. Generate count k) seed ≡ Some (Listen limit) → ⊥
  not_seeded count None is = cc
  not_seeded count (Some k) is = cc

  not_made : (count seed : Option ℕ) → option_and_then (λ n. option_map (λ k. Generate n k) seed) count ≡ Some (Listen limit) → ⊥
  not_made None seed is = cc
  not_made (Some n) seed is = not_seeded n seed is

  not_generate : (b : Bool) (count seed : Option ℕ) → (if b then option_and_then (λ n. option_map (λ k. Generate n k) seed) count else None) ≡ Some (Listen limit) → ⊥
  not_generate true count seed is = not_made count seed is
  not_generate false count seed is = not_none is

  text_if : (b : Bool) (form : Option Form) → (if b then form else None) ≡ Some (Listen limit) → b ≡ true
  text_if true form is = refl
  text_if false form is = absurd (not_none is)

  by_word : (listens : Bool) (text : Bool) (form other : Option Form) → (other ≡ Some (Listen limit) → ⊥)
      → (if listens then (if text then form else None) else other) ≡ Some (Listen limit) → text ≡ true
  by_word true text form other never is = text_if text form is
  by_word false text form other never is = absurd (never is)

  -- the second is text
  pub second_is_text : (word second third : List ℕ) → form_of (word ∷ second ∷ third ∷ []) ≡ Some (Listen limit) → is_utf8 second ≡ true
  second_is_text word second third is =
      by_word (bytes_eq word (codes "listen")) (is_utf8 second) (option_map Listen (number_in 1 1000000 third))
      (if bytes_eq word (codes "generate") then generate_form second third else None)
      (not_generate (bytes_eq word (codes "generate")) (number_in 1 100000 second) (number_to 2147483647 third)) is

-- an address that is text, and one that is none
pub text_form : (addr limit : List ℕ) → IsUtf8 addr → listen_form addr limit ≡ option_map Listen (number_in 1 1000000 limit)
text_form addr limit text = ap (λ (b : Bool). if b then option_map Listen (number_in 1 1000000 limit) else None) (is_utf8-from_IsUtf8 addr text)

pub no_text_form : (addr limit : List ℕ) → (IsUtf8 addr → ⊥) → listen_form addr limit ≡ None
no_text_form addr limit none = by (is_utf8 addr) refl
  where
    by : (b : Bool) → is_utf8 addr ≡ b → listen_form addr limit ≡ None
    by true is = absurd (none (IsUtf8-from_is_utf8 addr is))
    by false is = ap (λ (b : Bool). if b then option_map Listen (number_in 1 1000000 limit) else None) is

-- the address in the words is text
pub address_is_text : (limit : ℕ) (words : List (List ℕ)) (other : List ℕ) → form_of words ≡ Some (Listen limit) → IsUtf8 (get_or words 1 other)
address_is_text limit [] other is = absurd (not_none limit is)
address_is_text limit (word ∷ []) other is = absurd (not_replay limit (bytes_eq word (codes "replay")) is)
address_is_text limit (word ∷ second ∷ []) other is = absurd (not_none limit is)
address_is_text limit (word ∷ second ∷ third ∷ []) other is = IsUtf8-from_is_utf8 second (second_is_text limit word second third is)
address_is_text limit (word ∷ second ∷ third ∷ more ∷ rest) other is = absurd (not_none limit is)
