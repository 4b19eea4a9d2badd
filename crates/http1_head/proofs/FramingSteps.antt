-- The framing, from the values of both fields.
use Rattle.std.proofs.Common.{◌≡◌, ◌≤◌, ◌<◌, ◌+◌, ◌-◌, ◌*◌, ℕ, true, false, cond, List, [], ◌∷◌, length, get_or, drop, arith, sym, ap, ◌∙◌, refl, codes, nat_lt, Some, None}
use Rattle.std.specs.Prelude.{◌==◌}
use Rattle.std.specs.List.{list_all}
use Rattle.std.specs.Char.{is_ascii_digit, digit_value}
use Rattle.std.specs.Str.Parse.{digits_value, digits_value_after}
use Rattle.std.proofs.lemmas.Bool.{and_parts, and_from, eqb-false, leb-true, lt-ltb, le-ltb}
use Rattle.std.proofs.lemmas.Option.{none-some, same_Some}
use Rattle.std.proofs.lemmas.List.{at_drop_more, at_drop_all}
use Rattle.std.proofs.lemmas.List.Sums.{AllPass-from_list_all}
use Rattle.http1_grammar.specs.Headers.{get_all}
use Rattle.http1_grammar.specs.Head.{Head}
use Rattle.http1_grammar.specs.Framing.{faulty, sized, framing_by, framing, number_framing}
use Rattle.http1_plain.specs.declared.single.Single.{Single}
use Rattle.http1_plain.specs.declared.single.Single.TheVariants.{Missing, One, Several}
use Rattle.http1_plain.specs.Singles.{IsSingle}
use Rattle.http1_head.specs.declared.framing.Framing.TheVariants.{Sized, TooLarge}
use Rattle.http1_head.specs.Framings.{capped}

pub framing_at : (most : ℕ) (head : Head) (codings lengths : List (List ℕ))
    → get_all head.headers (codes "transfer-encoding") ≡ codings
    → get_all head.headers (codes "content-length") ≡ lengths
    → capped most (framing_by head.minor codings lengths) ≡ capped most (framing head)
unfolding framing
framing_at most head codings lengths c l = rw (c, l) refl

pub two_codings : (minor : ℕ) (a b : List ℕ) (rest lengths : List (List ℕ)) → framing_by minor (a ∷ b ∷ rest) lengths ≡ faulty
two_codings minor a b rest [] = refl
two_codings minor a b rest (l ∷ []) = refl
two_codings minor a b rest (l ∷ m ∷ lengths) = refl

-- a value that is there
pub some_value : (values : List (List ℕ)) (s : Single) → (s ≡ Missing → ⊥) → IsSingle values s
    → (v : List ℕ) × (vs : List (List ℕ)) × (values ≡ v ∷ vs)
some_value values Missing n h = absurd (n refl)
some_value values (One v) n h = (v.now, [], h)
some_value values Several n h = (h.0, h.1 ∷ h.2, h.3)

coding_and_length : (minor : ℕ) (c l : List ℕ) (lengths : List (List ℕ)) → framing_by minor (c ∷ []) (l ∷ lengths) ≡ faulty
coding_and_length minor c l [] = refl
coding_and_length minor c l (m ∷ lengths) = refl

pub coded_and_sized : (minor : ℕ) (c : List ℕ) (lengths : List (List ℕ)) (s : Single) → (s ≡ Missing → ⊥) → IsSingle lengths s
    → framing_by minor (c ∷ []) lengths ≡ faulty
coded_and_sized minor c lengths s n h =
    let some = some_value lengths s n h in
    rw some.2 (coding_and_length minor c some.0 some.1)

-- ---- numbers

digit_is : (b : ℕ) → is_ascii_digit b ≡ true → (48 ≤ b) × (b ≤ 57)
digit_is b h = let parts = and_parts _ _ h in (leb-true 48 b parts.0, leb-true b 57 parts.1)

pub digit_at : (digits : List ℕ) (i : ℕ) → i < length digits → list_all is_ascii_digit digits ≡ true
    → (48 ≤ get_or digits i 0) × (get_or digits i 0 ≤ 57)
digit_at digits i l h = digit_is _ (AllPass-from_list_all is_ascii_digit digits h i 0 l)

digit_value_is : (b : ℕ) → 48 ≤ b → b ≤ 57 → digit_value b ≡ b - 48
digit_value_is b low high = rw (le-ltb b 48 low, lt-ltb b 58 (omega arith)) refl

value_grows : (digits : List ℕ) (n : ℕ) → n ≤ digits_value_after 10 n digits
value_grows [] n = omega arith
value_grows (d ∷ digits) n = let more = value_grows digits (n * 10 + digit_value d) in omega arith

-- the number so far, and the digits behind it
abbrev pub ValueFrom : List ℕ → ℕ → ℕ → Type 0
ValueFrom digits i n = digits_value_after 10 n (drop i digits) ≡ digits_value 10 digits

pub value_more : (digits : List ℕ) (i n : ℕ) → i < length digits → list_all is_ascii_digit digits ≡ true
    → ValueFrom digits i n → ValueFrom digits (i + 1) (n * 10 + (get_or digits i 0 - 48))
value_more digits i n l h before =
    let d = digit_at digits i l h in
    let value : digit_value (get_or digits i 0) ≡ get_or digits i 0 - 48 = digit_value_is _ d.0 d.1 in
    ap (λ m. digits_value_after 10 (n * 10 + m) (drop (i + 1) digits)) (sym value)
    ∙ sym (at_drop_more (digits_value_after 10 n) digits i 0 l) ∙ before

pub value_end : (digits : List ℕ) (i n : ℕ) → length digits ≤ i → ValueFrom digits i n → n ≡ digits_value 10 digits
value_end digits i n l before = sym (at_drop_all (digits_value_after 10 n) digits i l) ∙ before

pub value_above : (digits : List ℕ) (i n most : ℕ) → most < n → ValueFrom digits i n → nat_lt most (digits_value 10 digits) ≡ true
value_above digits i n most l before =
    lt-ltb most _ (let grows = value_grows (drop i digits) n in omega (arith, before))

-- ---- one length

number_is : (value : List ℕ) → (length value == 0) ≡ false → list_all is_ascii_digit value ≡ true
    → number_framing value ≡ sized (digits_value 10 value)
number_is value n d =
    let some : 0 < length value = let e = eqb-false (length value) 0 n in omega arith in
    rw (and_from (nat_lt 0 (length value)) (list_all is_ascii_digit value) (lt-ltb 0 _ some) d) refl

pub sized_within : (most size : ℕ) (value : List ℕ) → (length value == 0) ≡ false → list_all is_ascii_digit value ≡ true
    → Some size ≡ cond (nat_lt most (digits_value 10 value)) None (Some (digits_value 10 value))
    → Sized size ≡ capped most (number_framing value)
sized_within most size value n d h =
    elim (nat_lt most (digits_value 10 value)) as (λ b. Some size ≡ cond b None (Some (digits_value 10 value))
    → Sized size ≡ cond b TooLarge (Sized (digits_value 10 value))) [
      | true ↦ λ k. absurd (none-some size (sym k))
      | false ↦ λ k. ap (λ m. Sized m) (same_Some _ _ k)
    ] h ∙ ap (capped most) (sym (number_is value n d))

pub sized_above : (most : ℕ) (value : List ℕ) → (length value == 0) ≡ false → list_all is_ascii_digit value ≡ true
    → None ≡ cond (nat_lt most (digits_value 10 value)) None (Some (digits_value 10 value))
    → TooLarge ≡ capped most (number_framing value)
sized_above most value n d h =
    elim (nat_lt most (digits_value 10 value)) as (λ b. None ≡ cond b None (Some (digits_value 10 value))
    → TooLarge ≡ cond b TooLarge (Sized (digits_value 10 value))) [
      | true ↦ λ k. refl
      | false ↦ λ k. absurd (none-some (digits_value 10 value) k)
    ] h ∙ ap (capped most) (sym (number_is value n d))
