-- A name as it was sent, byte by byte.
use Rattle.std.proofs.Common.{◌≡◌, ◌≢◌, ◌≤◌, ◌<◌, ◌+◌, ℕ, Bool, true, false, List, length, get_or, drop, sym, ap, ◌∙◌, refl, arith}
use Rattle.std.specs.Prelude.{◌==◌, ◌&&◌, bytes_eq}
use Rattle.std.specs.Char.{to_ascii_lowercase}
use Rattle.std.proofs.lemmas.Bool.{ne_eqb, eq-eqb}
use Rattle.std.proofs.lemmas.List.{drop_more, drop_all, length-map, get_or-map}
use Rattle.http_header.specs.Token.{lowercase}

-- whether the rest of the name is equal
abbrev pub rest_eq : List ℕ → List ℕ → ℕ → Bool
rest_eq sent name i = bytes_eq (drop i (lowercase sent)) (drop i name)

module _ (sent name : List ℕ) (i : ℕ) (l : i < length sent) (same : length sent ≡ length name) where
  one_more : rest_eq sent name i ≡ ((to_ascii_lowercase (get_or sent i 0) == get_or name i 0) && rest_eq sent name (i + 1))
  one_more =
      rw (
        drop_more (lowercase sent) i 0 (omega (arith, length-map sent to_ascii_lowercase)),
        drop_more name i 0 (omega arith),
        get_or-map to_ascii_lowercase sent i 0 0 l,
      ) refl

  pub rest_later : to_ascii_lowercase (get_or sent i 0) ≡ get_or name i 0 → rest_eq sent name (i + 1) ≡ rest_eq sent name i
  rest_later e = sym (one_more ∙ ap (λ b. b && rest_eq sent name (i + 1)) (eq-eqb _ _ e))

  pub rest_other : to_ascii_lowercase (get_or sent i 0) ≢ get_or name i 0 → rest_eq sent name i ≡ false
  rest_other n = one_more ∙ ap (λ b. b && rest_eq sent name (i + 1)) (ne_eqb _ _ n)

pub rest_none : (sent name : List ℕ) (i : ℕ) → length sent ≤ i → length sent ≡ length name → rest_eq sent name i ≡ true
rest_none sent name i l same =
    rw (drop_all i (lowercase sent) (omega (arith, length-map sent to_ascii_lowercase)), drop_all i name (omega arith)) refl
