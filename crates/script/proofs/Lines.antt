-- One line of a script more.
use Rattle.std.proofs.Common.{◌≡◌, ◌<◌, ◌+◌, ℕ, List, ◌∷◌, length, drop, get_or, Some, None, Result, Ok, Err, sym, ◌∙◌, ap, arith, add-one}
use Rattle.std.specs.Option.{option_map_or}
use Rattle.std.proofs.Math.Seq.{drop-cons}
use Rattle.std.proofs.lemmas.List.{drop_all}
use Rattle.script.specs.Script.{Plan, after_line, plan_from}

module _ (all : Result Plan ℕ) (plan : Plan) (lines : List (List ℕ)) (i : ℕ) (so_far : all ≡ plan_from plan (i + 1) (drop i lines)) where
  module _ (line : List ℕ) (here : (i < length lines) × (line ≡ get_or lines i line)) where
    one : all ≡ option_map_or (λ next. plan_from next (i + 1 + 1) (drop (i + 1) lines)) (after_line plan line) (Err (i + 1))
    one = let first : drop i lines ≡ line ∷ drop (i + 1) lines = rw add-one (drop-cons lines i line here.0) ∙ ap (λ l. l ∷ drop (i + 1) lines) (sym here.1) in so_far ∙ ap (plan_from plan (i + 1)) first

    pub read_bad : after_line plan line ≡ None → all ≡ Err (i + 1)
    read_bad none = one ∙ ap (λ told. option_map_or (λ next. plan_from next (i + 1 + 1) (drop (i + 1) lines)) told (Err (i + 1))) none

    pub read_on : (next : Plan) → after_line plan line ≡ Some next → all ≡ plan_from next (i + 1 + 1) (drop (i + 1) lines)
    read_on next some = one ∙ ap (λ told. option_map_or (λ next. plan_from next (i + 1 + 1) (drop (i + 1) lines)) told (Err (i + 1))) some

  pub read_all : i ≡ length lines → all ≡ Ok plan
  read_all end = so_far ∙ ap (plan_from plan (i + 1)) (drop_all i lines (omega (arith, end)))
