-- When two policies are equal.
use Rattle.std.specs.Prelude.{Bool, Option, nat_eq, bytes_eq}
use Rattle.std.specs.Bool.{beq}
use Rattle.std.specs.Cmp.{IsEquivalence, IsPartialEquivalence, and_equiv, and_per, bool_eq_equiv, nat_eq_equiv, on_equiv, on_per, partial_equiv_from_equiv}
use Rattle.std.specs.Cmp.Lexicographic.{lists_equiv, lists_per, nat_list_eq_equiv, options_equiv, pointwise}
use Rattle.std.specs.Option.{option_eq}
use Rattle.std.specs.Ordering.{eq_of_both, on}
use Rattle.cors_rules.specs.Allowed.{some_of}
use Rattle.cors_rules.specs.Sets.{Texts}
use Rattle.cors_rules.specs.Policy.{Policy}

-- the same members
abbrev pub texts_eq : Texts → Texts → Bool
texts_eq = pointwise bytes_eq

pub texts_equiv : IsEquivalence texts_eq
texts_equiv = lists_equiv nat_list_eq_equiv

-- both are everything, or both are the same finite set
abbrev pub some_eq : Option Texts → Option Texts → Bool
some_eq = option_eq texts_eq

module _ {G : Type 0} where
  -- the same sets
  abbrev pub sets_eq : Policy G → Policy G → Bool
  sets_eq =
      eq_of_both (on (λ (p : Policy G). some_of p.origins) some_eq)
      (eq_of_both (on (λ (p : Policy G). p.methods) texts_eq)
      (eq_of_both (on (λ (p : Policy G). some_of p.headers) some_eq) (on (λ (p : Policy G). some_of p.exposed) some_eq)))

  -- the same age and the same flags
  abbrev pub flags_eq : Policy G → Policy G → Bool
  flags_eq =
      eq_of_both (on (λ (p : Policy G). p.max_age) (option_eq nat_eq))
      (eq_of_both (on (λ (p : Policy G). p.preflight) beq)
      (eq_of_both (on (λ (p : Policy G). p.wildcard) beq)
      (eq_of_both (on (λ (p : Policy G). p.credentials) beq)
      (eq_of_both (on (λ (p : Policy G). p.vary) beq) (on (λ (p : Policy G). p.block) beq)))))

  -- the same sets, the same rules in the same order, the same age and flags; `same` compares two rules
  abbrev pub policy_eq : (G → G → Bool) → Policy G → Policy G → Bool
  policy_eq same = eq_of_both (on (λ (p : Policy G). p.rules) (pointwise same)) (eq_of_both sets_eq flags_eq)

  sets_equiv : IsEquivalence sets_eq
  sets_equiv =
      and_equiv (on_equiv (λ (p : Policy G). some_of p.origins) (options_equiv texts_equiv))
      (and_equiv (on_equiv (λ (p : Policy G). p.methods) texts_equiv)
      (and_equiv (on_equiv (λ (p : Policy G). some_of p.headers) (options_equiv texts_equiv))
      (on_equiv (λ (p : Policy G). some_of p.exposed) (options_equiv texts_equiv))))

  flags_equiv : IsEquivalence flags_eq
  flags_equiv =
      and_equiv (on_equiv (λ (p : Policy G). p.max_age) (options_equiv nat_eq_equiv))
      (and_equiv (on_equiv (λ (p : Policy G). p.preflight) bool_eq_equiv)
      (and_equiv (on_equiv (λ (p : Policy G). p.wildcard) bool_eq_equiv)
      (and_equiv (on_equiv (λ (p : Policy G). p.credentials) bool_eq_equiv)
      (and_equiv (on_equiv (λ (p : Policy G). p.vary) bool_eq_equiv) (on_equiv (λ (p : Policy G). p.block) bool_eq_equiv)))))

  -- equality is an equivalence where that of the rules is
  pub policy_equiv : (same : G → G → Bool) → IsEquivalence same → IsEquivalence (policy_eq same)
  policy_equiv same laws = and_equiv (on_equiv (λ (p : Policy G). p.rules) (lists_equiv laws)) (and_equiv sets_equiv flags_equiv)

  -- and a partial one where theirs is
  pub policy_per : (same : G → G → Bool) → IsPartialEquivalence same → IsPartialEquivalence (policy_eq same)
  policy_per same laws =
      and_per (on_per (λ (p : Policy G). p.rules) (lists_per laws)) (partial_equiv_from_equiv (and_equiv sets_equiv flags_equiv))
