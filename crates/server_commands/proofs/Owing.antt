-- Which flags are kept.
use Rattle.std.proofs.Common.{◌≡◌, ◌==◌, Bool, true, false, ℕ, List, [], ◌∷◌, All, cond, refl, sym, ap, subst, ◌∙◌}
use Rattle.std.specs.List.{AllByRecursion}
use Rattle.std.proofs.lemmas.List.Elements.{recursion_from_All, All-weaker}
use Rattle.std.proofs.lemmas.List.Folds.{list_any_none}
use Rattle.server_commands.specs.Replies.{is_any_unraised, is_unraised, knows_of, unraised, word_when}
use Rattle.server_commands.specs.declared.raiser.Raiser.{Raiser}

none_kept : (raisers : List Raiser) → AllByRecursion (λ raiser. knows_of raiser ≡ 1) raisers → [] ≡ unraised raisers
none_kept [] h = refl
none_kept (raiser ∷ raisers) h = none_kept raisers h.1 ∙ sym (ap (λ (n : ℕ). cond (n == 0) (raiser ∷ unraised raisers) (unraised raisers)) h.0)

all_kept : (raisers : List Raiser) → AllByRecursion (λ raiser. knows_of raiser ≡ 0) raisers → raisers ≡ unraised raisers
all_kept [] h = refl
all_kept (raiser ∷ raisers) h = ap (λ kept. raiser ∷ kept) (all_kept raisers h.1) ∙ sym (ap (λ (n : ℕ). cond (n == 0) (raiser ∷ unraised raisers) (unraised raisers)) h.0)

-- where the commands have been carried out, each flag is forgotten
pub forgotten : (settled : Bool) (raisers : List Raiser) → settled ≡ true → All (λ raiser. knows_of raiser ≡ word_when settled) raisers → [] ≡ unraised raisers
forgotten settled raisers is known =
    none_kept raisers (recursion_from_All (λ raiser. knows_of raiser ≡ 1) raisers (subst (λ (b : Bool). All (λ raiser. knows_of raiser ≡ word_when b) raisers) is known))

-- where they have not, each is kept
pub kept : (settled : Bool) (raisers : List Raiser) → settled ≡ false → All (λ raiser. knows_of raiser ≡ word_when settled) raisers → raisers ≡ unraised raisers
kept settled raisers is known =
    all_kept raisers (recursion_from_All (λ raiser. knows_of raiser ≡ 0) raisers (subst (λ (b : Bool). All (λ raiser. knows_of raiser ≡ word_when b) raisers) is known))

-- where each is raised, none is left that is not
pub settled : (raisers : List Raiser) → All (λ raiser. knows_of raiser ≡ 1) raisers → is_any_unraised raisers ≡ false
settled raisers raised = list_any_none is_unraised raisers (All-weaker (λ raiser. knows_of raiser ≡ 1) (λ raiser. is_unraised raiser ≡ false) (λ raiser h. ap (λ (n : ℕ). n == 0) h) raisers raised)
