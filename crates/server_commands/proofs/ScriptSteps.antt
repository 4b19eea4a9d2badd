-- The commands among the first of some steps.
use Rattle.std.proofs.Common.{◌≡◌, ◌+◌, ℕ, zero, suc, List, [], ◌∷◌, ◌++◌, take, drop, None, Some, slice_get, refl, sym, ap, subst, ◌∙◌, arith}
use Rattle.std.proofs.Math.Seq.{take-add}
use Rattle.server_core.specs.declared.command.Command.{Command}
use Rattle.server_commands.specs.declared.commands.Next.TheVariants as next
use Rattle.server_commands.specs.declared.script_commands.CommandStep.{CommandStep}
use Rattle.server_commands.specs.declared.script_commands.CommandStep.TheVariants.{Give, NotYet}
use Rattle.server_commands.specs.Steps.{IsNext, commands_in}

commands_in-append : (a b : List CommandStep) → commands_in (a ++ b) ≡ commands_in a ++ commands_in b
commands_in-append [] b = refl
commands_in-append (Give command ∷ a) b = ap (λ cs. command ∷ cs) (commands_in-append a b)
commands_in-append (NotYet ∷ a) b = commands_in-append a b

-- the step at a place is the first of those from there on
pub first_there : (n : ℕ) (steps : List CommandStep) (s : CommandStep) → slice_get steps n ≡ Some s → drop n steps ≡ s ∷ drop (suc n) steps
first_there zero [] s at = absurd (none at)
  where
    none : None ≡ Some s → ⊥
    none same = cc
first_there zero (x ∷ steps) s at = cc
first_there (suc n) [] s at = absurd (none at)
  where
    none : None ≡ Some s → ⊥
    none same = cc
first_there (suc n) (x ∷ steps) s at = first_there n steps s at

pub gives : (n : ℕ) (steps : List CommandStep) (command : Command) → slice_get steps n ≡ Some (Give command) → IsNext (drop n steps) (next.Given command) (drop (n + 1) steps)
gives n steps command at = let e : n + 1 ≡ suc n = omega arith in subst (λ (ss : List CommandStep). IsNext ss (next.Given command) (drop (n + 1) steps)) (sym (first_there n steps (Give command) at)) (refl, ap (λ (k : ℕ). drop k steps) e)

pub waits : (n : ℕ) (steps : List CommandStep) → slice_get steps n ≡ Some NotYet → IsNext (drop n steps) next.NotYet (drop (n + 1) steps)
waits n steps at = let e : n + 1 ≡ suc n = omega arith in subst (λ (ss : List CommandStep). IsNext ss next.NotYet (drop (n + 1) steps)) (sym (first_there n steps NotYet at)) (refl, ap (λ (k : ℕ). drop k steps) e)

one_more : (n : ℕ) (steps : List CommandStep) (s : CommandStep) → slice_get steps n ≡ Some s → commands_in (take (n + 1) steps) ≡ commands_in (take n steps) ++ commands_in (s ∷ [])
one_more n steps s at = ap commands_in (take-add n 1 steps) ∙ commands_in-append (take n steps) (take 1 (drop n steps))
    ∙ ap (λ more. commands_in (take n steps) ++ commands_in more) (ap (take 1) (first_there n steps s at))

pub given_one : (n : ℕ) (steps : List CommandStep) (command : Command) → slice_get steps n ≡ Some (Give command) → Some (commands_in (take (n + 1) steps)) ≡ Some (commands_in (take n steps) ++ command ∷ [])
given_one n steps command at = ap Some (one_more n steps (Give command) at)

pub given_none : (n : ℕ) (steps : List CommandStep) → slice_get steps n ≡ Some NotYet → Some (commands_in (take (n + 1) steps)) ≡ Some (commands_in (take n steps))
given_none n steps at = ap Some (one_more n steps NotYet at ∙ none (commands_in (take n steps)))
  where
    none : {A : Type 0} (xs : List A) → xs ++ [] ≡ xs
    none [] = refl
    none (x ∷ xs) = ap (λ ys. x ∷ ys) (none xs)
