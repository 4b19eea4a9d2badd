-- When a listener that never fails is done.
use Rattle.std.proofs.Common.{◌≡◌, ◌≢◌, ◌≤◌, ◌++◌, ℕ, zero, suc, Bool, List, [], ◌∷◌, length, map, drop, take, Option, None, Some, IfSome, IsTrue, inl, inr, refl, sym, ap, ◌∙◌, subst, arith}
use Rattle.std.specs.Option.{option_map}
use Rattle.std.proofs.lemmas.Option.{same_Some}
use Rattle.server_bind.specs.Limiting.{until}
use Rattle.server_run.specs.Listener.{Mark, gives, in_a_row}
use Rattle.server_run.specs.Report.{IsTold, Tells}
use Rattle.server_run.specs.declared.report.End.TheVariants.{Drained}
use Rattle.server_run.specs.declared.report.ListenerState.TheVariants.{Faulted}
use Rattle.server_run.specs.declared.report.Report.{Report}

-- connections alone come until so many have come
until_gives : {L : Type 0} (n : ℕ) (links : List L) → until n (map (λ (l : L). gives) links) ≡ map (λ (l : L). gives) (take n links)
until_gives zero links = refl
until_gives (suc n) [] = refl
until_gives (suc n) (link ∷ links) = ap (λ ms. gives ∷ ms) (until_gives n links)

-- none of them is a failure
no_row : {L : Type 0} (links : List L) (came left : List Mark) → map (λ (l : L). gives) links ≡ came ++ left → in_a_row 0 came ≡ 0
no_row links [] left is = refl
no_row [] (m ∷ came) left is = absurd (empty is)
  where
    empty : [] ≡ m ∷ (came ++ left) → ⊥
    empty same = cc
no_row (link ∷ links) (m ∷ came) left is = ap (λ (x : Mark). in_a_row 0 (x ∷ came)) (sym (first is)) ∙ no_row links came left (behind is)
  where
    first : gives ∷ map (λ (l : _). gives) links ≡ m ∷ (came ++ left) → gives ≡ m
    first same = cc

    behind : gives ∷ map (λ (l : _). gives) links ≡ m ∷ (came ++ left) → map (λ (l : _). gives) links ≡ came ++ left
    behind same = cc

all_gone : {L : Type 0} (n : ℕ) (links : List L) → drop n links ≡ [] → length links ≤ n
all_gone n [] none = omega arith
all_gone zero (link ∷ links) none = absurd (some none)
  where
    some : link ∷ links ≡ [] → ⊥
    some same = cc
all_gone (suc n) (link ∷ links) none = let rest = all_gone n links none in omega (arith, rest)

module _ {W L : Type 0} (rest : W → Option (List Mark)) (ended : W → Bool) (faults : W → ℕ) (left : W → Option (List L)) (retry_limit : ℕ) (old new : W) (report : Report)
    (told : Tells rest ended faults retry_limit (old ∷ []) (new ∷ []) report) (retries : retry_limit ≢ 0)
    (links : List L) (limit : ℕ) (rest_is : rest old ≡ option_map (until limit) (Some (map (λ (l : L). gives) links))) where
  not_faulted : IsTold report 0 (Faulted retry_limit) → ⊥
  not_faulted faulted =
      let failed = told.state_by_rest 0 (omega arith) in
      let row = failed.exactly.0 faulted in
      absurd (retries (sym row ∙ no_marks (rest new) failed.came failed.gone))
    where
      no_marks : (now : Option (List Mark)) (came : List Mark) → rest old ≡ option_map (λ marks. came ++ marks) now → in_a_row 0 came ≡ 0
      no_marks None came gone = absurd (none gone)
        where
          none : rest old ≡ None → ⊥
          none is = let some = rest_is in cc
      no_marks (Some marks) came gone =
          no_row (take limit links) came marks (sym (until_gives limit links) ∙ same_Some _ _ (sym rest_is ∙ gone))

  -- it is drained only where it ended
  pub drained_ended : report.end ≡ Drained → IsTrue (ended new)
  drained_ended drained = elim (told.drained drained 0 (omega arith)) [
    | inl is_ended ↦ is_ended
    | inr faulted ↦ absurd (not_faulted faulted)
  ]

  -- and then all of them came
  pub all_came : (rise : ℕ) → IfSome (left new) (λ ls. ls ≡ []) → left new ≡ option_map (drop rise) (Some (take limit links)) → length (take limit links) ≤ rise
  all_came rise none remains = all_gone rise (take limit links) (subst (λ (o : Option (List L)). IfSome o (λ ls. ls ≡ [])) remains none)
