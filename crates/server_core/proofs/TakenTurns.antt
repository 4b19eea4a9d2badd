-- A worker that gets a connection is the first free one.
use Rattle.std.proofs.Common.{◌≡◌, ℕ, zero, suc, ◌+◌, ◌<◌, Bool, true, false, true≢false, cond, List, [], ◌∷◌, ◌++◌, get_or, Option, Some, None, refl, sym, ap, ◌∙◌, arith}
use Rattle.std.specs.Prelude.{◌&&◌, ◌==◌, find, is_some}
use Rattle.std.specs.FinSet as set
use Rattle.std.proofs.lemmas.Bool.Decides.{nat_tests}
use Rattle.server_core.specs.Core.{Core, allowed, step, in_order, round, place_of, first_free, is_at, is_worker}
use Rattle.server_core.specs.Runs.{AllAllowed, TakesTurn, after_all}
use Rattle.server_core.specs.declared.event.Event.{Event}
use Rattle.server_core.specs.declared.event.Event.TheVariants.{Sent}
use Rattle.server_core.proofs.Orders.{and_right, true_or}
use Rattle.server_core.proofs.Picks.{finds, in_round}

place_here : (x : ℕ) (xs : List ℕ) (w : ℕ) → (x == w) ≡ true → place_of (x ∷ xs) w ≡ 0
place_here x xs w e = grind arith

place_later : (x : ℕ) (xs : List ℕ) (w : ℕ) → (x == w) ≡ false → place_of (x ∷ xs) w ≡ 1 + place_of xs w
place_later x xs w e = grind arith

none_earlier : (p : ℕ → Bool) (xs : List ℕ) (w : ℕ) → find p xs ≡ Some w → (k d : ℕ) → k < place_of xs w → p (get_or xs k d) ≡ false
none_earlier p [] w e k d h = absurd (omega arith)
none_earlier p (x ∷ xs) w e k d h =
    elim (p x) as (λ b. p x ≡ b → cond b (Some x) (find p xs) ≡ Some w → p (get_or (x ∷ xs) k d) ≡ false) [
      | true ↦ λ _ f. let same : x ≡ w = cc in let here = place_here x xs w (grind (arith, nat_tests)) in absurd (omega arith)
      | false ↦ λ t f.
          elim (x == w) as (λ b. (x == w) ≡ b → p (get_or (x ∷ xs) k d) ≡ false) [
            | true ↦ λ same. let here = place_here x xs w same in absurd (omega arith)
            | false ↦ λ other. let later = place_later x xs w other in
                elim k as (λ n. n < 1 + place_of xs w → p (get_or (x ∷ xs) n d) ≡ false) [
                  | zero ↦ λ _. t
                  | suc n ↦ λ g. none_earlier p xs w f n d (omega arith)
                ] (omega arith)
          ] refl
    ] refl e

stands_there : (p : ℕ → Bool) (xs : List ℕ) (w : ℕ) → find p xs ≡ Some w → in_order xs w ≡ true
stands_there p [] w e = cc
stands_there p (x ∷ xs) w e =
    elim (p x) as (λ b. cond b (Some x) (find p xs) ≡ Some w → in_order (x ∷ xs) w ≡ true) [
      | true ↦ λ f. let same : x ≡ w = cc in grind (arith, nat_tests)
      | false ↦ λ f. true_or (x == w) (in_order xs w) (stands_there p xs w f)
    ] e

found : (o : Option ℕ) (w : ℕ) → is_at o w ≡ true → o ≡ Some w
found None w e = absurd (true≢false (sym e))
found (Some v) w e = let same : v ≡ w = grind (arith, nat_tests) in ap (λ x. Some x) same

turn : (s : Core) (w : ℕ) (remains : Bool) → allowed s (Sent w remains) ≡ true → TakesTurn s w (step s (Sent w remains)).next
turn s w remains a =
    let first = found (first_free s) w (and_right (is_worker s w && is_some s.waiting) (is_at (first_free s) w) a) in
    record {
      stands = sym (in_round s.order s.next w) ∙ stands_there (λ v. set.contains s.free v) (round s.order s.next) w first;
      free = finds (λ v. set.contains s.free v) (round s.order s.next) w first;
      earlier = none_earlier (λ v. set.contains s.free v) (round s.order s.next) w first;
      behind = refl;
    }

pub takes_turn : (s : Core) (before after : List Event) (w : ℕ) (remains : Bool)
    → AllAllowed s (before ++ Sent w remains ∷ after) → TakesTurn (after_all s before) w (after_all s (before ++ Sent w remains ∷ [])).next
takes_turn s [] after w remains a = turn s w remains a.0
takes_turn s (e ∷ before) after w remains a = takes_turn (step s e) before after w remains a.1
