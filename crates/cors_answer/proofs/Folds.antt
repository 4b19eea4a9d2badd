-- A fold over texts behind references: one text more, and the end, where all texts are in.
use Rattle.std.proofs.Common.{◌≡◌, ℕ, ◌+◌, ◌<◌, ◌≤◌, List, Bor, length, get_or, take, fold, map, sym, ap, ◌∙◌}
use Rattle.std.proofs.lemmas.List.{take_all}
use Rattle.std.proofs.lemmas.List.Folds.{fold-map}
use Rattle.std.proofs.lemmas.List.Sums.{fold_more}

module _ {B : Type 0} (f : B → List ℕ → B) (start : B) (texts : List (Bor (List ℕ))) where
  pub folded_one : (i : ℕ) (d : Bor (List ℕ)) → i < length texts
      → (old : B) → old ≡ fold (λ b t. f b t.now) start (take i texts)
      → (text : List ℕ) → text ≡ (get_or texts i d).now
      → (new : B) → new ≡ f old text
      → new ≡ fold (λ b t. f b t.now) start (take (i + 1) texts)
  folded_one i d in_range old so_far text read new goes =
      goes ∙ ap (f old) read ∙ ap (λ b. f b (get_or texts i d).now) so_far ∙ sym (fold_more (λ b t. f b t.now) start texts i d in_range)

  pub folded_all : (i : ℕ) → length texts ≤ i → (last : B) → last ≡ fold (λ b t. f b t.now) start (take i texts)
      → last ≡ fold f start (map (λ t. t.now) texts)
  folded_all i past last so_far =
      so_far ∙ ap (fold (λ b t. f b t.now) start) (take_all i texts past) ∙ sym (fold-map f (λ t. t.now) start texts)
