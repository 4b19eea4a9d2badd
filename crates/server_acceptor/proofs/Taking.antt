-- One ring from which notes were taken, seen in the list of the rings of all workers.
use Rattle.std.proofs.Common.{◌≡◌, ◌≢◌, ℕ, zero, suc, ◌+◌, ◌-◌, ◌<◌, Bool, true, false, true≢false, cond, List, [], ◌∷◌, ◌++◌, length, get_or, set, sum_by, Contains, Option, Some, IfSome, refl, sym, ap, subst, ◌∙◌, arith, inl, inr, get_or-set_same, get_or-set_other}
use Rattle.std.specs.Prelude.{nat_eq, slice_get, slice_index, slice_index_or, slice_set}
use Rattle.std.specs.List.{list_all}
use Rattle.std.specs.Option.{option_map_or}
use Rattle.std.proofs.Math.ListN.{length-set}
use Rattle.std.proofs.lemmas.Bool.{cases_eq}
use Rattle.std.proofs.lemmas.Bool.Decides.{nat_tests}
use Rattle.std.proofs.lemmas.List.{append-nil}
use Rattle.std.proofs.lemmas.List.Elements.{Contains-append_left, Contains-append_right, Contains-push}
use Rattle.std.proofs.lemmas.List.Sums.{sum_by-append}
use Rattle.std.proofs.lemmas.Option.{slice_get-get_or}
use Rattle.rtrb.specs.Ring.{known_items, received}
use Rattle.rtrb.specs.declared.consumer.Consumer.{Consumer}
use Rattle.service_core.specs.Link.{Identity}
use Rattle.server_core.specs.Core.{Core}
use Rattle.server_jobs.specs.Cards.{of_note}
use Rattle.server_jobs.specs.declared.note.Note.{Note}
use Rattle.server_acceptor.specs.Accepting.{received_at}
use Rattle.server_acceptor.specs.Notes.{AreLeft, count_back}

where_some : {X : Type 0} (P : X → Type 0) (o : Option X) (x : X) → o ≡ Some x → P x → IfSome o P
where_some P o x is p = rw is p

of_some : {X : Type 0} (P : X → Type 0) (o : Option X) (x : X) → o ≡ Some x → IfSome o P → P x
of_some P o x is p = rw is at p

set_elsewhere : {X : Type 0} (xs : List X) (w v : ℕ) (y : X) → v ≢ w → slice_get (set xs w y) v ≡ slice_get xs v
set_elsewhere [] w v y differ = refl
set_elsewhere (x ∷ xs) zero zero y differ = absurd (differ refl)
set_elsewhere (x ∷ xs) zero (suc v) y differ = refl
set_elsewhere (x ∷ xs) (suc w) zero y differ = refl
set_elsewhere (x ∷ xs) (suc w) (suc v) y differ = set_elsewhere xs w v y (λ e. differ (ap (λ n. suc n) e))

-- all stay marked where one more is
pub all_marked : (xs : List Bool) (w : ℕ) → list_all (λ r. r) xs ≡ true → list_all (λ r. r) (set xs w true) ≡ true
all_marked [] w all = refl
all_marked (true ∷ xs) zero all = all
all_marked (true ∷ xs) (suc w) all = all_marked xs w all
all_marked (false ∷ xs) w all = absurd (true≢false (sym all))

pub not_all_before : (xs : List Bool) (w : ℕ) → list_all (λ r. r) (set xs w true) ≡ false → list_all (λ r. r) xs ≡ false
not_all_before xs w less = elim (list_all (λ r. r) xs) as (λ b. list_all (λ r. r) xs ≡ b → b ≡ false) [
  | true ↦ λ all. absurd (true≢false (sym (all_marked xs w all) ∙ less))
  | false ↦ λ some. refl
] refl

-- one note alone
pub one_note : {X : Type 0} (x y : X) → x ≡ y → Contains (x ∷ []) y
one_note x y is = subst (λ z. Contains (x ∷ []) z) is (Contains-push [] x)

-- it weighs one, or none
pub count_as_one : (before : ℕ) (test : Bool) (weight : ℕ) (count : ℕ) → weight ≡ 1 → count ≡ cond test 1 0 → before + cond test (0 + weight) 0 ≡ before + count
count_as_one before true weight count one is = omega (arith, one, is)
count_as_one before false weight count one is = omega (arith, is)

pub count_as_none : (before : ℕ) (test : Bool) (weight : ℕ) → weight ≡ 0 → before + cond test (0 + weight) 0 ≡ before + 0
count_as_none before true weight none = omega (arith, none)
count_as_none before false weight none = refl

-- the count of one worker fell
pub out_elsewhere : (before after : List ℕ) (w v : ℕ) → after ≡ slice_set before w (slice_index before w - 1) → v ≢ w → slice_index after v ≡ slice_index before v
out_elsewhere before after w v is differ = ap (λ xs. slice_index xs v) is ∙ get_or-set_other before w v (slice_index before w - 1) 0 differ

module _ {L A P : Type 0} (ns ps : List (Consumer (Note L) A P)) (w : ℕ) (p q : Consumer (Note L) A P) (more : List (Note L)) (now : ns ≡ set ps w q)
    (inside : w < length ps) (is : p ≡ get_or ps w p) (came : received q ≡ received p ++ more) where
  at_before : slice_get ps w ≡ Some p
  at_before = slice_get-get_or ps w p inside ∙ ap Some (sym is)

  at_after : slice_get ns w ≡ Some q
  at_after = ap (λ xs. slice_get xs w) now ∙ slice_get-get_or (set ps w q) w q (omega (arith, length-set ps w q)) ∙ ap Some (get_or-set_same ps w q q inside)

  elsewhere : (v : ℕ) → v ≢ w → slice_get ns v ≡ slice_get ps v
  elsewhere v differ = ap (λ xs. slice_get xs v) now ∙ set_elsewhere ps w v q differ

  at_it : received_at ns w ≡ received_at ps w ++ more
  at_it = ap (λ o. option_map_or (λ c. received c) o []) at_after ∙ came ∙ ap (λ xs. xs ++ more) (sym (ap (λ o. option_map_or (λ c. received c) o []) at_before))

  pub received_more : (v : ℕ) → (xs : List (Note L)) × (received_at ns v ≡ received_at ps v ++ xs)
  received_more v = elim (cases_eq v w) [
    | inl same ↦ rw same (more, at_it)
    | inr differ ↦ ([], ap (λ o. option_map_or (λ c. received c) o []) (elsewhere v differ) ∙ sym (append-nil (received_at ps v)))
  ]

  pub received_this : (n : Note L) → Contains more n → (xs : List (Note L)) × ((received_at ns w ≡ received_at ps w ++ xs) × Contains xs n)
  received_this n has = (more, (at_it, has))

  pub has_still : (n : Note L) (v : ℕ) → IfSome (slice_get ps v) (λ c. Contains (received c) n) → IfSome (slice_get ns v) (λ c. Contains (received c) n)
  has_still n v before = elim (cases_eq v w) [
    | inl same ↦ rw same (where_some (λ c. Contains (received c) n) (slice_get ns w) q at_after (subst (λ xs. Contains xs n) (sym came) (Contains-append_left (received p) more n
        (of_some (λ c. Contains (received c) n) (slice_get ps w) p at_before (subst (λ u. IfSome (slice_get ps u) (λ c. Contains (received c) n)) same before)))))
    | inr differ ↦ subst (λ o. IfSome o (λ c. Contains (received c) n)) (sym (elsewhere v differ)) before
  ]

  pub has_now : (n : Note L) → Contains more n → IfSome (slice_get ns w) (λ c. Contains (received c) n)
  has_now n has = where_some (λ c. Contains (received c) n) (slice_get ns w) q at_after (subst (λ xs. Contains xs n) (sym came) (Contains-append_right (received p) more n has))

  -- the worker that told that it is ready is marked
  pub marked_now : (marks : List Bool) (n : Note L) → Contains more n → ((v : ℕ) → slice_index_or marks v false ≡ true → IfSome (slice_get ps v) (λ c. Contains (received c) n))
      → (v : ℕ) → slice_index_or (set marks w true) v false ≡ true → IfSome (slice_get ns v) (λ c. Contains (received c) n)
  marked_now marks n has before v on = elim (cases_eq v w) [
    | inl same ↦ rw same (has_now n has)
    | inr differ ↦ has_still n v (before v (sym (get_or-set_other marks w v true false differ) ∙ on))
  ]

  -- what is known of the others stays
  pub told_still : (s t : Core) (v : ℕ) → t.stopping ≡ s.stopping → slice_index t.out v ≡ slice_index s.out v → v ≢ w
      → IfSome (slice_get ps v) (λ c. AreLeft (slice_index s.out v) s.stopping (known_items c)) → IfSome (slice_get ns v) (λ c. AreLeft (slice_index t.out v) t.stopping (known_items c))
  told_still s t v stopping same differ told = subst (λ o. IfSome o (λ c. AreLeft (slice_index t.out v) t.stopping (known_items c))) (sym (elsewhere v differ))
      (subst (λ k. IfSome (slice_get ps v) (λ c. AreLeft (slice_index t.out v) k (known_items c))) (sym stopping)
      (subst (λ k. IfSome (slice_get ps v) (λ c. AreLeft k s.stopping (known_items c))) (sym same) told))

  pub backs_more : (identity : L → Identity) (v : ℕ) → count_back identity ns v ≡ count_back identity ps v + cond (nat_eq w v) (sum_by (of_note identity (λ x. 1)) more) 0
  backs_more identity v = elim (cases_eq v w) [
    | inl same ↦
        let e : nat_eq w w ≡ true = grind (arith, nat_tests) in
        rw (same, e) (omega (
          arith,
          ap (λ o. option_map_or (λ c. sum_by (of_note identity (λ x. 1)) (received c)) o 0) at_after,
          ap (λ o. option_map_or (λ c. sum_by (of_note identity (λ x. 1)) (received c)) o 0) at_before,
          ap (sum_by (of_note identity (λ x. 1))) came,
          sum_by-append (of_note identity (λ x. 1)) (received p) more,
        ))
    | inr differ ↦
        let e : nat_eq w v ≡ false = grind (arith, nat_tests) in
        rw e (omega (arith, ap (λ o. option_map_or (λ c. sum_by (of_note identity (λ x. 1)) (received c)) o 0) (elsewhere v differ)))
  ]
