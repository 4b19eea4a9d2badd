-- Entries can be put in the order of their places.
use Rattle.std.proofs.Common.{◌≡◌, ◌<◌, ◌≤◌, ◌+◌, ℕ, zero, suc, nat_lt, Bool, true, false, List, [], ◌∷◌, map, length, get_or, refl, subst, arith}
use Rattle.std.specs.List.Sorted.{IsPermutation}
use Rattle.std.proofs.lemmas.Bool.{ltb-false, ltb-true}
use Rattle.std.proofs.lemmas.Bool.Decides.{nat_tests}
use Rattle.std.proofs.lemmas.List.Sorted.{IsPermutation-cons, IsPermutation-middle, IsPermutation-refl, IsPermutation-sym, IsPermutation-trans}
use Rattle.server_run.specs.declared.entry.Entry.{Entry}
use Rattle.server_run.specs.declared.memory_link.MemoryLink.{MemoryLink}
use Rattle.report.specs.Report.{IsByPlace}
use Rattle.report.proofs.Rising.{RisesFrom}

abbrev places_of : List (Entry MemoryLink) → List ℕ
places_of entries = map (λ (e : Entry MemoryLink). e.place) entries

-- before the first that has a higher place
abbrev put : Bool → Entry MemoryLink → Entry MemoryLink → List (Entry MemoryLink) → List (Entry MemoryLink) → List (Entry MemoryLink)
put true e x xs rest = x ∷ rest
put false e x xs rest = e ∷ x ∷ xs

abbrev insert_entry : Entry MemoryLink → List (Entry MemoryLink) → List (Entry MemoryLink)
insert_entry e [] = e ∷ []
insert_entry e (x ∷ xs) = put (nat_lt x.place e.place) e x xs (insert_entry e xs)

swapped : (e x : Entry MemoryLink) (xs : List (Entry MemoryLink)) → IsPermutation (e ∷ x ∷ xs) (x ∷ e ∷ xs)
swapped e x xs = IsPermutation-sym (x ∷ e ∷ xs) (e ∷ x ∷ xs) (IsPermutation-middle (x ∷ []) e xs)

put_same : (b : Bool) (e x : Entry MemoryLink) (xs rest : List (Entry MemoryLink)) → IsPermutation (e ∷ xs) rest → IsPermutation (e ∷ x ∷ xs) (put b e x xs rest)
put_same true e x xs rest same = IsPermutation-trans (e ∷ x ∷ xs) (x ∷ e ∷ xs) (x ∷ rest) (swapped e x xs) (IsPermutation-cons x (e ∷ xs) rest same)
put_same false e x xs rest same = IsPermutation-refl (e ∷ x ∷ xs)

inserted : (e : Entry MemoryLink) (xs : List (Entry MemoryLink)) → IsPermutation (e ∷ xs) (insert_entry e xs)
inserted e [] = IsPermutation-refl (e ∷ [])
inserted e (x ∷ xs) = put_same (nat_lt x.place e.place) e x xs (insert_entry e xs) (inserted e xs)

put_rises : (b : Bool) (low : ℕ) (e x : Entry MemoryLink) (xs rest : List (Entry MemoryLink)) → nat_lt x.place e.place ≡ b → low ≤ e.place → low ≤ x.place
    → RisesFrom x.place (places_of xs) → (x.place ≤ e.place → RisesFrom x.place (places_of rest)) → RisesFrom low (places_of (put b e x xs rest))
put_rises true low e x xs rest test from first up more = (first, more (let lt = ltb-true _ _ test in omega (arith, lt)))
put_rises false low e x xs rest test from first up more = (from, (let ge = ltb-false _ _ test in omega (arith, ge), up))

insert_rises : (low : ℕ) (e : Entry MemoryLink) (xs : List (Entry MemoryLink)) → low ≤ e.place → RisesFrom low (places_of xs) → RisesFrom low (places_of (insert_entry e xs))
insert_rises low e [] from up = (from, tt)
insert_rises low e (x ∷ xs) from up =
    put_rises (nat_lt x.place e.place) low e x xs (insert_entry e xs) refl from up.0 up.1 (λ below. insert_rises x.place e xs below up.1)

-- in order
abbrev sorted : List (Entry MemoryLink) → List (Entry MemoryLink)
sorted [] = []
sorted (e ∷ es) = insert_entry e (sorted es)

same : (es : List (Entry MemoryLink)) → IsPermutation es (sorted es)
same [] = IsPermutation-refl []
same (e ∷ es) = IsPermutation-trans (e ∷ es) (e ∷ sorted es) (insert_entry e (sorted es)) (IsPermutation-cons e es (sorted es) (same es)) (inserted e (sorted es))

rises : (es : List (Entry MemoryLink)) → RisesFrom 0 (places_of (sorted es))
rises [] = tt
rises (e ∷ es) = insert_rises 0 e (sorted es) (omega arith) (rises es)

-- the second of two neighbours is no lower
next_up : (low : ℕ) (es : List (Entry MemoryLink)) → RisesFrom low (places_of es) → (k : ℕ) (d : Entry MemoryLink) → k + 1 < length es → (get_or es k d).place ≤ (get_or es (k + 1) d).place
next_up low [] up k d within = absurd (omega (arith, within))
next_up low (e ∷ []) up k d within = absurd (omega (arith, within))
next_up low (e ∷ x ∷ es) up zero d within = up.1.0
next_up low (e ∷ x ∷ es) up (suc k) d within =
    subst (λ (n : ℕ). (get_or (x ∷ es) k d).place ≤ (get_or (e ∷ x ∷ es) n d).place) (one_more k) (next_up e.place (x ∷ es) up.1 k d (omega (arith, within)))
  where
    one_more : (n : ℕ) → suc (n + 1) ≡ suc n + 1
    one_more n = omega arith

-- the entries by place
pub sorted_entries : (es : List (Entry MemoryLink)) → (ordered : List (Entry MemoryLink)) × IsPermutation es ordered × IsByPlace ordered
sorted_entries es = (sorted es, same es, by_place)
  where
    by_place : IsByPlace (sorted es)
    by_place = λ k d first within. let le = next_up 0 (sorted es) (rises es) k d (omega (arith, within)) in grind (arith, nat_tests)
