-- The set that a table of bits is seen as.
use Rattle.std.proofs.Common.{◌≡◌, ◌≢◌, ℕ, zero, suc, ◌+◌, ◌<◌, ◌≤◌, ◌*◌, ◌^◌, ◌++◌, ◌/◌, ◌%◌, Bool, true, false, cond, List, [], ◌∷◌, length, get_or, set as put, refl, sym, ap, ◌∙◌, arith, nat_eq, nat_lt, get_or-set_other, get_or-set_same}
use Rattle.std.specs.Prelude.{◌&&◌, ◌||◌, ◌==◌, not}
use Rattle.std.specs.List.{list_any}
use Rattle.std.specs.Int.{bit_at}
use Rattle.std.specs.Cmp.{nat_cmp_total, unsigned_tied}
use Rattle.std.specs.Ordering.{nat_cmp, eq_by_cmp}
use Rattle.std.specs.FinSet as set
use Rattle.std.specs.FinSet.{nat_cmp-IsAntisymmetric, contains-from_list_nat, contains-insert, contains-remove, contains-empty, contains-union, from_list_push, same_set}
use Rattle.std.proofs.lemmas.Bool.Decides.{nat_tests}
use Rattle.std.proofs.lemmas.Nat.Bits.{bit_at-zero, bit_at-lt, same_from_bits_below}
use Rattle.server_core.specs.Numbers.{Numbers, with_mark, is_set, any_word, numbers_below}

abbrev pub view_of : List ℕ → Numbers
view_of words = set.from_list (numbers_below 512 words)

or_false : (a : Bool) → (a || false) ≡ a
or_false true = refl
or_false false = refl

or_swapped : (a b c : Bool) → (a || (b || c)) ≡ (b || (a || c))
or_swapped true true c = refl
or_swapped true false c = refl
or_swapped false b c = refl

any_cond : (p : ℕ → Bool) (b : Bool) (n : ℕ) (xs : List ℕ) → list_any p (cond b (n ∷ xs) xs) ≡ ((b && p n) || list_any p xs)
any_cond p true n xs = refl
any_cond p false n xs = refl

last_below : (f : ℕ → Bool) (n q : ℕ) → ((f n && nat_eq n q) || (nat_lt q n && f q)) ≡ (nat_lt q (suc n) && f q)
last_below f n q =
    elim (nat_eq n q) as (λ b. nat_eq n q ≡ b → ((f n && b) || (nat_lt q n && f q)) ≡ (nat_lt q (suc n) && f q)) [
      | true ↦ λ e. grind (arith, nat_tests)
      | false ↦ λ e. grind (arith, nat_tests)
    ] refl

any_below : (n : ℕ) (words : List ℕ) (q : ℕ) → list_any (λ y. nat_eq y q) (numbers_below n words) ≡ (nat_lt q n && is_set words q)
unfolding numbers_below
any_below zero words q = grind (arith, nat_tests)
any_below (suc n) words q =
    any_cond (λ y. nat_eq y q) (is_set words n) n (numbers_below n words)
    ∙ ap (λ r. (is_set words n && nat_eq n q) || r) (any_below n words q)
    ∙ last_below (is_set words) n q

pub contains_view : (words : List ℕ) (q : ℕ) → set.contains (view_of words) q ≡ (nat_lt q 512 && is_set words q)
contains_view words q = contains-from_list_nat _ q ∙ any_below 512 words q

pub contains_view_in : (words : List ℕ) (q : ℕ) → q < 512 → set.contains (view_of words) q ≡ is_set words q
contains_view_in words q h = contains_view words q ∙ grind (arith, nat_tests)

pub contains_view_out : (words : List ℕ) (q : ℕ) → 512 ≤ q → set.contains (view_of words) q ≡ false
contains_view_out words q h = contains_view words q ∙ grind (arith, nat_tests)

pub member_below : (words : List ℕ) (q : ℕ) → set.contains (view_of words) q ≡ true → q < 512
member_below words q there =
    let both : (nat_lt q 512 && is_set words q) ≡ true = sym (contains_view words q) ∙ there in
    grind (arith, nat_tests)

pub contains-with_mark : (s : Numbers) (w : ℕ) (mark : Bool) (q : ℕ) → set.contains (with_mark s w mark) q ≡ cond (nat_eq q w) mark (set.contains s q)
contains-with_mark s w true q = contains-insert nat_cmp_total s w q ∙ ap (λ b. b || set.contains s q) (unsigned_tied q w) ∙ grind (arith, nat_tests)
contains-with_mark s w false q = contains-remove nat_cmp_total s w q ∙ ap (λ b. not b && set.contains s q) (unsigned_tied q w) ∙ grind (arith, nat_tests)

put_there : (words : List ℕ) (w x q : ℕ) → w / 128 < length words → q / 128 ≡ w / 128 → get_or (put words (w / 128) x) (q / 128) 0 ≡ x
put_there words w x q inside e = rw e (get_or-set_same words (w / 128) x 0 inside)

put_elsewhere : (words : List ℕ) (w x q : ℕ) → q / 128 ≢ w / 128 → get_or (put words (w / 128) x) (q / 128) 0 ≡ get_or words (q / 128) 0
put_elsewhere words w x q e = get_or-set_other words (w / 128) (q / 128) x 0 e

is_marked : (mark : Bool) → (cond mark 1 0 == 1) ≡ mark
is_marked true = refl
is_marked false = refl

-- the same of one word: what stands at w, and what at the others
word_says : (words : List ℕ) (w x : ℕ) (mark : Bool) (q : ℕ) → q / 128 ≡ w / 128
    → bit_at x (w % 128) ≡ cond mark 1 0
    → ((i : ℕ) → i < 128 → i ≢ w % 128 → bit_at x i ≡ bit_at (get_or words (w / 128) 0) i)
    → (bit_at x (q % 128) == 1) ≡ cond (nat_eq q w) mark (is_set words q)
word_says words w x mark q group there others =
    elim (nat_eq q w) as (λ b. nat_eq q w ≡ b → (bit_at x (q % 128) == 1) ≡ cond b mark (is_set words q)) [
      | true ↦ λ e. let same : q ≡ w = grind (arith, nat_tests) in rw same (ap (λ n. n == 1) there ∙ is_marked mark)
      | false ↦ λ e. let differ : q ≢ w = grind (arith, nat_tests) in
          let place : q % 128 ≢ w % 128 = omega arith in
          let small : q % 128 < 128 = omega arith in
          ap (λ n. n == 1) (others (q % 128) small place) ∙ ap (λ g. bit_at (get_or words g 0) (q % 128) == 1) (sym group)
    ] refl

-- what the word x, put in place of w's, says of q
is_set-put : (words : List ℕ) (w x : ℕ) (mark : Bool) (q : ℕ) → length words ≡ 4 → w < 512
    → bit_at x (w % 128) ≡ cond mark 1 0
    → ((i : ℕ) → i < 128 → i ≢ w % 128 → bit_at x i ≡ bit_at (get_or words (w / 128) 0) i)
    → is_set (put words (w / 128) x) q ≡ cond (nat_eq q w) mark (is_set words q)
is_set-put words w x mark q size below there others =
    elim (nat_eq (q / 128) (w / 128)) as (λ b. nat_eq (q / 128) (w / 128) ≡ b → is_set (put words (w / 128) x) q ≡ cond (nat_eq q w) mark (is_set words q)) [
      | true ↦ λ e. let group : q / 128 ≡ w / 128 = grind (arith, nat_tests) in
          let within : w / 128 < length words = omega arith in
          ap (λ n. bit_at n (q % 128) == 1) (put_there words w x q within group) ∙ word_says words w x mark q group there others
      | false ↦ λ e. let group : q / 128 ≢ w / 128 = grind (arith, nat_tests) in
          let differ : q ≢ w = λ same. group (ap (λ n. n / 128) same) in
          let other : nat_eq q w ≡ false = grind (arith, nat_tests) in
          rw other (ap (λ n. bit_at n (q % 128) == 1) (put_elsewhere words w x q group))
    ] refl

pub marked_view : (words : List ℕ) (w x : ℕ) (mark : Bool) → length words ≡ 4 → w < 512
    → bit_at x (w % 128) ≡ cond mark 1 0
    → ((i : ℕ) → i < 128 → i ≢ w % 128 → bit_at x i ≡ bit_at (get_or words (w / 128) 0) i)
    → view_of (put words (w / 128) x) ≡ with_mark (view_of words) w mark
marked_view words w x mark size below there others =
    same_set nat_cmp_total nat_cmp-IsAntisymmetric _ _ (λ q.
    elim (nat_lt q 512) as (λ b. nat_lt q 512 ≡ b → set.contains (view_of (put words (w / 128) x)) q ≡ set.contains (with_mark (view_of words) w mark) q) [
      | true ↦ λ e. let inside : q < 512 = grind (arith, nat_tests) in
          contains_view_in _ q inside ∙ is_set-put words w x mark q size below there others
          ∙ ap (λ b. cond (nat_eq q w) mark b) (sym (contains_view_in words q inside)) ∙ sym (contains-with_mark (view_of words) w mark q)
      | false ↦ λ e. let outside : 512 ≤ q = grind (arith, nat_tests) in
          let other : nat_eq q w ≡ false = grind (arith, nat_tests) in
          contains_view_out _ q outside ∙ sym (contains-with_mark (view_of words) w mark q ∙ ap (λ b. cond b mark (set.contains (view_of words) q)) other ∙ contains_view_out words q outside)
    ] refl)

zero_at : (words : List ℕ) (k : ℕ) → any_word words ≡ false → get_or words k 0 ≡ 0
zero_at [] k e = refl
zero_at (x ∷ words) zero e = grind (arith, nat_tests)
zero_at (x ∷ words) (suc k) e = zero_at words k (grind (arith, nat_tests))

pub empty_view : (words : List ℕ) → any_word words ≡ false → view_of words ≡ set.empty
empty_view words e =
    same_set nat_cmp_total nat_cmp-IsAntisymmetric _ _ (λ q.
    let unset : is_set words q ≡ false = ap (λ n. bit_at n (q % 128) == 1) (zero_at words (q / 128) e) ∙ ap (λ n. n == 1) (bit_at-zero (q % 128)) in
    contains_view words q ∙ grind (arith, nat_tests) ∙ sym (contains-empty nat_cmp q))

zeros : (words : List ℕ) → ((k : ℕ) → k < length words → get_or words k 0 ≡ 0) → any_word words ≡ false
zeros [] each = refl
zeros (x ∷ words) each =
    let first : x ≡ 0 = each 0 (omega arith) in
    let rest : any_word words ≡ false = zeros words (λ k h. each (suc k) (omega arith)) in
    grind (arith, nat_tests)

pub view_of_none : (words : List ℕ) → length words ≡ 4 → ((k : ℕ) → get_or words k 0 < 2 ^ 128) → view_of words ≡ set.empty → any_word words ≡ false
view_of_none words size fits e = zeros words (λ k h.
    same_from_bits_below 128 (get_or words k 0) 0 (fits k) (omega arith) (λ i small.
    let q : ℕ = 128 * k + i in
    let inside : 128 * k + i < 512 = omega arith in
    let group : (128 * k + i) / 128 ≡ k = omega arith in
    let place : (128 * k + i) % 128 ≡ i = omega arith in
    let unset = sym (contains_view_in words (128 * k + i) inside) ∙ ap (λ s. set.contains s (128 * k + i)) e ∙ contains-empty nat_cmp (128 * k + i) in
    let here : (bit_at (get_or words k 0) i == 1) ≡ false = rw (group, place) at unset in
    let low = bit_at-lt (get_or words k 0) i in
    let bit : bit_at (get_or words k 0) i ≡ 0 = grind (arith, nat_tests) in
    bit ∙ sym (bit_at-zero i)))

-- marking one more of a list
pub union_empty : (s : Numbers) → set.union s set.empty ≡ s
union_empty s = same_set nat_cmp_total nat_cmp-IsAntisymmetric _ _ (λ q.
    contains-union nat_cmp_total s set.empty q ∙ ap (λ b. set.contains s q || b) (contains-empty nat_cmp q) ∙ or_false _)

pub union_push : (s : Numbers) (ws : List ℕ) (w : ℕ) → set.insert (set.union s (set.from_list ws)) w ≡ set.union s (set.from_list (ws ++ w ∷ []))
union_push s ws w = same_set nat_cmp_total nat_cmp-IsAntisymmetric _ _ (λ q.
    contains-insert nat_cmp_total _ w q
    ∙ ap (λ b. eq_by_cmp nat_cmp q w || b) (contains-union nat_cmp_total s (set.from_list ws) q)
    ∙ or_swapped (eq_by_cmp nat_cmp q w) (set.contains s q) (set.contains (set.from_list ws) q)
    ∙ sym (contains-union nat_cmp_total s (set.from_list (ws ++ w ∷ [])) q
    ∙ ap (λ t. set.contains s q || set.contains t q) (from_list_push nat_cmp_total nat_cmp-IsAntisymmetric ws w)
    ∙ ap (λ b. set.contains s q || b) (contains-insert nat_cmp_total (set.from_list ws) w q)))
