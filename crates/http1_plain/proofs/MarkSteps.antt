-- Marks that are set stay, and a name whose mark is not set stands in no list of names whose marks are.
use Rattle.std.proofs.Common.{◌≡◌, ◌<◌, ◌+◌, ◌*◌, ◌/◌, ◌%◌, ◌^◌, ℕ, zero, suc, true, false, List, [], ◌∷◌, length, get_or, replicate, take, drop, slice_index, slice_index_or, slice_set, bit_or, IsTrue, arith, refl, sym, ap, ◌∙◌, subst, inl, inr}
use Rattle.std.specs.Prelude.{◌==◌}
use Rattle.std.specs.Int.{bit_at, w64}
use Rattle.std.proofs.lemmas.Bool.{cases_eq, eqb-true, eq-eqb}
use Rattle.std.proofs.lemmas.Nat.Bits.{bit_at-zero, bit_at_or, bit_at-lt, bit_at_set_same}
use Rattle.std.proofs.lemmas.Slice.Eq.{bytes_eq-Decides}
use Rattle.std.proofs.lemmas.List.{get_or-set_same, get_or-set_other}
use Rattle.std.proofs.lemmas.List.Elements.{All-more, All-weaker}
use Rattle.http1_grammar.specs.Headers.{Header, is_named}
use Rattle.http1_plain.specs.Marks.{mark_of, has_bit, has_mark, IsMarked}
use Rattle.http1_plain.specs.NamesLeft.{has_name}
use Rattle.http1_plain.proofs.NameSteps.{here}
use Rattle.http1_plain.specs.declared.name_marks.NameMarks.{NameMarks}

none_at : (n k : ℕ) → slice_index (replicate n 0) k ≡ 0
none_at zero k = refl
none_at (suc n) zero = refl
none_at (suc n) (suc k) = none_at n k

pub no_mark : (marks : NameMarks) → marks.words ≡ replicate 16 0 → (name : List ℕ) → has_mark marks name ≡ false
unfolding has_mark
no_mark marks is name =
    ap (λ word. bit_at word (mark_of name % 64) == 1) (ap (λ (words : List ℕ). slice_index words (mark_of name / 64)) is ∙ none_at 16 (mark_of name / 64))
    ∙ ap (λ b. b == 1) (bit_at-zero (mark_of name % 64))

pub bit_set : (words : List ℕ) (at : ℕ) → at / 64 < length words
    → IsTrue (has_bit (slice_set words (at / 64) (bit_or (slice_index_or words (at / 64) 0) (1 * 2 ^ (at % 64) % 18446744073709551616))) at)
bit_set words at l =
    rw (get_or-set_same words (at / 64) (bit_or (slice_index_or words (at / 64) 0) (1 * 2 ^ (at % 64) % 18446744073709551616)) 0 l)
    (eq-eqb _ 1 (bit_at_set_same w64 (slice_index_or words (at / 64) 0) (at % 64) (omega arith)))

stays : (a b i : ℕ) → (bit_at a i == 1) ≡ true → (bit_at (bit_or a b) i == 1) ≡ true
stays a b i h =
    let was : bit_at a i ≡ 1 = eqb-true (bit_at a i) 1 h in
    eq-eqb _ 1 (omega (arith, bit_at_or a b i, bit_at-lt (bit_or a b) i))

pub bit_kept : (words : List ℕ) (at more other : ℕ) → at / 64 < length words → IsTrue (has_bit words other)
    → IsTrue (has_bit (slice_set words (at / 64) (bit_or (slice_index_or words (at / 64) 0) more)) other)
bit_kept words at more other l h =
    elim (cases_eq (other / 64) (at / 64)) [
      | inl same ↦ rw (same, get_or-set_same words (at / 64) (bit_or (slice_index_or words (at / 64) 0) more) 0 l)
          (stays (slice_index_or words (at / 64) 0) more (other % 64) (rw same at h))
      | inr apart ↦ rw (get_or-set_other words (at / 64) (other / 64) (bit_or (slice_index_or words (at / 64) 0) more) 0 apart) h
    ]

-- a name whose mark isn't set is that of no header
other_name : (marks : NameMarks) (header : Header) (name : List ℕ) → has_mark marks name ≡ false → IsTrue (has_mark marks header.0)
    → is_named name header ≡ false
other_name marks header name unset set =
    elim (is_named name header) as (λ b. is_named name header ≡ b → b ≡ false) [
      | true ↦ λ same. sym set ∙ ap (has_mark marks) ((bytes_eq-Decides header.0 name).0 same) ∙ unset
      | false ↦ λ _. refl
    ] refl

-- no header of the list has the name
abbrev NoneHas : List ℕ → List Header → Type 0
NoneHas name headers = (k : ℕ) (d : Header) → k < length headers → is_named name (get_or headers k d) ≡ false

none_has : (marks : NameMarks) (headers : List Header) (name : List ℕ) → IsMarked marks headers → has_mark marks name ≡ false → NoneHas name headers
none_has marks headers name marked unset k d l = other_name marks (get_or headers k d) name unset (marked k d l)

-- ---- the marks of a list that changes

abbrev Shows : NameMarks → Header → Type 0
Shows marks header = IsTrue (has_mark marks header.0)

-- all that was set is set
abbrev Stays : NameMarks → NameMarks → Type 0
Stays before after = (name : List ℕ) → IsTrue (has_mark before name) → IsTrue (has_mark after name)

marked_more : (before after : NameMarks) (headers : List Header) → Stays before after → IsMarked before headers → IsMarked after headers
marked_more before after headers kept marked = All-weaker (Shows before) (Shows after) (λ header. kept header.0) headers marked

-- one header on
pub marked_on : (before after : NameMarks) (headers rest : List Header) (place : ℕ) (d : Header) (name : List ℕ) → place < length headers
    → Stays before after → IsTrue (has_mark after name) → name ≡ (get_or rest 0 d).0 → rest ≡ drop place headers
    → IsMarked before (take place headers) → IsMarked after (take (place + 1) headers)
marked_on before after headers rest place d name l kept set named back marked =
    All-more (Shows after) headers place d l (marked_more before after (take place headers) kept marked)
    (subst (λ n. IsTrue (has_mark after n)) (named ∙ ap (λ (h : Header). h.0) (here headers rest place d l back)) set)

none_any : (headers : List Header) (name : List ℕ) → NoneHas name headers → has_name headers name ≡ false
none_any [] name h = refl
none_any (header ∷ headers) name h =
    rw (h 0 header (omega arith)) (none_any headers name (λ k d l. h (suc k) d (omega arith)))

pub unmarked_name : (marks : NameMarks) (headers : List Header) (name : List ℕ) → IsMarked marks headers → has_mark marks name ≡ false
    → has_name headers name ≡ false
unmarked_name marks headers name marked unset = none_any headers name (none_has marks headers name marked unset)
