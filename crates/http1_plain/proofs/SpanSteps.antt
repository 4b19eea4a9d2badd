-- Headers as spans over a text, span by span.
use Rattle.std.proofs.Common.{◌≡◌, ◌≤◌, ◌<◌, ◌+◌, ◌-◌, ℕ, true, false, List, [], ◌∷◌, ◌++◌, length, get_or, take, drop, arith, sym, ap, ◌∙◌, subst, refl, suc, Some, None, length-append}
use Rattle.std.specs.List.{All}
use Rattle.std.specs.Prelude.{Result, Ok, Err, OnErr}
use Rattle.bytes.proofs.Ranges.{slice_range_front}
use Rattle.std.proofs.lemmas.List.{map_push, drop_more, drop_all, take_all, take-append-le, get_or-map}
use Rattle.std.proofs.lemmas.List.Elements.{All-append, All-cons, All-filter, All-map}
use Rattle.std.proofs.Math.Seq.{drop-append_seam}
use Rattle.http_header.specs.FieldName.{IsFieldName}
use Rattle.http_header.specs.Token.{lowercase}
use Rattle.http_header.proofs.TokenLemmas.{IsHeaderName-lowercase}
use Rattle.httparse.specs.declared.spans.Span.{Span}
use Rattle.httparse.specs.declared.spans.HeaderSpan.{HeaderSpan}
use Rattle.httparse.specs.Spans.{span_bytes, IsWithin}
use Rattle.http1_grammar.specs.Headers.{Header, is_named, get, get_all}
use Rattle.http1_plain.specs.Fields.{IsPair, IsValue}
use Rattle.http1_plain.specs.Spanned.{header_at, headers_at, IsSpanOf, StandsAt}

-- ---- bytes that go behind a text

part_kept : (text more : List ℕ) (span : Span) → IsWithin (length text) span → span_bytes (text ++ more) span ≡ span_bytes text span
part_kept text more span within =
    sym (slice_range_front text (text ++ more) span.start span.end (length text)
    (take-append-le (length text) text more (omega arith) ∙ take_all (length text) text (omega arith)) within.1)

pushed_part : (text part : List ℕ) (span : Span) → span.start ≡ length text → span.end ≡ length text + length part
    → span_bytes (text ++ part) span ≡ part
pushed_part text part span s e =
    rw (s, e) (ap (take (length text + length part - length text)) (drop-append_seam text part)
    ∙ take_all (length text + length part - length text) part (omega arith))

span_kept : (text more : List ℕ) (span : HeaderSpan) → IsSpanOf text span → IsSpanOf (text ++ more) span
span_kept text more span h = record {
  within = ((h.within.0.0, omega (arith, length-append text more, h.within.0.1)), (h.within.1.0, omega (arith, length-append text more, h.within.1.1)));
  name = subst IsFieldName (sym (part_kept text more span.name h.within.0)) h.name;
  value = subst IsValue (sym (part_kept text more span.value h.within.1)) h.value;
}

pub spans_kept : (text more : List ℕ) (spans : List HeaderSpan) → All (IsSpanOf text) spans → All (IsSpanOf (text ++ more)) spans
spans_kept text more spans h = λ k d l. span_kept text more (get_or spans k d) (h k d l)

header_kept : (text more : List ℕ) (span : HeaderSpan) → IsSpanOf text span → header_at (text ++ more) span ≡ header_at text span
header_kept text more span h =
    λ i. (lowercase (part_kept text more span.name h.within.0 i), part_kept text more span.value h.within.1 i)

pub all_tail : {X : Type 0} (P : X → Type 0) (x : X) (xs : List X) → All P (x ∷ xs) → All P xs
all_tail P x xs h = λ k d l. h (suc k) d (omega (arith, l))

pub headers_kept : (text more : List ℕ) (spans : List HeaderSpan) → All (IsSpanOf text) spans
    → headers_at (text ++ more) spans ≡ headers_at text spans
headers_kept text more [] h = refl
headers_kept text more (span ∷ spans) h =
    rw (header_kept text more span (h 0 span (omega arith)), headers_kept text more spans (all_tail (IsSpanOf text) span spans h)) refl

-- ---- a pair that goes last

module _ (text name value : List ℕ) (n v : Span)
    (n_start : n.start ≡ length text) (n_end : n.end ≡ length text + length name)
    (v_start : v.start ≡ length (text ++ name)) (v_end : v.end ≡ length (text ++ name) + length value) where
  abbrev pair : HeaderSpan
  pair = record { name = n; value = v }

  name_within : IsWithin (length (text ++ name)) n
  name_within = (omega (arith, n_start, n_end), omega (arith, n_end, length-append text name))

  name_is : span_bytes ((text ++ name) ++ value) n ≡ name
  name_is = part_kept (text ++ name) value n name_within ∙ pushed_part text name n n_start n_end

  value_is : span_bytes ((text ++ name) ++ value) v ≡ value
  value_is = pushed_part (text ++ name) value v v_start v_end

  pair_valid : IsFieldName name → IsValue value → IsSpanOf ((text ++ name) ++ value) pair
  pair_valid valid_name valid_value = record {
    within = (
      (omega (arith, n_start, n_end), omega (arith, n_end, length-append text name, length-append (text ++ name) value)),
      (omega (arith, v_start, v_end), omega (arith, v_end, length-append (text ++ name) value)),
    );
    name = subst IsFieldName (sym name_is) valid_name;
    value = subst IsValue (sym value_is) valid_value;
  }

  pub pushed_valid : (spans : List HeaderSpan) → IsFieldName name → IsValue value → All (IsSpanOf text) spans
      → All (IsSpanOf ((text ++ name) ++ value)) (spans ++ record { name = n; value = v } ∷ [])
  pushed_valid spans valid_name valid_value h =
      All-append (IsSpanOf ((text ++ name) ++ value)) spans (pair ∷ [])
      (spans_kept (text ++ name) value spans (spans_kept text name spans h))
      (All-cons (IsSpanOf ((text ++ name) ++ value)) pair [] (pair_valid valid_name valid_value) (λ k d l. absurd (omega (arith, l))))

  pub pushed_is : (spans : List HeaderSpan) → lowercase name ≡ name → All (IsSpanOf text) spans
      → headers_at ((text ++ name) ++ value) (spans ++ record { name = n; value = v } ∷ []) ≡ headers_at text spans ++ (name, value) ∷ []
  pushed_is spans lower h =
      map_push (header_at ((text ++ name) ++ value)) spans pair
      ∙ ap (λ (hs : List Header). hs ++ header_at ((text ++ name) ++ value) pair ∷ [])
      (headers_kept (text ++ name) value spans (spans_kept text name spans h) ∙ headers_kept text name spans h)
      ∙ ap (λ (header : Header). headers_at text spans ++ header ∷ []) (λ i. ((ap lowercase name_is ∙ lower) i, value_is i))

-- ---- headers found

pub here : (text : List ℕ) (spans : List HeaderSpan) (i : ℕ) (span : HeaderSpan) → i < length spans → span ≡ get_or spans i span
    → drop i spans ≡ span ∷ drop (i + 1) spans
here text spans i span l is = drop_more spans i span l ∙ ap (λ s. s ∷ drop (i + 1) spans) (sym is)

pub first_here : (text : List ℕ) (spans : List HeaderSpan) (i : ℕ) (name : List ℕ) (span : HeaderSpan) → i < length spans
    → span ≡ get_or spans i span → is_named name (header_at text span) ≡ true
    → get (headers_at text (drop i spans)) name ≡ Some (span_bytes text span.value)
first_here text spans i name span l is named =
    ap (λ (ss : List HeaderSpan). get (headers_at text ss) name) (here text spans i span l is) ∙ rw named refl

pub first_later : (text : List ℕ) (spans : List HeaderSpan) (i : ℕ) (name : List ℕ) (span : HeaderSpan) → i < length spans
    → span ≡ get_or spans i span → is_named name (header_at text span) ≡ false
    → get (headers_at text (drop (i + 1) spans)) name ≡ get (headers_at text (drop i spans)) name
first_later text spans i name span l is other =
    sym (ap (λ (ss : List HeaderSpan). get (headers_at text ss) name) (here text spans i span l is) ∙ rw other refl)

pub first_none : (text : List ℕ) (spans : List HeaderSpan) (i : ℕ) (name : List ℕ) → length spans ≤ i
    → get (headers_at text (drop i spans)) name ≡ None
first_none text spans i name l = ap (λ (ss : List HeaderSpan). get (headers_at text ss) name) (drop_all i spans l)

pub stands : (text : List ℕ) (spans : List HeaderSpan) (i : ℕ) (span : HeaderSpan) → i < length spans
    → span ≡ get_or spans i span → StandsAt (headers_at text spans) i (header_at text span)
stands text spans i span l is = ap (header_at text) is ∙ sym (get_or-map (header_at text) spans i span (header_at text span) l)

pub later : (text : List ℕ) (rest behind : List HeaderSpan) (span : HeaderSpan) (name : List ℕ) → rest ≡ span ∷ behind
    → is_named name (header_at text span) ≡ false → get_all (headers_at text behind) name ≡ get_all (headers_at text rest) name
later text rest behind span name is other = sym (ap (λ (ss : List HeaderSpan). get_all (headers_at text ss) name) is ∙ rw other refl)

-- ---- headers as names and values

pub are_pairs : (text : List ℕ) (spans : List HeaderSpan) → All (IsSpanOf text) spans → All IsPair (headers_at text spans)
are_pairs text spans h =
    All-map IsPair (header_at text) spans (λ k d l. ((IsHeaderName-lowercase (span_bytes text (get_or spans k d).name) (h k d l).name).0, (h k d l).value))

pub are_values : (headers : List Header) (name : List ℕ) → All IsPair headers → All IsValue (get_all headers name)
are_values headers name h =
    All-map IsValue (λ (header : Header). header.1) _ (All-filter (is_named name) (λ (header : Header). IsValue header.1) headers (λ k d l. (h k d l).1))

pub on_err : {T E P : Type 0} (r : Result T E) → P → OnErr r P
on_err (Ok x) p = tt
on_err (Err e) p = p
