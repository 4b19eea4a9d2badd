-- The pieces of a body in chunks, test by test.
use Rattle.std.proofs.Common.{◌≡◌, ◌≤◌, ◌<◌, ◌+◌, ◌-◌, ℕ, Bool, true, false, cond, List, [], ◌∷◌, ◌++◌, length, take, drop, arith, sym, ap, ◌∙◌, refl, nat_lt, Option, Some, None, append-nil, length-take, min}
use Rattle.std.specs.Prelude.{◌==◌, bytes_eq}
use Rattle.std.proofs.lemmas.Bool.{lt-ltb, le-ltb, le-leb, lt-leb}
use Rattle.std.proofs.lemmas.List.{take_all, take_min, drop-append-le}
use Rattle.http1_grammar.specs.Limits.{Limits}
use Rattle.http1_grammar.specs.Lines.{empty_line, head_len, or_else, cut_at}
use Rattle.http1_grammar.specs.Body.{unfinished, malformed, whole, Piece, undecided, refused, chunk, last, sized_chunk, chunk_by, by_line, piece, trailer_by, trailer, chunk_size}
use Rattle.http1_grammar.proofs.BodyLemmas.{line_append, trailer_len}
use Rattle.http1_head.specs.Passing.{EndsFrom, HasSeen}
use Rattle.http1_head.proofs.PassingSteps.{take_take, all_seen, seen_window}
use Rattle.http1_reader.specs.Pieces.{line_by, IsPassed, IsSized, IsLast}
use Rattle.http1_reader.specs.declared.chunk_line.ChunkLine.{ChunkLine}
use Rattle.http1_reader.specs.declared.chunk_line.ChunkLine.TheVariants.{Bad, TooLarge, Last, Sized}

-- ---- a line

-- the piece behind a line
abbrev piece_of : List ℕ → ChunkLine → Piece
piece_of rest Bad = refused 400
piece_of rest TooLarge = refused 413
piece_of rest Last = last rest
piece_of rest (Sized size) = sized_chunk size rest

by_chunk : (room : ℕ) (rest : List ℕ) (o : Option ℕ) → chunk_by room rest o ≡ piece_of rest (line_by room o)
by_chunk room rest None = refl
by_chunk room rest (Some size) =
    elim (nat_lt room size) as (λ v. cond v (refused 413) (cond (size == 0) (last rest) (sized_chunk size rest))
    ≡ piece_of rest (cond v TooLarge (cond (size == 0) Last (Sized size)))) [
      | true ↦ refl
      | false ↦ elim (size == 0) as (λ v. cond v (last rest) (sized_chunk size rest) ≡ piece_of rest (cond v Last (Sized size))) [ true ↦ refl | false ↦ refl ]
    ]

in_room : (n size : ℕ) (o : Option ℕ) → Sized size ≡ line_by n o → size ≤ n
in_room n size None e = absurd cc
in_room n size (Some other) e = by_test (nat_lt n other) refl e
  where
    by_test : (v : Bool) → nat_lt n other ≡ v → Sized size ≡ cond v TooLarge (cond (other == 0) Last (Sized other)) → size ≤ n
    by_test true t k = absurd cc
    by_test false t k = by_zero (other == 0) k
      where
        by_zero : (v : Bool) → Sized size ≡ cond v Last (Sized other) → size ≤ n
        by_zero true k = absurd cc
        by_zero false k = let same : size ≡ other = cc in grind (arith, t)

module _ (room : ℕ) (left : List ℕ) (m : ℕ) (window : m ≡ min 256 (length left)) where
  window_is : take m left ≡ take 256 left
  window_is = ap (λ n. take n left) window ∙ take_min 256 left

  pub seen_fits : (seen : ℕ) → IsPassed left seen → seen ≤ length (take m left)
  seen_fits seen p = let a = p.within in let b = p.limited in omega (arith, length-take m left)

  pub seen_no_feed : (seen : ℕ) → IsPassed left seen → cut_at 10 (take seen (take m left)) ≡ None
  seen_no_feed seen p = ap (cut_at 10) (take_take seen m left (let a = p.within in let b = p.limited in omega arith)) ∙ p.no_feed

  no_line : None ≡ cut_at 10 (take m left) → piece room left ≡ by_line room left None
  unfolding piece
  no_line h = ap (λ x. by_line room left (cut_at 10 x)) (sym window_is) ∙ ap (by_line room left) (sym h)

  pub line_long : None ≡ cut_at 10 (take m left) → 256 ≤ length left → piece room left ≡ refused 400
  line_long h l = no_line h ∙ rw (le-leb 256 (length left) l) refl

  pub line_open : None ≡ cut_at 10 (take m left) → length left < 256 → (piece room left ≡ undecided) × IsPassed left (length left)
  line_open h l = (
    no_line h ∙ rw (lt-leb 256 (length left) l) refl,
    record {
      within = omega arith;
      limited = omega arith;
      no_feed = ap (cut_at 10) (take_all (length left) left (omega arith) ∙ sym (take_all m left (omega arith))) ∙ sym h;
    },
  )

  -- the line of which so many bytes stand before its LF
  abbrev pub Found : ℕ → Type 0
  Found k = Some (take k (take m left), drop (k + 1) (take m left)) ≡ cut_at 10 (take m left)

  abbrev pub Says : ℕ → ChunkLine → Type 0
  Says k line = line ≡ line_by room (chunk_size (take k (take m left)))

  behind_line : (k : ℕ) (line : ChunkLine) (more : List ℕ) → k < length (take m left) → Found k → Says k line
      → piece room (left ++ more) ≡ piece_of (drop (k + 1) left ++ more) line
  unfolding piece
  behind_line k line more l h is =
      let front = take k (take m left) in
      let w = line_append 256 left more (front, drop (k + 1) (take m left)) (ap (cut_at 10) (sym window_is) ∙ sym h) in
      let len : length front ≡ k = omega (arith, length-take k (take m left)) in
      let short : k + 1 ≤ length left = omega (arith, length-take m left) in
      ap (by_line room (left ++ more)) w.is
      ∙ ap (λ n. chunk_by room (drop (n + 1) (left ++ more)) (chunk_size front)) len
      ∙ ap (λ x. chunk_by room x (chunk_size front)) (drop-append-le (k + 1) left more short)
      ∙ by_chunk room (drop (k + 1) left ++ more) (chunk_size front)
      ∙ ap (piece_of (drop (k + 1) left ++ more)) (sym is)

  line_now : (k : ℕ) (line : ChunkLine) → k < length (take m left) → Found k → Says k line → piece room left ≡ piece_of (drop (k + 1) left) line
  line_now k line l h is =
      ap (piece room) (sym (append-nil left)) ∙ behind_line k line [] l h is ∙ ap (λ x. piece_of x line) (append-nil (drop (k + 1) left))

  pub line_bad : (k : ℕ) → k < length (take m left) → Found k → Says k Bad → piece room left ≡ refused 400
  line_bad k l h is = line_now k Bad l h is

  pub line_large : (k : ℕ) → k < length (take m left) → Found k → Says k TooLarge → piece room left ≡ refused 413
  line_large k l h is = line_now k TooLarge l h is

  pub line_last : (k : ℕ) → k < length (take m left) → Found k → Says k Last → IsLast room left (k + 1)
  line_last k l h is = record {
    within = omega (arith, length-take m left);
    is = λ more. behind_line k Last more l h is;
  }

  pub line_sized : (k size : ℕ) → k < length (take m left) → Found k → Says k (Sized size) → IsSized room left (k + 1) size
  line_sized k size l h is = record {
    above = omega arith;
    within = omega (arith, length-take m left);
    fits = in_room room size (chunk_size (take k (take m left))) is;
    is = λ more. behind_line k (Sized size) more l h is;
  }

-- ---- content

-- whether CR LF stands behind the data
pub crlf_test : (v : Bool) (size : ℕ) (left end : List ℕ) → v ≡ bytes_eq (take (size + 2 - size) (drop size left)) end → end ≡ 13 ∷ 10 ∷ []
    → bytes_eq (take 2 (drop size left)) (13 ∷ 10 ∷ []) ≡ v
crlf_test v size left end h e =
    sym (h ∙ ap (λ x. bytes_eq (take (size + 2 - size) (drop size left)) x) e
    ∙ ap (λ n. bytes_eq (take n (drop size left)) (13 ∷ 10 ∷ [])) (two size))
  where
    two : (n : ℕ) → n + 2 - n ≡ 2
    two n = omega arith

pub content_open : (size : ℕ) (left : List ℕ) → length left < size + 2 → sized_chunk size left ≡ undecided
content_open size left l = rw (lt-ltb (length left) (size + 2) l) refl

there : (size : ℕ) (left : List ℕ) (v : Bool) → size + 2 ≤ length left → bytes_eq (take 2 (drop size left)) (13 ∷ 10 ∷ []) ≡ v
    → sized_chunk size left ≡ cond v (chunk (take size left) (drop (size + 2) left)) (refused 400)
there size left v l e = rw (le-ltb (length left) (size + 2) l, e) refl

pub content_faulty : (size : ℕ) (left : List ℕ) → size + 2 ≤ length left → bytes_eq (take 2 (drop size left)) (13 ∷ 10 ∷ []) ≡ false
    → sized_chunk size left ≡ refused 400
content_faulty size left l e = there size left false l e

pub content_whole : (size : ℕ) (left : List ℕ) → size + 2 ≤ length left → bytes_eq (take 2 (drop size left)) (13 ∷ 10 ∷ []) ≡ true
    → sized_chunk size left ≡ chunk (take size left) (drop (size + 2) left)
content_whole size left l e = there size left true l e

-- ---- the trailer part

module _ (limits : Limits) (left : List ℕ) (m : ℕ) (window : m ≡ min limits.head (length left)) where
  pub trailer_fits : (seen : ℕ) → HasSeen limits left seen → seen - 2 ≤ length (take m left)
  trailer_fits seen h = let a = h.within in let b = h.limited in omega (arith, length-take m left)

  pub trailer_from : (seen : ℕ) → HasSeen limits left seen → EndsFrom (take m left) (seen - 2)
  trailer_from seen h = seen_window limits left seen m h window

  window_text : take m left ≡ take limits.head left
  window_text = ap (λ n. take n left) window ∙ take_min limits.head left

  trailer_is : (data' : List ℕ) (o : Option ℕ) → trailer_len (take m left) ≡ o → trailer limits data' left ≡ trailer_by limits data' left o
  unfolding trailer
  trailer_is data' o h =
      ap (λ x. trailer_by limits data' left (trailer_len x)) (sym window_text) ∙ ap (trailer_by limits data' left) h

  no_empty : (o : Option ℕ) → None ≡ empty_line (take m left) → o ≡ head_len (take m left) → trailer_len (take m left) ≡ o
  no_empty o e h = ap (λ x. or_else x (head_len (take m left))) (sym e) ∙ sym h

  inside : (n : ℕ) → n ≤ length (take m left) → n ≤ length left
  inside n l = omega (arith, length-take m left)

  pub trailer_empty : (n : ℕ) → n ≤ length (take m left) → Some n ≡ empty_line (take m left)
      → (n ≤ length left) × ((data' : List ℕ) → trailer limits data' left ≡ whole data' (drop n left))
  trailer_empty n l h =
      (inside n l, λ data'. trailer_is data' (Some n) (ap (λ o. or_else o (head_len (take m left))) (sym h)))

  pub trailer_ends : (n : ℕ) → n ≤ length (take m left) → None ≡ empty_line (take m left) → Some n ≡ head_len (take m left)
      → (n ≤ length left) × ((data' : List ℕ) → trailer limits data' left ≡ whole data' (drop n left))
  trailer_ends n l e h = (inside n l, λ data'. trailer_is data' (Some n) (no_empty (Some n) e h))

  pub trailer_long : None ≡ empty_line (take m left) → None ≡ head_len (take m left) → limits.head ≤ length left
      → (data' : List ℕ) → trailer limits data' left ≡ malformed 431
  trailer_long e h l = λ data'. trailer_is data' None (no_empty None e h) ∙ rw (le-leb limits.head (length left) l) refl

  pub trailer_open : None ≡ empty_line (take m left) → None ≡ head_len (take m left) → length left < limits.head
      → ((data' : List ℕ) → trailer limits data' left ≡ unfinished) × HasSeen limits left (length left)
  trailer_open e h l = (
    λ data'. trailer_is data' None (no_empty None e h) ∙ rw (lt-leb limits.head (length left) l) refl,
    all_seen limits left (omega arith) (ap head_len (sym (take_all m left (omega arith))) ∙ sym h),
  )
