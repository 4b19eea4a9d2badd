-- A decided body stays the same whatever bytes follow.
use Rattle.std.proofs.Common.{◌≡◌, ◌≤◌, ◌<◌, ◌+◌, ◌-◌, ℕ, zero, suc, true, false, cond, List, [], ◌∷◌, ◌++◌, length, take, drop, arith, sym, ap, ◌∙◌, subst, refl, nat_lt, Option, Some, None, inl, inr, length-append, length-take, length-drop}
use Rattle.std.specs.Prelude.{◌==◌, nat_le, bytes_eq}
use Rattle.std.specs.Option.{option_map}
use Rattle.std.proofs.lemmas.Bool.{leb-true, le-leb, lt-ltb, le-ltb, cases_lt}
use Rattle.std.proofs.lemmas.Option.{none-some, same_Some}
use Rattle.std.proofs.lemmas.List.{take_all, drop-append-le, take-append-le}
use Rattle.http1_grammar.specs.Limits.{Limits}
use Rattle.http1_grammar.specs.Lines.{empty_line, head_len, or_else, cut_at}
use Rattle.http1_grammar.specs.Head.{Head}
use Rattle.http1_grammar.specs.Framing as framing
use Rattle.http1_grammar.specs.Body.{unfinished, malformed, whole, extended_body, Piece, undecided, refused, chunk, last, extended_piece, sized_chunk, chunk_by, by_line, piece, trailer_by, trailer, after_piece, chunks, body_by, body, chunk_size}
use Rattle.http1_grammar.proofs.ScanLemmas.{head_len_within, empty_line_within}
use Rattle.http1_grammar.proofs.StepLemmas.{empty_line_append, open_line, head_len_append, take_past}
use Rattle.http1_grammar.proofs.AnswerLemmas.{piece_keeps, PieceKeeps, chunks_step}

-- ---- a chunk line

-- the line that the first LF within so many bytes ends
pub record LineStays (n : ℕ) (bytes more front : List ℕ) : Type 0 where
  pub behind : List ℕ
  pub is : cut_at 10 (take n (bytes ++ more)) ≡ Some (front, behind)
  pub within : length front < length bytes

no_line : cut_at 10 [] ≡ None
unfolding cut_at
no_line = refl

cut_found : (b : ℕ) (bytes : List ℕ) → (b == 10) ≡ true → cut_at 10 (b ∷ bytes) ≡ Some ([], bytes)
unfolding cut_at
cut_found b bytes h = rw h refl

cut_later : (b : ℕ) (bytes : List ℕ) → (b == 10) ≡ false
    → cut_at 10 (b ∷ bytes) ≡ option_map (λ (parts : List ℕ × List ℕ). (b ∷ parts.0, parts.1)) (cut_at 10 bytes)
unfolding cut_at
cut_later b bytes h = rw h refl

pub line_append : (n : ℕ) (bytes more : List ℕ) (parts : List ℕ × List ℕ) → cut_at 10 (take n bytes) ≡ Some parts
    → LineStays n bytes more parts.0
line_append zero bytes more parts h = absurd (none-some parts (sym no_line ∙ h))
line_append (suc n) [] more parts h = absurd (none-some parts (sym no_line ∙ h))
line_append (suc n) (b ∷ bytes) more parts h =
    elim (b == 10) as (λ v. (b == 10) ≡ v → LineStays (suc n) (b ∷ bytes) more parts.0) [
      | true ↦ λ e. first e (sym (cut_found b (take n bytes) e) ∙ h)
      | false ↦ λ e. later e (cut_at 10 (take n bytes)) (λ p q. line_append n bytes more p q) (sym (cut_later b (take n bytes) e) ∙ h)
    ] refl
  where
    P : List ℕ × List ℕ → Type 0
    P p = LineStays (suc n) (b ∷ bytes) more p.0

    first : (b == 10) ≡ true → Some ([], take n bytes) ≡ Some parts → P parts
    first e k = subst P (same_Some _ _ k) (record {
      behind = take n (bytes ++ more);
      is = cut_found b (take n (bytes ++ more)) e;
      within = omega arith;
    })

    later : (b == 10) ≡ false → (o : Option (List ℕ × List ℕ)) → ((p : List ℕ × List ℕ) → o ≡ Some p → LineStays n bytes more p.0)
        → option_map (λ (p : List ℕ × List ℕ). (b ∷ p.0, p.1)) o ≡ Some parts → P parts
    later e None step k = absurd (none-some parts k)
    later e (Some p) step k =
        let w = step p refl in
        subst P (same_Some _ _ k) (record {
          behind = w.behind;
          is = cut_later b (take n (bytes ++ more)) e ∙ ap (option_map (λ (x : List ℕ × List ℕ). (b ∷ x.0, x.1))) w.is;
          within = let l = w.within in omega arith;
        })

-- ---- a chunk

pub sized_append : (size : ℕ) (bytes more : List ℕ) → (sized_chunk size bytes ≡ undecided → ⊥)
    → sized_chunk size (bytes ++ more) ≡ extended_piece (sized_chunk size bytes) more
sized_append size bytes more decided =
    elim (cases_lt (length bytes) (size + 2)) [
      | inl l ↦ absurd (decided (rw (lt-ltb (length bytes) (size + 2) l) refl))
      | inr l ↦ there l
    ]
  where
    there : size + 2 ≤ length bytes → sized_chunk size (bytes ++ more) ≡ extended_piece (sized_chunk size bytes) more
    there l =
        let size_in : size ≤ length bytes = omega arith in
        let two_in : 2 ≤ length (drop size bytes) = omega (arith, length-drop size bytes) in
        rw (
          le-ltb (length (bytes ++ more)) (size + 2) (omega (arith, length-append bytes more)),
          le-ltb (length bytes) (size + 2) l,
          drop-append-le size bytes more size_in,
          take-append-le 2 (drop size bytes) more two_in,
          take-append-le size bytes more size_in,
          drop-append-le (size + 2) bytes more l,
        )
        (elim (bytes_eq (take 2 (drop size bytes)) (13 ∷ 10 ∷ [])) as (λ v. cond v (chunk (take size bytes) (drop (size + 2) bytes ++ more)) (refused 400)
        ≡ extended_piece (cond v (chunk (take size bytes) (drop (size + 2) bytes)) (refused 400)) more) [ true ↦ refl | false ↦ refl ])

chunk_append : (room : ℕ) (bytes more : List ℕ) (o : Option ℕ) → (chunk_by room bytes o ≡ undecided → ⊥)
    → chunk_by room (bytes ++ more) o ≡ extended_piece (chunk_by room bytes o) more
chunk_append room bytes more None decided = refl
chunk_append room bytes more (Some size) decided =
    elim (nat_lt room size) as (λ v. (cond v (refused 413) (cond (size == 0) (last bytes) (sized_chunk size bytes)) ≡ undecided → ⊥)
    → cond v (refused 413) (cond (size == 0) (last (bytes ++ more)) (sized_chunk size (bytes ++ more)))
    ≡ extended_piece (cond v (refused 413) (cond (size == 0) (last bytes) (sized_chunk size bytes))) more) [
      | true ↦ λ d. refl
      | false ↦ λ d. elim (size == 0) as (λ v. (cond v (last bytes) (sized_chunk size bytes) ≡ undecided → ⊥)
          → cond v (last (bytes ++ more)) (sized_chunk size (bytes ++ more))
          ≡ extended_piece (cond v (last bytes) (sized_chunk size bytes)) more) [
            | true ↦ λ x. refl
            | false ↦ λ x. sized_append size bytes more x
          ] d
    ] decided

-- a decided piece stays, and the bytes behind it grow
pub piece_append : (room : ℕ) (bytes more : List ℕ) → (piece room bytes ≡ undecided → ⊥)
    → piece room (bytes ++ more) ≡ extended_piece (piece room bytes) more
unfolding piece
piece_append room bytes more decided = by (cut_at 10 (take 256 bytes)) refl decided
  where
    by : (o : Option (List ℕ × List ℕ)) → cut_at 10 (take 256 bytes) ≡ o → (by_line room bytes o ≡ undecided → ⊥)
        → by_line room (bytes ++ more) (cut_at 10 (take 256 (bytes ++ more))) ≡ extended_piece (by_line room bytes o) more
    by None e d =
        elim (nat_le 256 (length bytes)) as (λ v. nat_le 256 (length bytes) ≡ v → (cond v (refused 400) undecided ≡ undecided → ⊥)
        → by_line room (bytes ++ more) (cut_at 10 (take 256 (bytes ++ more))) ≡ extended_piece (cond v (refused 400) undecided) more) [
          | true ↦ λ t x.
              let long = leb-true 256 (length bytes) t in
              ap (λ w. by_line room (bytes ++ more) (cut_at 10 w)) (take-append-le 256 bytes more long)
              ∙ ap (by_line room (bytes ++ more)) e
              ∙ rw (le-leb 256 (length (bytes ++ more)) (omega (arith, length-append bytes more))) refl
          | false ↦ λ t x. absurd (x refl)
        ] refl d
    by (Some parts) e d =
        let w = line_append 256 bytes more parts e in
        let l : length parts.0 + 1 ≤ length bytes = let k = w.within in omega arith in
        ap (by_line room (bytes ++ more)) w.is
        ∙ ap (λ rest. chunk_by room rest (chunk_size parts.0)) (drop-append-le (length parts.0 + 1) bytes more l)
        ∙ chunk_append room (drop (length parts.0 + 1) bytes) more (chunk_size parts.0) d

-- ---- the trailer part

-- how many bytes the trailer part at the front has
abbrev pub trailer_len : List ℕ → Option ℕ
trailer_len bytes = or_else (empty_line bytes) (head_len bytes)

pub trailer_len_append : (bytes more : List ℕ) (n : ℕ) → trailer_len bytes ≡ Some n
    → (trailer_len (bytes ++ more) ≡ Some n) × (n ≤ length bytes)
trailer_len_append bytes more n h = by (empty_line bytes) refl h
  where
    by : (o : Option ℕ) → empty_line bytes ≡ o → or_else o (head_len bytes) ≡ Some n
        → (trailer_len (bytes ++ more) ≡ Some n) × (n ≤ length bytes)
    by None e k =
        let w = head_len_within bytes n k in
        let long : 2 ≤ length bytes = omega (arith, w.0, w.1) in
        (rw (open_line bytes more long e) (head_len_append bytes more n k), w.1)
    by (Some m) e k =
        let same : m ≡ n = same_Some _ _ k in
        let w = empty_line_within bytes m e in
        (rw (empty_line_append bytes more m e) k, subst (λ x. x ≤ length bytes) same w.1)

-- the same under a limit
trailer_window : (limit : ℕ) (bytes more : List ℕ) (n : ℕ) → trailer_len (take limit bytes) ≡ Some n
    → (trailer_len (take limit (bytes ++ more)) ≡ Some n) × (n ≤ length bytes)
trailer_window limit bytes more n h =
    elim (cases_lt (length bytes) limit) [
      | inl l ↦
          let k : trailer_len bytes ≡ Some n = ap trailer_len (sym (take_all limit bytes (omega arith))) ∙ h in
          let w = trailer_len_append bytes (take (limit - length bytes) more) n k in
          (ap trailer_len (take_past limit bytes more (omega arith)) ∙ w.0, w.1)
      | inr l ↦
          let w = trailer_len_append (take limit bytes) [] n h in
          (ap trailer_len (take-append-le limit bytes more l) ∙ h, omega (arith, w.1, length-take limit bytes))
    ]

pub trailer_append : (limits : Limits) (before bytes more : List ℕ) → (trailer limits before bytes ≡ unfinished → ⊥)
    → trailer limits before (bytes ++ more) ≡ extended_body (trailer limits before bytes) more
unfolding trailer
trailer_append limits before bytes more decided = by (trailer_len (take limits.head bytes)) refl decided
  where
    by : (o : Option ℕ) → trailer_len (take limits.head bytes) ≡ o → (trailer_by limits before bytes o ≡ unfinished → ⊥)
        → trailer_by limits before (bytes ++ more) (trailer_len (take limits.head (bytes ++ more))) ≡ extended_body (trailer_by limits before bytes o) more
    by None e d =
        elim (nat_le limits.head (length bytes)) as (λ v. nat_le limits.head (length bytes) ≡ v → (cond v (malformed 431) unfinished ≡ unfinished → ⊥)
        → trailer_by limits before (bytes ++ more) (trailer_len (take limits.head (bytes ++ more))) ≡ extended_body (cond v (malformed 431) unfinished) more) [
          | true ↦ λ t x.
              let long = leb-true limits.head (length bytes) t in
              ap (λ w. trailer_by limits before (bytes ++ more) (trailer_len w)) (take-append-le limits.head bytes more long)
              ∙ ap (trailer_by limits before (bytes ++ more)) e
              ∙ rw (le-leb limits.head (length (bytes ++ more)) (omega (arith, length-append bytes more))) refl
          | false ↦ λ t x. absurd (x refl)
        ] refl d
    by (Some n) e d =
        let w = trailer_window limits.head bytes more n e in
        ap (trailer_by limits before (bytes ++ more)) w.0
        ∙ ap (λ rest. whole before rest) (drop-append-le n bytes more w.1)

-- ---- chunks

after_append : (limits : Limits) (before bytes more : List ℕ) (p : Piece) → PieceKeeps (length bytes) p
    → ((front rest : List ℕ) → length rest < length bytes → (chunks limits front rest ≡ unfinished → ⊥)
    → chunks limits front (rest ++ more) ≡ extended_body (chunks limits front rest) more)
    → (after_piece limits (chunks limits) before p ≡ unfinished → ⊥)
    → after_piece limits (chunks limits) before (extended_piece p more) ≡ extended_body (after_piece limits (chunks limits) before p) more
after_append limits before bytes more undecided k step decided = absurd (decided refl)
after_append limits before bytes more (refused status) k step decided = refl
after_append limits before bytes more (chunk data' rest) k step decided = step (before ++ data') rest k decided
after_append limits before bytes more (last rest) k step decided = trailer_append limits before rest more decided

-- no piece leaves the body open
piece_decided : (limits : Limits) (before : List ℕ) (p : Piece) → (after_piece limits (chunks limits) before p ≡ unfinished → ⊥) → p ≡ undecided → ⊥
piece_decided limits before undecided d e = d refl
piece_decided limits before (refused status) d e = cc
piece_decided limits before (chunk data' rest) d e = cc
piece_decided limits before (last rest) d e = cc

chunks_within_append : (n : ℕ) (limits : Limits) (before bytes more : List ℕ) → length bytes < n → (chunks limits before bytes ≡ unfinished → ⊥)
    → chunks limits before (bytes ++ more) ≡ extended_body (chunks limits before bytes) more
chunks_within_append zero limits before bytes more l decided = absurd (omega arith)
chunks_within_append (suc n) limits before bytes more l decided =
    let room = limits.body - length before in
    let step = chunks_step limits before bytes in
    let d : after_piece limits (chunks limits) before (piece room bytes) ≡ unfinished → ⊥ = λ e. decided (step ∙ e) in
    chunks_step limits before (bytes ++ more)
    ∙ ap (after_piece limits (chunks limits) before) (piece_append room bytes more (piece_decided limits before (piece room bytes) d))
    ∙ after_append limits before bytes more (piece room bytes) (piece_keeps room bytes)
    (λ front rest k e. chunks_within_append n limits front rest more (omega arith) e) d
    ∙ ap (λ b. extended_body b more) (sym step)

pub chunks_append : (limits : Limits) (before bytes more : List ℕ) → (chunks limits before bytes ≡ unfinished → ⊥)
    → chunks limits before (bytes ++ more) ≡ extended_body (chunks limits before bytes) more
chunks_append limits before bytes more decided =
    chunks_within_append (suc (length bytes)) limits before bytes more (omega arith) decided

-- ---- bodies

pub framed_append : (limits : Limits) (bytes more : List ℕ) (f : framing.Framing) → (body_by limits bytes f ≡ unfinished → ⊥)
    → body_by limits (bytes ++ more) f ≡ extended_body (body_by limits bytes f) more
framed_append limits bytes more framing.empty decided = refl
framed_append limits bytes more (framing.sized size) decided =
    elim (cases_lt (length bytes) size) [
      | inl l ↦ absurd (decided (rw (lt-ltb (length bytes) size l) refl))
      | inr l ↦ rw (
        le-ltb (length bytes) size l,
        le-ltb (length (bytes ++ more)) size (omega (arith, length-append bytes more)),
        take-append-le size bytes more l,
        drop-append-le size bytes more l,
      ) refl
    ]
framed_append limits bytes more framing.chunked decided = chunks_append limits [] bytes more decided
framed_append limits bytes more framing.faulty decided = refl

pub body_append : (limits : Limits) (head : Head) (bytes more : List ℕ) → (body limits head bytes ≡ unfinished → ⊥)
    → body limits head (bytes ++ more) ≡ extended_body (body limits head bytes) more
unfolding body
body_append limits head bytes more decided = framed_append limits bytes more (framing.framing head) decided
