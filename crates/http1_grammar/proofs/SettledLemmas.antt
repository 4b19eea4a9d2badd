-- Chunks that are whole go to the data: nothing that later bytes decide changes, and few bytes are left.
use Rattle.std.proofs.Common.{◌≡◌, ◌≤◌, ◌<◌, ◌+◌, ◌-◌, ℕ, zero, suc, true, false, cond, List, [], ◌∷◌, ◌++◌, length, take, drop, arith, sym, ap, ◌∙◌, subst, refl, nat_lt, Option, Some, None, inl, inr, length-append, length-take, length-drop}
use Rattle.std.specs.Prelude.{◌==◌, ◌⊎◌, nat_le, bytes_eq}
use Rattle.std.proofs.lemmas.Bool.{leb-false, le-leb, ltb-true, ltb-false, cases_lt}
use Rattle.http1_grammar.specs.Limits.{Limits}
use Rattle.http1_grammar.specs.Lines.{cut_at}
use Rattle.http1_grammar.specs.Body.{unfinished, malformed, whole, Piece, undecided, refused, chunk, last, extended_piece, sized_chunk, chunk_by, by_line, piece, trailer_by, trailer, after_piece, chunks, chunk_size}
use Rattle.http1_grammar.specs.Reading.{settle, settled_within, settled}
use Rattle.http1_grammar.proofs.LineLemmas.{cut_at_gives}
use Rattle.http1_grammar.proofs.AnswerLemmas.{piece_keeps, PieceKeeps, chunks_step}
use Rattle.http1_grammar.proofs.BodyLemmas.{piece_append, trailer_len}

-- ---- the chunks that are whole, from the first of them

settle_same : (f g : List ℕ → List ℕ → List ℕ × List ℕ) (before bytes : List ℕ) (p : Piece) (most : ℕ) → PieceKeeps most p
    → ((front rest : List ℕ) → length rest < most → f front rest ≡ g front rest)
    → settle f before bytes p ≡ settle g before bytes p
settle_same f g before bytes undecided most h same = refl
settle_same f g before bytes (refused status) most h same = refl
settle_same f g before bytes (chunk more rest) most h same = same (before ++ more) rest h
settle_same f g before bytes (last rest) most h same = refl

same_settled : (m n : ℕ) (limits : Limits) (before bytes : List ℕ) → length bytes < m → length bytes < n
    → settled_within m limits before bytes ≡ settled_within n limits before bytes
unfolding settled_within
same_settled zero n limits before bytes l k = absurd (omega arith)
same_settled (suc m) zero limits before bytes l k = absurd (omega arith)
same_settled (suc m) (suc n) limits before bytes l k =
    settle_same (settled_within m limits) (settled_within n limits) before bytes (piece (limits.body - length before) bytes) (length bytes)
    (piece_keeps (limits.body - length before) bytes) (λ front rest s. same_settled m n limits front rest (omega arith) (omega arith))

pub settled_step : (limits : Limits) (before bytes : List ℕ)
    → settled limits before bytes ≡ settle (settled limits) before bytes (piece (limits.body - length before) bytes)
unfolding settled_within
settled_step limits before bytes =
    settle_same (settled_within (length bytes) limits) (settled limits) before bytes (piece (limits.body - length before) bytes) (length bytes)
    (piece_keeps (limits.body - length before) bytes) (λ front rest s. same_settled (length bytes) (suc (length rest)) limits front rest s (omega arith))

-- ---- what is settled stays

chunk_decided : (data' rest : List ℕ) (p : Piece) → p ≡ chunk data' rest → p ≡ undecided → ⊥
chunk_decided data' rest p e k = absurd cc

settled_by : (limits : Limits) (on : List ℕ → List ℕ → List ℕ × List ℕ) (before bytes more : List ℕ) (p : Piece)
    → piece (limits.body - length before) bytes ≡ p
    → ((front rest : List ℕ) → chunks limits (on front rest).0 ((on front rest).1 ++ more) ≡ chunks limits front (rest ++ more))
    → chunks limits (settle on before bytes p).0 ((settle on before bytes p).1 ++ more) ≡ chunks limits before (bytes ++ more)
settled_by limits on before bytes more undecided e step = refl
settled_by limits on before bytes more (refused status) e step = refl
settled_by limits on before bytes more (chunk data' rest) e step =
    let room = limits.body - length before in
    step (before ++ data') rest
    ∙ sym (chunks_step limits before (bytes ++ more)
    ∙ ap (after_piece limits (chunks limits) before)
    (piece_append room bytes more (chunk_decided data' rest (piece room bytes) e) ∙ ap (λ p. extended_piece p more) e))
settled_by limits on before bytes more (last rest) e step = refl

settled_within_stays : (count : ℕ) (limits : Limits) (before bytes more : List ℕ)
    → chunks limits (settled_within count limits before bytes).0 ((settled_within count limits before bytes).1 ++ more)
    ≡ chunks limits before (bytes ++ more)
unfolding settled_within
settled_within_stays zero limits before bytes more = refl
settled_within_stays (suc count) limits before bytes more =
    settled_by limits (settled_within count limits) before bytes more (piece (limits.body - length before) bytes) refl
    (λ front rest. settled_within_stays count limits front rest more)

pub settled_stays : (limits : Limits) (before bytes more : List ℕ)
    → chunks limits (settled limits before bytes).0 ((settled limits before bytes).1 ++ more) ≡ chunks limits before (bytes ++ more)
settled_stays limits before bytes more = settled_within_stays (suc (length bytes)) limits before bytes more

-- ---- how much a piece has

-- what is no chunk yet has few bytes, and a chunk has room
abbrev pub PieceFits : ℕ → List ℕ → Piece → Type 0
PieceFits room bytes undecided = length bytes < 258 + room
PieceFits room bytes (refused status) = Unit {0}
PieceFits room bytes (chunk data' rest) = length data' ≤ room
PieceFits room bytes (last rest) = length bytes ≤ 256 + length rest

sized_fits : (room size : ℕ) (bytes rest : List ℕ) → length bytes ≤ 256 + length rest → size ≤ room → PieceFits room bytes (sized_chunk size rest)
sized_fits room size bytes rest l s =
    elim (nat_lt (length rest) (size + 2)) as (λ v. nat_lt (length rest) (size + 2) ≡ v → PieceFits room bytes (cond v undecided
    (cond (bytes_eq (take 2 (drop size rest)) (13 ∷ 10 ∷ [])) (chunk (take size rest) (drop (size + 2) rest)) (refused 400)))) [
      | true ↦ λ e. let k = ltb-true (length rest) (size + 2) e in omega arith
      | false ↦ λ e. elim (bytes_eq (take 2 (drop size rest)) (13 ∷ 10 ∷ [])) as (λ v. PieceFits room bytes (cond v (chunk (take size rest) (drop (size + 2) rest)) (refused 400))) [
        | true ↦ omega (arith, length-take size rest)
        | false ↦ tt
      ]
    ] refl

chunk_fits : (room : ℕ) (bytes rest : List ℕ) (o : Option ℕ) → length bytes ≤ 256 + length rest → PieceFits room bytes (chunk_by room rest o)
chunk_fits room bytes rest None l = tt
chunk_fits room bytes rest (Some size) l =
    elim (nat_lt room size) as (λ v. nat_lt room size ≡ v → PieceFits room bytes (cond v (refused 413) (cond (size == 0) (last rest) (sized_chunk size rest)))) [
      | true ↦ λ e. tt
      | false ↦ λ e. elim (size == 0) as (λ v. PieceFits room bytes (cond v (last rest) (sized_chunk size rest))) [
        | true ↦ l
        | false ↦ sized_fits room size bytes rest l (ltb-false room size e)
      ]
    ] refl

cut_short : (bytes : List ℕ) (parts : List ℕ × List ℕ) → cut_at 10 bytes ≡ Some parts → length parts.0 < length bytes
cut_short bytes parts e = omega (arith, ap length (cut_at_gives 10 bytes parts e), length-append parts.0 (10 ∷ parts.1))

line_fits : (room : ℕ) (bytes : List ℕ) (o : Option (List ℕ × List ℕ)) → cut_at 10 (take 256 bytes) ≡ o → PieceFits room bytes (by_line room bytes o)
line_fits room bytes None e =
    elim (nat_le 256 (length bytes)) as (λ v. nat_le 256 (length bytes) ≡ v → PieceFits room bytes (cond v (refused 400) undecided)) [
      | true ↦ λ k. tt
      | false ↦ λ k. let l = leb-false 256 (length bytes) k in omega arith
    ] refl
line_fits room bytes (Some parts) e =
    let k = cut_short (take 256 bytes) parts e in
    chunk_fits room bytes (drop (length parts.0 + 1) bytes) (chunk_size parts.0)
    (omega (arith, length-take 256 bytes, length-drop (length parts.0 + 1) bytes))

pub piece_fits : (room : ℕ) (bytes : List ℕ) → PieceFits room bytes (piece room bytes)
unfolding piece
piece_fits room bytes = line_fits room bytes (cut_at 10 (take 256 bytes)) refl

-- ---- what is left of an open body

pub closed_open : (status : ℕ) → malformed status ≡ unfinished → ⊥
closed_open status e = cc

pub whole_open : (data' rest : List ℕ) → whole data' rest ≡ unfinished → ⊥
whole_open data' rest e = cc

trailer_open : (limits : Limits) (before bytes : List ℕ) → trailer limits before bytes ≡ unfinished → length bytes < limits.head
unfolding trailer
trailer_open limits before bytes e = by (trailer_len (take limits.head bytes)) e
  where
    by : (o : Option ℕ) → trailer_by limits before bytes o ≡ unfinished → length bytes < limits.head
    by (Some n) k = absurd (whole_open before (drop n bytes) k)
    by None k =
        elim (cases_lt (length bytes) limits.head) [
          | inl l ↦ l
          | inr l ↦ absurd (closed_open 431 (subst (λ v. cond v (malformed 431) unfinished ≡ unfinished) (le-leb limits.head (length bytes) l) k))
        ]

-- a chunk line and the chunk that has room behind it, or the line of the last chunk and a trailer part
abbrev pub IsLeft : Limits → List ℕ × List ℕ → Type 0
IsLeft limits parts = (length parts.1 < 258 + (limits.body - length parts.0)) ⊎ (length parts.1 < 256 + limits.head)

left_by : (limits : Limits) (on : List ℕ → List ℕ → List ℕ × List ℕ) (before bytes : List ℕ) (p : Piece)
    → PieceFits (limits.body - length before) bytes p → PieceKeeps (length bytes) p
    → ((front rest : List ℕ) → length rest < length bytes → chunks limits front rest ≡ unfinished → IsLeft limits (on front rest))
    → after_piece limits (chunks limits) before p ≡ unfinished → IsLeft limits (settle on before bytes p)
left_by limits on before bytes undecided fits keeps step e = inl fits
left_by limits on before bytes (refused status) fits keeps step e = absurd (closed_open status e)
left_by limits on before bytes (chunk data' rest) fits keeps step e = step (before ++ data') rest keeps e
left_by limits on before bytes (last rest) fits keeps step e = inr (let l = trailer_open limits before rest e in omega arith)

left_within : (count : ℕ) (limits : Limits) (before bytes : List ℕ) → length bytes < count → chunks limits before bytes ≡ unfinished
    → IsLeft limits (settled_within count limits before bytes)
unfolding settled_within
left_within zero limits before bytes l e = absurd (omega arith)
left_within (suc count) limits before bytes l e =
    let room = limits.body - length before in
    left_by limits (settled_within count limits) before bytes (piece room bytes) (piece_fits room bytes) (piece_keeps room bytes)
    (λ front rest k o. left_within count limits front rest (omega arith) o) (sym (chunks_step limits before bytes) ∙ e)

pub settled_left : (limits : Limits) (before bytes : List ℕ) → chunks limits before bytes ≡ unfinished → IsLeft limits (settled limits before bytes)
settled_left limits before bytes e = left_within (suc (length bytes)) limits before bytes (omega arith) e

-- ---- data stay within the limit

room_by : (limits : Limits) (on : List ℕ → List ℕ → List ℕ × List ℕ) (before bytes : List ℕ) (p : Piece)
    → PieceFits (limits.body - length before) bytes p → length before ≤ limits.body
    → ((front rest : List ℕ) → length front ≤ limits.body → length (on front rest).0 ≤ limits.body)
    → length (settle on before bytes p).0 ≤ limits.body
room_by limits on before bytes undecided fits l step = l
room_by limits on before bytes (refused status) fits l step = l
room_by limits on before bytes (chunk data' rest) fits l step = step (before ++ data') rest (omega (arith, length-append before data'))
room_by limits on before bytes (last rest) fits l step = l

settled_room : (count : ℕ) (limits : Limits) (before bytes : List ℕ) → length before ≤ limits.body
    → length (settled_within count limits before bytes).0 ≤ limits.body
unfolding settled_within
settled_room zero limits before bytes l = l
settled_room (suc count) limits before bytes l =
    let room = limits.body - length before in
    room_by limits (settled_within count limits) before bytes (piece room bytes) (piece_fits room bytes) l
    (λ front rest k. settled_room count limits front rest k)

pub settled_fits : (limits : Limits) (before bytes : List ℕ) → length before ≤ limits.body → length (settled limits before bytes).0 ≤ limits.body
settled_fits limits before bytes l = settled_room (suc (length bytes)) limits before bytes l
