-- What a step leaves is the end of the bytes.
use Rattle.std.proofs.Common.{◌≡◌, ◌+◌, ◌-◌, ℕ, zero, suc, true, false, cond, List, [], ◌∷◌, ◌++◌, length, take, drop, sym, ap, ◌∙◌, subst, refl, nat_lt, Option, Some, None, append_assoc}
use Rattle.std.specs.Prelude.{◌==◌, ◌&&◌, nat_le, bytes_eq, count_by}
use Rattle.std.proofs.lemmas.List.{take-append-drop}
use Rattle.httparse.specs.Grammar.{RequestHead}
use Rattle.http1_grammar.specs.Limits.{Limits}
use Rattle.http1_grammar.specs.Lines.{is_line_feed, skip_empty_lines, head_len, cut_at}
use Rattle.http1_grammar.specs.Head.{Head, head_of}
use Rattle.http1_grammar.specs.RequestText.{request_head}
use Rattle.http1_grammar.specs.Framing as framing
use Rattle.http1_grammar.specs.Next as step
use Rattle.http1_grammar.specs.Next.{Next, by_framing, by_grammar, by_len, judge, next_head, next}
use Rattle.http1_grammar.specs.Body.{Body, unfinished, malformed, whole, Piece, undecided, refused, chunk, last, sized_chunk, chunk_by, by_line, piece, trailer_by, trailer, after_piece, chunks_within, body_by, body, chunk_size}
use Rattle.http1_grammar.specs.Fronts.{IsEnd}
use Rattle.http1_grammar.proofs.BodyLemmas.{trailer_len}

pub drop_end : (n : ℕ) (bytes : List ℕ) → IsEnd (drop n bytes) bytes
drop_end n bytes = record { front = take n bytes; is = sym (take-append-drop n bytes) }

pub end_of_end : (a b c : List ℕ) → IsEnd a b → IsEnd b c → IsEnd a c
end_of_end a b c p q = record { front = q.front ++ p.front; is = q.is ∙ ap (λ x. q.front ++ x) p.is ∙ sym (append_assoc q.front p.front a) }

all_end : (bytes : List ℕ) → IsEnd bytes bytes
all_end bytes = record { front = []; is = refl }

-- ---- steps

abbrev pub NextEnds : List ℕ → Next → Type 0
NextEnds bytes step.nothing = Unit {0}
NextEnds bytes (step.refuse status) = Unit {0}
NextEnds bytes (step.found head rest) = IsEnd rest bytes

framing_ends : (limits : Limits) (head : Head) (bytes rest : List ℕ) (f : framing.Framing) → IsEnd rest bytes → NextEnds bytes (by_framing limits head rest f)
framing_ends limits head bytes rest framing.empty e = e
framing_ends limits head bytes rest (framing.sized size) e =
    elim (nat_lt limits.body size) as (λ v. NextEnds bytes (cond v (step.refuse 413) (step.found head rest))) [ true ↦ tt | false ↦ e ]
framing_ends limits head bytes rest framing.chunked e = e
framing_ends limits head bytes rest framing.faulty e = tt

grammar_ends : (limits : Limits) (bytes rest : List ℕ) (o : Option RequestHead) → IsEnd rest bytes → NextEnds bytes (by_grammar limits rest o)
grammar_ends limits bytes rest None e = tt
grammar_ends limits bytes rest (Some head) e = framing_ends limits (head_of head) bytes rest (framing.framing (head_of head)) e

judge_ends : (limits : Limits) (text bytes rest : List ℕ) → IsEnd rest bytes → NextEnds bytes (judge limits text rest)
unfolding judge
judge_ends limits text bytes rest e =
    elim (nat_lt 98 (count_by is_line_feed text)) as (λ v. NextEnds bytes (cond v (step.refuse 431) (by_grammar limits rest (request_head text)))) [
      | true ↦ tt
      | false ↦ grammar_ends limits bytes rest (request_head text) e
    ]

len_ends : (limits : Limits) (bytes : List ℕ) (o : Option ℕ) → NextEnds bytes (by_len limits bytes o)
len_ends limits bytes None =
    elim (nat_le limits.head (length bytes)) as (λ v. NextEnds bytes (cond v (step.refuse 431) step.nothing)) [ true ↦ tt | false ↦ tt ]
len_ends limits bytes (Some n) = judge_ends limits (take n bytes) bytes (drop n bytes) (drop_end n bytes)

head_ends : (limits : Limits) (bytes : List ℕ) → NextEnds bytes (next_head limits bytes)
unfolding next_head
head_ends limits bytes =
    elim (bytes_eq bytes (13 ∷ [])) as (λ v. NextEnds bytes (cond v step.nothing (by_len limits bytes (head_len (take limits.head bytes))))) [
      | true ↦ tt
      | false ↦ len_ends limits bytes (head_len (take limits.head bytes))
    ]

longer_ends : (a b : List ℕ) (s : Next) → IsEnd a b → NextEnds a s → NextEnds b s
longer_ends a b step.nothing e h = tt
longer_ends a b (step.refuse status) e h = tt
longer_ends a b (step.found head rest) e h = end_of_end rest a b h e

cons_end : (b : ℕ) (a bytes : List ℕ) → IsEnd a bytes → IsEnd a (b ∷ bytes)
cons_end b a bytes e = record { front = b ∷ e.front; is = ap (λ x. b ∷ x) e.is }

pub skip_end : (bytes : List ℕ) → IsEnd (skip_empty_lines bytes) bytes
unfolding skip_empty_lines
skip_end [] = all_end []
skip_end (b ∷ []) = elim (b == 10) as (λ v. IsEnd (cond v [] (b ∷ [])) (b ∷ [])) [ true ↦ cons_end b [] [] (all_end []) | false ↦ all_end (b ∷ []) ]
skip_end (b ∷ c ∷ bytes) =
    elim (b == 10) as (λ v. IsEnd (cond v (skip_empty_lines (c ∷ bytes)) (cond (b == 13 && c == 10) (skip_empty_lines bytes) (b ∷ c ∷ bytes))) (b ∷ c ∷ bytes)) [
      | true ↦ cons_end b (skip_empty_lines (c ∷ bytes)) (c ∷ bytes) (skip_end (c ∷ bytes))
      | false ↦ elim (b == 13 && c == 10) as (λ v. IsEnd (cond v (skip_empty_lines bytes) (b ∷ c ∷ bytes)) (b ∷ c ∷ bytes)) [
        | true ↦ cons_end b (skip_empty_lines bytes) (c ∷ bytes) (cons_end c (skip_empty_lines bytes) bytes (skip_end bytes))
        | false ↦ all_end (b ∷ c ∷ bytes)
      ]
    ]

pub next_ends : (limits : Limits) (bytes : List ℕ) → NextEnds bytes (next limits bytes)
unfolding next
next_ends limits bytes = longer_ends (skip_empty_lines bytes) bytes (next_head limits (skip_empty_lines bytes)) (skip_end bytes) (head_ends limits (skip_empty_lines bytes))

-- what is behind a head
pub found_end : (limits : Limits) (bytes : List ℕ) (head : Head) (rest : List ℕ) → next limits bytes ≡ step.found head rest → IsEnd rest bytes
found_end limits bytes head rest h = subst (NextEnds bytes) h (next_ends limits bytes)

-- ---- bodies

abbrev pub BodyEnds : List ℕ → Body → Type 0
BodyEnds bytes unfinished = Unit {0}
BodyEnds bytes (malformed status) = Unit {0}
BodyEnds bytes (whole data' rest) = IsEnd rest bytes

abbrev PieceEnds : List ℕ → Piece → Type 0
PieceEnds bytes undecided = Unit {0}
PieceEnds bytes (refused status) = Unit {0}
PieceEnds bytes (chunk data' rest) = IsEnd rest bytes
PieceEnds bytes (last rest) = IsEnd rest bytes

trailer_ends : (limits : Limits) (before bytes : List ℕ) (o : Option ℕ) → BodyEnds bytes (trailer_by limits before bytes o)
trailer_ends limits before bytes (Some n) = drop_end n bytes
trailer_ends limits before bytes None =
    elim (nat_le limits.head (length bytes)) as (λ v. BodyEnds bytes (cond v (malformed 431) unfinished)) [ true ↦ tt | false ↦ tt ]

sized_ends : (size : ℕ) (a bytes : List ℕ) → IsEnd a bytes → PieceEnds bytes (sized_chunk size a)
sized_ends size a bytes e =
    elim (nat_lt (length a) (size + 2)) as (λ v. PieceEnds bytes (cond v undecided
    (cond (bytes_eq (take 2 (drop size a)) (13 ∷ 10 ∷ [])) (chunk (take size a) (drop (size + 2) a)) (refused 400)))) [
      | true ↦ tt
      | false ↦ elim (bytes_eq (take 2 (drop size a)) (13 ∷ 10 ∷ [])) as (λ v. PieceEnds bytes (cond v (chunk (take size a) (drop (size + 2) a)) (refused 400))) [
        | true ↦ end_of_end (drop (size + 2) a) a bytes (drop_end (size + 2) a) e
        | false ↦ tt
      ]
    ]

chunk_ends : (room : ℕ) (a bytes : List ℕ) (o : Option ℕ) → IsEnd a bytes → PieceEnds bytes (chunk_by room a o)
chunk_ends room a bytes None e = tt
chunk_ends room a bytes (Some size) e =
    elim (nat_lt room size) as (λ v. PieceEnds bytes (cond v (refused 413) (cond (size == 0) (last a) (sized_chunk size a)))) [
      | true ↦ tt
      | false ↦ elim (size == 0) as (λ v. PieceEnds bytes (cond v (last a) (sized_chunk size a))) [
        | true ↦ e
        | false ↦ sized_ends size a bytes e
      ]
    ]

line_ends : (room : ℕ) (bytes : List ℕ) (o : Option (List ℕ × List ℕ)) → PieceEnds bytes (by_line room bytes o)
line_ends room bytes None =
    elim (nat_le 256 (length bytes)) as (λ v. PieceEnds bytes (cond v (refused 400) undecided)) [ true ↦ tt | false ↦ tt ]
line_ends room bytes (Some parts) =
    chunk_ends room (drop (length parts.0 + 1) bytes) bytes (chunk_size parts.0) (drop_end (length parts.0 + 1) bytes)

piece_ends : (room : ℕ) (bytes : List ℕ) → PieceEnds bytes (piece room bytes)
unfolding piece
piece_ends room bytes = line_ends room bytes (cut_at 10 (take 256 bytes))

body_of_end : (a b : List ℕ) (d : Body) → IsEnd a b → BodyEnds a d → BodyEnds b d
body_of_end a b unfinished e h = tt
body_of_end a b (malformed status) e h = tt
body_of_end a b (whole data' rest) e h = end_of_end rest a b h e

trailer_all : (limits : Limits) (before bytes : List ℕ) → BodyEnds bytes (trailer limits before bytes)
unfolding trailer
trailer_all limits before bytes = trailer_ends limits before bytes (trailer_len (take limits.head bytes))

after_ends : (limits : Limits) (rest_of : List ℕ → List ℕ → Body) (before bytes : List ℕ) (p : Piece) → PieceEnds bytes p
    → ((front rest : List ℕ) → BodyEnds rest (rest_of front rest))
    → BodyEnds bytes (after_piece limits rest_of before p)
after_ends limits rest_of before bytes undecided h step = tt
after_ends limits rest_of before bytes (refused status) h step = tt
after_ends limits rest_of before bytes (chunk data' rest) h step = body_of_end rest bytes (rest_of (before ++ data') rest) h (step (before ++ data') rest)
after_ends limits rest_of before bytes (last rest) h step = body_of_end rest bytes (trailer limits before rest) h (trailer_all limits before rest)

chunks_end : (count : ℕ) (limits : Limits) (before bytes : List ℕ) → BodyEnds bytes (chunks_within count limits before bytes)
unfolding chunks_within
chunks_end zero limits before bytes = tt
chunks_end (suc count) limits before bytes =
    after_ends limits (chunks_within count limits) before bytes (piece (limits.body - length before) bytes)
    (piece_ends (limits.body - length before) bytes) (λ front rest. chunks_end count limits front rest)

pub framed_ends : (limits : Limits) (bytes : List ℕ) (f : framing.Framing) → BodyEnds bytes (body_by limits bytes f)
framed_ends limits bytes framing.empty = all_end bytes
framed_ends limits bytes (framing.sized size) =
    elim (nat_lt (length bytes) size) as (λ v. BodyEnds bytes (cond v unfinished (whole (take size bytes) (drop size bytes)))) [
      | true ↦ tt
      | false ↦ drop_end size bytes
    ]
framed_ends limits bytes framing.chunked = chunks_end (suc (length bytes)) limits [] bytes
framed_ends limits bytes framing.faulty = tt

-- what is behind a whole body
pub whole_end : (limits : Limits) (head : Head) (bytes data' rest : List ℕ) → body limits head bytes ≡ whole data' rest → IsEnd rest bytes
unfolding body
whole_end limits head bytes data' rest h = subst (BodyEnds bytes) h (framed_ends limits bytes (framing.framing head))
