-- Which statuses refuse a request.
use Rattle.std.proofs.Common.{◌≡◌, ◌+◌, ◌-◌, ℕ, zero, suc, true, false, cond, List, [], ◌∷◌, ◌++◌, length, take, drop, sym, subst, refl, nat_lt, Option, Some, None, inl, inr}
use Rattle.std.specs.Prelude.{◌==◌, nat_le, bytes_eq, count_by}
use Rattle.httparse.specs.Grammar.{RequestHead}
use Rattle.http1_grammar.specs.Limits.{Limits}
use Rattle.http1_grammar.specs.Lines.{is_line_feed, skip_empty_lines, head_len, cut_at}
use Rattle.http1_grammar.specs.Head.{Head, head_of}
use Rattle.http1_grammar.specs.RequestText.{request_head}
use Rattle.http1_grammar.specs.Framing as framing
use Rattle.http1_grammar.specs.Next as step
use Rattle.http1_grammar.specs.Next.{Next, by_framing, by_grammar, by_len, judge, next_head, next}
use Rattle.http1_grammar.specs.Body.{Body, unfinished, malformed, whole, Piece, undecided, refused, chunk, last, sized_chunk, chunk_by, by_line, piece, trailer_by, trailer, after_piece, chunks_within, chunks, body_by, chunk_size}
use Rattle.http1_grammar.specs.Reading.{IsRefusal, StageRefuses, Reading, decision, Stage, at_head, in_length, in_chunks, is_refused, Decision, needs_more, refuses, a_head, a_body, of_next, of_body, decision_at}
use Rattle.http1_grammar.proofs.BodyLemmas.{trailer_len}

abbrev pub NextRefuses : Next → Type 0
NextRefuses step.nothing = Unit {0}
NextRefuses (step.refuse status) = IsRefusal status
NextRefuses (step.found head rest) = Unit {0}

framing_refuses : (limits : Limits) (head : Head) (rest : List ℕ) (f : framing.Framing) → NextRefuses (by_framing limits head rest f)
framing_refuses limits head rest framing.empty = tt
framing_refuses limits head rest (framing.sized size) =
    elim (nat_lt limits.body size) as (λ v. NextRefuses (cond v (step.refuse 413) (step.found head rest))) [ true ↦ inr (inl refl) | false ↦ tt ]
framing_refuses limits head rest framing.chunked = tt
framing_refuses limits head rest framing.faulty = inl refl

grammar_refuses : (limits : Limits) (rest : List ℕ) (o : Option RequestHead) → NextRefuses (by_grammar limits rest o)
grammar_refuses limits rest None = inl refl
grammar_refuses limits rest (Some head) = framing_refuses limits (head_of head) rest (framing.framing (head_of head))

judge_refuses : (limits : Limits) (text rest : List ℕ) → NextRefuses (judge limits text rest)
unfolding judge
judge_refuses limits text rest =
    elim (nat_lt 98 (count_by is_line_feed text)) as (λ v. NextRefuses (cond v (step.refuse 431) (by_grammar limits rest (request_head text)))) [
      | true ↦ inr (inr refl)
      | false ↦ grammar_refuses limits rest (request_head text)
    ]

len_refuses : (limits : Limits) (bytes : List ℕ) (o : Option ℕ) → NextRefuses (by_len limits bytes o)
len_refuses limits bytes None =
    elim (nat_le limits.head (length bytes)) as (λ v. NextRefuses (cond v (step.refuse 431) step.nothing)) [ true ↦ inr (inr refl) | false ↦ tt ]
len_refuses limits bytes (Some n) = judge_refuses limits (take n bytes) (drop n bytes)

pub head_refuses : (limits : Limits) (bytes : List ℕ) → NextRefuses (next_head limits bytes)
unfolding next_head
head_refuses limits bytes =
    elim (bytes_eq bytes (13 ∷ [])) as (λ v. NextRefuses (cond v step.nothing (by_len limits bytes (head_len (take limits.head bytes))))) [
      | true ↦ tt
      | false ↦ len_refuses limits bytes (head_len (take limits.head bytes))
    ]

next_refuses : (limits : Limits) (bytes : List ℕ) → NextRefuses (next limits bytes)
unfolding next
next_refuses limits bytes = head_refuses limits (skip_empty_lines bytes)

-- ---- bodies

abbrev pub BodyRefuses : Body → Type 0
BodyRefuses unfinished = Unit {0}
BodyRefuses (malformed status) = IsRefusal status
BodyRefuses (whole data' rest) = Unit {0}

abbrev PieceRefuses : Piece → Type 0
PieceRefuses undecided = Unit {0}
PieceRefuses (refused status) = IsRefusal status
PieceRefuses (chunk data' rest) = Unit {0}
PieceRefuses (last rest) = Unit {0}

sized_refuses : (size : ℕ) (a : List ℕ) → PieceRefuses (sized_chunk size a)
sized_refuses size a =
    elim (nat_lt (length a) (size + 2)) as (λ v. PieceRefuses (cond v undecided
    (cond (bytes_eq (take 2 (drop size a)) (13 ∷ 10 ∷ [])) (chunk (take size a) (drop (size + 2) a)) (refused 400)))) [
      | true ↦ tt
      | false ↦ elim (bytes_eq (take 2 (drop size a)) (13 ∷ 10 ∷ [])) as (λ v. PieceRefuses (cond v (chunk (take size a) (drop (size + 2) a)) (refused 400))) [ true ↦ tt | false ↦ inl refl ]
    ]

chunk_refuses : (room : ℕ) (a : List ℕ) (o : Option ℕ) → PieceRefuses (chunk_by room a o)
chunk_refuses room a None = inl refl
chunk_refuses room a (Some size) =
    elim (nat_lt room size) as (λ v. PieceRefuses (cond v (refused 413) (cond (size == 0) (last a) (sized_chunk size a)))) [
      | true ↦ inr (inl refl)
      | false ↦ elim (size == 0) as (λ v. PieceRefuses (cond v (last a) (sized_chunk size a))) [ true ↦ tt | false ↦ sized_refuses size a ]
    ]

line_refuses : (room : ℕ) (bytes : List ℕ) (o : Option (List ℕ × List ℕ)) → PieceRefuses (by_line room bytes o)
line_refuses room bytes None =
    elim (nat_le 256 (length bytes)) as (λ v. PieceRefuses (cond v (refused 400) undecided)) [ true ↦ inl refl | false ↦ tt ]
line_refuses room bytes (Some parts) = chunk_refuses room (drop (length parts.0 + 1) bytes) (chunk_size parts.0)

piece_refuses : (room : ℕ) (bytes : List ℕ) → PieceRefuses (piece room bytes)
unfolding piece
piece_refuses room bytes = line_refuses room bytes (cut_at 10 (take 256 bytes))

trailer_refuses : (limits : Limits) (before bytes : List ℕ) (o : Option ℕ) → BodyRefuses (trailer_by limits before bytes o)
trailer_refuses limits before bytes (Some n) = tt
trailer_refuses limits before bytes None =
    elim (nat_le limits.head (length bytes)) as (λ v. BodyRefuses (cond v (malformed 431) unfinished)) [ true ↦ inr (inr refl) | false ↦ tt ]

trailer_all : (limits : Limits) (before bytes : List ℕ) → BodyRefuses (trailer limits before bytes)
unfolding trailer
trailer_all limits before bytes = trailer_refuses limits before bytes (trailer_len (take limits.head bytes))

after_refuses : (limits : Limits) (rest_of : List ℕ → List ℕ → Body) (before : List ℕ) (p : Piece) → PieceRefuses p
    → ((front rest : List ℕ) → BodyRefuses (rest_of front rest)) → BodyRefuses (after_piece limits rest_of before p)
after_refuses limits rest_of before undecided h step = tt
after_refuses limits rest_of before (refused status) h step = h
after_refuses limits rest_of before (chunk data' rest) h step = step (before ++ data') rest
after_refuses limits rest_of before (last rest) h step = trailer_all limits before rest

pub chunks_refuse : (count : ℕ) (limits : Limits) (before bytes : List ℕ) → BodyRefuses (chunks_within count limits before bytes)
unfolding chunks_within
chunks_refuse zero limits before bytes = tt
chunks_refuse (suc count) limits before bytes =
    after_refuses limits (chunks_within count limits) before (piece (limits.body - length before) bytes)
    (piece_refuses (limits.body - length before) bytes) (λ front rest. chunks_refuse count limits front rest)

framed_refuses : (limits : Limits) (bytes : List ℕ) (f : framing.Framing) → BodyRefuses (body_by limits bytes f)
framed_refuses limits bytes framing.empty = tt
framed_refuses limits bytes (framing.sized size) =
    elim (nat_lt (length bytes) size) as (λ v. BodyRefuses (cond v unfinished (whole (take size bytes) (drop size bytes)))) [ true ↦ tt | false ↦ tt ]
framed_refuses limits bytes framing.chunked = chunks_refuse (suc (length bytes)) limits [] bytes
framed_refuses limits bytes framing.faulty = inl refl

-- ---- decisions

abbrev pub DecisionRefuses : Decision → Type 0
DecisionRefuses needs_more = Unit {0}
DecisionRefuses (refuses status) = IsRefusal status
DecisionRefuses (a_head head rest) = Unit {0}
DecisionRefuses (a_body data' rest) = Unit {0}

of_next_refuses : (s : Next) → NextRefuses s → DecisionRefuses (of_next s)
of_next_refuses step.nothing h = tt
of_next_refuses (step.refuse status) h = h
of_next_refuses (step.found head rest) h = tt

of_body_refuses : (b : Body) → BodyRefuses b → DecisionRefuses (of_body b)
of_body_refuses unfinished h = tt
of_body_refuses (malformed status) h = h
of_body_refuses (whole data' rest) h = tt

pub decision_refuses : (limits : Limits) (stage : Stage) (bytes : List ℕ) → StageRefuses stage → DecisionRefuses (decision_at limits stage bytes)
decision_refuses limits at_head bytes h = of_next_refuses (next limits bytes) (next_refuses limits bytes)
decision_refuses limits (in_length size) bytes h = of_body_refuses (body_by limits bytes (framing.sized size)) (framed_refuses limits bytes (framing.sized size))
decision_refuses limits (in_chunks data') bytes h = of_body_refuses (chunks limits data' bytes) (chunks_refuse (suc (length bytes)) limits data' bytes)
decision_refuses limits (is_refused status) bytes h = h

-- the status that refuses a head
pub refused_head : (limits : Limits) (bytes : List ℕ) (status : ℕ) → step.refuse status ≡ next_head limits bytes → IsRefusal status
refused_head limits bytes status h = subst NextRefuses (sym h) (head_refuses limits bytes)

-- the status that refuses a body in chunks
pub refused_chunks : (limits : Limits) (before bytes : List ℕ) (status : ℕ) → chunks limits before bytes ≡ malformed status → IsRefusal status
refused_chunks limits before bytes status h = subst BodyRefuses h (chunks_refuse (suc (length bytes)) limits before bytes)

pub reading_refuses : (reading : Reading) (status : ℕ) → StageRefuses reading.stage → decision reading ≡ refuses status → IsRefusal status
reading_refuses reading status h e = subst DecisionRefuses e (decision_refuses reading.limits reading.stage reading.unread h)
