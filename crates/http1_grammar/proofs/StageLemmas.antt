-- A head is followed by its body, and a body by a head.
use Rattle.std.proofs.Common.{◌≡◌, ℕ, true, false, cond, List, [], ◌∷◌, length, take, drop, sym, subst, refl, nat_lt, Option, Some, None}
use Rattle.std.specs.Prelude.{nat_le, bytes_eq, count_by}
use Rattle.httparse.specs.Grammar.{RequestHead}
use Rattle.http1_grammar.specs.Limits.{Limits}
use Rattle.http1_grammar.specs.Lines.{is_line_feed, skip_empty_lines, head_len}
use Rattle.http1_grammar.specs.Head.{Head, head_of}
use Rattle.http1_grammar.specs.RequestText.{request_head}
use Rattle.http1_grammar.specs.Framing.{Framing, empty, sized, chunked, faulty, framing}
use Rattle.http1_grammar.specs.Next.{Next, nothing, refuse, found, by_framing, by_grammar, by_len, judge, next_head, next}
use Rattle.http1_grammar.specs.Body.{Body, unfinished, malformed, whole, chunks, body_by}
use Rattle.http1_grammar.specs.Reading.{Stage, at_head, in_length, in_chunks, is_refused, body_stage, Reading, Decision, needs_more, refuses, a_head, a_body, of_next, of_body, decision_at, decision, waiting, behind, IsAtBody}

-- ---- the framing of a head that is found

abbrev NextFramed : Next → Type 0
NextFramed nothing = Unit {0}
NextFramed (refuse status) = Unit {0}
NextFramed (found head rest) = IsAtBody (body_stage (framing head))

framing_framed : (limits : Limits) (head : Head) (rest : List ℕ) (f : Framing) → framing head ≡ f → NextFramed (by_framing limits head rest f)
framing_framed limits head rest empty e = subst (λ f. IsAtBody (body_stage f)) (sym e) tt
framing_framed limits head rest (sized size) e =
    elim (nat_lt limits.body size) as (λ v. NextFramed (cond v (refuse 413) (found head rest))) [
      | true ↦ tt
      | false ↦ subst (λ f. IsAtBody (body_stage f)) (sym e) tt
    ]
framing_framed limits head rest chunked e = subst (λ f. IsAtBody (body_stage f)) (sym e) tt
framing_framed limits head rest faulty e = tt

grammar_framed : (limits : Limits) (rest : List ℕ) (o : Option RequestHead) → NextFramed (by_grammar limits rest o)
grammar_framed limits rest None = tt
grammar_framed limits rest (Some head) = framing_framed limits (head_of head) rest (framing (head_of head)) refl

judge_framed : (limits : Limits) (text rest : List ℕ) → NextFramed (judge limits text rest)
unfolding judge
judge_framed limits text rest =
    elim (nat_lt 98 (count_by is_line_feed text)) as (λ v. NextFramed (cond v (refuse 431) (by_grammar limits rest (request_head text)))) [
      | true ↦ tt
      | false ↦ grammar_framed limits rest (request_head text)
    ]

len_framed : (limits : Limits) (bytes : List ℕ) (o : Option ℕ) → NextFramed (by_len limits bytes o)
len_framed limits bytes None =
    elim (nat_le limits.head (length bytes)) as (λ v. NextFramed (cond v (refuse 431) nothing)) [ true ↦ tt | false ↦ tt ]
len_framed limits bytes (Some len) = judge_framed limits (take len bytes) (drop len bytes)

head_framed : (limits : Limits) (bytes : List ℕ) → NextFramed (next_head limits bytes)
unfolding next_head
head_framed limits bytes =
    elim (bytes_eq bytes (13 ∷ [])) as (λ v. NextFramed (cond v nothing (by_len limits bytes (head_len (take limits.head bytes))))) [
      | true ↦ tt
      | false ↦ len_framed limits bytes (head_len (take limits.head bytes))
    ]

next_framed : (limits : Limits) (bytes : List ℕ) → NextFramed (next limits bytes)
unfolding next
next_framed limits bytes = head_framed limits (skip_empty_lines bytes)

-- ---- decisions

abbrev Follows : Stage → Decision → Type 0
Follows stage needs_more = Unit {0}
Follows stage (refuses status) = Unit {0}
Follows stage (a_head head rest) = (stage ≡ at_head) × IsAtBody (body_stage (framing head))
Follows stage (a_body data' rest) = IsAtBody stage

next_follows : (s : Next) → NextFramed s → Follows at_head (of_next s)
next_follows nothing h = tt
next_follows (refuse status) h = tt
next_follows (found head rest) h = (refl, h)

body_follows : (stage : Stage) (b : Body) → IsAtBody stage → Follows stage (of_body b)
body_follows stage unfinished h = tt
body_follows stage (malformed status) h = tt
body_follows stage (whole data' rest) h = h

decision_follows : (limits : Limits) (stage : Stage) (bytes : List ℕ) → Follows stage (decision_at limits stage bytes)
decision_follows limits at_head bytes = next_follows (next limits bytes) (next_framed limits bytes)
decision_follows limits (in_length size) bytes = body_follows (in_length size) (body_by limits bytes (sized size)) tt
decision_follows limits (in_chunks data') bytes = body_follows (in_chunks data') (chunks limits data' bytes) tt
decision_follows limits (is_refused status) bytes = tt

pub head_follows : (reading : Reading) (head : Head) (rest : List ℕ) → decision reading ≡ a_head head rest
    → (reading.stage ≡ at_head) × IsAtBody (behind reading (a_head head rest)).stage
head_follows reading head rest e = subst (Follows reading.stage) e (decision_follows reading.limits reading.stage reading.unread)

pub body_stands : (reading : Reading) (data' rest : List ℕ) → decision reading ≡ a_body data' rest → IsAtBody reading.stage
body_stands reading data' rest e = subst (Follows reading.stage) e (decision_follows reading.limits reading.stage reading.unread)

waiting_stands : (limits : Limits) (stage : Stage) (bytes : List ℕ) → IsAtBody stage → IsAtBody (waiting limits stage bytes)
waiting_stands limits at_head bytes h = h
waiting_stands limits (in_length size) bytes h = tt
waiting_stands limits (in_chunks data') bytes h = tt
waiting_stands limits (is_refused status) bytes h = h

pub body_waits : (reading : Reading) → IsAtBody reading.stage → IsAtBody (behind reading needs_more).stage
body_waits reading h = waiting_stands reading.limits reading.stage reading.unread h
