-- How many bytes a reader holds that waits for more.
use Rattle.std.proofs.Common.{◌≡◌, ◌≤◌, ◌<◌, ◌+◌, ℕ, true, false, cond, List, [], ◌∷◌, length, take, drop, arith, sym, subst, refl, nat_lt, Option, Some, None, inl, inr}
use Rattle.std.specs.Prelude.{nat_le, bytes_eq, count_by}
use Rattle.std.proofs.lemmas.Bool.{and_parts, le-leb, le-ltb, ltb-false, cases_lt, true≢false}
use Rattle.httparse.specs.Grammar.{RequestHead}
use Rattle.http1_grammar.specs.Limits.{Limits}
use Rattle.http1_grammar.specs.Lines.{is_line_feed, skip_empty_lines, head_len}
use Rattle.http1_grammar.specs.Head.{Head, head_of}
use Rattle.http1_grammar.specs.RequestText.{request_head}
use Rattle.http1_grammar.specs.Framing.{Framing, empty, sized, chunked, faulty, framing}
use Rattle.http1_grammar.specs.Next.{Next, nothing, refuse, found, by_framing, by_grammar, by_len, judge, next_head, next}
use Rattle.http1_grammar.specs.Body.{Body, unfinished, malformed, whole, chunks, body_by}
use Rattle.http1_grammar.specs.Reading.{Stage, at_head, in_length, in_chunks, is_refused, body_stage, Reading, Decision, needs_more, refuses, a_head, a_body, of_next, of_body, decision_at, decision, kept, waiting, behind, StageFits, data_of, held}
use Rattle.http1_grammar.proofs.SettledLemmas.{whole_open, settled_left, settled_fits}

-- ---- a head that isn't whole

refused_open : (status : ℕ) → refuse status ≡ nothing → ⊥
refused_open status e = cc

found_open : (head : Head) (rest : List ℕ) → found head rest ≡ nothing → ⊥
found_open head rest e = cc

framing_open : (limits : Limits) (head : Head) (rest : List ℕ) (f : Framing) → by_framing limits head rest f ≡ nothing → ⊥
framing_open limits head rest empty e = found_open head rest e
framing_open limits head rest (sized size) e =
    elim (nat_lt limits.body size) as (λ v. cond v (refuse 413) (found head rest) ≡ nothing → ⊥) [
      | true ↦ λ k. refused_open 413 k
      | false ↦ λ k. found_open head rest k
    ] e
framing_open limits head rest chunked e = found_open head rest e
framing_open limits head rest faulty e = refused_open 400 e

grammar_open : (limits : Limits) (rest : List ℕ) (o : Option RequestHead) → by_grammar limits rest o ≡ nothing → ⊥
grammar_open limits rest None e = refused_open 400 e
grammar_open limits rest (Some head) e = framing_open limits (head_of head) rest (framing (head_of head)) e

judge_open : (limits : Limits) (text rest : List ℕ) → judge limits text rest ≡ nothing → ⊥
unfolding judge
judge_open limits text rest e =
    elim (nat_lt 98 (count_by is_line_feed text)) as (λ v. cond v (refuse 431) (by_grammar limits rest (request_head text)) ≡ nothing → ⊥) [
      | true ↦ λ k. refused_open 431 k
      | false ↦ λ k. grammar_open limits rest (request_head text) k
    ] e

len_open : (limits : Limits) (bytes : List ℕ) (o : Option ℕ) → by_len limits bytes o ≡ nothing → length bytes ≤ limits.head + 1
len_open limits bytes None e =
    elim (cases_lt (length bytes) limits.head) [
      | inl l ↦ omega arith
      | inr l ↦ absurd (refused_open 431 (subst (λ v. cond v (refuse 431) nothing ≡ nothing) (le-leb limits.head (length bytes) l) e))
    ]
len_open limits bytes (Some len) e = absurd (judge_open limits (take len bytes) (drop len bytes) e)

lone_short : (bytes : List ℕ) → bytes_eq bytes (13 ∷ []) ≡ true → length bytes ≤ 1
lone_short [] e = omega arith
lone_short (b ∷ []) e = omega arith
lone_short (b ∷ c ∷ bytes) e = absurd (true≢false (sym (and_parts _ _ e).1))

head_open : (limits : Limits) (bytes : List ℕ) → next_head limits bytes ≡ nothing → length bytes ≤ limits.head + 1
unfolding next_head
head_open limits bytes e =
    elim (bytes_eq bytes (13 ∷ [])) as (λ v. bytes_eq bytes (13 ∷ []) ≡ v
    → cond v nothing (by_len limits bytes (head_len (take limits.head bytes))) ≡ nothing → length bytes ≤ limits.head + 1) [
      | true ↦ λ k o. let l = lone_short bytes k in omega arith
      | false ↦ λ k o. len_open limits bytes (head_len (take limits.head bytes)) o
    ] refl e

next_open : (limits : Limits) (bytes : List ℕ) → next limits bytes ≡ nothing → length (skip_empty_lines bytes) ≤ limits.head + 1
unfolding next
next_open limits bytes e = head_open limits (skip_empty_lines bytes) e

-- ---- a body that isn't whole

sized_open : (limits : Limits) (bytes : List ℕ) (size : ℕ) → body_by limits bytes (sized size) ≡ unfinished → length bytes < size
sized_open limits bytes size e =
    elim (cases_lt (length bytes) size) [
      | inl l ↦ l
      | inr l ↦ absurd (whole_open (take size bytes) (drop size bytes)
          (subst (λ v. cond v unfinished (whole (take size bytes) (drop size bytes)) ≡ unfinished) (le-ltb (length bytes) size l) e))
    ]

-- ---- a decision that isn't there

open_next : (s : Next) → of_next s ≡ needs_more → s ≡ nothing
open_next nothing e = refl
open_next (refuse status) e = absurd cc
open_next (found head rest) e = absurd cc

open_body : (b : Body) → of_body b ≡ needs_more → b ≡ unfinished
open_body unfinished e = refl
open_body (malformed status) e = absurd cc
open_body (whole data' rest) e = absurd cc

waiting_holds : (limits : Limits) (stage : Stage) (bytes : List ℕ) → StageFits limits stage → decision_at limits stage bytes ≡ needs_more
    → length (data_of (waiting limits stage bytes)) + length (kept limits stage bytes) ≤ limits.head + limits.body + 257
waiting_holds limits at_head bytes fits e = let l = next_open limits bytes (open_next (next limits bytes) e) in omega arith
waiting_holds limits (in_length size) bytes fits e =
    let l = sized_open limits bytes size (open_body (body_by limits bytes (sized size)) e) in omega arith
waiting_holds limits (in_chunks data') bytes fits e =
    let f = settled_fits limits data' bytes fits in
    elim (settled_left limits data' bytes (open_body (chunks limits data' bytes) e)) [
      | inl l ↦ omega arith
      | inr l ↦ omega arith
    ]
waiting_holds limits (is_refused status) bytes fits e = absurd cc

pub reader_holds : (reading : Reading) → StageFits reading.limits reading.stage → decision reading ≡ needs_more
    → held (behind reading needs_more) ≤ reading.limits.head + reading.limits.body + 257
reader_holds reading fits e = waiting_holds reading.limits reading.stage reading.unread fits e

-- ---- a stage stays within the limit

abbrev NextFits : Limits → Next → Type 0
NextFits limits nothing = Unit {0}
NextFits limits (refuse status) = Unit {0}
NextFits limits (found head rest) = StageFits limits (body_stage (framing head))

framing_fits : (limits : Limits) (head : Head) (rest : List ℕ) (f : Framing) → framing head ≡ f → NextFits limits (by_framing limits head rest f)
framing_fits limits head rest empty e = subst (λ f. StageFits limits (body_stage f)) (sym e) (omega arith)
framing_fits limits head rest (sized size) e =
    elim (nat_lt limits.body size) as (λ v. nat_lt limits.body size ≡ v → NextFits limits (cond v (refuse 413) (found head rest))) [
      | true ↦ λ k. tt
      | false ↦ λ k. subst (λ f. StageFits limits (body_stage f)) (sym e) (ltb-false limits.body size k)
    ] refl
framing_fits limits head rest chunked e = subst (λ f. StageFits limits (body_stage f)) (sym e) (omega arith)
framing_fits limits head rest faulty e = tt

grammar_fits : (limits : Limits) (rest : List ℕ) (o : Option RequestHead) → NextFits limits (by_grammar limits rest o)
grammar_fits limits rest None = tt
grammar_fits limits rest (Some head) = framing_fits limits (head_of head) rest (framing (head_of head)) refl

judge_fits : (limits : Limits) (text rest : List ℕ) → NextFits limits (judge limits text rest)
unfolding judge
judge_fits limits text rest =
    elim (nat_lt 98 (count_by is_line_feed text)) as (λ v. NextFits limits (cond v (refuse 431) (by_grammar limits rest (request_head text)))) [
      | true ↦ tt
      | false ↦ grammar_fits limits rest (request_head text)
    ]

len_fits : (limits : Limits) (bytes : List ℕ) (o : Option ℕ) → NextFits limits (by_len limits bytes o)
len_fits limits bytes None =
    elim (nat_le limits.head (length bytes)) as (λ v. NextFits limits (cond v (refuse 431) nothing)) [ true ↦ tt | false ↦ tt ]
len_fits limits bytes (Some len) = judge_fits limits (take len bytes) (drop len bytes)

head_fits : (limits : Limits) (bytes : List ℕ) → NextFits limits (next_head limits bytes)
unfolding next_head
head_fits limits bytes =
    elim (bytes_eq bytes (13 ∷ [])) as (λ v. NextFits limits (cond v nothing (by_len limits bytes (head_len (take limits.head bytes))))) [
      | true ↦ tt
      | false ↦ len_fits limits bytes (head_len (take limits.head bytes))
    ]

next_fits : (limits : Limits) (bytes : List ℕ) → NextFits limits (next limits bytes)
unfolding next
next_fits limits bytes = head_fits limits (skip_empty_lines bytes)

abbrev DecisionFits : Limits → Decision → Type 0
DecisionFits limits needs_more = Unit {0}
DecisionFits limits (refuses status) = Unit {0}
DecisionFits limits (a_head head rest) = StageFits limits (body_stage (framing head))
DecisionFits limits (a_body data' rest) = Unit {0}

of_next_fits : (limits : Limits) (s : Next) → NextFits limits s → DecisionFits limits (of_next s)
of_next_fits limits nothing fits = tt
of_next_fits limits (refuse status) fits = tt
of_next_fits limits (found head rest) fits = fits

of_body_fits : (limits : Limits) (b : Body) → DecisionFits limits (of_body b)
of_body_fits limits unfinished = tt
of_body_fits limits (malformed status) = tt
of_body_fits limits (whole data' rest) = tt

decision_fits : (limits : Limits) (stage : Stage) (bytes : List ℕ) → DecisionFits limits (decision_at limits stage bytes)
decision_fits limits at_head bytes = of_next_fits limits (next limits bytes) (next_fits limits bytes)
decision_fits limits (in_length size) bytes = of_body_fits limits (body_by limits bytes (sized size))
decision_fits limits (in_chunks data') bytes = of_body_fits limits (chunks limits data' bytes)
decision_fits limits (is_refused status) bytes = tt

waiting_fits : (limits : Limits) (stage : Stage) (bytes : List ℕ) → StageFits limits stage → StageFits limits (waiting limits stage bytes)
waiting_fits limits at_head bytes fits = tt
waiting_fits limits (in_length size) bytes fits = fits
waiting_fits limits (in_chunks data') bytes fits = settled_fits limits data' bytes fits
waiting_fits limits (is_refused status) bytes fits = tt

behind_fits : (reading : Reading) (d : Decision) → DecisionFits reading.limits d → StageFits reading.limits reading.stage
    → StageFits reading.limits (behind reading d).stage
behind_fits reading needs_more h fits = waiting_fits reading.limits reading.stage reading.unread fits
behind_fits reading (refuses status) h fits = tt
behind_fits reading (a_head head rest) h fits = h
behind_fits reading (a_body data' rest) h fits = tt

pub reader_fits : (reading : Reading) → StageFits reading.limits reading.stage
    → StageFits reading.limits (behind reading (decision reading)).stage
reader_fits reading fits = behind_fits reading (decision reading) (decision_fits reading.limits reading.stage reading.unread) fits
