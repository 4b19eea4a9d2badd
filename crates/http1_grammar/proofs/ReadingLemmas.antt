-- What a reader's decision says of the bytes that follow.
use Rattle.std.proofs.Common.{◌≡◌, ◌<◌, ℕ, List, ◌++◌, length, arith, sym, ap, ◌∙◌, refl}
use Rattle.std.proofs.lemmas.Bool.{le-ltb}
use Rattle.http1_grammar.specs.Limits.{Limits}
use Rattle.http1_grammar.specs.Lines.{skip_empty_lines}
use Rattle.http1_grammar.specs.Head.{Head}
use Rattle.http1_grammar.specs.Framing.{Framing, empty, sized, chunked, faulty, framing}
use Rattle.http1_grammar.specs.Next as step
use Rattle.http1_grammar.specs.Next.{Next, extended, next_head, next}
use Rattle.http1_grammar.specs.Body.{Body, unfinished, malformed, whole, extended_body, chunks, body_by, body}
use Rattle.http1_grammar.specs.Reading.{Stage, at_head, in_length, in_chunks, is_refused, body_stage, Reading, needs_more, of_next, of_body, decision_at, decision, kept, waiting, behind, fed, extended_decision}
use Rattle.http1_grammar.proofs.StepLemmas.{next_append, skip_append}
use Rattle.http1_grammar.proofs.BodyLemmas.{chunks_append, framed_append}
use Rattle.http1_grammar.proofs.SettledLemmas.{settled_stays}

-- empty lines before a head decide nothing
pub skip_next : (limits : Limits) (bytes more : List ℕ) → next limits (skip_empty_lines bytes ++ more) ≡ next limits (bytes ++ more)
unfolding next
skip_next limits bytes more = ap (next_head limits) (sym (skip_append bytes more))

next_long : (s : Next) (more : List ℕ) → of_next (extended s more) ≡ extended_decision (of_next s) more
next_long step.nothing more = refl
next_long (step.refuse status) more = refl
next_long (step.found head rest) more = refl

body_long : (b : Body) (more : List ℕ) → of_body (extended_body b more) ≡ extended_decision (of_body b) more
body_long unfinished more = refl
body_long (malformed status) more = refl
body_long (whole data' rest) more = refl

pub decision_at_append : (limits : Limits) (stage : Stage) (bytes more : List ℕ) → 0 < limits.head
    → (decision_at limits stage bytes ≡ needs_more → ⊥)
    → decision_at limits stage (bytes ++ more) ≡ extended_decision (decision_at limits stage bytes) more
decision_at_append limits at_head bytes more p decided =
    ap of_next (next_append limits bytes more p (λ e. decided (ap of_next e))) ∙ next_long (next limits bytes) more
decision_at_append limits (in_length size) bytes more p decided =
    ap of_body (framed_append limits bytes more (sized size) (λ e. decided (ap of_body e))) ∙ body_long (body_by limits bytes (sized size)) more
decision_at_append limits (in_chunks data') bytes more p decided =
    ap of_body (chunks_append limits data' bytes more (λ e. decided (ap of_body e))) ∙ body_long (chunks limits data' bytes) more
decision_at_append limits (is_refused status) bytes more p decided = refl

pub kept_append : (limits : Limits) (stage : Stage) (bytes more : List ℕ)
    → decision_at limits (waiting limits stage bytes) (kept limits stage bytes ++ more) ≡ decision_at limits stage (bytes ++ more)
kept_append limits at_head bytes more = ap of_next (skip_next limits bytes more)
kept_append limits (in_length size) bytes more = refl
kept_append limits (in_chunks data') bytes more = ap of_body (settled_stays limits data' bytes more)
kept_append limits (is_refused status) bytes more = refl

-- a decided reading stays so
pub decided_stays : (reading : Reading) (more : List ℕ) → 0 < reading.limits.head → (decision reading ≡ needs_more → ⊥)
    → decision (fed reading more) ≡ extended_decision (decision reading) more
decided_stays reading more p decided = decision_at_append reading.limits reading.stage reading.unread more p decided

-- what a reader keeps that needs more decides what all its bytes decide
pub open_waits : (reading : Reading) (more : List ℕ) → decision (fed (behind reading needs_more) more) ≡ decision (fed reading more)
open_waits reading more = kept_append reading.limits reading.stage reading.unread more

-- ---- behind a head

no_length : (limits : Limits) (bytes : List ℕ) → body_by limits bytes (sized 0) ≡ body_by limits bytes empty
no_length limits bytes = rw (le-ltb (length bytes) 0 (omega arith)) refl

framed_stage : (limits : Limits) (bytes : List ℕ) (f : Framing) → decision_at limits (body_stage f) bytes ≡ of_body (body_by limits bytes f)
framed_stage limits bytes empty = ap of_body (no_length limits bytes)
framed_stage limits bytes (sized size) = refl
framed_stage limits bytes chunked = refl
framed_stage limits bytes faulty = refl

-- the body that a reader behind a head decides is that of the head
pub body_follows : (limits : Limits) (head : Head) (bytes : List ℕ) → decision_at limits (body_stage (framing head)) bytes ≡ of_body (body limits head bytes)
unfolding body
body_follows limits head bytes = framed_stage limits bytes (framing head)
