-- No more bytes stand behind a body than there were.
use Rattle.std.proofs.Common.{◌≡◌, ◌≤◌, ℕ, zero, suc, ◌-◌, true, false, cond, List, ◌++◌, length, take, drop, arith, subst, length-drop, nat_lt, Option, Some, None}
use Rattle.std.specs.Prelude.{nat_le}
use Rattle.http1_grammar.specs.Limits.{Limits}
use Rattle.http1_grammar.specs.Lines.{empty_line, head_len, or_else}
use Rattle.http1_grammar.specs.Framing.{sized}
use Rattle.http1_grammar.specs.Next as step
use Rattle.http1_grammar.specs.Next.{Next, next}
use Rattle.http1_grammar.specs.Body.{Body, unfinished, malformed, whole, Piece, undecided, refused, chunk, last, piece, trailer_by, trailer, after_piece, chunks_within, body_by}
use Rattle.http1_grammar.specs.Reading.{Stage, at_head, in_length, in_chunks, is_refused, Reading, Decision, needs_more, refuses, a_head, a_body, of_next, of_body, decision_at, decision}
use Rattle.http1_grammar.proofs.AnswerLemmas.{Keeps, PieceKeeps, keeps_more, piece_keeps}

trailer_keeps : (limits : Limits) (before bytes : List ℕ) (o : Option ℕ) → Keeps (length bytes) (trailer_by limits before bytes o)
trailer_keeps limits before bytes (Some n) = omega (arith, length-drop n bytes)
trailer_keeps limits before bytes None =
    elim (nat_le limits.head (length bytes)) as (λ v. Keeps (length bytes) (cond v (malformed 431) unfinished)) [ true ↦ tt | false ↦ tt ]

last_keeps : (limits : Limits) (before bytes : List ℕ) → Keeps (length bytes) (trailer limits before bytes)
unfolding trailer
last_keeps limits before bytes =
    trailer_keeps limits before bytes (or_else (empty_line (take limits.head bytes)) (head_len (take limits.head bytes)))

after_keeps : (limits : Limits) (behind : List ℕ → List ℕ → Body) (before : List ℕ) (p : Piece) (most : ℕ) → PieceKeeps most p
    → ((front rest : List ℕ) → Keeps (length rest) (behind front rest))
    → Keeps most (after_piece limits behind before p)
after_keeps limits behind before undecided most h step = tt
after_keeps limits behind before (refused status) most h step = tt
after_keeps limits behind before (chunk bytes rest) most h step =
    keeps_more (length rest) most (behind (before ++ bytes) rest) (omega arith) (step (before ++ bytes) rest)
after_keeps limits behind before (last rest) most h step =
    keeps_more (length rest) most (trailer limits before rest) (omega arith) (last_keeps limits before rest)

chunks_keep : (count : ℕ) (limits : Limits) (before bytes : List ℕ) → Keeps (length bytes) (chunks_within count limits before bytes)
unfolding chunks_within
chunks_keep zero limits before bytes = tt
chunks_keep (suc count) limits before bytes =
    after_keeps limits (chunks_within count limits) before (piece (limits.body - length before) bytes) (length bytes)
    (piece_keeps (limits.body - length before) bytes) (λ front rest. chunks_keep count limits front rest)

sized_keeps : (limits : Limits) (size : ℕ) (bytes : List ℕ) → Keeps (length bytes) (body_by limits bytes (sized size))
sized_keeps limits size bytes =
    elim (nat_lt (length bytes) size) as (λ v. Keeps (length bytes) (cond v unfinished (whole (take size bytes) (drop size bytes)))) [
      | true ↦ tt
      | false ↦ omega (arith, length-drop size bytes)
    ]

abbrev DecisionKeeps : ℕ → Decision → Type 0
DecisionKeeps most needs_more = Unit {0}
DecisionKeeps most (refuses status) = Unit {0}
DecisionKeeps most (a_head head rest) = Unit {0}
DecisionKeeps most (a_body data' rest) = length rest ≤ most

next_keeps : (most : ℕ) (s : Next) → DecisionKeeps most (of_next s)
next_keeps most step.nothing = tt
next_keeps most (step.refuse status) = tt
next_keeps most (step.found head rest) = tt

body_keeps : (most : ℕ) (b : Body) → Keeps most b → DecisionKeeps most (of_body b)
body_keeps most unfinished k = tt
body_keeps most (malformed status) k = tt
body_keeps most (whole data' rest) k = k

decision_keeps : (limits : Limits) (stage : Stage) (bytes : List ℕ) → DecisionKeeps (length bytes) (decision_at limits stage bytes)
decision_keeps limits at_head bytes = next_keeps (length bytes) (next limits bytes)
decision_keeps limits (in_length size) bytes =
    body_keeps (length bytes) (body_by limits bytes (sized size)) (sized_keeps limits size bytes)
decision_keeps limits (in_chunks data') bytes =
    body_keeps (length bytes) (chunks_within (suc (length bytes)) limits data' bytes) (chunks_keep (suc (length bytes)) limits data' bytes)
decision_keeps limits (is_refused status) bytes = tt

pub body_shorter : (reading : Reading) (data' rest : List ℕ) → decision reading ≡ a_body data' rest → length rest ≤ length reading.unread
body_shorter reading data' rest e =
    subst (DecisionKeeps (length reading.unread)) e (decision_keeps reading.limits reading.stage reading.unread)
