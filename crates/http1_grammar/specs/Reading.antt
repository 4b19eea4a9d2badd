-- Where the reader of a connection's bytes stands, and what its unread bytes decide.
use Rattle.std.specs.Prelude.{◌≡◌, ◌≤◌, ◌⊎◌, ℕ, zero, suc, ◌+◌, ◌-◌, List, [], ◌++◌, length, ⊤}
use Rattle.http1_grammar.specs.Limits.{Limits}
use Rattle.http1_grammar.specs.Lines.{skip_empty_lines}
use Rattle.http1_grammar.specs.Head.{Head}
use Rattle.http1_grammar.specs.Framing.{Framing, empty, sized, chunked, faulty, framing}
use Rattle.http1_grammar.specs.Next.{Next, nothing, refuse, found, next}
use Rattle.http1_grammar.specs.Body.{Body, unfinished, malformed, whole, Piece, undecided, refused, chunk, last, piece, chunks, body_by}

pub data Stage : Type 0 where
  -- a head comes next
  at_head : Stage
  -- a body of so many bytes comes next
  in_length : ℕ → Stage
  -- the chunks of a body come next, behind these data
  in_chunks : List ℕ → Stage
  -- nothing more comes, since this status was answered
  is_refused : ℕ → Stage

-- where the body of a head in this framing is read
abbrev pub body_stage : Framing → Stage
body_stage empty = in_length 0
body_stage (sized size) = in_length size
body_stage chunked = in_chunks []
body_stage faulty = is_refused 400

pub record Reading : Type 0 where
  pub limits : Limits
  -- the bytes that no step has used
  pub unread : List ℕ
  pub stage : Stage

-- ---- what the unread bytes decide

pub data Decision : Type 0 where
  -- more bytes decide it
  needs_more : Decision
  -- the connection is answered this status, and closed
  refuses : ℕ → Decision
  -- a head, and the bytes behind it
  a_head : Head → List ℕ → Decision
  -- a body, and the bytes behind it
  a_body : List ℕ → List ℕ → Decision

abbrev pub of_next : Next → Decision
of_next nothing = needs_more
of_next (refuse status) = refuses status
of_next (found head rest) = a_head head rest

abbrev pub of_body : Body → Decision
of_body unfinished = needs_more
of_body (malformed status) = refuses status
of_body (whole data' rest) = a_body data' rest

-- what the bytes decide at a stage, taken as not ended
abbrev pub decision_at : Limits → Stage → List ℕ → Decision
decision_at limits at_head bytes = of_next (next limits bytes)
decision_at limits (in_length size) bytes = of_body (body_by limits bytes (sized size))
decision_at limits (in_chunks data') bytes = of_body (chunks limits data' bytes)
decision_at limits (is_refused status) bytes = refuses status

-- what the unread bytes decide
abbrev pub decision : Reading → Decision
decision reading = decision_at reading.limits reading.stage reading.unread

-- ---- chunks that are whole, of a body that isn't

-- the data and the bytes that go on with this piece, if it is a chunk
abbrev pub settle : (List ℕ → List ℕ → List ℕ × List ℕ) → List ℕ → List ℕ → Piece → List ℕ × List ℕ
settle settled data' bytes undecided = (data', bytes)
settle settled data' bytes (refused status) = (data', bytes)
settle settled data' bytes (chunk more rest) = settled (data' ++ more) rest
settle settled data' bytes (last rest) = (data', bytes)

-- the data and the bytes behind at most so many chunks
unfoldable pub settled_within : ℕ → Limits → List ℕ → List ℕ → List ℕ × List ℕ
settled_within zero limits data' bytes = (data', bytes)
settled_within (suc count) limits data' bytes =
    settle (settled_within count limits) data' bytes (piece (limits.body - length data') bytes)

-- the data and the bytes behind the chunks that are whole
abbrev pub settled : Limits → List ℕ → List ℕ → List ℕ × List ℕ
settled limits data' bytes = settled_within (suc (length bytes)) limits data' bytes

-- ---- the reader behind a decision

-- the unread bytes that are kept where they decide nothing: empty lines before a head and chunks that are whole go
abbrev pub kept : Limits → Stage → List ℕ → List ℕ
kept limits at_head bytes = skip_empty_lines bytes
kept limits (in_length size) bytes = bytes
kept limits (in_chunks data') bytes = (settled limits data' bytes).1
kept limits (is_refused status) bytes = bytes

-- the stage that waits for more bytes: the data of the chunks that went are kept
abbrev pub waiting : Limits → Stage → List ℕ → Stage
waiting limits at_head bytes = at_head
waiting limits (in_length size) bytes = in_length size
waiting limits (in_chunks data') bytes = in_chunks (settled limits data' bytes).0
waiting limits (is_refused status) bytes = is_refused status

-- the reader behind a decision
abbrev pub behind : Reading → Decision → Reading
behind reading needs_more = record reading {
  unread = kept reading.limits reading.stage reading.unread;
  stage = waiting reading.limits reading.stage reading.unread;
}
behind reading (refuses status) = record reading { stage = is_refused status }
behind reading (a_head head rest) = record reading { unread = rest; stage = body_stage (framing head) }
behind reading (a_body data' rest) = record reading { unread = rest; stage = at_head }

-- the reader that got more bytes
abbrev pub fed : Reading → List ℕ → Reading
fed reading more = record reading { unread = reading.unread ++ more }

-- the same decision where more bytes follow
abbrev pub extended_decision : Decision → List ℕ → Decision
extended_decision needs_more more = needs_more
extended_decision (refuses status) more = refuses status
extended_decision (a_head head rest) more = a_head head (rest ++ more)
extended_decision (a_body data' rest) more = a_body data' (rest ++ more)

-- ---- what a reader never leaves

-- the statuses that refuse a request
abbrev pub IsRefusal : ℕ → Type 0
IsRefusal status = (status ≡ 400) ⊎ ((status ≡ 413) ⊎ (status ≡ 431))

-- a refusal that came before is one of them
abbrev pub StageRefuses : Stage → Type 0
StageRefuses at_head = ⊤
StageRefuses (in_length size) = ⊤
StageRefuses (in_chunks data') = ⊤
StageRefuses (is_refused status) = IsRefusal status

-- the body of a head comes next
abbrev pub IsAtBody : Stage → Type 0
IsAtBody at_head = ⊥
IsAtBody (in_length size) = ⊤
IsAtBody (in_chunks data') = ⊤
IsAtBody (is_refused status) = ⊥

-- a length, or the data so far, is within the limit of bodies
abbrev pub StageFits : Limits → Stage → Type 0
StageFits limits at_head = ⊤
StageFits limits (in_length size) = size ≤ limits.body
StageFits limits (in_chunks data') = length data' ≤ limits.body
StageFits limits (is_refused status) = ⊤

-- the data behind which a stage stands
abbrev pub data_of : Stage → List ℕ
data_of at_head = []
data_of (in_length size) = []
data_of (in_chunks data') = data'
data_of (is_refused status) = []

-- how many bytes a reader holds: its data, and its unread bytes
abbrev pub held : Reading → ℕ
held reading = length (data_of reading.stage) + length reading.unread
