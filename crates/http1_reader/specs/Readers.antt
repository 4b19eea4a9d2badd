-- A reader's state, and what its steps are.
use Rattle.std.specs.Prelude.{◌≡◌, ◌≤◌, ℕ, ◌+◌, List, length, drop, ⊤}
use Rattle.http1_grammar.specs.Limits.{Limits}
use Rattle.http1_grammar.specs.Reading.{Stage, at_head, in_length, in_chunks, is_refused, Reading, Decision, needs_more, refuses, a_head, a_body, decision, behind, IsRefusal, StageRefuses, StageFits, held}
use Rattle.http1_plain.specs.Views.{view}
use Rattle.http1_head.specs.Passing.{HasSeen}
use Rattle.http1_reader.specs.Decoding.{IsAt}
use Rattle.http1_reader.specs.declared.reader_state.Place.{Place}
use Rattle.http1_reader.specs.declared.reader_state.Place.TheVariants as place
use Rattle.http1_reader.specs.declared.reader_state.ReaderState.{ReaderState}
use Rattle.http1_reader.specs.declared.step.Step.{Step}
use Rattle.http1_reader.specs.declared.step.Step.TheVariants.{NeedMore, Head, Body, Refused}

-- ---- what a step tells

-- the decision that a step tells, with these bytes behind it
abbrev pub decision_of : Step → List ℕ → Decision
decision_of NeedMore rest = needs_more
decision_of (Head head) rest = a_head (view head) rest
decision_of (Body body) rest = a_body body rest
decision_of (Refused status) rest = refuses status

-- the status of a refusal is one of the three
abbrev pub Tells : Step → Type 0
Tells NeedMore = ⊤
Tells (Head head) = ⊤
Tells (Body body) = ⊤
Tells (Refused status) = IsRefusal status

-- a reader that waits holds no more than a head, a body and a chunk line have
abbrev pub HoldsLittle : Reading → Step → Type 0
HoldsLittle reading NeedMore = held reading ≤ reading.limits.head + reading.limits.body + 257
HoldsLittle reading (Head head) = ⊤
HoldsLittle reading (Body body) = ⊤
HoldsLittle reading (Refused status) = ⊤

-- ---- the state

-- the stage at a place, where these data of a body were decoded
abbrev pub stage_of : List ℕ → Place → Stage
stage_of data' (place.Head seen) = at_head
stage_of data' (place.Sized size) = in_length size
stage_of data' (place.Chunks part) = in_chunks data'
stage_of data' (place.Refused status) = is_refused status

abbrev pub unread_of : ReaderState → List ℕ
unread_of state = drop state.start state.bytes

abbrev pub reading_of : ReaderState → Reading
reading_of state = record {
  limits = state.limits;
  unread = unread_of state;
  stage = stage_of state.decoded state.place;
}

-- what was found out about the unread bytes at a place
abbrev pub IsKnown : Limits → List ℕ → List ℕ → Place → Type 0
IsKnown limits unread data' (place.Head seen) = HasSeen limits unread seen
IsKnown limits unread data' (place.Sized size) = ⊤
IsKnown limits unread data' (place.Chunks part) = IsAt limits unread data' part
IsKnown limits unread data' (place.Refused status) = ⊤

pub record Stands (state : ReaderState) : Type 0 where
  pub within : state.start ≤ length state.bytes
  pub known : IsKnown state.limits (unread_of state) state.decoded state.place

pub record IsSound (state : ReaderState) : Type 0 where
  pub stands : Stands state
  pub fits : StageFits state.limits (stage_of state.decoded state.place)
  pub refuses : StageRefuses (stage_of state.decoded state.place)

-- the step is what the unread bytes decide, and the reader is the one behind it
pub record Gives (old : Reading) (step : Step) (new : Reading) : Type 0 where
  pub decides : decision_of step new.unread ≡ decision old
  pub leaves : new ≡ behind old (decision old)
