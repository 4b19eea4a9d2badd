-- The step that an answer stands for.
use Rattle.std.specs.Prelude.{◌≡◌, ℕ, ◌≤◌, List, [], drop, ⊤}
use Rattle.http1_grammar.specs.Framing as framed
use Rattle.http1_grammar.specs.Next as grammar
use Rattle.http1_grammar.specs.Reading.{Stage, in_length, in_chunks, body_stage}
use Rattle.http1_plain.specs.Views.{view}
use Rattle.http1_head.specs.declared.next.BodyFraming.{BodyFraming}
use Rattle.http1_head.specs.declared.next.BodyFraming.TheVariants.{Sized, Chunked}
use Rattle.http1_head.specs.declared.next.NextHead.{NextHead}
use Rattle.http1_head.specs.declared.next.NextHead.TheVariants.{Nothing, Refused, Found}

-- the same over the bytes that were read
abbrev pub step_of : List ℕ → NextHead → grammar.Next
step_of bytes Nothing = grammar.nothing
step_of bytes (Refused status) = grammar.refuse status
step_of bytes (Found head body used) = grammar.found (view head) (drop used bytes)

-- a head took no more than so many bytes
abbrev pub IsWithin : ℕ → NextHead → Type 0
IsWithin most Nothing = ⊤
IsWithin most (Refused status) = ⊤
IsWithin most (Found head body used) = used ≤ most

-- where such a body is read
abbrev pub stage_by : BodyFraming → Stage
stage_by (Sized size) = in_length size
stage_by Chunked = in_chunks []

-- a head's body is framed as the head says
abbrev pub FramesBody : NextHead → Type 0
FramesBody Nothing = ⊤
FramesBody (Refused status) = ⊤
FramesBody (Found head body used) = stage_by body ≡ body_stage (framed.framing (view head))
