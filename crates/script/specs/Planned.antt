-- Listeners and connections as the lines of a script plan them.
use Rattle.std.specs.Prelude.{ℕ, ◌-◌, Bool, true, false, List, [], ◌∷◌, ◌++◌, length, map, set, Option, Some, slice_get}
use Rattle.std.specs.Option.{option_and_then, option_map}
use Rattle.std.specs.Simd.{first_chunks}
use Rattle.std.specs.Slice.Iter.{chunk_count}
use Rattle.service_core.specs.declared.peer.Peer.{Peer}
use Rattle.server_run.specs.declared.read_step.ReadStep.{ReadStep}
use Rattle.server_run.specs.declared.read_step.ReadStep.TheVariants.{Give}
use Rattle.server_run.specs.declared.write_step.WriteStep.{WriteStep}
use Rattle.server_run.specs.Steps.{given_by}
use Rattle.script.specs.declared.coming.Coming.{Coming}
use Rattle.script.specs.declared.coming.Coming.TheVariants.{Connection, Late, Skip, Failure}

-- its peer, and the steps that its reads and its writes go by
pub record Planned : Type 0 where
  pub peer : Peer
  pub reads : List ReadStep
  pub writes : List WriteStep

abbrev pub no_steps : Peer → Planned
no_steps peer = record { peer = peer; reads = []; writes = [] }

-- more steps of its reads, or of its writes
abbrev pub and_reads : Planned → List ReadStep → Planned
and_reads planned steps = record planned { reads = planned.reads ++ steps }

abbrev pub and_writes : Planned → List WriteStep → Planned
and_writes planned steps = record planned { writes = planned.writes ++ steps }

-- all bytes that it gives
abbrev pub held_of : Planned → List ℕ
held_of planned = given_by planned.reads

-- bytes in pieces of so many, of which the last may have fewer
abbrev pub pieces : ℕ → List ℕ → List (List ℕ)
pieces cut bytes = first_chunks cut (chunk_count (length bytes) cut) bytes

-- a step for each piece
abbrev pub gives : ℕ → List ℕ → List ReadStep
gives cut bytes = map Give (pieces cut bytes)

-- what a listener answers, in order, and the connections among that, in order
pub record Listening : Type 0 where
  pub comings : List Coming
  pub connections : List Planned

-- this answer is a connection
abbrev pub is_connection : Coming → Bool
is_connection Connection = true
is_connection Late = false
is_connection Skip = false
is_connection Failure = false

abbrev pub nothing_comes : Listening
nothing_comes = record { comings = []; connections = [] }

-- one more answer
abbrev pub and_coming : Listening → Coming → Listening
and_coming listener coming = record listener { comings = listener.comings ++ coming ∷ [] }

-- one more connection, of this peer
abbrev pub and_connection : Listening → Peer → Listening
and_connection listener peer = record {
  comings = listener.comings ++ Connection ∷ [];
  connections = listener.connections ++ no_steps peer ∷ [];
}

-- the last of a list is changed, or there is none, or it can't be
abbrev pub at_last : {X : Type 0} → (X → Option X) → List X → Option (List X)
at_last change xs = option_and_then (λ x. option_map (λ y. set xs (length xs - 1) y) (change x)) (slice_get xs (length xs - 1))

-- the last connection of a listener is changed, or there is none
abbrev pub at_last_connection : (Planned → Planned) → Listening → Option Listening
at_last_connection change listener =
    option_map (λ connections. record listener { connections = connections })
    (at_last (λ connection. Some (change connection)) listener.connections)
