-- The outcomes of connections.
use Rattle.std.specs.Prelude.{Bool, true, false}
use Rattle.service_core.specs.declared.ended.How.{How}
use Rattle.server_run.specs.declared.outcome.Outcome.{Outcome}
use Rattle.service_core.specs.declared.ended.How.TheVariants as how
use Rattle.server_run.specs.declared.outcome.Outcome.TheVariants as outcome

-- the outcome of a connection that its service ended
abbrev pub outcome_of : How → Outcome
outcome_of how.Served = outcome.Served
outcome_of how.ReadFault = outcome.ReadFault
outcome_of how.WriteFault = outcome.WriteFault
outcome_of how.Upgraded = outcome.Upgraded
outcome_of how.Memory = outcome.Memory

-- its service served it to its end
abbrev pub is_served : Outcome → Bool
is_served outcome.Served = true
is_served outcome.ReadFault = false
is_served outcome.WriteFault = false
is_served outcome.Upgraded = false
is_served (outcome.Lost worker) = false
is_served (outcome.Stopped forced) = false
is_served outcome.Memory = false

-- the server was stopped first
abbrev pub is_stopped : Outcome → Bool
is_stopped outcome.Served = false
is_stopped outcome.ReadFault = false
is_stopped outcome.WriteFault = false
is_stopped outcome.Upgraded = false
is_stopped (outcome.Lost worker) = false
is_stopped (outcome.Stopped forced) = true
is_stopped outcome.Memory = false

-- its worker ended by a fault, or none was left
abbrev pub is_lost : Outcome → Bool
is_lost outcome.Served = false
is_lost outcome.ReadFault = false
is_lost outcome.WriteFault = false
is_lost outcome.Upgraded = false
is_lost (outcome.Lost worker) = true
is_lost (outcome.Stopped forced) = false
is_lost outcome.Memory = false
