-- Outcomes that tell of a stop.
use Rattle.std.specs.Prelude.{Bool, true, false, ℕ}
use Rattle.server_run.specs.declared.outcome.Outcome.{Outcome}
use Rattle.server_run.specs.declared.outcome.Outcome.TheVariants as outcome

-- the server was stopped while a service served the connection
abbrev pub is_forced : Outcome → Bool
is_forced outcome.Served = false
is_forced outcome.ReadFault = false
is_forced outcome.WriteFault = false
is_forced outcome.Upgraded = false
is_forced (outcome.Lost worker) = false
is_forced (outcome.Stopped forced) = forced
is_forced outcome.Memory = false

-- the number, where the outcome tells of a stop that was forced just so, and else 0
abbrev pub where_stopped : Bool → ℕ → Outcome → ℕ
where_stopped forced n outcome.Served = 0
where_stopped forced n outcome.ReadFault = 0
where_stopped forced n outcome.WriteFault = 0
where_stopped forced n outcome.Upgraded = 0
where_stopped forced n (outcome.Lost worker) = 0
where_stopped true n (outcome.Stopped true) = n
where_stopped false n (outcome.Stopped true) = 0
where_stopped true n (outcome.Stopped false) = 0
where_stopped false n (outcome.Stopped false) = n
where_stopped forced n outcome.Memory = 0
