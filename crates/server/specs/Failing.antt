-- Why nothing was served.
use Rattle.std.specs.Prelude.{◌≡◌, ℕ, Option, Some, None}
use Rattle.server_run.specs.declared.serve_error.ServeError.{ServeError}
use Rattle.server_run.specs.declared.serve_error.ServeError.TheVariants.{Spawn, Startup, Memory}
use Rattle.server.specs.declared.start_fault.StartFault.{StartFault}
use Rattle.server.specs.declared.start_fault.StartFault.TheVariants as fault
use Rattle.server.specs.declared.unstarted.Unstarted.{Unstarted}

-- the error that tells of a service that could not be made, or of a want of memory
abbrev pub IsErrorOf : {I : Type 0} → Option (Unstarted I) → ServeError I → Type 0
IsErrorOf None error = error ≡ Memory
IsErrorOf (Some u) error = error ≡ Startup u.worker u.token u.error

-- the error that tells of a worker that was not started, or of a want of memory
abbrev pub IsFault : {I : Type 0} → StartFault → ℕ → ServeError I → Type 0
IsFault fault.Spawn worker error = error ≡ Spawn worker
IsFault fault.Memory worker error = error ≡ Memory
