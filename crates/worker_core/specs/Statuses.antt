-- Tests of the status of one service.
use Rattle.std.specs.Prelude.{Bool, true, false}
use Rattle.worker_core.specs.declared.service_status.ServiceStatus.{ServiceStatus}
use Rattle.worker_core.specs.declared.service_status.ServiceStatus.TheVariants.{Available, Unavailable, Failed, Restarting}

abbrev pub is_available : ServiceStatus → Bool
is_available Available = true
is_available _ = false

abbrev pub is_failed : ServiceStatus → Bool
is_failed Failed = true
is_failed _ = false

abbrev pub is_restarting : ServiceStatus → Bool
is_restarting Restarting = true
is_restarting _ = false

-- it is asked whether it is ready
abbrev pub is_asked : ServiceStatus → Bool
is_asked Available = true
is_asked Unavailable = true
is_asked _ = false
