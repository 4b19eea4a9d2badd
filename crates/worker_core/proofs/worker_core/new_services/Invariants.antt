-- The services so far.
use Rattle.std.proofs.Common.{◌≡◌, replicate}
use Rattle.worker_core.specs.declared.service_status.ServiceStatus.TheVariants.{Unavailable}
use Rattle.worker_core.proofs.worker_core.new_services.Given as goal

abbrev pub invariant-loop-token : goal.invariant-loop-token
invariant-loop-token l = l.services.items ≡ replicate l.token Unavailable
