use Rattle.std.proofs.Common.{◌≡◌, take}
use Rattle.std.specs.FinSet as set
use Rattle.server_core.proofs.availability.Availability.set_available_all.Given as goal

abbrev pub invariant-loop-worker : goal.invariant-loop-worker
invariant-loop-worker l = l.self ≡ set.union l.initial.self (set.from_list (take l.worker-index l.workers))
