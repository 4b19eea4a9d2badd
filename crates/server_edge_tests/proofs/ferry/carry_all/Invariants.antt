use Rattle.server_edge_tests.specs.Carrying.{Carries}
use Rattle.server_run.specs.contracts.memory_link.MemoryLinkLink.TheImpl.{ghosts}
use Rattle.server_edge_tests.proofs.ferry.carry_all.Given as goal

abbrev pub invariant-loop : goal.invariant-loop
invariant-loop g l = Carries ghosts.identity l.fn.parcels l.fn.notes l.parcels l.notes
