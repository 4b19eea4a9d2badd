use Rattle.std.proofs.Common.{None}
use Rattle.http_flow.specs.declared.upgrade_handler.UpgradeHandler.{UpgradeHandler}
use Rattle.http_service.proofs.Ready.{ready_from}
use Rattle.gated_tests.proofs.Ends.{ends_same}
use Rattle.gated_tests.proofs.gate_factory.GateFactoryServerServiceFactory.create.Goals as goal

pub returns : goal.returns
returns g c = record {
  callable = record { callable = tt; askable = tt; upgradable = rw c.over.ensures tt };
  serves = λ link r given. ends_same g.L.Link _ _ link r given;
  leaves = λ link future begun left stands. (begun.stands left stands).ends.same;
  readies = λ answer ready. ready_from {V = UpgradeHandler} _ _ _ None answer (rw c.over.ensures at ready) (λ answer p. p) (λ answer p. p) (λ v answer p. p);
  inits = λ error any. tt;
  makes = λ any. tt;
}
