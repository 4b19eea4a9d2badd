use Rattle.script_service.proofs.Making.{makes_by_part}
use Rattle.gated_tests.proofs.gate_services.GateServicesServiceFactory.new_service.Goals as goal

pub returns-clause-made : goal.returns-clause-made
returns-clause-made g c =
    makes_by_part _ _ _ _ _ _ _ _ _
    (λ service m. record {
      callable = m.callable;
      answers = m.answers;
      readiness = m.readiness;
      futures = λ link future. m.futures link future.connection;
    })
    _ c.new_service.ensures.made
