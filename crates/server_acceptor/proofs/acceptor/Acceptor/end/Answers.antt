use Rattle.std.proofs.Common.{ap}
use Rattle.server_core.specs.Core.{Core}
use Rattle.server_acceptor.proofs.AskSteps.{ended_logs, patient_ended, ruled_kept}
use Rattle.server_acceptor.proofs.acceptor.Acceptor.end.Goals as goal

pub returns-clause-logs : goal.returns-clause-logs
returns-clause-logs g c = ended_logs _ _ c.args.t _ _ c.requires.opened c.log.ensures.core c.log.ensures.events

pub invariant_of-self-clause-rule : goal.invariant_of-self-clause-rule
invariant_of-self-clause-rule g c = ruled_kept c.args.self.now.core c.log.new.core _ (ap (λ (s : Core). s.order) c.log.ensures.core) (ap (λ (s : Core). s.free) c.log.ensures.core) (ap (λ (s : Core). s.out) c.log.ensures.core) c.args.self.now.rule

pub invariant_of-self-clause-patient : goal.invariant_of-self-clause-patient
invariant_of-self-clause-patient g c = patient_ended c.args.self.now.core c.log.new.core _ c.args.t c.args.self.now.patient c.log.ensures.core
