use Rattle.std.proofs.Common.{◌≡◌, ℕ, inl}
use Rattle.server_acceptor.proofs.DoesSteps.{proceeds_none}
use Rattle.server_acceptor.specs.declared.accept_turn.AcceptTurn.TheVariants.{Finished, Going, WorkerEnded}
use Rattle.server_run.specs.declared.report.End.{End}
use Rattle.server_acceptor.proofs.StopSteps.{stops_none}
use Rattle.server_acceptor.proofs.acceptor.Acceptor.come_to_end.Goals as goal

going_not_fault : (w : ℕ) → Going ≡ WorkerEnded w → ⊥
going_not_fault w e = cc

going_not_finished : (end : End) → Going ≡ Finished end → ⊥
going_not_finished end e = cc

pub returns-then-is_some-clause-proceeds : goal.returns-then-is_some-clause-proceeds
returns-then-is_some-clause-proceeds g c ls d = proceeds_none g.Li.Listener.given g.Li.Listener.left g.Li.Listener.rest g.L.Link.identity g.Li.Listener.ended g.Li.Listener.faults g.Do.Done.taken g.Do.Done.count g.Do.Done.served ls c.args.self.now d (g.met.Do.Done.small d)

pub returns-then-is_some-clause-only : goal.returns-then-is_some-clause-only
returns-then-is_some-clause-only g c = stops_none c.args.self.now

pub returns-then-is_some-clause-forces : goal.returns-then-is_some-clause-forces
returns-then-is_some-clause-forces g c = λ v is. is

pub returns-then-is_some-clause-closes : goal.returns-then-is_some-clause-closes
returns-then-is_some-clause-closes g c = λ v is. inl is

pub returns-then-is_some-clause-no_fault : goal.returns-then-is_some-clause-no_fault
returns-then-is_some-clause-no_fault g c = λ w is. going_not_fault w is

pub returns-then-is_some-clause-finished : goal.returns-then-is_some-clause-finished
returns-then-is_some-clause-finished g c e = λ is. absurd (going_not_finished e is)

pub returns-else-all_ended-clause-only : goal.returns-else-all_ended-clause-only
returns-else-all_ended-clause-only g c = stops_none c.args.self.now

pub returns-else-all_ended-clause-forces : goal.returns-else-all_ended-clause-forces
returns-else-all_ended-clause-forces g c = λ v is. is

pub returns-else-all_ended-clause-closes : goal.returns-else-all_ended-clause-closes
returns-else-all_ended-clause-closes g c = λ v is. inl is

pub returns-else-all_ended-clause-no_fault : goal.returns-else-all_ended-clause-no_fault
returns-else-all_ended-clause-no_fault g c = λ w is. going_not_fault w is

pub returns-else-all_ended-clause-finished : goal.returns-else-all_ended-clause-finished
returns-else-all_ended-clause-finished g c e = λ is. absurd (going_not_finished e is)

pub returns-else-all_ended-clause-proceeds : goal.returns-else-all_ended-clause-proceeds
returns-else-all_ended-clause-proceeds g c ls d = proceeds_none g.Li.Listener.given g.Li.Listener.left g.Li.Listener.rest g.L.Link.identity g.Li.Listener.ended g.Li.Listener.faults g.Do.Done.taken g.Do.Done.count g.Do.Done.served ls c.args.self.now d (g.met.Do.Done.small d)

pub returns-then-not-send_words-clause-proceeds : goal.returns-then-not-send_words-clause-proceeds
returns-then-not-send_words-clause-proceeds g c = c.send_words.ensures.proceeds

pub returns-then-not-send_words-clause-only : goal.returns-then-not-send_words-clause-only
returns-then-not-send_words-clause-only g c = c.send_words.ensures.only

pub returns-clause-proceeds : goal.returns-clause-proceeds
returns-clause-proceeds g c = c.send_words.ensures.proceeds

pub returns-clause-only : goal.returns-clause-only
returns-clause-only g c = c.send_words.ensures.only

pub returns-then-not-send_words-clause-no_fault : goal.returns-then-not-send_words-clause-no_fault
returns-then-not-send_words-clause-no_fault g c = λ w is. going_not_fault w is

pub returns-then-not-send_words-clause-finished : goal.returns-then-not-send_words-clause-finished
returns-then-not-send_words-clause-finished g c e = λ is. absurd (going_not_finished e is)
