use Rattle.std.proofs.Common.{[], ◌∷◌, refl, ap, rules, sym, ◌∙◌, length, true≢false}
use Rattle.server_core.specs.Core.{Core}
use Rattle.server_core.specs.declared.event.Event.TheVariants.{Faulted}
use Rattle.server_acceptor.proofs.DoesSteps.{acts_none}
use Rattle.server_acceptor.proofs.PartSteps.{faulted_of_join, left_order, off_still, parted_acts, ruled_left}
use Rattle.server_acceptor.proofs.PlaceSteps.{patient_kept}
use Rattle.server_acceptor.proofs.acceptor.Acceptor.leave.Goals as goal

pub returns-then-not-allows-clause-acts : goal.returns-then-not-allows-clause-acts
returns-then-not-allows-clause-acts g c ls d = ([], acts_none g.Li.Listener.given g.Li.Listener.left g.Li.Listener.rest g.L.Link.identity g.Li.Listener.ended g.Li.Listener.faults g.Do.Done.taken g.Do.Done.count g.Do.Done.served ls c.args.self.now d (g.met.Do.Done.small d))

pub returns-clause-acts : goal.returns-clause-acts
returns-clause-acts g c ls d = (
  Faulted c.args.w ∷ [],
  parted_acts g.Li.Listener.given g.Li.Listener.left g.Li.Listener.rest g.L.Link.identity g.Li.Listener.ended g.Li.Listener.faults g.Do.Done.taken g.Do.Done.count g.Do.Done.served ls c.args.self.now _ (Faulted c.args.w) (search rules) (faulted_of_join c.args.self.now.core c.args.w) c.step.ensures.value
      (record { parcels = refl; notes = refl; ready = refl; stopped = refl; forced = refl; serial = refl; places = refl; failed = refl; first = refl; limit = refl; retry_limit = refl; shutdown_timeout = refl; lacks_room = refl }) d (g.met.Do.Done.small d) refl,
)

pub returns-clause-left : goal.returns-clause-left
returns-clause-left g c = left_order c.args.self.now.core c.step.new.self c.args.w c.args.self.now.kept (search rules) c.step.ensures.value

pub invariant_of-self-clause-rule : goal.invariant_of-self-clause-rule
invariant_of-self-clause-rule g c = ruled_left c.args.self.now.core c.step.new.self _ c.args.w c.args.self.now.kept (search rules) c.args.self.now.rule c.step.ensures.value

pub invariant_of-self-clause-patient : goal.invariant_of-self-clause-patient
invariant_of-self-clause-patient g c = patient_kept c.args.self.now.core c.step.new.self _ (ap (λ (s : Core). s.ended) c.step.ensures.value) (ap (λ (s : Core). s.failures) c.step.ensures.value) c.args.self.now.patient

pub returns-clause-others : goal.returns-clause-others
returns-clause-others g c v off = off_still c.args.self.now.core c.step.new.self c.args.w v (search rules) c.step.ensures.value off

pub returns-then-not-allows-clause-parcels : goal.returns-then-not-allows-clause-parcels
returns-then-not-allows-clause-parcels g c = refl

pub returns-then-not-allows-clause-notes : goal.returns-then-not-allows-clause-notes
returns-then-not-allows-clause-notes g c = refl

pub returns-then-not-allows-clause-waiting : goal.returns-then-not-allows-clause-waiting
returns-then-not-allows-clause-waiting g c = refl

pub returns-clause-parcels : goal.returns-clause-parcels
returns-clause-parcels g c = refl

pub returns-clause-notes : goal.returns-clause-notes
returns-clause-notes g c = refl

pub returns-clause-waiting : goal.returns-clause-waiting
returns-clause-waiting g c = refl

pub returns-then-not-allows-clause-rest : goal.returns-then-not-allows-clause-rest
returns-then-not-allows-clause-rest g c = record { paused = refl; stopping = refl; stop = refl; shutdown_timeout = refl; places = refl; serial = refl; ready = refl; stopped = refl; forced = refl; failed = refl; first = refl; events = refl; sent = refl; listeners = refl; workers = refl; limit = refl; retry_limit = refl; lacks_room = refl }

pub returns-clause-rest : goal.returns-clause-rest
returns-clause-rest g c =
    let is = c.step.ensures.value in
    record { paused = ap (λ (s : Core). s.paused) is; stopping = ap (λ (s : Core). s.stopping) is; stop = refl; shutdown_timeout = refl; places = refl; serial = refl; ready = refl; stopped = refl; forced = refl; failed = refl; first = refl; events = refl; sent = refl; listeners = ap (λ (s : Core). length s.ended) is; workers = ap (λ (s : Core). length s.out) is; limit = refl; retry_limit = refl; lacks_room = refl }

pub returns-then-not-allows-clause-faulted : goal.returns-then-not-allows-clause-faulted
returns-then-not-allows-clause-faulted g c = λ yes. absurd (true≢false (sym yes ∙ sym c.allows.ensures ∙ c.if-not-allows.true))

pub returns-then-not-allows-clause-same : goal.returns-then-not-allows-clause-same
returns-then-not-allows-clause-same g c = λ _. refl

pub returns-then-not-allows-clause-others : goal.returns-then-not-allows-clause-others
returns-then-not-allows-clause-others g c v = λ is. is

pub returns-then-not-allows-clause-retired : goal.returns-then-not-allows-clause-retired
returns-then-not-allows-clause-retired g c = refl

pub returns-clause-retired : goal.returns-clause-retired
returns-clause-retired g c = ap (λ (s : Core). s.retired) c.step.ensures.value

pub returns-then-not-allows-clause-out : goal.returns-then-not-allows-clause-out
returns-then-not-allows-clause-out g c = refl

pub returns-clause-out : goal.returns-clause-out
returns-clause-out g c = ap (λ (s : Core). s.out) c.step.ensures.value

pub returns-clause-faulted : goal.returns-clause-faulted
returns-clause-faulted g c = λ _. c.step.ensures.value

pub returns-clause-same : goal.returns-clause-same
returns-clause-same g c = λ no. absurd (true≢false (sym c.if-not-allows.false ∙ c.allows.ensures ∙ no))
