use Rattle.std.proofs.Common.{[], ◌∷◌, refl, ap, rules, sym, ◌∙◌, length, true≢false}
use Rattle.server_core.specs.Core.{Core}
use Rattle.server_core.specs.declared.event.Event.TheVariants.{Replaced}
use Rattle.server_acceptor.proofs.DoesSteps.{acts_none}
use Rattle.server_acceptor.proofs.PartSteps.{parted_acts, replaced_of_join, ruled_replaced}
use Rattle.server_acceptor.proofs.PlaceSteps.{patient_kept}
use Rattle.server_acceptor.proofs.acceptor.Acceptor.replace.Goals as goal

pub returns-then-not-allows-clause-acts : goal.returns-then-not-allows-clause-acts
returns-then-not-allows-clause-acts g c ls d = ([], acts_none g.Li.Listener.given g.Li.Listener.left g.Li.Listener.rest g.L.Link.identity g.Li.Listener.ended g.Li.Listener.faults g.Do.Done.taken g.Do.Done.count g.Do.Done.served ls c.args.self.now d (g.met.Do.Done.small d))

pub returns-clause-acts : goal.returns-clause-acts
returns-clause-acts g c ls d = (
  Replaced c.args.w ∷ [],
  parted_acts g.Li.Listener.given g.Li.Listener.left g.Li.Listener.rest g.L.Link.identity g.Li.Listener.ended g.Li.Listener.faults g.Do.Done.taken g.Do.Done.count g.Do.Done.served ls c.args.self.now _ (Replaced c.args.w) (search rules) (replaced_of_join c.args.self.now.core c.args.w) c.step.ensures.value
      (record { parcels = refl; notes = refl; ready = refl; stopped = refl; forced = refl; serial = refl; places = refl; failed = refl; first = refl; limit = refl; retry_limit = refl; shutdown_timeout = refl; lacks_room = refl }) d (g.met.Do.Done.small d) refl,
)

pub invariant_of-self-clause-rule : goal.invariant_of-self-clause-rule
invariant_of-self-clause-rule g c = ruled_replaced c.args.self.now.core c.step.new.self _ c.args.w c.args.self.now.some_limit (search rules) c.args.self.now.rule c.step.ensures.value

pub invariant_of-self-clause-patient : goal.invariant_of-self-clause-patient
invariant_of-self-clause-patient g c = patient_kept c.args.self.now.core c.step.new.self _ (ap (λ (s : Core). s.ended) c.step.ensures.value) (ap (λ (s : Core). s.failures) c.step.ensures.value) c.args.self.now.patient

pub returns-then-not-allows-clause-parcels : goal.returns-then-not-allows-clause-parcels
returns-then-not-allows-clause-parcels g c = refl

pub returns-then-not-allows-clause-notes : goal.returns-then-not-allows-clause-notes
returns-then-not-allows-clause-notes g c = refl

pub returns-then-not-allows-clause-waiting : goal.returns-then-not-allows-clause-waiting
returns-then-not-allows-clause-waiting g c = refl

pub returns-clause-parcels : goal.returns-clause-parcels
returns-clause-parcels g c = refl

pub returns-clause-notes : goal.returns-clause-notes
returns-clause-notes g c = refl

pub returns-clause-waiting : goal.returns-clause-waiting
returns-clause-waiting g c = refl

pub returns-then-not-allows-clause-rest : goal.returns-then-not-allows-clause-rest
returns-then-not-allows-clause-rest g c = record { paused = refl; stopping = refl; stop = refl; shutdown_timeout = refl; places = refl; serial = refl; ready = refl; stopped = refl; forced = refl; failed = refl; first = refl; events = refl; sent = refl; listeners = refl; workers = refl; limit = refl; retry_limit = refl; lacks_room = refl }

pub returns-clause-rest : goal.returns-clause-rest
returns-clause-rest g c =
    let is = c.step.ensures.value in
    record { paused = ap (λ (s : Core). s.paused) is; stopping = ap (λ (s : Core). s.stopping) is; stop = refl; shutdown_timeout = refl; places = refl; serial = refl; ready = refl; stopped = refl; forced = refl; failed = refl; first = refl; events = refl; sent = refl; listeners = ap (λ (s : Core). length s.ended) is; workers = ap (λ (s : Core). length s.out) is; limit = refl; retry_limit = refl; lacks_room = refl }

pub returns-then-not-allows-clause-replaced : goal.returns-then-not-allows-clause-replaced
returns-then-not-allows-clause-replaced g c = λ is. absurd (true≢false (sym is))

pub returns-then-not-allows-clause-refused : goal.returns-then-not-allows-clause-refused
returns-then-not-allows-clause-refused g c = λ _. (refl, sym c.allows.ensures ∙ c.if-not-allows.true)

pub returns-clause-replaced : goal.returns-clause-replaced
returns-clause-replaced g c = λ _. c.step.ensures.value

pub returns-clause-refused : goal.returns-clause-refused
returns-clause-refused g c = λ is. absurd (true≢false is)
