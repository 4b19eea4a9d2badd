use Rattle.std.proofs.Common.{[], ◌∷◌, None, refl, subst, ◌∙◌, rules}
use Rattle.server_core.specs.declared.event.Event.TheVariants.{Retired}
use Rattle.server_run.specs.Done.{Adds}
use Rattle.server_run.specs.declared.outcome.Outcome.TheVariants.{Lost}
use Rattle.server_acceptor.specs.Commanding.{gone_of}
use Rattle.server_acceptor.proofs.DoesSteps.{acts_none}
use Rattle.server_acceptor.proofs.PartSteps.{last_acts, parted_acts, patient_retired, retired_of_join, retired_others, retired_stopped, retired_waits, ruled_retired}
use Rattle.server_acceptor.proofs.acceptor.Acceptor.retire.Goals as goal

pub returns-then-not-allows-clause-acts : goal.returns-then-not-allows-clause-acts
returns-then-not-allows-clause-acts g c ls = ([], acts_none g.Li.Listener.given g.Li.Listener.left g.Li.Listener.rest g.L.Link.identity g.Li.Listener.ended g.Li.Listener.faults g.Do.Done.taken g.Do.Done.count g.Do.Done.served ls c.args.self.now c.args.done.now (g.met.Do.Done.small c.args.done.now))

pub returns-then-not-all_retired-clause-acts : goal.returns-then-not-all_retired-clause-acts
returns-then-not-all_retired-clause-acts g c ls = (
  Retired c.args.w ∷ [],
  parted_acts g.Li.Listener.given g.Li.Listener.left g.Li.Listener.rest g.L.Link.identity g.Li.Listener.ended g.Li.Listener.faults g.Do.Done.taken g.Do.Done.count g.Do.Done.served ls c.args.self.now _ (Retired c.args.w) (search rules) (retired_of_join c.args.self.now.core c.args.w) c.step.ensures.value
      (record { parcels = refl; notes = refl; ready = refl; stopped = refl; forced = refl; serial = refl; places = refl; failed = refl; first = refl; limit = refl; retry_limit = refl; shutdown_timeout = refl; lacks_room = refl }) c.args.done.now (g.met.Do.Done.small c.args.done.now) refl,
)

pub returns-then-stopping-clause-acts : goal.returns-then-stopping-clause-acts
returns-then-stopping-clause-acts g c ls = (
  Retired c.args.w ∷ [],
  parted_acts g.Li.Listener.given g.Li.Listener.left g.Li.Listener.rest g.L.Link.identity g.Li.Listener.ended g.Li.Listener.faults g.Do.Done.taken g.Do.Done.count g.Do.Done.served ls c.args.self.now _ (Retired c.args.w) (search rules) (retired_of_join c.args.self.now.core c.args.w) c.step.ensures.value
      (record { parcels = refl; notes = refl; ready = refl; stopped = refl; forced = refl; serial = refl; places = refl; failed = refl; first = refl; limit = refl; retry_limit = refl; shutdown_timeout = refl; lacks_room = refl }) c.args.done.now (g.met.Do.Done.small c.args.done.now) refl,
)

pub returns-clause-acts : goal.returns-clause-acts
returns-clause-acts g c ls = (
  Retired c.args.w ∷ [],
  last_acts g.Li.Listener.given g.Li.Listener.left g.Li.Listener.rest g.L.Link.identity g.Li.Listener.ended g.Li.Listener.faults g.Do.Done.taken g.Do.Done.count g.Do.Done.served ls c.args.self.now _ (Retired c.args.w) (search rules) (retired_of_join c.args.self.now.core c.args.w) c.step.ensures.value
      (record { parcels = refl; notes = refl; ready = refl; stopped = refl; forced = refl; serial = refl; places = refl; failed = refl; first = refl; limit = refl; retry_limit = refl; shutdown_timeout = refl; lacks_room = refl }) c.args.done.now _ (g.met.Do.Done.small c.args.done.now) c.take.ensures.after
      (subst (λ o. Adds g.Do.Done.taken g.Do.Done.count g.Do.Done.served c.args.done.now c.hand_on.new.done (gone_of (Lost None) o)) c.take.ensures.value c.hand_on.ensures.adds),
)

pub invariant_of-self-clause-rule : goal.invariant_of-self-clause-rule
invariant_of-self-clause-rule g c = ruled_retired c.args.self.now.core c.step.new.self _ c.args.w c.args.self.now.rule c.step.ensures.value

pub invariant_of-self-clause-patient : goal.invariant_of-self-clause-patient
invariant_of-self-clause-patient g c = patient_retired c.args.self.now.core c.step.new.self _ c.args.w c.args.self.now.patient c.step.ensures.value

pub invariant_of-self-clause-waits : goal.invariant_of-self-clause-waits
invariant_of-self-clause-waits g c = retired_stopped c.args.self.now.core c.step.new.self c.args.w c.args.self.now.kept c.step.ensures.value (search rules) ∙ c.args.self.now.waits

pub invariant_of-self-then-not-all_retired-clause-rule : goal.invariant_of-self-then-not-all_retired-clause-rule
invariant_of-self-then-not-all_retired-clause-rule g c = ruled_retired c.args.self.now.core c.step.new.self _ c.args.w c.args.self.now.rule c.step.ensures.value

pub invariant_of-self-then-not-all_retired-clause-patient : goal.invariant_of-self-then-not-all_retired-clause-patient
invariant_of-self-then-not-all_retired-clause-patient g c = patient_retired c.args.self.now.core c.step.new.self _ c.args.w c.args.self.now.patient c.step.ensures.value

pub invariant_of-self-then-not-all_retired-clause-waits : goal.invariant_of-self-then-not-all_retired-clause-waits
invariant_of-self-then-not-all_retired-clause-waits g c = retired_waits c.args.self.now.core c.step.new.self c.args.w c.step.ensures.value (search rules) ∙ c.args.self.now.waits

pub returns-then-stopping-clause-others : goal.returns-then-stopping-clause-others
returns-then-stopping-clause-others g c v other = retired_others c.args.self.now.core c.step.new.self c.args.w v c.step.ensures.value other

pub returns-then-not-all_retired-clause-others : goal.returns-then-not-all_retired-clause-others
returns-then-not-all_retired-clause-others g c v other = retired_others c.args.self.now.core c.step.new.self c.args.w v c.step.ensures.value other

pub returns-clause-others : goal.returns-clause-others
returns-clause-others g c v other = retired_others c.args.self.now.core c.step.new.self c.args.w v c.step.ensures.value other
