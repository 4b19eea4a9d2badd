use Rattle.std.proofs.Common.{◌∙◌, ap, arith, rules, refl}
use Rattle.server_core.specs.Core.{Core, step}
use Rattle.server_core.specs.declared.event.Event.TheVariants.{Notice}
use Rattle.server_acceptor.proofs.HandSteps.{given_some, lowered_back, lowered_freed, out_lowered, ruled_freed, ruled_lower, sum_lower}
use Rattle.server_acceptor.proofs.PlaceSteps.{patient_kept}
use Rattle.server_acceptor.proofs.acceptor.Acceptor.lower.Goals as goal

pub overflow_sub-self : goal.overflow_sub-self
overflow_sub-self g c = omega (arith, c.args.self.now.out_counted, sum_lower c.args.self.now.core.out c.args.w c.requires.number c.requires.out)

pub invariant_of-self-clause-rule : goal.invariant_of-self-clause-rule
invariant_of-self-clause-rule g c =
    let full = c.is_full-was_full.ensures.yes (search rules) in
    ruled_freed c.args.self.now.core _ _ c.args.w c.args.self.now.rule c.requires.number full.1 c.requires.out full.0
    (c.log-then-was_full.ensures.core ∙ ap (λ s. step s (Notice c.args.w)) c.log.ensures.core)

pub invariant_of-self-clause-out_counted : goal.invariant_of-self-clause-out_counted
invariant_of-self-clause-out_counted g c = out_lowered c.args.self.now.core c.log-then-was_full.new.core c.args.w _ c.requires.number c.requires.out c.args.self.now.out_counted
    (ap (λ (s : Core). s.out) (c.log-then-was_full.ensures.core ∙ ap (λ s. step s (Notice c.args.w)) c.log.ensures.core))

pub invariant_of-self-clause-patient : goal.invariant_of-self-clause-patient
invariant_of-self-clause-patient g c = patient_kept c.args.self.now.core c.log-then-was_full.new.core _
    (ap (λ (s : Core). s.ended) (c.log-then-was_full.ensures.core ∙ ap (λ s. step s (Notice c.args.w)) c.log.ensures.core))
    (ap (λ (s : Core). s.failures) (c.log-then-was_full.ensures.core ∙ ap (λ s. step s (Notice c.args.w)) c.log.ensures.core)) c.args.self.now.patient

pub invariant_of-self-else-was_full-clause-rule : goal.invariant_of-self-else-was_full-clause-rule
invariant_of-self-else-was_full-clause-rule g c = ruled_lower c.args.self.now.core _ _ c.args.w c.args.self.now.rule c.requires.number (c.is_full-was_full.ensures.no (search rules)) c.requires.out c.log.ensures.core

pub invariant_of-self-else-was_full-clause-out_counted : goal.invariant_of-self-else-was_full-clause-out_counted
invariant_of-self-else-was_full-clause-out_counted g c = out_lowered c.args.self.now.core c.log.new.core c.args.w _ c.requires.number c.requires.out c.args.self.now.out_counted (ap (λ (s : Core). s.out) c.log.ensures.core)

pub invariant_of-self-else-was_full-clause-patient : goal.invariant_of-self-else-was_full-clause-patient
invariant_of-self-else-was_full-clause-patient g c = patient_kept c.args.self.now.core c.log.new.core _ (ap (λ (s : Core). s.ended) c.log.ensures.core) (ap (λ (s : Core). s.failures) c.log.ensures.core) c.args.self.now.patient

pub returns-else-was_full-clause-lowers : goal.returns-else-was_full-clause-lowers
returns-else-was_full-clause-lowers g c =
    let e = lowered_back c.args.self.now.core c.log.new.core c.args.w _ _ c.requires.number c.requires.out c.log.ensures.core c.log.ensures.events in
    record { logs = e.0; returns = e.1.0; backs = e.1.1 }

pub returns-then-was_full-clause-lowers : goal.returns-then-was_full-clause-lowers
returns-then-was_full-clause-lowers g c =
    let full = c.is_full-was_full.ensures.yes (search rules) in
    let e = lowered_freed c.args.self.now.core c.log.new.core c.log-then-was_full.new.core _ c.args.w _ _ _ c.args.self.now.rule full.0 full.1 c.requires.number c.requires.out
    c.log.ensures.core c.log.ensures.events c.log-then-was_full.ensures.core c.log-then-was_full.ensures.events in
    record { logs = e.0; returns = e.1.0; backs = e.1.1 }

pub returns-else-was_full-clause-some : goal.returns-else-was_full-clause-some
returns-else-was_full-clause-some g c = given_some c.args.self.now.core c.log.new.core c.args.w _ c.log.ensures.core c.log.ensures.kept c.args.self.now.counted

pub returns-then-was_full-clause-some : goal.returns-then-was_full-clause-some
returns-then-was_full-clause-some g c = given_some c.args.self.now.core c.log.new.core c.args.w _ c.log.ensures.core c.log.ensures.kept c.args.self.now.counted

pub returns-then-was_full-clause-out : goal.returns-then-was_full-clause-out
returns-then-was_full-clause-out g c = ap (λ (s : Core). s.out) (c.log-then-was_full.ensures.core ∙ ap (λ s. step s (Notice c.args.w)) c.log.ensures.core)

pub returns-then-was_full-clause-ended : goal.returns-then-was_full-clause-ended
returns-then-was_full-clause-ended g c = ap (λ (s : Core). s.ended) (c.log-then-was_full.ensures.core ∙ ap (λ s. step s (Notice c.args.w)) c.log.ensures.core)

pub returns-then-was_full-clause-failures : goal.returns-then-was_full-clause-failures
returns-then-was_full-clause-failures g c = ap (λ (s : Core). s.failures) (c.log-then-was_full.ensures.core ∙ ap (λ s. step s (Notice c.args.w)) c.log.ensures.core)

pub returns-then-was_full-clause-core_waiting : goal.returns-then-was_full-clause-core_waiting
returns-then-was_full-clause-core_waiting g c = ap (λ (s : Core). s.waiting) (c.log-then-was_full.ensures.core ∙ ap (λ s. step s (Notice c.args.w)) c.log.ensures.core)

pub returns-then-was_full-clause-order : goal.returns-then-was_full-clause-order
returns-then-was_full-clause-order g c = ap (λ (s : Core). s.order) (c.log-then-was_full.ensures.core ∙ ap (λ s. step s (Notice c.args.w)) c.log.ensures.core)

pub returns-then-was_full-clause-paused : goal.returns-then-was_full-clause-paused
returns-then-was_full-clause-paused g c = ap (λ (s : Core). s.paused) (c.log-then-was_full.ensures.core ∙ ap (λ s. step s (Notice c.args.w)) c.log.ensures.core)

pub returns-then-was_full-clause-stopping : goal.returns-then-was_full-clause-stopping
returns-then-was_full-clause-stopping g c = ap (λ (s : Core). s.stopping) (c.log-then-was_full.ensures.core ∙ ap (λ s. step s (Notice c.args.w)) c.log.ensures.core)

pub returns-then-was_full-clause-parcels : goal.returns-then-was_full-clause-parcels
returns-then-was_full-clause-parcels g c = refl

pub returns-then-was_full-clause-notes : goal.returns-then-was_full-clause-notes
returns-then-was_full-clause-notes g c = refl

pub returns-then-was_full-clause-waiting : goal.returns-then-was_full-clause-waiting
returns-then-was_full-clause-waiting g c = refl

pub returns-then-was_full-clause-stays : goal.returns-then-was_full-clause-stays
returns-then-was_full-clause-stays g c = record { notes = refl; ready = refl; stopped = refl; forced = refl; stop = refl; serial = refl; places = refl; failed = refl; first = refl; limit = refl; retry_limit = refl; shutdown_timeout = refl; lacks_room = refl }

pub returns-else-was_full-clause-out : goal.returns-else-was_full-clause-out
returns-else-was_full-clause-out g c = ap (λ (s : Core). s.out) c.log.ensures.core

pub returns-else-was_full-clause-ended : goal.returns-else-was_full-clause-ended
returns-else-was_full-clause-ended g c = ap (λ (s : Core). s.ended) c.log.ensures.core

pub returns-else-was_full-clause-failures : goal.returns-else-was_full-clause-failures
returns-else-was_full-clause-failures g c = ap (λ (s : Core). s.failures) c.log.ensures.core

pub returns-else-was_full-clause-core_waiting : goal.returns-else-was_full-clause-core_waiting
returns-else-was_full-clause-core_waiting g c = ap (λ (s : Core). s.waiting) c.log.ensures.core

pub returns-else-was_full-clause-order : goal.returns-else-was_full-clause-order
returns-else-was_full-clause-order g c = ap (λ (s : Core). s.order) c.log.ensures.core

pub returns-else-was_full-clause-paused : goal.returns-else-was_full-clause-paused
returns-else-was_full-clause-paused g c = ap (λ (s : Core). s.paused) c.log.ensures.core

pub returns-else-was_full-clause-stopping : goal.returns-else-was_full-clause-stopping
returns-else-was_full-clause-stopping g c = ap (λ (s : Core). s.stopping) c.log.ensures.core

pub returns-else-was_full-clause-parcels : goal.returns-else-was_full-clause-parcels
returns-else-was_full-clause-parcels g c = refl

pub returns-else-was_full-clause-notes : goal.returns-else-was_full-clause-notes
returns-else-was_full-clause-notes g c = refl

pub returns-else-was_full-clause-waiting : goal.returns-else-was_full-clause-waiting
returns-else-was_full-clause-waiting g c = refl

pub returns-else-was_full-clause-stays : goal.returns-else-was_full-clause-stays
returns-else-was_full-clause-stays g c = record { notes = refl; ready = refl; stopped = refl; forced = refl; stop = refl; serial = refl; places = refl; failed = refl; first = refl; limit = refl; retry_limit = refl; shutdown_timeout = refl; lacks_room = refl }
