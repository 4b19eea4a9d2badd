use Rattle.std.proofs.Common.{◌+◌, ◌<◌, ◌^◌, sym, ◌∙◌, ap, arith, length}
use Rattle.std.proofs.Math.ListN.{length-set}
use Rattle.server_core.specs.Core.{Core}
use Rattle.server_acceptor.proofs.AskSteps.{all_below_set, got_logs, opened_below, patient_got, read_at, ruled_kept, sum_raised}
use Rattle.server_acceptor.proofs.acceptor.Acceptor.take_up.Goals as goal

pub returns-clause-logs : goal.returns-clause-logs
returns-clause-logs g c = got_logs _ _ c.args.t _ _ c.requires.opened c.requires.may c.log.ensures.core c.log.ensures.events

pub invariant_of-self-clause-listeners : goal.invariant_of-self-clause-listeners
invariant_of-self-clause-listeners g c =
    let l = c.args.self.now.listeners in
    (length-set c.args.self.now.places.items c.args.t (c.index-place.result.now + 1) ∙ l.0 ∙ sym c.log.ensures.listeners, l.1 ∙ sym c.log.ensures.listeners)

pub invariant_of-self-clause-placed : goal.invariant_of-self-clause-placed
invariant_of-self-clause-placed g c =
    let inside : c.args.t < length c.args.self.now.places.items = omega (arith, opened_below c.args.self.now.core c.args.t c.requires.opened, c.args.self.now.listeners.0) in
    omega (arith, c.args.self.now.placed, sum_raised c.args.self.now.places.items c.args.t c.index-place.result.now inside (read_at _ c.args.t _ inside c.index-place.ensures))

pub invariant_of-self-clause-small : goal.invariant_of-self-clause-small
invariant_of-self-clause-small g c =
    let inside : c.args.t < length c.args.self.now.places.items = omega (arith, opened_below c.args.self.now.core c.args.t c.requires.opened, c.args.self.now.listeners.0) in
    let is = read_at c.args.self.now.places.items c.args.t c.index-place.result.now inside c.index-place.ensures in
    all_below_set c.args.self.now.places.items c.args.t (c.index-place.result.now + 1) (2 ^ 48) (omega (arith, is, c.requires.small)) c.args.self.now.small

pub invariant_of-self-clause-rule : goal.invariant_of-self-clause-rule
invariant_of-self-clause-rule g c = ruled_kept c.args.self.now.core c.log.new.core _ (ap (λ (s : Core). s.order) c.log.ensures.core) (ap (λ (s : Core). s.free) c.log.ensures.core) (ap (λ (s : Core). s.out) c.log.ensures.core) c.args.self.now.rule

pub invariant_of-self-clause-patient : goal.invariant_of-self-clause-patient
invariant_of-self-clause-patient g c = patient_got c.args.self.now.core c.log.new.core _ c.args.t c.args.self.now.patient c.requires.opened c.log.ensures.core
