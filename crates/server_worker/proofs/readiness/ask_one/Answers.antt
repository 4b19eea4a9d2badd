use Rattle.std.proofs.Common.{◌≡◌, Some, IfSome, true≢false, sym, subst, length, slice_get, ap, ◌∙◌, rules}
use Rattle.std.proofs.Math.ListN.{length-set}
use Rattle.worker_core.specs.declared.ready_answer.ReadyAnswer.TheVariants as answer
use Rattle.server_worker.specs.Standing.{IsMade, IsSlot}
use Rattle.server_worker.specs.declared.slot.Slot.TheVariants.{Failed}
use Rattle.server_worker.proofs.AdmitSteps.{of_slot_at}
use Rattle.server_worker.proofs.AskSteps.{checks_asked}
use Rattle.server_worker.proofs.Lists.{slice_get-set_other, slice_get-set_same}
use Rattle.server_worker.proofs.RemakeSteps.{standing_made}
use Rattle.server_worker.proofs.Statuses.{answer_stays}
use Rattle.server_worker.proofs.readiness.ask_one.Goals as goal

pub returns-in-Ready-Ok-clause-checks : goal.returns-in-Ready-Ok-clause-checks
returns-in-Ready-Ok-clause-checks g c = checks_asked (g.F.ServerServiceFactory.may_ready c.args.factory.now) _ _ _ _ c.args.token answer.Ready (search rules) c.take_answer.ensures.allowed c.take_answer.ensures.core
    (λ t other. ap (λ v. slice_get v.items t) c.take_answer.ensures.slots) (ap (λ v. length v.items) c.take_answer.ensures.slots)

pub returns-in-Pending-clause-checks : goal.returns-in-Pending-clause-checks
returns-in-Pending-clause-checks g c = checks_asked (g.F.ServerServiceFactory.may_ready c.args.factory.now) _ _ _ _ c.args.token answer.NotReady (search rules) c.take_answer-in-Pending.ensures.allowed c.take_answer-in-Pending.ensures.core
    (λ t other. ap (λ v. slice_get v.items t) c.take_answer-in-Pending.ensures.slots) (ap (λ v. length v.items) c.take_answer-in-Pending.ensures.slots)

pub returns-in-Ready-Err-clause-checks : goal.returns-in-Ready-Err-clause-checks
returns-in-Ready-Err-clause-checks g c = checks_asked (g.F.ServerServiceFactory.may_ready c.args.factory.now) _ _ _ _ c.args.token answer.Err (c.in-Ready-Err.error, search rules) c.fail.ensures.allowed c.fail.ensures.core
    (λ t other. ap (λ xs. slice_get xs t) c.fail.ensures.slots ∙ slice_get-set_other c.args.services.now.slots.items c.args.token t (Failed c.in-Ready-Err.error) other)
    (ap (λ xs. length xs) c.fail.ensures.slots ∙ length-set c.args.services.now.slots.items c.args.token (Failed c.in-Ready-Err.error))

pub returns-in-Ready-Err-clause-slot : goal.returns-in-Ready-Err-clause-slot
returns-in-Ready-Err-clause-slot g c =
    let at : slice_get c.fail.new.self.slots.items c.args.token ≡ Some (Failed c.in-Ready-Err.error) = ap (λ xs. slice_get xs c.args.token) c.fail.ensures.slots ∙ slice_get-set_same c.args.services.now.slots.items c.args.token (Failed c.in-Ready-Err.error) c.requires.inside in
    let was = of_slot_at (IsSlot g.F.Factory.Future.Future g.F.Factory.Service.Service g.F.Factory.Service.Future.LinkHolder.may_stand (g.F.ServerServiceFactory.may_serve c.args.factory.now c.args.token) (g.F.ServerServiceFactory.may_leave c.args.factory.now c.args.token)
    (g.F.ServerServiceFactory.may_ready c.args.factory.now c.args.token) (g.F.ServerServiceFactory.may_init c.args.factory.now c.args.token) (g.F.ServerServiceFactory.may_make c.args.factory.now c.args.token))
    c.args.services.now.slots.items c.args.token c.index.result.now c.requires.inside c.index.ensures c.requires.slot in
    rw at ((rw c.in-Made.is at was).0, search rules)

pub returns-in-Ready-Err-clause-is_made : goal.returns-in-Ready-Err-clause-is_made
returns-in-Ready-Err-clause-is_made g c =
    let at : slice_get c.fail.new.self.slots.items c.args.token ≡ Some (Failed c.in-Ready-Err.error) = ap (λ xs. slice_get xs c.args.token) c.fail.ensures.slots ∙ slice_get-set_same c.args.services.now.slots.items c.args.token (Failed c.in-Ready-Err.error) c.requires.inside in
    rw at tt

pub returns-in-Ready-Ok-clause-stayed : goal.returns-in-Ready-Ok-clause-stayed
returns-in-Ready-Ok-clause-stayed g c _ = answer_stays c.args.services.now.core c.take_answer.new.self.core c.args.token answer.Ready c.take_answer.ensures.core (λ same. cc) c.take_answer.ensures.allowed

pub returns-in-Ready-Ok-clause-slot : goal.returns-in-Ready-Ok-clause-slot
returns-in-Ready-Ok-clause-slot g c = subst (λ v. IfSome (slice_get v.items c.args.token) (IsSlot g.F.Factory.Future.Future g.F.Factory.Service.Service g.F.Factory.Service.Future.LinkHolder.may_stand (g.F.ServerServiceFactory.may_serve c.args.factory.now c.args.token) (g.F.ServerServiceFactory.may_leave c.args.factory.now c.args.token) (g.F.ServerServiceFactory.may_ready c.args.factory.now c.args.token) (g.F.ServerServiceFactory.may_init c.args.factory.now c.args.token) (g.F.ServerServiceFactory.may_make c.args.factory.now c.args.token))) (sym c.take_answer.ensures.slots) c.requires.slot

pub returns-in-Ready-Ok-clause-is_made : goal.returns-in-Ready-Ok-clause-is_made
returns-in-Ready-Ok-clause-is_made g c = subst (λ v. IsMade (slice_get v.items c.args.token)) (sym c.take_answer.ensures.slots) (standing_made (slice_get c.args.services.now.slots.items c.args.token) c.requires.stands)

pub returns-in-Ready-Ok-clause-made : goal.returns-in-Ready-Ok-clause-made
returns-in-Ready-Ok-clause-made g c = c.take_answer.ensures.made

pub returns-in-Ready-Ok-clause-factories : goal.returns-in-Ready-Ok-clause-factories
returns-in-Ready-Ok-clause-factories g c = c.take_answer.ensures.factories

pub returns-in-Ready-Ok-clause-kept : goal.returns-in-Ready-Ok-clause-kept
returns-in-Ready-Ok-clause-kept g c = c.ask.ensures.kept

pub returns-in-Pending-clause-stayed : goal.returns-in-Pending-clause-stayed
returns-in-Pending-clause-stayed g c _ = answer_stays c.args.services.now.core c.take_answer-in-Pending.new.self.core c.args.token answer.NotReady c.take_answer-in-Pending.ensures.core (λ same. cc) c.take_answer-in-Pending.ensures.allowed

pub returns-in-Pending-clause-slot : goal.returns-in-Pending-clause-slot
returns-in-Pending-clause-slot g c = subst (λ v. IfSome (slice_get v.items c.args.token) (IsSlot g.F.Factory.Future.Future g.F.Factory.Service.Service g.F.Factory.Service.Future.LinkHolder.may_stand (g.F.ServerServiceFactory.may_serve c.args.factory.now c.args.token) (g.F.ServerServiceFactory.may_leave c.args.factory.now c.args.token) (g.F.ServerServiceFactory.may_ready c.args.factory.now c.args.token) (g.F.ServerServiceFactory.may_init c.args.factory.now c.args.token) (g.F.ServerServiceFactory.may_make c.args.factory.now c.args.token))) (sym c.take_answer-in-Pending.ensures.slots) c.requires.slot

pub returns-in-Pending-clause-is_made : goal.returns-in-Pending-clause-is_made
returns-in-Pending-clause-is_made g c = subst (λ v. IsMade (slice_get v.items c.args.token)) (sym c.take_answer-in-Pending.ensures.slots) (standing_made (slice_get c.args.services.now.slots.items c.args.token) c.requires.stands)

pub returns-in-Pending-clause-made : goal.returns-in-Pending-clause-made
returns-in-Pending-clause-made g c = c.take_answer-in-Pending.ensures.made

pub returns-in-Pending-clause-factories : goal.returns-in-Pending-clause-factories
returns-in-Pending-clause-factories g c = c.take_answer-in-Pending.ensures.factories

pub returns-in-Pending-clause-kept : goal.returns-in-Pending-clause-kept
returns-in-Pending-clause-kept g c = c.ask.ensures.kept

pub returns-in-Ready-Err-clause-stayed : goal.returns-in-Ready-Err-clause-stayed
returns-in-Ready-Err-clause-stayed g c same = absurd (true≢false same)

pub returns-in-Ready-Err-clause-made : goal.returns-in-Ready-Err-clause-made
returns-in-Ready-Err-clause-made g c = c.fail.ensures.made

pub returns-in-Ready-Err-clause-factories : goal.returns-in-Ready-Err-clause-factories
returns-in-Ready-Err-clause-factories g c = c.fail.ensures.factories

pub returns-in-Ready-Err-clause-kept : goal.returns-in-Ready-Err-clause-kept
returns-in-Ready-Err-clause-kept g c = c.ask.ensures.kept

pub take_answer-requires-clause-inside : goal.take_answer-requires-clause-inside
take_answer-requires-clause-inside g c = c.requires.inside

pub take_answer-requires-clause-stands : goal.take_answer-requires-clause-stands
take_answer-requires-clause-stands g c = c.requires.stands

pub take_answer-requires-clause-no_error : goal.take_answer-requires-clause-no_error
take_answer-requires-clause-no_error g c same = cc

pub take_answer-requires-in-Pending-clause-inside : goal.take_answer-requires-in-Pending-clause-inside
take_answer-requires-in-Pending-clause-inside g c = c.requires.inside

pub take_answer-requires-in-Pending-clause-stands : goal.take_answer-requires-in-Pending-clause-stands
take_answer-requires-in-Pending-clause-stands g c = c.requires.stands

pub take_answer-requires-in-Pending-clause-no_error : goal.take_answer-requires-in-Pending-clause-no_error
take_answer-requires-in-Pending-clause-no_error g c same = cc

pub fail-requires-clause-inside : goal.fail-requires-clause-inside
fail-requires-clause-inside g c = c.requires.inside

pub fail-requires-clause-stands : goal.fail-requires-clause-stands
fail-requires-clause-stands g c = c.requires.stands
