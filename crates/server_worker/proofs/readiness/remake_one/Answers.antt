use Rattle.std.proofs.Common.{◌≡◌, length, slice_get, Some, IfSome, Err, refl, sym, ap, ◌∙◌, subst}
use Rattle.std.proofs.Math.ListN.{length-set}
use Rattle.futures.specs.declared.task.Poll.TheVariants.{Ready as PollReady}
use Rattle.server_worker.specs.Checking.{IsRemaking}
use Rattle.server_worker.specs.Standing.{IsMade, IsSlot}
use Rattle.server_worker.specs.declared.slot.Slot.TheVariants.{Made, Remaking}
use Rattle.server_worker.proofs.AskSteps.{checks_remade}
use Rattle.server_worker.proofs.Lists.{slice_get-set_other, slice_get-set_same}
use Rattle.server_worker.proofs.RemakeSteps.{as_many_twice, checks_polled, fits_given_up, fits_polled, here_twice, inside_set, made_again, may_be_polled, not_remaking, others_twice, read_again, read_remaking, read_there, refused_again, slot_polled}
use Rattle.server_worker.proofs.readiness.remake_one.Goals as goal

pub unreachable-requires : goal.unreachable-requires
unreachable-requires g c = absurd (not_remaking c.index_mut.result.now c.in_default.not-Remaking (read_remaking c.args.services.now.slots.items c.args.token c.index_mut.result.now c.requires.inside c.index_mut.ensures.value c.requires.remaking))

pub poll-requires : goal.poll-requires
poll-requires g c =
    let there : slice_get c.args.services.now.slots.items c.args.token ≡ Some (Remaking c.in-Remaking.making c.in-Remaking.field-1) = read_there c.args.services.now.slots.items c.args.token c.index_mut.result.now c.requires.inside c.index_mut.ensures.value ∙ ap (λ s. Some s) c.in-Remaking.is in
    may_be_polled g.F.Factory.Future.Future g.F.Factory.Service.Service g.F.Factory.Service.Future.LinkHolder.may_stand (g.F.ServerServiceFactory.may_serve c.args.factory.now c.args.token) (g.F.ServerServiceFactory.may_leave c.args.factory.now c.args.token) (g.F.ServerServiceFactory.may_ready c.args.factory.now c.args.token) (g.F.ServerServiceFactory.may_init c.args.factory.now c.args.token) (g.F.ServerServiceFactory.may_make c.args.factory.now c.args.token) c.args.services.now.slots.items c.args.token c.in-Remaking.making c.in-Remaking.field-1 there c.requires.slot

pub invariant_of-services : goal.invariant_of-services
invariant_of-services g c =
    let there : slice_get c.args.services.now.slots.items c.args.token ≡ Some (Remaking c.in-Remaking.making c.in-Remaking.field-1) = read_there c.args.services.now.slots.items c.args.token c.index_mut.result.now c.requires.inside c.index_mut.ensures.value ∙ ap (λ s. Some s) c.in-Remaking.is in
    record {
      as_many = length-set c.args.services.now.slots.items c.args.token (Remaking c.poll.new.self c.in-Remaking.field-1) ∙ c.args.services.now.as_many;
      as_many_factories = c.args.services.now.as_many_factories;
      fits = fits_polled c.args.services.now.slots.items c.args.services.now.core c.args.token c.in-Remaking.making c.in-Remaking.field-1 c.requires.inside there c.args.services.now.fits c.poll.new.self;
      goes_on = c.args.services.now.goes_on;
    }

pub stand_again-requires-clause-inside : goal.stand_again-requires-clause-inside
stand_again-requires-clause-inside g c = inside_set c.args.services.now.slots.items c.args.token (Remaking c.poll.new.self c.in-Remaking.field-1) c.requires.inside

pub stand_again-requires-clause-remaking : goal.stand_again-requires-clause-remaking
stand_again-requires-clause-remaking g c = subst (λ o. IsRemaking o) (sym (slice_get-set_same c.args.services.now.slots.items c.args.token (Remaking c.poll.new.self c.in-Remaking.field-1) c.requires.inside)) tt

pub invariant_of-services-in-Ready-Err : goal.invariant_of-services-in-Ready-Err
invariant_of-services-in-Ready-Err g c =
    let there : slice_get c.args.services.now.slots.items c.args.token ≡ Some (Remaking c.in-Remaking.making c.in-Remaking.field-1) = read_there c.args.services.now.slots.items c.args.token c.index_mut.result.now c.requires.inside c.index_mut.ensures.value ∙ ap (λ s. Some s) c.in-Remaking.is in
    record {
      as_many = as_many_twice c.args.services.now.slots.items c.args.token (Remaking c.poll.new.self c.in-Remaking.field-1) c.replace.new.dest ∙ c.args.services.now.as_many;
      as_many_factories = c.args.services.now.as_many_factories;
      fits = fits_given_up c.args.services.now.slots.items c.args.services.now.core c.args.token c.in-Remaking.making c.in-Remaking.field-1 c.requires.inside there c.args.services.now.fits c.poll.new.self c.replace.new.dest c.replace.ensures.after;
      goes_on = c.args.services.now.goes_on;
    }

pub unreachable-requires-in_default-replace : goal.unreachable-requires-in_default-replace
unreachable-requires-in_default-replace g c = absurd (c.in_default-replace.not-Remaking c.poll.new.self c.in-Remaking.field-1 (c.replace.ensures.value ∙ read_again c.args.services.now.slots.items c.args.token (Remaking c.poll.new.self c.in-Remaking.field-1) c.index_mut-in-Ready-Err.result.now c.requires.inside c.index_mut-in-Ready-Err.ensures.value))

pub returns-in-Pending-clause-checks : goal.returns-in-Pending-clause-checks
returns-in-Pending-clause-checks g c _ =
    let there : slice_get c.args.services.now.slots.items c.args.token ≡ Some (Remaking c.in-Remaking.making c.in-Remaking.field-1) = read_there c.args.services.now.slots.items c.args.token c.index_mut.result.now c.requires.inside c.index_mut.ensures.value ∙ ap (λ s. Some s) c.in-Remaking.is in
    checks_polled c.args.services.now.slots.items c.args.services.now.core c.args.token c.in-Remaking.making c.in-Remaking.field-1 c.requires.inside there c.args.services.now.fits (g.F.ServerServiceFactory.may_ready c.args.factory.now) c.poll.new.self c.in-Pending.ensures.pending

pub returns-in-Pending-clause-slot : goal.returns-in-Pending-clause-slot
returns-in-Pending-clause-slot g c _ =
    let there : slice_get c.args.services.now.slots.items c.args.token ≡ Some (Remaking c.in-Remaking.making c.in-Remaking.field-1) = read_there c.args.services.now.slots.items c.args.token c.index_mut.result.now c.requires.inside c.index_mut.ensures.value ∙ ap (λ s. Some s) c.in-Remaking.is in
    slot_polled g.F.Factory.Future.Future g.F.Factory.Service.Service g.F.Factory.Service.Future.LinkHolder.may_stand (g.F.ServerServiceFactory.may_serve c.args.factory.now c.args.token) (g.F.ServerServiceFactory.may_leave c.args.factory.now c.args.token) (g.F.ServerServiceFactory.may_ready c.args.factory.now c.args.token) (g.F.ServerServiceFactory.may_init c.args.factory.now c.args.token) (g.F.ServerServiceFactory.may_make c.args.factory.now c.args.token) c.args.services.now.slots.items c.args.token c.in-Remaking.making c.in-Remaking.field-1 there c.requires.slot c.requires.inside c.poll.new.self c.in-Pending.ensures.again c.in-Pending.ensures.same

pub returns-in-Pending-clause-is_made : goal.returns-in-Pending-clause-is_made
returns-in-Pending-clause-is_made g c = subst (λ o. IsMade o) (sym (slice_get-set_same c.args.services.now.slots.items c.args.token (Remaking c.poll.new.self c.in-Remaking.field-1) c.requires.inside)) tt

pub returns-in-Pending-clause-others : goal.returns-in-Pending-clause-others
returns-in-Pending-clause-others g c t other = slice_get-set_other c.args.services.now.slots.items c.args.token t (Remaking c.poll.new.self c.in-Remaking.field-1) other

pub returns-in-Pending-clause-as_many : goal.returns-in-Pending-clause-as_many
returns-in-Pending-clause-as_many g c = length-set c.args.services.now.slots.items c.args.token (Remaking c.poll.new.self c.in-Remaking.field-1)

pub returns-in-Pending-clause-stayed : goal.returns-in-Pending-clause-stayed
returns-in-Pending-clause-stayed g c same t = refl

pub returns-in-Pending-clause-refused : goal.returns-in-Pending-clause-refused
returns-in-Pending-clause-refused g c readiness error is = absurd (cc)

pub returns-in-Pending-clause-made : goal.returns-in-Pending-clause-made
returns-in-Pending-clause-made g c = refl

pub returns-in-Pending-clause-factories : goal.returns-in-Pending-clause-factories
returns-in-Pending-clause-factories g c = refl

pub returns-in-Pending-clause-kept : goal.returns-in-Pending-clause-kept
returns-in-Pending-clause-kept g c = c.poll.ensures.kept

pub returns-in-Ready-Ok-clause-checks : goal.returns-in-Ready-Ok-clause-checks
returns-in-Ready-Ok-clause-checks g c _ = checks_remade (g.F.ServerServiceFactory.may_ready c.args.factory.now) c.args.services.now.slots.items c.stand_again.new.self.slots.items c.args.services.now.core c.stand_again.new.self.core c.args.token c.stand_again.ensures.allowed c.stand_again.ensures.core
    (λ t other. ap (λ xs. slice_get xs t) c.stand_again.ensures.slots ∙ others_twice c.args.services.now.slots.items c.args.token (Remaking c.poll.new.self c.in-Remaking.field-1) (Made c.in-Ready-Ok.service) t other)
    (ap (λ xs. length xs) c.stand_again.ensures.slots ∙ as_many_twice c.args.services.now.slots.items c.args.token (Remaking c.poll.new.self c.in-Remaking.field-1) (Made c.in-Ready-Ok.service))

pub returns-in-Ready-Ok-clause-slot : goal.returns-in-Ready-Ok-clause-slot
returns-in-Ready-Ok-clause-slot g c _ =
    let there : slice_get c.args.services.now.slots.items c.args.token ≡ Some (Remaking c.in-Remaking.making c.in-Remaking.field-1) = read_there c.args.services.now.slots.items c.args.token c.index_mut.result.now c.requires.inside c.index_mut.ensures.value ∙ ap (λ s. Some s) c.in-Remaking.is in
    let at : slice_get c.stand_again.new.self.slots.items c.args.token ≡ Some (Made c.in-Ready-Ok.service) = ap (λ xs. slice_get xs c.args.token) c.stand_again.ensures.slots ∙ here_twice c.args.services.now.slots.items c.args.token (Remaking c.poll.new.self c.in-Remaking.field-1) (Made c.in-Ready-Ok.service) c.requires.inside in
    subst (λ o. IfSome o (IsSlot g.F.Factory.Future.Future g.F.Factory.Service.Service g.F.Factory.Service.Future.LinkHolder.may_stand (g.F.ServerServiceFactory.may_serve c.args.factory.now c.args.token) (g.F.ServerServiceFactory.may_leave c.args.factory.now c.args.token) (g.F.ServerServiceFactory.may_ready c.args.factory.now c.args.token) (g.F.ServerServiceFactory.may_init c.args.factory.now c.args.token) (g.F.ServerServiceFactory.may_make c.args.factory.now c.args.token))) (sym at)
    (made_again g.F.Factory.Future.Future g.F.Factory.Service.Service g.F.Factory.Service.Future.LinkHolder.may_stand (g.F.ServerServiceFactory.may_serve c.args.factory.now c.args.token) (g.F.ServerServiceFactory.may_leave c.args.factory.now c.args.token) (g.F.ServerServiceFactory.may_ready c.args.factory.now c.args.token) (g.F.ServerServiceFactory.may_init c.args.factory.now c.args.token) (g.F.ServerServiceFactory.may_make c.args.factory.now c.args.token) c.args.services.now.slots.items c.args.token c.in-Remaking.making c.in-Remaking.field-1 there c.requires.slot c.in-Ready-Ok.service (rw c.in-Ready-Ok.field-0-is at c.in-Ready-Ok.ensures.value))

pub returns-in-Ready-Ok-clause-is_made : goal.returns-in-Ready-Ok-clause-is_made
returns-in-Ready-Ok-clause-is_made g c =
    let at : slice_get c.stand_again.new.self.slots.items c.args.token ≡ Some (Made c.in-Ready-Ok.service) = ap (λ xs. slice_get xs c.args.token) c.stand_again.ensures.slots ∙ here_twice c.args.services.now.slots.items c.args.token (Remaking c.poll.new.self c.in-Remaking.field-1) (Made c.in-Ready-Ok.service) c.requires.inside in
    subst (λ o. IsMade o) (sym at) tt

pub returns-in-Ready-Ok-clause-others : goal.returns-in-Ready-Ok-clause-others
returns-in-Ready-Ok-clause-others g c t other = ap (λ xs. slice_get xs t) c.stand_again.ensures.slots ∙ others_twice c.args.services.now.slots.items c.args.token (Remaking c.poll.new.self c.in-Remaking.field-1) (Made c.in-Ready-Ok.service) t other

pub returns-in-Ready-Ok-clause-as_many : goal.returns-in-Ready-Ok-clause-as_many
returns-in-Ready-Ok-clause-as_many g c = ap (λ xs. length xs) c.stand_again.ensures.slots ∙ as_many_twice c.args.services.now.slots.items c.args.token (Remaking c.poll.new.self c.in-Remaking.field-1) (Made c.in-Ready-Ok.service)

pub returns-in-Ready-Ok-clause-stayed : goal.returns-in-Ready-Ok-clause-stayed
returns-in-Ready-Ok-clause-stayed g c same t = absurd (cc)

pub returns-in-Ready-Ok-clause-refused : goal.returns-in-Ready-Ok-clause-refused
returns-in-Ready-Ok-clause-refused g c readiness error is = absurd (cc)

pub returns-in-Ready-Ok-clause-made : goal.returns-in-Ready-Ok-clause-made
returns-in-Ready-Ok-clause-made g c = c.stand_again.ensures.made

pub returns-in-Ready-Ok-clause-factories : goal.returns-in-Ready-Ok-clause-factories
returns-in-Ready-Ok-clause-factories g c = c.stand_again.ensures.factories

pub returns-in-Ready-Ok-clause-kept : goal.returns-in-Ready-Ok-clause-kept
returns-in-Ready-Ok-clause-kept g c = c.poll.ensures.kept

pub returns-in-Remaking-replace-clause-checks : goal.returns-in-Remaking-replace-clause-checks
returns-in-Remaking-replace-clause-checks g c whole = absurd whole

pub returns-in-Remaking-replace-clause-slot : goal.returns-in-Remaking-replace-clause-slot
returns-in-Remaking-replace-clause-slot g c whole = absurd whole

pub returns-in-Remaking-replace-clause-is_made : goal.returns-in-Remaking-replace-clause-is_made
returns-in-Remaking-replace-clause-is_made g c = subst (λ o. IsMade o) (sym (here_twice c.args.services.now.slots.items c.args.token (Remaking c.poll.new.self c.in-Remaking.field-1) c.replace.new.dest c.requires.inside)) (subst (λ s. IsMade (Some s)) (sym c.replace.ensures.after) tt)

pub returns-in-Remaking-replace-clause-others : goal.returns-in-Remaking-replace-clause-others
returns-in-Remaking-replace-clause-others g c t other = others_twice c.args.services.now.slots.items c.args.token (Remaking c.poll.new.self c.in-Remaking.field-1) c.replace.new.dest t other

pub returns-in-Remaking-replace-clause-as_many : goal.returns-in-Remaking-replace-clause-as_many
returns-in-Remaking-replace-clause-as_many g c = as_many_twice c.args.services.now.slots.items c.args.token (Remaking c.poll.new.self c.in-Remaking.field-1) c.replace.new.dest

pub returns-in-Remaking-replace-clause-stayed : goal.returns-in-Remaking-replace-clause-stayed
returns-in-Remaking-replace-clause-stayed g c same t = absurd (cc)

pub returns-in-Remaking-replace-clause-refused : goal.returns-in-Remaking-replace-clause-refused
returns-in-Remaking-replace-clause-refused g c readiness error is =
    let there : slice_get c.args.services.now.slots.items c.args.token ≡ Some (Remaking c.in-Remaking.making c.in-Remaking.field-1) = read_there c.args.services.now.slots.items c.args.token c.index_mut.result.now c.requires.inside c.index_mut.ensures.value ∙ ap (λ s. Some s) c.in-Remaking.is in
    let same : c.in-Remaking-replace.readiness ≡ c.in-Remaking.field-1 = let now = c.replace.ensures.value ∙ read_again c.args.services.now.slots.items c.args.token (Remaking c.poll.new.self c.in-Remaking.field-1) c.index_mut-in-Ready-Err.result.now c.requires.inside c.index_mut-in-Ready-Err.ensures.value in cc (now, c.in-Remaking-replace.is) in
    let its : c.in-Remaking-replace.readiness ≡ readiness = cc is in
    let why : c.in-Ready-Err.error ≡ error = cc is in
    let it = refused_again g.F.Factory.Future.Future g.F.Factory.Service.Service g.F.Factory.Service.Future.LinkHolder.may_stand (g.F.ServerServiceFactory.may_serve c.args.factory.now c.args.token) (g.F.ServerServiceFactory.may_leave c.args.factory.now c.args.token) (g.F.ServerServiceFactory.may_ready c.args.factory.now c.args.token) (g.F.ServerServiceFactory.may_init c.args.factory.now c.args.token) (g.F.ServerServiceFactory.may_make c.args.factory.now c.args.token) c.args.services.now.slots.items c.args.token c.in-Remaking.making c.in-Remaking.field-1 there c.requires.slot c.in-Ready-Err.error (rw c.in-Ready-Err.field-0-is at c.in-Ready-Err.ensures.value) in
    (subst (λ e. g.F.ServerServiceFactory.may_ready c.args.factory.now c.args.token (PollReady (Err e))) (sym same ∙ its) it.0, subst (λ e. g.F.ServerServiceFactory.may_init c.args.factory.now c.args.token e) why it.1)

pub returns-in-Remaking-replace-clause-made : goal.returns-in-Remaking-replace-clause-made
returns-in-Remaking-replace-clause-made g c = refl

pub returns-in-Remaking-replace-clause-factories : goal.returns-in-Remaking-replace-clause-factories
returns-in-Remaking-replace-clause-factories g c = refl

pub returns-in-Remaking-replace-clause-kept : goal.returns-in-Remaking-replace-clause-kept
returns-in-Remaking-replace-clause-kept g c = c.poll.ensures.kept
