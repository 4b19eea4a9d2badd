use Rattle.std.proofs.Common.{◌<◌, refl, sym, ap, ◌∙◌, subst}
use Rattle.worker_core.specs.Statuses.{is_asked, is_restarting}
use Rattle.worker_core.specs.WorkerCore.{status_of}
use Rattle.server_worker.proofs.RemakeSteps.{checks_begun, checks_later, down_there, remaking_there, standing_there}
use Rattle.server_worker.proofs.Statuses.{is_next}
use Rattle.server_worker.proofs.readiness.check_one.Goals as goal

pub ask_one-requires-clause-inside : goal.ask_one-requires-clause-inside
ask_one-requires-clause-inside g c = c.requires.inside

pub ask_one-requires-clause-stands : goal.ask_one-requires-clause-stands
ask_one-requires-clause-stands g c = standing_there c.args.services.now.slots.items c.args.token c.index.result.now c.requires.inside c.index.ensures c.in-Made.field-0 c.in-Made.is

pub ask_one-requires-clause-slot : goal.ask_one-requires-clause-slot
ask_one-requires-clause-slot g c = c.requires.slot

pub status-requires : goal.status-requires
status-requires g c = subst (λ n. c.args.token < n) c.args.services.now.as_many c.requires.inside

pub returns-then-not-is_restarting-clause-checks : goal.returns-then-not-is_restarting-clause-checks
returns-then-not-is_restarting-clause-checks g c _ = checks_later (g.F.ServerServiceFactory.may_ready c.args.factory.now) c.args.services.now.slots.items c.args.services.now.core c.args.token (down_there c.args.services.now.slots.items c.args.token c.index.result.now c.requires.inside c.index.ensures c.in-Failed.field-0 c.in-Failed.is) (c.args.services.now.fits c.args.token)
    (ap is_restarting (sym c.status.ensures) ∙ sym c.is_restarting.ensures ∙ c.if-not-is_restarting.true)

pub returns-then-not-is_restarting-clause-slot : goal.returns-then-not-is_restarting-clause-slot
returns-then-not-is_restarting-clause-slot g c _ = c.requires.slot

pub returns-then-not-is_restarting-clause-is_made : goal.returns-then-not-is_restarting-clause-is_made
returns-then-not-is_restarting-clause-is_made g c = c.requires.is_made

pub returns-then-not-is_restarting-clause-others : goal.returns-then-not-is_restarting-clause-others
returns-then-not-is_restarting-clause-others g c t other = refl

pub returns-then-not-is_restarting-clause-as_many : goal.returns-then-not-is_restarting-clause-as_many
returns-then-not-is_restarting-clause-as_many g c = refl

pub returns-then-not-is_restarting-clause-stayed : goal.returns-then-not-is_restarting-clause-stayed
returns-then-not-is_restarting-clause-stayed g c same t = refl

pub returns-then-not-is_restarting-clause-refused : goal.returns-then-not-is_restarting-clause-refused
returns-then-not-is_restarting-clause-refused g c readiness error is = absurd (cc)

pub returns-then-not-is_restarting-clause-made : goal.returns-then-not-is_restarting-clause-made
returns-then-not-is_restarting-clause-made g c = refl

pub returns-then-not-is_restarting-clause-factories : goal.returns-then-not-is_restarting-clause-factories
returns-then-not-is_restarting-clause-factories g c = refl

pub returns-then-not-is_restarting-clause-kept : goal.returns-then-not-is_restarting-clause-kept
returns-then-not-is_restarting-clause-kept g c fact holds = holds

pub begin_again-requires-clause-inside : goal.begin_again-requires-clause-inside
begin_again-requires-clause-inside g c = c.requires.inside

pub begin_again-requires-clause-down : goal.begin_again-requires-clause-down
begin_again-requires-clause-down g c = down_there c.args.services.now.slots.items c.args.token c.index.result.now c.requires.inside c.index.ensures c.in-Failed.field-0 c.in-Failed.is

pub begin_again-requires-clause-next : goal.begin_again-requires-clause-next
begin_again-requires-clause-next g c = is_next (status_of c.args.services.now.core c.args.token) (ap is_restarting (sym c.status.ensures) ∙ sym c.is_restarting.ensures ∙ c.if-not-is_restarting.false)

pub begin_again-requires-clause-slot : goal.begin_again-requires-clause-slot
begin_again-requires-clause-slot g c = c.requires.slot

pub begin_again-requires-clause-factories : goal.begin_again-requires-clause-factories
begin_again-requires-clause-factories g c = c.requires.factories

pub remake_one-requires-clause-inside : goal.remake_one-requires-clause-inside
remake_one-requires-clause-inside g c = subst (λ n. c.args.token < n) (sym c.begin_again.ensures.as_many) c.requires.inside

pub remake_one-requires-clause-remaking : goal.remake_one-requires-clause-remaking
remake_one-requires-clause-remaking g c = c.begin_again.ensures.remaking

pub remake_one-requires-clause-slot : goal.remake_one-requires-clause-slot
remake_one-requires-clause-slot g c = c.begin_again.ensures.slot

pub remake_one-requires-in-Remaking-clause-inside : goal.remake_one-requires-in-Remaking-clause-inside
remake_one-requires-in-Remaking-clause-inside g c = c.requires.inside

pub remake_one-requires-in-Remaking-clause-remaking : goal.remake_one-requires-in-Remaking-clause-remaking
remake_one-requires-in-Remaking-clause-remaking g c = remaking_there c.args.services.now.slots.items c.args.token c.index.result.now c.requires.inside c.index.ensures c.in-Remaking.field-0 c.in-Remaking.field-1 c.in-Remaking.is

pub remake_one-requires-in-Remaking-clause-slot : goal.remake_one-requires-in-Remaking-clause-slot
remake_one-requires-in-Remaking-clause-slot g c = c.requires.slot

pub returns-then-ask_one-clause-checks : goal.returns-then-ask_one-clause-checks
returns-then-ask_one-clause-checks g c _ = c.ask_one.ensures.checks

pub returns-then-ask_one-clause-slot : goal.returns-then-ask_one-clause-slot
returns-then-ask_one-clause-slot g c _ = c.ask_one.ensures.slot

pub returns-then-ask_one-clause-is_made : goal.returns-then-ask_one-clause-is_made
returns-then-ask_one-clause-is_made g c = c.ask_one.ensures.is_made

pub returns-then-ask_one-clause-others : goal.returns-then-ask_one-clause-others
returns-then-ask_one-clause-others g c = c.ask_one.ensures.checks.others

pub returns-then-ask_one-clause-as_many : goal.returns-then-ask_one-clause-as_many
returns-then-ask_one-clause-as_many g c = c.ask_one.ensures.checks.as_many

pub returns-then-ask_one-clause-stayed : goal.returns-then-ask_one-clause-stayed
returns-then-ask_one-clause-stayed g c same t = absurd (cc)

pub returns-then-ask_one-clause-refused : goal.returns-then-ask_one-clause-refused
returns-then-ask_one-clause-refused g c readiness error is = absurd (cc)

pub returns-then-ask_one-clause-made : goal.returns-then-ask_one-clause-made
returns-then-ask_one-clause-made g c = c.ask_one.ensures.made

pub returns-then-ask_one-clause-factories : goal.returns-then-ask_one-clause-factories
returns-then-ask_one-clause-factories g c = c.ask_one.ensures.factories

pub returns-then-ask_one-clause-kept : goal.returns-then-ask_one-clause-kept
returns-then-ask_one-clause-kept g c = c.ask_one.ensures.kept

pub returns-else-ask_one-clause-checks : goal.returns-else-ask_one-clause-checks
returns-else-ask_one-clause-checks g c _ = c.ask_one.ensures.checks

pub returns-else-ask_one-clause-slot : goal.returns-else-ask_one-clause-slot
returns-else-ask_one-clause-slot g c _ = c.ask_one.ensures.slot

pub returns-else-ask_one-clause-is_made : goal.returns-else-ask_one-clause-is_made
returns-else-ask_one-clause-is_made g c = c.ask_one.ensures.is_made

pub returns-else-ask_one-clause-others : goal.returns-else-ask_one-clause-others
returns-else-ask_one-clause-others g c = c.ask_one.ensures.checks.others

pub returns-else-ask_one-clause-as_many : goal.returns-else-ask_one-clause-as_many
returns-else-ask_one-clause-as_many g c = c.ask_one.ensures.checks.as_many

pub returns-else-ask_one-clause-stayed : goal.returns-else-ask_one-clause-stayed
returns-else-ask_one-clause-stayed g c same = c.ask_one.ensures.stayed c.if-ask_one.false

pub returns-else-ask_one-clause-refused : goal.returns-else-ask_one-clause-refused
returns-else-ask_one-clause-refused g c readiness error is = absurd (cc)

pub returns-else-ask_one-clause-made : goal.returns-else-ask_one-clause-made
returns-else-ask_one-clause-made g c = c.ask_one.ensures.made

pub returns-else-ask_one-clause-factories : goal.returns-else-ask_one-clause-factories
returns-else-ask_one-clause-factories g c = c.ask_one.ensures.factories

pub returns-else-ask_one-clause-kept : goal.returns-else-ask_one-clause-kept
returns-else-ask_one-clause-kept g c = c.ask_one.ensures.kept

pub returns-else-not-is_restarting-clause-checks : goal.returns-else-not-is_restarting-clause-checks
returns-else-not-is_restarting-clause-checks g c whole = checks_begun (g.F.ServerServiceFactory.may_ready c.args.factory.now) c.args.services.now.slots.items c.begin_again.new.services.slots.items c.remake_one.new.services.slots.items c.args.services.now.core c.begin_again.new.services.core c.remake_one.new.services.core c.args.token (down_there c.args.services.now.slots.items c.args.token c.index.result.now c.requires.inside c.index.ensures c.in-Failed.field-0 c.in-Failed.is)
    c.begin_again.ensures.core c.begin_again.ensures.others c.begin_again.ensures.as_many c.begin_again.ensures.waits (c.remake_one.ensures.checks whole)

pub returns-else-not-is_restarting-clause-slot : goal.returns-else-not-is_restarting-clause-slot
returns-else-not-is_restarting-clause-slot g c = c.remake_one.ensures.slot

pub returns-else-not-is_restarting-clause-is_made : goal.returns-else-not-is_restarting-clause-is_made
returns-else-not-is_restarting-clause-is_made g c = c.remake_one.ensures.is_made

pub returns-else-not-is_restarting-clause-others : goal.returns-else-not-is_restarting-clause-others
returns-else-not-is_restarting-clause-others g c t other = c.remake_one.ensures.others t other ∙ c.begin_again.ensures.others t other

pub returns-else-not-is_restarting-clause-as_many : goal.returns-else-not-is_restarting-clause-as_many
returns-else-not-is_restarting-clause-as_many g c = c.remake_one.ensures.as_many ∙ c.begin_again.ensures.as_many

pub returns-else-not-is_restarting-clause-stayed : goal.returns-else-not-is_restarting-clause-stayed
returns-else-not-is_restarting-clause-stayed g c same t = c.remake_one.ensures.stayed same t ∙ ap (λ v. is_asked (status_of v t)) c.begin_again.ensures.core

pub returns-else-not-is_restarting-clause-refused : goal.returns-else-not-is_restarting-clause-refused
returns-else-not-is_restarting-clause-refused g c = c.remake_one.ensures.refused

pub returns-else-not-is_restarting-clause-made : goal.returns-else-not-is_restarting-clause-made
returns-else-not-is_restarting-clause-made g c = c.remake_one.ensures.made ∙ c.begin_again.ensures.made

pub returns-else-not-is_restarting-clause-factories : goal.returns-else-not-is_restarting-clause-factories
returns-else-not-is_restarting-clause-factories g c = c.remake_one.ensures.factories ∙ c.begin_again.ensures.factories

pub returns-else-not-is_restarting-clause-kept : goal.returns-else-not-is_restarting-clause-kept
returns-else-not-is_restarting-clause-kept g c = c.remake_one.ensures.kept

pub returns-in-Remaking-clause-checks : goal.returns-in-Remaking-clause-checks
returns-in-Remaking-clause-checks g c = c.remake_one-in-Remaking.ensures.checks

pub returns-in-Remaking-clause-slot : goal.returns-in-Remaking-clause-slot
returns-in-Remaking-clause-slot g c = c.remake_one-in-Remaking.ensures.slot

pub returns-in-Remaking-clause-is_made : goal.returns-in-Remaking-clause-is_made
returns-in-Remaking-clause-is_made g c = c.remake_one-in-Remaking.ensures.is_made

pub returns-in-Remaking-clause-others : goal.returns-in-Remaking-clause-others
returns-in-Remaking-clause-others g c = c.remake_one-in-Remaking.ensures.others

pub returns-in-Remaking-clause-as_many : goal.returns-in-Remaking-clause-as_many
returns-in-Remaking-clause-as_many g c = c.remake_one-in-Remaking.ensures.as_many

pub returns-in-Remaking-clause-stayed : goal.returns-in-Remaking-clause-stayed
returns-in-Remaking-clause-stayed g c = c.remake_one-in-Remaking.ensures.stayed

pub returns-in-Remaking-clause-refused : goal.returns-in-Remaking-clause-refused
returns-in-Remaking-clause-refused g c = c.remake_one-in-Remaking.ensures.refused

pub returns-in-Remaking-clause-made : goal.returns-in-Remaking-clause-made
returns-in-Remaking-clause-made g c = c.remake_one-in-Remaking.ensures.made

pub returns-in-Remaking-clause-factories : goal.returns-in-Remaking-clause-factories
returns-in-Remaking-clause-factories g c = c.remake_one-in-Remaking.ensures.factories

pub returns-in-Remaking-clause-kept : goal.returns-in-Remaking-clause-kept
returns-in-Remaking-clause-kept g c = c.remake_one-in-Remaking.ensures.kept
