use Rattle.std.proofs.Common.{◌∙◌, ap, length, refl, rules, sym, true, false, true≢false}
use Rattle.server_worker.proofs.Accounting.{accounts_trans}
use Rattle.server_worker.proofs.AskSteps.{checks_going, checks_stopped}
use Rattle.server_worker.proofs.DueSteps.{due_of_all}
use Rattle.server_worker.proofs.ServeSteps.{turn_no_ready}
use Rattle.server_worker.proofs.StopTurns.{taken_due, taken_gives_up, taken_polls, taken_ready, taken_returns, taken_tells, taken_told}
use Rattle.server_worker.proofs.TakeSteps.{queues_taken, receives_taken}
use Rattle.server_worker.proofs.TurnSteps.{comes_started, comes_stays, comes_unfaulted, comes_whole, unchanged}
use Rattle.server_worker.proofs.WorkSteps.{works_taken}
use Rattle.server_worker.proofs.worker.Worker.turn_due.Goals as goal

pub turn_after_stop-requires-clause-works : goal.turn_after_stop-requires-clause-works
turn_after_stop-requires-clause-works g c = works_taken g.F.Factory.ServiceFactory g.F.Factory.Future.Future g.F.Factory.Service.Service g.F.Factory.Service.Future.Future g.F.Factory.Service.Future.LinkHolder.may_stand (g.F.ServerServiceFactory.may_serve c.args.self.now.factory) (g.F.ServerServiceFactory.may_leave c.args.self.now.factory) (g.F.ServerServiceFactory.may_ready c.args.self.now.factory) (g.F.ServerServiceFactory.may_init c.args.self.now.factory) (g.F.ServerServiceFactory.may_make c.args.self.now.factory)
    c.args.self.now.services _ c.args.self.now.hand _ _ (search rules) refl refl refl c.take-all.ensures.takes c.requires.works

pub turn_on-requires-clause-works : goal.turn_on-requires-clause-works
turn_on-requires-clause-works g c = works_taken g.F.Factory.ServiceFactory g.F.Factory.Future.Future g.F.Factory.Service.Service g.F.Factory.Service.Future.Future g.F.Factory.Service.Future.LinkHolder.may_stand (g.F.ServerServiceFactory.may_serve c.args.self.now.factory) (g.F.ServerServiceFactory.may_leave c.args.self.now.factory) (g.F.ServerServiceFactory.may_ready c.args.self.now.factory) (g.F.ServerServiceFactory.may_init c.args.self.now.factory) (g.F.ServerServiceFactory.may_make c.args.self.now.factory)
    c.args.self.now.services _ c.args.self.now.hand _ _ (search rules) refl refl refl c.take-all.ensures.takes c.requires.works

pub returns-then-self-clause-accounts : goal.returns-then-self-clause-accounts
returns-then-self-clause-accounts g c = accounts_trans c.take-all.ensures.accounts c.turn_after_stop.ensures.accounts

pub returns-then-self-clause-tells : goal.returns-then-self-clause-tells
returns-then-self-clause-tells g c = taken_tells g.L.Link.identity _ c.args.self.now.hand c.take-all.new.self c.turn_after_stop.new.self.hand c.take-all.ensures.accounts c.take-all.ensures.takes _ _ _ _ c.turn_after_stop.ensures.tells

pub returns-then-self-clause-came : goal.returns-then-self-clause-came
returns-then-self-clause-came g c = receives_taken _ _ _ _ c.take-all.ensures.takes c.turn_after_stop.ensures.parcels (c.turn_after_stop.ensures.stopped ∙ sym c.if-self.true) c.turn_after_stop.ensures.forced

pub returns-then-self-clause-ready : goal.returns-then-self-clause-ready
returns-then-self-clause-ready g c = taken_ready g.L.Link.identity _ c.args.self.now.hand c.take-all.new.self c.turn_after_stop.new.self.hand c.take-all.ensures.accounts c.take-all.ensures.takes _ (turn_no_ready _ _ _ c.turn_after_stop.ensures.no_ready)

pub returns-then-self-clause-polls : goal.returns-then-self-clause-polls
returns-then-self-clause-polls g c unforced _ _ = taken_polls g.L.Link.identity _ c.args.self.now.hand c.take-all.new.self c.turn_after_stop.new.self.hand c.take-all.ensures.accounts c.take-all.ensures.takes (c.turn_after_stop.ensures.polls (sym c.turn_after_stop.ensures.forced ∙ unforced))

pub returns-then-self-clause-due : goal.returns-then-self-clause-due
returns-then-self-clause-due g c unforced _ = taken_due g.L.Link.identity _ c.args.self.now.hand c.take-all.new.self c.turn_after_stop.new.self.hand c.take-all.ensures.accounts c.take-all.ensures.takes c.args.news.now (due_of_all g.L.Link.identity c.args.news.now c.take-all.new.self c.turn_after_stop.new.self.hand (c.turn_after_stop.ensures.polls (sym c.turn_after_stop.ensures.forced ∙ unforced)))

pub returns-then-self-clause-unforced : goal.returns-then-self-clause-unforced
returns-then-self-clause-unforced g c unforced h = taken_told g.L.Link.identity _ c.args.self.now.hand c.take-all.new.self c.turn_after_stop.new.self.hand c.take-all.ensures.accounts c.take-all.ensures.takes true h (c.turn_after_stop.ensures.unforced (sym c.turn_after_stop.ensures.forced ∙ unforced) h)

pub returns-then-self-clause-unstopped : goal.returns-then-self-clause-unstopped
returns-then-self-clause-unstopped g c unstopped h = absurd (true≢false (sym c.turn_after_stop.ensures.stopped ∙ unstopped))

pub returns-then-self-clause-returns : goal.returns-then-self-clause-returns
returns-then-self-clause-returns g c is = taken_returns g.L.Link.identity _ c.args.self.now.hand c.take-all.new.self c.turn_after_stop.new.self.hand c.take-all.ensures.accounts c.take-all.ensures.takes c.turn_after_stop.ensures.returns

pub returns-then-self-clause-gives_up : goal.returns-then-self-clause-gives_up
returns-then-self-clause-gives_up g c is = taken_gives_up g.L.Link.identity _ c.args.self.now.hand c.take-all.new.self c.turn_after_stop.new.self.hand c.take-all.ensures.accounts c.take-all.ensures.takes (c.turn_after_stop.ensures.gives_up (sym c.turn_after_stop.ensures.forced ∙ is))

pub returns-then-self-clause-checks : goal.returns-then-self-clause-checks
returns-then-self-clause-checks g c _ = checks_stopped _ _ _ _ _ _ _ _ c.turn_after_stop.ensures.core c.turn_after_stop.ensures.stopped

pub returns-then-self-clause-waits : goal.returns-then-self-clause-waits
returns-then-self-clause-waits g c unstopped not_ready = absurd (true≢false (sym c.turn_after_stop.ensures.stopped ∙ unstopped))

pub returns-clause-accounts : goal.returns-clause-accounts
returns-clause-accounts g c = accounts_trans c.take-all.ensures.accounts c.turn_on.ensures.accounts

pub returns-clause-tells : goal.returns-clause-tells
returns-clause-tells g c = taken_tells g.L.Link.identity _ c.args.self.now.hand c.take-all.new.self c.turn_on.new.self.hand c.take-all.ensures.accounts c.take-all.ensures.takes _ _ _ _ c.turn_on.ensures.tells

pub returns-clause-came : goal.returns-clause-came
returns-clause-came g c = receives_taken _ _ _ _ c.take-all.ensures.takes c.turn_on.ensures.parcels (c.turn_on.ensures.stopped ∙ sym c.if-self.false) c.turn_on.ensures.forced

pub returns-clause-ready : goal.returns-clause-ready
returns-clause-ready g c = taken_ready g.L.Link.identity _ c.args.self.now.hand c.take-all.new.self c.turn_on.new.self.hand c.take-all.ensures.accounts c.take-all.ensures.takes _ c.turn_on.ensures.ready

pub returns-clause-polls : goal.returns-clause-polls
returns-clause-polls g c unforced whole every = taken_polls g.L.Link.identity _ c.args.self.now.hand c.take-all.new.self c.turn_on.new.self.hand c.take-all.ensures.accounts c.take-all.ensures.takes (c.turn_on.ensures.polls whole every)

pub returns-clause-due : goal.returns-clause-due
returns-clause-due g c unforced whole = taken_due g.L.Link.identity _ c.args.self.now.hand c.take-all.new.self c.turn_on.new.self.hand c.take-all.ensures.accounts c.take-all.ensures.takes c.args.news.now (c.turn_on.ensures.due whole)

pub returns-clause-unforced : goal.returns-clause-unforced
returns-clause-unforced g c unforced h = taken_told g.L.Link.identity _ c.args.self.now.hand c.take-all.new.self c.turn_on.new.self.hand c.take-all.ensures.accounts c.take-all.ensures.takes true h (c.turn_on.ensures.stops true h)

pub returns-clause-unstopped : goal.returns-clause-unstopped
returns-clause-unstopped g c unstopped h = taken_told g.L.Link.identity _ c.args.self.now.hand c.take-all.new.self c.turn_on.new.self.hand c.take-all.ensures.accounts c.take-all.ensures.takes false h (c.turn_on.ensures.stops false h)

pub returns-clause-returns : goal.returns-clause-returns
returns-clause-returns g c is = absurd (true≢false (sym is ∙ c.turn_on.ensures.stopped))

pub returns-clause-gives_up : goal.returns-clause-gives_up
returns-clause-gives_up g c is = absurd (true≢false (sym (c.turn_on.new.self.hand.forces is) ∙ c.turn_on.ensures.stopped))

pub returns-clause-checks : goal.returns-clause-checks
returns-clause-checks g c whole = checks_going _ _ _ _ _ _ _ _ c.turn_on.ensures.stopped (c.turn_on.ensures.checks whole)

pub returns-clause-waits : goal.returns-clause-waits
returns-clause-waits g c unstopped not_ready = queues_taken _ _ _ _ c.take-all.ensures.takes (c.turn_on.ensures.waits not_ready)

pub returns-clause-unstarted : goal.returns-clause-unstarted
returns-clause-unstarted g c token error is = let u = c.turn_on.ensures.unstarted token error is in (u.0, u.1, u.2, c.turn_on.ensures.stopped)

pub returns-clause-unpolled : goal.returns-clause-unpolled
returns-clause-unpolled g c fault = ap (λ v. v.items) (c.turn_on.ensures.unpolled fault) ∙ c.take-all.ensures.takes.live

pub returns-clause-faulted : goal.returns-clause-faulted
returns-clause-faulted g c token readiness error is = let f = c.turn_on.ensures.faulted token readiness error is in (f.0, f.1, f.2, f.3, f.4, c.turn_on.ensures.stopped)

pub returns-clause-works : goal.returns-clause-works
returns-clause-works g c = c.turn_on.ensures.works

pub returns-clause-sound : goal.returns-clause-sound
returns-clause-sound g c = c.turn_on.ensures.sound

pub returns-clause-factory : goal.returns-clause-factory
returns-clause-factory g c = c.turn_on.ensures.factory

pub returns-clause-listeners : goal.returns-clause-listeners
returns-clause-listeners g c = c.turn_on.ensures.listeners

pub returns-clause-armed : goal.returns-clause-armed
returns-clause-armed g c = c.turn_on.ensures.armed

pub returns-clause-admits : goal.returns-clause-admits
returns-clause-admits g c = c.turn_on.ensures.admits

pub returns-clause-going : goal.returns-clause-going
returns-clause-going g c = c.turn_on.ensures.going

pub returns-clause-untold : goal.returns-clause-untold
returns-clause-untold g c = c.turn_on.ensures.untold

pub returns-clause-kept : goal.returns-clause-kept
returns-clause-kept g c = c.turn_on.ensures.kept

pub returns-clause-ready_told : goal.returns-clause-ready_told
returns-clause-ready_told g c going _ made = c.turn_on.ensures.ready_told going made

pub returns-clause-total : goal.returns-clause-total
returns-clause-total g c _ = c.turn_on.ensures.total

pub returns-clause-left : goal.returns-clause-left
returns-clause-left g c b is = absurd (c.turn_on.ensures.left b is)

pub returns-clause-stays : goal.returns-clause-stays
returns-clause-stays g c going stopped = absurd (true≢false (sym stopped ∙ c.turn_on.ensures.stopped))

pub returns-clause-live_total : goal.returns-clause-live_total
returns-clause-live_total g c is = absurd (true≢false (sym (c.turn_on.new.self.hand.forces is) ∙ c.turn_on.ensures.stopped))

pub returns-then-self-clause-works : goal.returns-then-self-clause-works
returns-then-self-clause-works g c _ = c.turn_after_stop.ensures.works

pub returns-then-self-clause-sound : goal.returns-then-self-clause-sound
returns-then-self-clause-sound g c = c.turn_after_stop.ensures.works.connections

pub returns-then-self-clause-factory : goal.returns-then-self-clause-factory
returns-then-self-clause-factory g c = c.turn_after_stop.ensures.factory

pub returns-then-self-clause-kept : goal.returns-then-self-clause-kept
returns-then-self-clause-kept g c = c.turn_after_stop.ensures.kept

pub returns-then-self-clause-listeners : goal.returns-then-self-clause-listeners
returns-then-self-clause-listeners g c = ap (λ v. length v.items) c.turn_after_stop.ensures.slots

pub returns-then-self-clause-ready_told : goal.returns-then-self-clause-ready_told
returns-then-self-clause-ready_told g c going unstopped made = absurd (true≢false (sym c.turn_after_stop.ensures.stopped ∙ unstopped))

pub returns-then-self-clause-armed : goal.returns-then-self-clause-armed
returns-then-self-clause-armed g c _ token changed = absurd (unchanged c.args.self.now.services.core _ token c.turn_after_stop.ensures.core changed)

pub turn_after_stop-requires-clause-stopped : goal.turn_after_stop-requires-clause-stopped
turn_after_stop-requires-clause-stopped g c = c.if-self.true

pub turn_on-requires-clause-unstopped : goal.turn_on-requires-clause-unstopped
turn_on-requires-clause-unstopped g c = c.if-self.false

pub returns-then-self-clause-unstarted : goal.returns-then-self-clause-unstarted
returns-then-self-clause-unstarted g c token error is = absurd (comes_started true _ _ _ c.turn_after_stop.result c.turn_after_stop.ensures.comes token error is)

pub returns-then-self-clause-untold : goal.returns-then-self-clause-untold
returns-then-self-clause-untold g c token error is = absurd (comes_started true _ _ _ c.turn_after_stop.result c.turn_after_stop.ensures.comes token error is)

pub returns-then-self-clause-faulted : goal.returns-then-self-clause-faulted
returns-then-self-clause-faulted g c token readiness error is = absurd (comes_whole true _ _ _ c.turn_after_stop.result c.turn_after_stop.ensures.comes token readiness error is)

pub returns-then-self-clause-unpolled : goal.returns-then-self-clause-unpolled
returns-then-self-clause-unpolled g c fault = absurd (comes_unfaulted true _ _ _ c.turn_after_stop.result c.turn_after_stop.ensures.comes fault)

pub returns-then-self-clause-total : goal.returns-then-self-clause-total
returns-then-self-clause-total g c is = c.turn_after_stop.ensures.total (sym c.turn_after_stop.ensures.forced ∙ is)

pub returns-then-self-clause-stays : goal.returns-then-self-clause-stays
returns-then-self-clause-stays g c going _ = (let it = comes_stays _ _ _ c.turn_after_stop.result c.turn_after_stop.ensures.comes going in (it.0, c.turn_after_stop.ensures.forced ∙ it.1))
