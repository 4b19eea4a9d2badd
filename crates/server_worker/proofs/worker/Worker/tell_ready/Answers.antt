use Rattle.std.proofs.Common.{refl, rules}
use Rattle.server_worker.proofs.WorkSteps.{works_ready, works_stood}
use Rattle.server_worker.proofs.worker.Worker.tell_ready.Goals as goal

pub returns-then-not-self-clause-works : goal.returns-then-not-self-clause-works
returns-then-not-self-clause-works g c =
    let stood = c.stand.ensures.yes (search rules) in
    works_ready g.F.Factory.ServiceFactory g.F.Factory.Future.Future g.F.Factory.Service.Service g.F.Factory.Service.Future.Future g.F.Factory.Service.Future.LinkHolder.may_stand (g.F.ServerServiceFactory.may_serve c.args.self.now.factory) (g.F.ServerServiceFactory.may_leave c.args.self.now.factory) (g.F.ServerServiceFactory.may_ready c.args.self.now.factory) (g.F.ServerServiceFactory.may_init c.args.self.now.factory) (g.F.ServerServiceFactory.may_make c.args.self.now.factory)
    c.stand.new.self c.args.self.now.hand _ stood.0 c.push_back_reserved.ensures.items refl refl refl refl refl refl
    (works_stood g.F.Factory.ServiceFactory g.F.Factory.Future.Future g.F.Factory.Service.Service g.F.Factory.Service.Future.Future g.F.Factory.Service.Future.LinkHolder.may_stand (g.F.ServerServiceFactory.may_serve c.args.self.now.factory) (g.F.ServerServiceFactory.may_leave c.args.self.now.factory) (g.F.ServerServiceFactory.may_ready c.args.self.now.factory) (g.F.ServerServiceFactory.may_init c.args.self.now.factory) (g.F.ServerServiceFactory.may_make c.args.self.now.factory) c.args.self.now.services c.stand.new.self c.args.self.now.hand c.stand.ensures.slots c.stand.ensures.factories stood.0 stood.1 c.requires.works)
