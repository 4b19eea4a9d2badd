use Rattle.std.proofs.Common.{refl}
use Rattle.std.specs.Arc.{arc_value}
use Rattle.http1_dispatcher.specs.Connecting.{hands_of, relations_of}
use Rattle.http1_dispatcher.proofs.Dispatches.{kept_gives, kept_serves, refused_serves}
use Rattle.http1_dispatcher.proofs.GoingSteps.{going_start}
use Rattle.http1_dispatcher.proofs.dispatcher.Dispatcher.new.Goals as goal

pub returns-in_default-clause-gives : goal.returns-in_default-clause-gives
returns-in_default-clause-gives g c = (
  tt,
  refused_serves g.L.Link
      (relations_of g.S.Service g.S.Error.ErrorResponse.response g.X.Service g.X.Error.ErrorResponse.response (arc_value c.args.flow.now))
      (hands_of g.U.Service (arc_value c.args.flow.now)) _ _ c.args.link,
)

pub returns-clause-gives : goal.returns-clause-gives
returns-clause-gives g c =
    let set = rw c.deref.ensures at c.is_some.ensures in (
      kept_serves g.L.Link g.S.Service g.S.Error.ErrorResponse.response g.X.Service g.X.Error.ErrorResponse.response g.U.Service
          g.S.Future.Future g.X.Future.Future g.U.Future.Future g.U.Future.LinkHolder.may_stand c.kept.result _ c.kept.ensures
          (going_start g.L.Link _ _ g.S.Future.Future g.X.Future.Future _ _ _ c.head-most.ensures.above c.of.ensures c.new-2.ensures.limits
          c.new-2.ensures.unread c.new-2.ensures.stage c.new-3.ensures refl)
          (record {
            callable = rw c.in-Ok.ensures c.requires.callable;
            askable = rw c.in-Ok.ensures c.requires.askable;
            set = set;
          })
          (rw c.in-Ok.ensures c.requires.upgradable),
      λ x given. rw (set, c.in-Ok.ensures, c.of.ensures) at
          (kept_gives g.L.Link g.S.Service g.S.Error.ErrorResponse.response g.X.Service g.X.Error.ErrorResponse.response g.U.Service
          c.kept.result _ c.kept.ensures c.of.ensures x given),
    )
