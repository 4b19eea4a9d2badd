use Rattle.std.proofs.Common.{Err, ap, ◌∙◌}
use Rattle.listening.proofs.Bound.{listened, unrefused}
use Rattle.listening.proofs.listening.listen.Goals as goal

pub returns-in-Ok-clause-listened : goal.returns-in-Ok-clause-listened
returns-in-Ok-clause-listened g c =
    listened g.Bi.Binder.stock g.Bi.Listener.Listener.left g.Bi.Listener.Listener.rest g.Bi.Listener.Link.Link c.args.binder.now c.bound_listener.new.binder c.args.limit c.in-Ok.listener c.in-Ok.ensures.first
    (g.met.Bi.Binder.steady c.args.binder.now) _ c.serve_listener.ensures.hears

pub returns-in-Err-clause-bound : goal.returns-in-Err-clause-bound
returns-in-Err-clause-bound g c = λ other.
    unrefused _ _ c.in-Err.error c.in-Err.ensures.unheard (λ is. c.bound_listener.ensures.memory (c.in-Err.is ∙ ap Err is)) (λ is. other (ap Err is))
