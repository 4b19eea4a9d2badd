use Rattle.std.proofs.lemmas.List.Elements.{All-push}
use Rattle.server_run.specs.Steps.{TakesSome}
use Rattle.script.proofs.connection.Connection.push_write.Goals as goal

pub invariant_of-self-2 : goal.invariant_of-self-2
invariant_of-self-2 c = (
  c.self.invariant.0,
  rw c.in_ok-push.ensures.items (All-push TakesSome c.self.inside.writes.items c.args.step c.self.invariant.1 c.requires),
)
