use Rattle.script.proofs.Counted.{none_more}
use Rattle.script.proofs.connection.Connection.push_read.Goals as goal

pub invariant_of-self-2 : goal.invariant_of-self-2
invariant_of-self-2 c = (
  rw (c.in_ok-push.ensures.items, none_more c.self.inside.reads.items c.args.step c.requires) c.self.invariant.0,
  c.self.invariant.1,
)
