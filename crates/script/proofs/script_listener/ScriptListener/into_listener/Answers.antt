use Rattle.std.proofs.Common.{arith}
use Rattle.script.proofs.Offered.{as_many}
use Rattle.script.proofs.script_listener.ScriptListener.into_listener.Goals as goal

pub new-requires : goal.new-requires
new-requires c = let many = as_many _ _ _ _ c.in_ok-steps.ensures.fresh in omega (arith, many, c.self.invariant.1)
