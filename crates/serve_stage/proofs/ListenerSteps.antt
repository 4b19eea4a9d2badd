-- What a listener in memory gives.
use Rattle.std.proofs.Common.{◌≤◌, [], ◌∷◌, List, length, arith}
use Rattle.server_run.specs.Memory.{links}
use Rattle.server_run.specs.declared.listener_step.ListenerStep.{ListenerStep}
use Rattle.server_run.specs.declared.listener_step.ListenerStep.TheVariants.{Give, NotYet, Skip, Fail}

-- it gives no more links than it has steps
pub few_links : (steps : List ListenerStep) → length (links steps) ≤ length steps
few_links [] = omega arith
few_links (Give link ∷ steps) = omega (arith, few_links steps)
few_links (NotYet ∷ steps) = omega (arith, few_links steps)
few_links (Skip ∷ steps) = omega (arith, few_links steps)
few_links (Fail ∷ steps) = omega (arith, few_links steps)
