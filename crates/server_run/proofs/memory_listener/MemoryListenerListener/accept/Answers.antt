use Rattle.std.proofs.Common.{◌≡◌, Some, List, ◌∷◌, refl}
use Rattle.server_run.specs.Memory.{links}
use Rattle.server_run.specs.declared.memory_link.MemoryLink.{MemoryLink}
use Rattle.server_run.specs.declared.listener_step.ListenerStep.{ListenerStep}
use Rattle.server_run.specs.declared.listener_step.ListenerStep.TheVariants.{Give}
use Rattle.server_run.proofs.memory_listener.MemoryListenerListener.accept.Goals as goal

-- a step in front that gives a link
given_first : (steps rest : List ListenerStep) (step : ListenerStep) (link : MemoryLink)
    → steps ≡ step ∷ rest → step ≡ Give link → Some (links steps) ≡ Some (link ∷ links rest)
given_first steps rest step link front gives = rw (front, gives) refl

pub returns-in-Some-Give-clause-link : goal.returns-in-Some-Give-clause-link
returns-in-Some-Give-clause-link c = (given_first _ _ _ _ c.in-Some-Give.ensures.items c.in-Some-Give.field-0-is, refl)
