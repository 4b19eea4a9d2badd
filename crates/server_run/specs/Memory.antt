-- What the objects in memory tell.
use Rattle.std.specs.Prelude.{List, [], ◌∷◌}
use Rattle.server_run.specs.Listener.{Mark, gives, fails}
use Rattle.server_run.specs.declared.memory_link.MemoryLink.{MemoryLink}
use Rattle.server_run.specs.declared.listener_step.ListenerStep.{ListenerStep}
use Rattle.server_run.specs.declared.listener_step.ListenerStep.TheVariants.{Give, NotYet, Skip, Fail}

-- the links of these steps
abbrev pub links : List ListenerStep → List MemoryLink
links [] = []
links (Give link ∷ steps) = link ∷ links steps
links (NotYet ∷ steps) = links steps
links (Skip ∷ steps) = links steps
links (Fail ∷ steps) = links steps

-- the connections and the failures of these steps
abbrev pub marks : List ListenerStep → List Mark
marks [] = []
marks (Give link ∷ steps) = gives ∷ marks steps
marks (NotYet ∷ steps) = marks steps
marks (Skip ∷ steps) = marks steps
marks (Fail ∷ steps) = fails ∷ marks steps
