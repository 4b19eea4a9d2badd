-- How a request's future waits.
use Rattle.service_core.specs.Counts.{Rose}
use Rattle.cors_answer.specs.declared.future.State.{State}
use Rattle.cors_answer.specs.declared.future.State.TheVariants.{Here, Waiting, Done}

-- the count of the inner future rose
abbrev pub Waited : {Fut G : Type 0} → State Fut G → State Fut G → Type 0
Waited (Waiting old p a) (Waiting new q b) = Rose old.waits new.waits
Waited (Waiting old p a) (Here answer) = ⊥
Waited (Waiting old p a) Done = ⊥
Waited (Here answer) new = ⊥
Waited Done new = ⊥
