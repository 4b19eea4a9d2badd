-- Where a combinator's future may be pending: the count of a part rose in this poll.
use Rattle.service_core.specs.Counts.{Rose}
use Rattle.service_combine.specs.declared.one_stage.OneStage.{OneStage}
use Rattle.service_combine.specs.declared.one_stage.OneStage.TheVariants.{Waiting, Refused as NotShared, Done as Answered}
use Rattle.service_combine.specs.declared.two_stages.TwoStages.{TwoStages}
use Rattle.service_combine.specs.declared.two_stages.TwoStages.TheVariants.{First, Second, Refused, Done}

-- the count of the part rose
abbrev pub OneWaited : {Fut F : Type 0} → OneStage Fut F → OneStage Fut F → Type 0
OneWaited (Waiting old f) (Waiting new g) = Rose old.waits new.waits
OneWaited (Waiting old f) NotShared = ⊥
OneWaited (Waiting old f) Answered = ⊥
OneWaited NotShared new = ⊥
OneWaited Answered new = ⊥

-- the count of the part that is polled rose, from 0 where it began in this poll
abbrev pub TwoWaited : {X Y P : Type 0} → TwoStages X Y P → TwoStages X Y P → Type 0
TwoWaited (First old parts) (First new rest) = Rose old.waits new.waits
TwoWaited (First old parts) (Second new) = Rose 0 new.waits
TwoWaited (First old parts) Refused = ⊥
TwoWaited (First old parts) Done = ⊥
TwoWaited (Second old) (First new rest) = ⊥
TwoWaited (Second old) (Second new) = Rose old.waits new.waits
TwoWaited (Second old) Refused = ⊥
TwoWaited (Second old) Done = ⊥
TwoWaited Refused new = ⊥
TwoWaited Done new = ⊥
