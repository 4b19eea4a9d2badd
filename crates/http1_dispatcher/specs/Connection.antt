-- What a connection that is served shows, and what a poll of it that waits tells.
use Rattle.std.specs.Prelude.{◌≡◌, ◌≤◌, ◌⊎◌, ℕ, ◌+◌, false, Result, Ok, Err, ⊤}
use Rattle.service_core.specs.Counts.{Rose}
use Rattle.service_core.specs.declared.ended.Ended.{Ended}
use Rattle.service_core.specs.declared.ended.How.{How}
use Rattle.service_core.specs.declared.ended.How.TheVariants.{Served, ReadFault, WriteFault, Upgraded, Memory}
use Rattle.service_core.specs.declared.link.Link.{Ghosts as LinkOf}
use Rattle.http1_dispatcher.specs.Requests.{AreFunctions, Functions, Relations, served}
use Rattle.http1_dispatcher.specs.Ending.{OnTaken, WroteAll}
use Rattle.http1_dispatcher.specs.Going.{Start, Waited}
use Rattle.http1_dispatcher.specs.declared.waits.Waits.{Waits}

-- a connection whose requests are answered
pub record Connection (L F : Type 0) : Type 0 where
  -- as it was given, and how it is served
  pub start : Start L
  -- by which services
  pub flow : F
  -- the link as it stands
  pub link : L
  -- how often futures of the services were pending
  pub waits : Waits

-- what is to be seen of a connection: its requests are answered, or another protocol has its link, whose service was so often pending;
-- or it has ended, or was not begun
pub data Shown (L F : Type 0) : Type 0 where
  answering : Connection L F → Shown L F
  upgraded : ℕ → Shown L F
  over : Shown L F

abbrev pub no_waits : Waits
no_waits = record { service = 0; expect = 0 }

-- the connection at its start
abbrev pub started : {L F : Type 0} → Start L → F → Connection L F
started start flow = record { start = start; flow = flow; link = start.link; waits = no_waits }

-- the most bytes that a poll takes from the link
abbrev pub most_taken : ℕ
most_taken = 4096

-- no more than that was taken between the two
abbrev pub TookLittle : {L : Type 0} → LinkOf L → L → L → Type 0
TookLittle g old new = g.taken new ≤ g.taken old + most_taken

-- neither by a poll with which the connection ended, unless another protocol has had its link
abbrev pub LittleBy : {L F : Type 0} → LinkOf L → Connection L F → L → How → Type 0
LittleBy g old link Served = TookLittle g old.link link
LittleBy g old link ReadFault = TookLittle g old.link link
LittleBy g old link WriteFault = TookLittle g old.link link
LittleBy g old link Upgraded = ⊤
LittleBy g old link Memory = old.start.rules.has_upgrade ≡ false → TookLittle g old.link link

abbrev pub EndsLittle : {L F X : Type 0} → LinkOf L → Shown L F → Result (Ended L) X → Type 0
EndsLittle g (answering old) (Ok ended) = LittleBy g old ended.link ended.how
EndsLittle g (answering old) (Err e) = ⊥
EndsLittle g (upgraded waits) r = ⊤
EndsLittle g over r = ⊤

module _ {L F E XE : Type 0} (g : LinkOf L) (relations : F → Relations E XE) where
  -- all that was taken since the service began is answered
  abbrev pub HasAnswered : Connection L F → Type 0
  HasAnswered c = (f : Functions) → AreFunctions (relations c.flow) f
      → OnTaken g (served c.start.rules c.start.peer f) c.start.link c.link (WroteAll g (served c.start.rules c.start.peer f) c.start.link c.link)

  -- A write or a service is pending, or all is answered and it has read, or has tried to.
  abbrev pub IsPaused : Connection L F → Connection L F → Type 0
  IsPaused old new =
      Rose (g.write_waits old.link) (g.write_waits new.link) ⊎ (Waited old.waits new.waits
      ⊎ (HasAnswered new × (Rose (g.read_waits old.link) (g.read_waits new.link) ⊎ Rose (g.taken old.link) (g.taken new.link))))

  -- a poll that waits, while requests are answered
  pub record Pauses (old new : Connection L F) : Type 0 where
    pub start : new.start ≡ old.start
    pub flow : new.flow ≡ old.flow
    pub paused : IsPaused old new
    pub little : TookLittle g old.link new.link

  -- a poll that waits, between what was shown and what is: once another protocol has the link, its service is pending
  abbrev pub IsWaiting : Shown L F → Shown L F → Type 0
  IsWaiting (answering old) (answering new) = Pauses old new
  IsWaiting (answering old) (upgraded waits) = Rose 0 waits
  IsWaiting (upgraded before) (upgraded after) = Rose before after
  IsWaiting old new = ⊥
