-- What an upgrade service does that writes back each byte that it reads.
use Rattle.std.specs.Prelude.{◌≡◌, ℕ, ◌+◌, List, [], ◌++◌, length, drop, IfSome, Some, Result, Ok, Err, ⊤}
use Rattle.futures.specs.declared.task.Poll.{Poll}
use Rattle.futures.specs.declared.task.Poll.TheVariants.{Ready, Pending}
use Rattle.service_core.specs.Holding.{OfKept}
use Rattle.service_core.specs.declared.link.Link.{Ghosts as LinkOf}
use Rattle.http_flow.specs.declared.framed.Handed.{Handed}
use Rattle.http_flow.specs.declared.framed.HandedEnd.{HandedEnd}
use Rattle.http_flow.specs.declared.framed.HandedEnd.TheVariants.{Done, Fault, Memory}
use Rattle.http_flow.specs.Upgrading.{Asked, EndFits, Grew}
use Rattle.handlers.specs.declared.echo.Echo.{Echo}
use Rattle.handlers.specs.declared.turn.Turn.{Turn}
use Rattle.handlers.specs.declared.turn.Turn.TheVariants.{On, Out}

module _ {L : Type 0} (g : LinkOf L) (given : L) where
  -- these bytes were taken from the link since it was given
  pub record Took (link : L) (got all : List ℕ) : Type 0 where
    pub count : g.taken link ≡ g.taken given + length got
    pub bytes : got ++ drop (g.taken link) all ≡ drop (g.taken given) all

  -- It is the same link. Of the bytes that waited before, and of those that were taken since, a front was written, and the others
  -- are left.
  pub record Echoes (link : L) (before left : List ℕ) : Type 0 where
    pub got : List ℕ
    pub put : List ℕ
    pub same : g.identity link ≡ g.identity given
    pub took : IfSome (g.identity given).held (Took link got)
    pub grew : Grew (g.written given) (g.written link) put
    pub is : before ++ got ≡ put ++ left

  -- at the end of the link nothing is left, neither to read nor to write
  abbrev pub EchoEnds : L → List ℕ → HandedEnd → Type 0
  EchoEnds link left Done = (left ≡ []) × IfSome (g.identity given).held (λ all. drop (g.taken link) all ≡ [])
  EchoEnds link left Fault = EndFits g given link Fault
  EchoEnds link left Memory = ⊤

  -- the link that is handed back
  pub record Echoed (before : List ℕ) (handed : Handed L) : Type 0 where
    pub left : List ℕ
    pub echoes : Echoes handed.link before left
    pub ends : EchoEnds handed.link left handed.end

  -- the echo goes on: nothing has failed since
  pub record Steps (link : L) (before after : List ℕ) : Type 0 where
    pub echoes : Echoes link before after
    pub read_faults : g.read_faults link ≡ g.read_faults given
    pub write_faults : g.write_faults link ≡ g.write_faults given

  -- what a part of a poll did
  abbrev pub Turns : L → List ℕ → List ℕ → Poll Turn → Type 0
  Turns link before after (Ready On) = Steps link before after
  Turns link before after (Ready (Out end)) = Echoed before (record { link = link; end = end })
  Turns link before after Pending = Steps link before after

  -- what a poll did
  abbrev pub Polled : L → List ℕ → List ℕ → Poll HandedEnd → Type 0
  Polled link before after (Ready end) = Echoed before (record { link = link; end = end })
  Polled link before after Pending = Steps link before after

  -- what a call may give, where these bytes wait to be written
  abbrev pub GivesEcho : {E : Type 0} → List ℕ → Result (Handed L) E → Type 0
  GivesEcho before (Ok handed) = Echoed before handed
  GivesEcho before (Err e) = ⊥

-- what a call may give
abbrev pub MayEcho : {L E : Type 0} → LinkOf L → Asked L → Result (Handed L) E → Type 0
MayEcho g asked r = GivesEcho g asked.1.link asked.1.unread r

-- its future has the link and the unread bytes
pub record BeginsEcho {L : Type 0} (asked : Asked L) (f : Echo L) : Type 0 where
  pub link : f.link ≡ Some asked.1.link
  pub waiting : f.waiting ≡ asked.1.unread

-- what the future may give as it stands
abbrev pub EchoGives : {L E : Type 0} → LinkOf L → Echo L → Result (Handed L) E → Type 0
EchoGives g f r = OfKept f.link (λ link. GivesEcho g link f.waiting r)
