-- The service of a connection under way.
use Rattle.std.specs.Prelude.{◌≡◌, ◌<◌, ◌⊎◌, [], Result, ⊤}
use Rattle.futures.specs.declared.future.Future.{Ghosts as FutureOf}
use Rattle.futures.specs.declared.task.Poll.{Poll}
use Rattle.futures.specs.declared.task.Poll.TheVariants.{Ready, Pending}
use Rattle.http1_grammar.specs.Wire.{Response}
use Rattle.http1_plain.specs.declared.request.Request.{Request}
use Rattle.service_core.specs.Counts.{Rose}
use Rattle.service_core.specs.Meaning.{GivesOnly}
use Rattle.service_core.specs.declared.ended.How.{How}
use Rattle.service_core.specs.declared.ended.How.TheVariants.{Upgraded}
use Rattle.service_core.specs.declared.link.Link.{Ghosts as LinkOf}
use Rattle.service_core.specs.declared.peer.Peer.{Peer}
use Rattle.http1_dispatcher.specs.Requests.{AreFunctions, Functions, Relations, served}
use Rattle.http1_dispatcher.specs.Ending.{Ends}
use Rattle.http1_dispatcher.specs.Progress.{IsPlaced, IsSound, Progress, owed}
use Rattle.http1_dispatcher.specs.Steps.{IsUndecided, IsUpgrade}
use Rattle.http1_dispatcher.specs.declared.awaited.Awaited.{Awaited}
use Rattle.http1_dispatcher.specs.declared.awaited.Awaited.TheVariants.{Nothing, Response as Responding, Expectation}
use Rattle.http1_dispatcher.specs.declared.exchange.Exchange.{Exchange}
use Rattle.http1_dispatcher.specs.declared.exchange.Stage.{Stage}
use Rattle.http1_dispatcher.specs.declared.exchange.Stage.TheVariants.{Reading, Asking, Awaiting, Calling, Upgrading, Closing}
use Rattle.http1_dispatcher.specs.declared.rules.Rules.{Rules}
use Rattle.http1_dispatcher.specs.declared.turn.Exit.{Exit}
use Rattle.http1_dispatcher.specs.declared.turn.Exit.TheVariants.{Ended, Upgrade}
use Rattle.http1_dispatcher.specs.declared.turn.Turn.{Turn}
use Rattle.http1_dispatcher.specs.declared.turn.Turn.TheVariants.{On, Out}
use Rattle.http1_dispatcher.specs.declared.waits.Waits.{Waits}

-- what a poll of a part leads to: it goes on, no more requests are answered, or it waits
abbrev pub Turns : Poll Turn → Type 0 → (Exit → Type 0) → Type 0 → Type 0
Turns (Ready On) on out waiting = on
Turns (Ready (Out exit)) on out waiting = out exit
Turns Pending on out waiting = waiting

-- nothing is left to write, and more bytes decide the next step
pub record IsQuiet (exchange : Exchange) : Type 0 where
  pub out : exchange.out ≡ []
  pub undecided : IsUndecided exchange

-- nothing is left to write, and another protocol takes the link over
pub record IsHandingOver (exchange : Exchange) : Type 0 where
  pub out : exchange.out ≡ []
  pub upgrades : IsUpgrade exchange.stage

-- one of the counts of pending futures rose
abbrev pub Waited : Waits → Waits → Type 0
Waited old new = Rose old.service new.service ⊎ Rose old.expect new.expect

-- It waits: a write or the call that is under way is pending, or all is answered and it has read, or has tried to.
abbrev pub Paused : {L : Type 0} → LinkOf L → L → L → Exchange → Waits → Waits → Type 0
Paused g old new exchange before after =
    Rose (g.write_waits old) (g.write_waits new) ⊎ (Waited before after
    ⊎ (IsQuiet exchange × (Rose (g.read_waits old) (g.read_waits new) ⊎ Rose (g.taken old) (g.taken new))))

-- the future of the service of requests is waited for, and gives only results of P
abbrev pub AwaitsResponse : {F A XF : Type 0} → FutureOf F A → Awaited F XF → (A → Type 0) → Type 0
AwaitsResponse g Nothing P = ⊥
AwaitsResponse g (Responding f) P = GivesOnly g f P
AwaitsResponse g (Expectation f) P = ⊥

-- that of the expect service is
abbrev pub AwaitsExpectation : {F XF A : Type 0} → FutureOf XF A → Awaited F XF → (A → Type 0) → Type 0
AwaitsExpectation g Nothing P = ⊥
AwaitsExpectation g (Responding f) P = ⊥
AwaitsExpectation g (Expectation f) P = GivesOnly g f P

module _ {E XE F XF : Type 0} (sf : FutureOf F (Result Response E)) (xf : FutureOf XF (Result Request XE)) (r : Relations E XE)
    (awaited : Awaited F XF) where
  -- while a service is called its future gives only results that it may give
  abbrev pub Fits : Stage → Type 0
  Fits Reading = ⊤
  Fits (Asking request reply) = AwaitsExpectation xf awaited (r.asks request.value)
  Fits (Awaiting head from reply) = ⊤
  Fits (Calling request reply) = AwaitsResponse sf awaited (r.may request.value)
  Fits (Upgrading head) = ⊤
  Fits Closing = ⊤

-- a connection as it was given, and how it is served
pub record Start (L : Type 0) : Type 0 where
  pub link : L
  pub rules : Rules
  pub peer : Peer

module _ {L E XE : Type 0} (g : LinkOf L) (r : Relations E XE) (start : Start L) where
  -- its service may end so, where no other protocol has had its link
  abbrev pub MayEndBy : L → How → Type 0
  MayEndBy link Upgraded = ⊥
  MayEndBy link how = Ends g r start.rules start.peer start.link link how

  pub record IsGoing {F XF : Type 0} (sf : FutureOf F (Result Response E)) (xf : FutureOf XF (Result Request XE)) (link : L)
      (exchange : Exchange) (awaited : Awaited F XF) : Type 0 where
    pub limited : 0 < start.rules.limits.head
    pub placed : IsPlaced start.rules exchange
    pub sound : IsSound g start.link link
    pub fits : Fits sf xf r awaited exchange.stage
    pub goes : (f : Functions) → AreFunctions r f
        → Progress g start.link link (served start.rules start.peer f) (owed start.rules start.peer f exchange)

  -- no more requests are answered: it has ended so, or its link is handed over
  abbrev pub MayExit : {F XF : Type 0} → FutureOf F (Result Response E) → FutureOf XF (Result Request XE) → L → Exchange → Awaited F XF
      → Exit → Type 0
  MayExit sf xf link exchange awaited (Ended how) = MayEndBy link how
  MayExit sf xf link exchange awaited Upgrade = IsGoing sf xf link exchange awaited × IsHandingOver exchange
