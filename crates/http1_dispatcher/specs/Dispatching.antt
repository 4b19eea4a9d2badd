-- What a dispatcher may give and show.
use Rattle.std.specs.Prelude.{◌≡◌, Option, Result, Ok, ⊤}
use Rattle.std.specs.Option.{is_some}
use Rattle.std.specs.Arc.{arc_value}
use Rattle.futures.specs.declared.future.Future.{Ghosts as FutureOf}
use Rattle.http1_grammar.specs.Wire.{Response}
use Rattle.http1_plain.specs.declared.request.Request.{Request}
use Rattle.http_flow.specs.Creating.{OfSomePart}
use Rattle.http_flow.specs.Upgrading.{Asked, HandsBack, IsLater}
use Rattle.http_flow.specs.declared.framed.Handed.{Handed}
use Rattle.http_flow.specs.declared.framed.HandedEnd.{HandedEnd}
use Rattle.http_flow.specs.declared.framed.HandedEnd.TheVariants.{Done, Fault, Memory as OutOfMemory}
use Rattle.http_flow.specs.declared.flow.HttpFlow.{HttpFlow}
use Rattle.service_core.specs.Counts.{Rose}
use Rattle.service_core.specs.Meaning.{GivesOnly}
use Rattle.service_core.specs.Shown.{wait_count, watched_future}
use Rattle.service_core.specs.declared.ended.Ended.{Ended}
use Rattle.service_core.specs.declared.ended.How.{How}
use Rattle.service_core.specs.declared.ended.How.TheVariants.{Served, ReadFault, WriteFault, Upgraded as HowUpgraded, Memory}
use Rattle.service_core.specs.declared.link.Link.{Ghosts as LinkOf}
use Rattle.service_core.specs.declared.service.Service.{Ghosts as ServiceOf}
use Rattle.http1_dispatcher.specs.Connecting.{EndsUntouched, IsUntouched, MayServe, MayUpgrade, hands_of, relations_of}
use Rattle.http1_dispatcher.specs.Connection.{Connection, Shown, answering, over, started, upgraded}
use Rattle.http1_dispatcher.specs.Requests.{Relations}
use Rattle.http1_dispatcher.specs.Ending.{HandsOver}
use Rattle.http1_dispatcher.specs.Going.{IsGoing, IsHandingOver, MayExit, Start}
use Rattle.http1_dispatcher.specs.declared.dispatcher.Dispatcher.{Dispatcher}
use Rattle.http1_dispatcher.specs.declared.inner_dispatcher.InnerDispatcher.{InnerDispatcher}
use Rattle.http1_dispatcher.specs.declared.state.State.{State}
use Rattle.http1_dispatcher.specs.declared.state.State.TheVariants.{Answering, Upgraded, Refused, Over}
use Rattle.http1_dispatcher.specs.declared.terms.Terms.{Terms}
use Rattle.http1_dispatcher.specs.declared.turn.Exit.{Exit}
use Rattle.http1_dispatcher.specs.declared.upgrade.Upgrade.{Upgrade}

-- the connection of these terms as it was given
abbrev pub start_of : {L S X U : Type 0} → Terms L S X U → Start L
start_of terms = record { link = terms.before.value; rules = terms.rules; peer = terms.peer }

-- the link was handed over, or was to be
abbrev pub IsLate : How → Type 0
IsLate Served = ⊥
IsLate ReadFault = ⊥
IsLate WriteFault = ⊥
IsLate HowUpgraded = ⊤
IsLate Memory = ⊤

-- how a connection has ended, by how the service that had its link was done with it
abbrev pub how_of : HandedEnd → How
how_of Done = HowUpgraded
how_of Fault = HowUpgraded
how_of OutOfMemory = Memory

-- ---- while requests are answered

module _ {L S X U E XE F XF : Type 0} (g : LinkOf L) (sg : ServiceOf S Request Response E F) (meaning : E → Option Response)
    (sf : FutureOf F (Result Response E)) (xg : ServiceOf X Request Request XE XF) (refusing : XE → Option Response)
    (xf : FutureOf XF (Result Request XE)) where
  -- the service of the connection is under way
  abbrev pub Goes : InnerDispatcher L S X U Response E F Request XE XF → Type 0
  Goes inner =
      IsGoing g (relations_of sg meaning xg refusing (arc_value inner.terms.flow)) (start_of inner.terms) sf xf
      inner.link inner.exchange inner.awaited

  -- no more requests are answered
  abbrev pub Exits : InnerDispatcher L S X U Response E F Request XE XF → Exit → Type 0
  Exits inner =
      MayExit g (relations_of sg meaning xg refusing (arc_value inner.terms.flow)) (start_of inner.terms) sf xf
      inner.link inner.exchange inner.awaited

-- its services may be called, and its rules are those of the services
pub record MayCall {L S X U E XE F XF : Type 0} (sg : ServiceOf S Request Response E F) (xg : ServiceOf X Request Request XE XF)
    (terms : Terms L S X U) : Type 0 where
  pub callable : sg.can_call (arc_value terms.flow).service
  pub askable : xg.can_call (arc_value terms.flow).expect
  pub set : terms.rules.has_upgrade ≡ is_some (arc_value terms.flow).upgrade

-- ---- once another protocol has the link

-- The upgrade service was asked, and the future of its call hands back only what it may.
pub record IsUpgrading {L E XE UE UF : Type 0} (g : LinkOf L) (r : Relations E XE) (start : Start L)
    (may : Asked L → Result (Handed L) UE → Type 0) (uf : FutureOf UF (Result (Handed L) UE)) (may_stand : UF → L → Type 0)
    (asked : Asked L) (future : UF) : Type 0 where
  pub given : HandsOver g r start.rules start.peer start.link asked
  pub fits : GivesOnly uf future (may asked)
  pub hands : (x : Result (Handed L) UE) → may asked x → HandsBack g asked.1.link x
  pub stands : (link : L) → may_stand future link → IsLater g asked.1.link link

module _ {L S X U E XE UE F XF UF : Type 0} (g : LinkOf L) (sg : ServiceOf S Request Response E F) (meaning : E → Option Response)
    (xg : ServiceOf X Request Request XE XF) (refusing : XE → Option Response) (ug : ServiceOf U (Asked L) (Handed L) UE UF) where
  -- what a call of the upgrade service may give
  abbrev pub may_upgrade : Terms L S X U → Asked L → Result (Handed L) UE → Type 0
  may_upgrade terms asked x = OfSomePart (arc_value terms.flow).upgrade (λ u. ug.may u asked x)

  abbrev pub Upgrades : FutureOf UF (Result (Handed L) UE) → (UF → L → Type 0) → Upgrade L S X U (Handed L) UE UF → Type 0
  Upgrades uf may_stand upgrade =
      IsUpgrading g (relations_of sg meaning xg refusing (arc_value upgrade.terms.flow)) (start_of upgrade.terms)
      (may_upgrade upgrade.terms) uf may_stand upgrade.asked.value (watched_future upgrade.future)

  -- what the service of the connection of these terms may give
  abbrev pub GivesBy : {A : Type 0} → Terms L S X U → Result (Ended L) A → Type 0
  GivesBy terms r =
      MayServe g (relations_of sg meaning xg refusing (arc_value terms.flow)) (hands_of ug (arc_value terms.flow)) terms.rules terms.peer
      terms.before.value r

  -- ---- a dispatcher, by how far it is

  -- it has not ended, and is under way
  abbrev pub IsServing : FutureOf F (Result Response E) → FutureOf XF (Result Request XE) → FutureOf UF (Result (Handed L) UE)
      → (UF → L → Type 0) → State L S X U Response E F Request XE XF (Handed L) UE UF → Type 0
  IsServing sf xf uf may_stand (Answering inner) =
      Goes g sg meaning sf xg refusing xf inner.value × MayCall sg xg inner.value.terms
      × MayUpgrade ug g may_stand (arc_value inner.value.terms.flow)
  IsServing sf xf uf may_stand (Upgraded upgrade) = Upgrades uf may_stand upgrade.value
  IsServing sf xf uf may_stand (Refused link) = ⊤
  IsServing sf xf uf may_stand Over = ⊥

  -- what it may give
  abbrev pub MayGive : {A : Type 0} → State L S X U Response E F Request XE XF (Handed L) UE UF → Result (Ended L) A → Type 0
  MayGive (Answering inner) r = GivesBy inner.value.terms r
  MayGive (Upgraded upgrade) r = GivesBy upgrade.value.terms r
  MayGive (Refused link) r = EndsUntouched link r
  MayGive Over r = ⊥

  -- ---- how a dispatcher leaves the answering of requests

  -- its link is to be handed over
  abbrev pub IsLeaving : FutureOf F (Result Response E) → FutureOf XF (Result Request XE) → (UF → L → Type 0)
      → State L S X U Response E F Request XE XF (Handed L) UE UF → Type 0
  IsLeaving sf xf may_stand (Answering inner) =
      Goes g sg meaning sf xg refusing xf inner.value × MayCall sg xg inner.value.terms
      × MayUpgrade ug g may_stand (arc_value inner.value.terms.flow) × IsHandingOver inner.value.exchange
  IsLeaving sf xf may_stand (Upgraded upgrade) = ⊥
  IsLeaving sf xf may_stand (Refused link) = ⊥
  IsLeaving sf xf may_stand Over = ⊥

  -- another protocol has it now, whose service is pending
  abbrev pub HasLeft : FutureOf UF (Result (Handed L) UE) → (UF → L → Type 0)
      → State L S X U Response E F Request XE XF (Handed L) UE UF → State L S X U Response E F Request XE XF (Handed L) UE UF → Type 0
  HasLeft uf may_stand (Answering inner) (Upgraded upgrade) =
      Upgrades uf may_stand upgrade.value × (upgrade.value.terms ≡ inner.value.terms) × Rose 0 (wait_count upgrade.value.future)
  HasLeft uf may_stand old new = ⊥

  -- the service that had it is done with it, or memory ran out
  abbrev pub EndsLate : State L S X U Response E F Request XE XF (Handed L) UE UF → Ended L → Type 0
  EndsLate (Answering inner) ended = GivesBy {A = UE} inner.value.terms (Ok ended) × IsLate ended.how
  EndsLate (Upgraded upgrade) ended = ⊥
  EndsLate (Refused link) ended = ⊥
  EndsLate Over ended = ⊥

-- requests are answered
abbrev pub IsAnswering : {L S X U E XE UE F XF UF : Type 0} → State L S X U Response E F Request XE XF (Handed L) UE UF → Type 0
IsAnswering (Answering inner) = ⊤
IsAnswering (Upgraded upgrade) = ⊥
IsAnswering (Refused link) = ⊥
IsAnswering Over = ⊥

-- its link comes back as it was given
abbrev pub IsRefused : {L S X U E XE UE F XF UF : Type 0} → State L S X U Response E F Request XE XF (Handed L) UE UF → Type 0
IsRefused (Answering inner) = ⊥
IsRefused (Upgraded upgrade) = ⊥
IsRefused (Refused link) = ⊤
IsRefused Over = ⊥

abbrev pub IsUntouchedOf : {L S X U E XE UE F XF UF : Type 0} → State L S X U Response E F Request XE XF (Handed L) UE UF → Ended L → Type 0
IsUntouchedOf (Answering inner) ended = ⊥
IsUntouchedOf (Upgraded upgrade) ended = ⊥
IsUntouchedOf (Refused link) ended = IsUntouched link ended
IsUntouchedOf Over ended = ⊥

-- this is kept, or its link is
abbrev pub IsKept : {L S X U E XE UE F XF UF : Type 0} → InnerDispatcher L S X U Response E F Request XE XF
    → State L S X U Response E F Request XE XF (Handed L) UE UF → Type 0
IsKept inner (Answering box) = box.value ≡ inner
IsKept inner (Upgraded upgrade) = ⊥
IsKept inner (Refused link) = link ≡ inner.link
IsKept inner Over = ⊥

-- it has ended so, with its link as it stood
abbrev pub EndsAs : {L S X U E XE UE F XF UF : Type 0} → State L S X U Response E F Request XE XF (Handed L) UE UF → How → Ended L → Type 0
EndsAs (Answering inner) how ended = ended ≡ record { link = inner.value.link; how = how }
EndsAs (Upgraded upgrade) how ended = ⊥
EndsAs (Refused link) how ended = ⊥
EndsAs Over how ended = ⊥

-- the connection that is answered
abbrev pub connection_of : {L S X U E XE F XF : Type 0} → InnerDispatcher L S X U Response E F Request XE XF → Connection L (HttpFlow S X U)
connection_of inner = record {
  start = start_of inner.terms;
  flow = arc_value inner.terms.flow;
  link = inner.link;
  waits = inner.waits;
}

-- what is to be seen of the connection of a dispatcher
abbrev pub seen : {L S X U E XE UE F XF UF : Type 0} → State L S X U Response E F Request XE XF (Handed L) UE UF → Shown L (HttpFlow S X U)
seen (Answering inner) = answering (connection_of inner.value)
seen (Upgraded upgrade) = upgraded (wait_count upgrade.value.future)
seen (Refused link) = over
seen Over = over

abbrev pub shown : {L S X U E XE UE F XF UF : Type 0} → Dispatcher L S X U Response E F Request XE XF (Handed L) UE UF → Shown L (HttpFlow S X U)
shown dispatcher = seen dispatcher.state

-- it begins the service of this connection, or hands its link back as it was given
abbrev pub BeginsBy : {L S X U E XE UE F XF UF : Type 0} → Start L → HttpFlow S X U
    → State L S X U Response E F Request XE XF (Handed L) UE UF → Type 0
BeginsBy start flow (Answering inner) = connection_of inner.value ≡ started start flow
BeginsBy start flow (Upgraded upgrade) = ⊥
BeginsBy start flow (Refused link) = link ≡ start.link
BeginsBy start flow Over = ⊥

abbrev pub BeginsWith : {L S X U E XE UE F XF UF : Type 0} → Start L → HttpFlow S X U
    → Dispatcher L S X U Response E F Request XE XF (Handed L) UE UF → Type 0
BeginsWith start flow dispatcher = BeginsBy start flow dispatcher.state
