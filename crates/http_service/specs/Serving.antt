-- How connections are served, whoever serves them.
use Rattle.std.specs.Prelude.{◌≡◌, Result, Ok, Err}
use Rattle.futures.specs.declared.future.Future.{Ghosts as FutureOf}
use Rattle.futures.specs.declared.task.Poll.TheVariants.{Ready, Pending}
use Rattle.http_flow.specs.Upgrading.{Asked}
use Rattle.http_flow.specs.declared.dispatch_error.DispatchError.{DispatchError}
use Rattle.http_flow.specs.declared.dispatch_error.DispatchError.TheVariants.{Service, UnsupportedProtocol}
use Rattle.http_flow.specs.declared.framed.Handed.{Handed}
use Rattle.http_flow.specs.declared.protocol.Protocol.{Protocol}
use Rattle.http_flow.specs.declared.protocol.Protocol.TheVariants.{Http1, Http2, Http3}
use Rattle.http_flow.specs.declared.ready_fault.ReadyFault.{ReadyFault}
use Rattle.service_core.specs.Meaning.{GivesOnly, Readiness, Within}
use Rattle.service_core.specs.declared.ended.Ended.{Ended}
use Rattle.service_core.specs.declared.link.Link.{Ghosts as LinkOf}
use Rattle.service_core.specs.declared.peer.Peer.{Peer}
use Rattle.http1_dispatcher.specs.Connecting.{MayLeave, MayServe}
use Rattle.http1_dispatcher.specs.Going.{Start}
use Rattle.http1_dispatcher.specs.Requests.{Relations}
use Rattle.http1_dispatcher.specs.declared.rules.Rules.{Rules}

-- What serves connections: what its services may give, what its upgrade service may hand back, and its rules.
pub record Serving (L E XE : Type 0) : Type 1 where
  pub relations : Relations E XE
  pub hands : Asked L → Handed L → Type 0
  pub rules : Rules

-- the results of a connection that is served so
abbrev pub Serves : {L E XE A : Type 0} → LinkOf L → Serving L E XE → Peer → L → Result (Ended L) A → Type 0
Serves g s peer link r = MayServe g s.relations s.hands s.rules peer link r

-- the links that it may leave before it has ended
abbrev pub Leaves : {L E XE : Type 0} → LinkOf L → Serving L E XE → Peer → L → L → Type 0
Leaves g s peer link left = MayLeave g s.relations s.hands s.rules peer link left

-- the connection as it is given
abbrev pub given_to : {L E XE : Type 0} → Serving L E XE → Peer → L → Start L
given_to s peer link = record { link = link; rules = s.rules; peer = peer }

-- The future of a connection that was begun: it may be polled, gives only these results, hands back only these links, and starts so.
pub record IsBegun {F L A : Type 0} (future : FutureOf F A) (may_stand : F → L → Type 0) (gives : A → Type 0) (leaves : L → Type 0)
    (start : F → Type 0) (f : F) : Type 0 where
  pub fits : GivesOnly future f gives
  pub stands : Within (may_stand f) leaves
  pub starts : start f

-- the future of a connection that is served so
abbrev pub BeginsServing : {F L E XE A : Type 0} → FutureOf F (Result (Ended L) A) → (F → L → Type 0) → LinkOf L → Serving L E XE
    → (Start L → F → Type 0) → Peer → L → F → Type 0
BeginsServing future may_stand g s begins peer link f =
    IsBegun future may_stand (Serves g s peer link) (Leaves g s peer link) (begins (given_to s peer link)) f

-- ---- by what a connection speaks

-- only HTTP/1 is served: of that the first holds, and of all else the second
abbrev pub ByProtocol : {A : Type 0} → Protocol → (A → Type 0) → (A → Type 0) → A → Type 0
ByProtocol Http1 served unsupported x = served x
ByProtocol Http2 served unsupported x = unsupported x
ByProtocol Http3 served unsupported x = unsupported x

-- the link comes back as it was given
abbrev pub IsUnsupported : {L E XE UE A : Type 0} → Protocol → L → Result A (DispatchError L E XE UE) → Type 0
IsUnsupported protocol link r = r ≡ Err (UnsupportedProtocol protocol link)

-- the results of a connection that speaks the protocol
abbrev pub ServesProtocol : {L E XE UE : Type 0} → LinkOf L → Serving L E XE → Protocol → Peer → L
    → Result (Ended L) (DispatchError L E XE UE) → Type 0
ServesProtocol g s protocol peer link = ByProtocol protocol (Serves g s peer link) (IsUnsupported protocol link)

-- the future of a connection that speaks the protocol
abbrev pub BeginsProtocol : {F L E XE UE : Type 0} → FutureOf F (Result (Ended L) (DispatchError L E XE UE)) → (F → L → Type 0)
    → LinkOf L → Serving L E XE → (Start L → F → Type 0) → (Protocol → L → F → Type 0) → Protocol → Peer → L → F → Type 0
BeginsProtocol future may_stand g s begins refuses protocol peer link f =
    IsBegun future may_stand (ServesProtocol g s protocol peer link) (ByProtocol protocol (Leaves g s peer link) (λ left. left ≡ link))
    (ByProtocol protocol (begins (given_to s peer link)) (refuses protocol link)) f

-- ---- readiness

-- The same readiness, with its error as one of what serves connections. No protocol is unsupported before a connection is there.
abbrev pub ReadyAs : {L E XE UE : Type 0} → (Readiness (ReadyFault E XE UE) → Type 0) → Readiness (DispatchError L E XE UE) → Type 0
ReadyAs P (Ready (Ok done)) = P (Ready (Ok done))
ReadyAs P (Ready (Err (Service fault))) = P (Ready (Err fault))
ReadyAs P (Ready (Err (UnsupportedProtocol protocol link))) = ⊥
ReadyAs P Pending = P Pending
