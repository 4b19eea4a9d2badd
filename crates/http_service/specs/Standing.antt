-- The future of a connection that says what it speaks hands back no more links than it gives results.
use Rattle.std.proofs.Common.{◌≡◌, Result, Ok, Err, Option, refl}
use Rattle.http1_grammar.specs.Wire.{Response}
use Rattle.http1_plain.specs.declared.request.Request.{Request}
use Rattle.http_flow.specs.Upgrading.{Asked}
use Rattle.http_flow.specs.declared.dispatch_error.DispatchError.{DispatchError}
use Rattle.http_flow.specs.declared.dispatch_error.DispatchError.TheVariants.{UnsupportedProtocol}
use Rattle.http_flow.specs.declared.framed.Handed.{Handed}
use Rattle.http_flow.specs.declared.protocol.Protocol.{Protocol}
use Rattle.service_core.specs.Holding.{OfKept}
use Rattle.service_core.specs.Meaning.{Within}
use Rattle.service_core.specs.declared.ended.Ended.{Ended}
use Rattle.service_core.specs.declared.ended.How.TheVariants.{Memory}
use Rattle.service_core.specs.declared.link.Link.{Ghosts as LinkOf}
use Rattle.service_core.specs.declared.service.Service.{Ghosts as ServiceOf}
use Rattle.http1_dispatcher.specs.Dispatching.{MayGive}
use Rattle.http1_dispatcher.specs.declared.dispatcher.Dispatcher.{Dispatcher}
use Rattle.http1_dispatcher.specs.declared.state.State.{State}
use Rattle.http1_dispatcher.specs.declared.state.State.TheVariants.{Answering, Upgraded, Refused, Over}
use Rattle.http_service.specs.Responding.{GivesBack, OfResponse}
use Rattle.http_service.specs.declared.http_service_handler_response.HttpServiceHandlerResponse.{HttpServiceHandlerResponse}
use Rattle.http_service.specs.declared.http_service_handler_response.HttpServiceHandlerResponse.TheVariants.{Dispatching, Unsupported}

module _ {L S X U E XE UE F XF UF A : Type 0} (g : LinkOf L) (sg : ServiceOf S Request Response E F) (meaning : E → Option Response)
    (xg : ServiceOf X Request Request XE XF) (refusing : XE → Option Response) (ug : ServiceOf U (Asked L) (Handed L) UE UF) where
  -- a dispatcher gives no error
  pub never_errs : (state : State L S X U Response E F Request XE XF (Handed L) UE UF) (e : A)
      → MayGive g sg meaning xg refusing ug state (Err e) → ⊥
  never_errs (Answering inner) e given = given
  never_errs (Upgraded upgrade) e given = given
  never_errs (Refused link) e given = given
  never_errs Over e given = given

-- what is kept has this link
abbrev pub KeepsLink : {L : Type 0} → Option (Protocol × L) → L → Type 0
KeepsLink kept link = OfKept kept (λ given. link ≡ given.1)

same_link : {L E XE UE A : Type 0} (kept : Option (Protocol × L)) (protocol : Protocol) (given link : L)
    → GivesBack {L = L} {E = E} {XE = XE} {UE = UE} {A = A} kept (Err (UnsupportedProtocol protocol given)) → link ≡ given → KeepsLink kept link
same_link kept protocol given link back is = record {
  value = back.value;
  is = back.is;
  holds = let same = back.holds in cc;
}

module _ {L S X U E XE UE F XF UF : Type 0}
    (gives : Dispatcher L S X U Response E F Request XE XF (Handed L) UE UF → Result (Ended L) (DispatchError L E XE UE) → Type 0)
    (never : (dispatcher : Dispatcher L S X U Response E F Request XE XF (Handed L) UE UF) (e : DispatchError L E XE UE)
    → gives dispatcher (Err e) → ⊥) where
  abbrev pub GivesBy : HttpServiceHandlerResponse L S X U Response E F Request XE XF (Handed L) UE UF
      → Result (Ended L) (DispatchError L E XE UE) → Type 0
  GivesBy response r = OfResponse (λ dispatcher. gives dispatcher r) (λ kept. GivesBack kept r) response

  abbrev pub StandsBy : HttpServiceHandlerResponse L S X U Response E F Request XE XF (Handed L) UE UF → L → Type 0
  StandsBy response link =
      OfResponse (λ dispatcher. gives dispatcher (Ok (record { link = link; how = Memory }))) (λ kept. KeepsLink kept link) response

  pub response_stands : (wide narrow : HttpServiceHandlerResponse L S X U Response E F Request XE XF (Handed L) UE UF)
      → Within (GivesBy narrow) (GivesBy wide) → (link : L) → StandsBy narrow link → StandsBy wide link
  response_stands (Dispatching wide) (Dispatching narrow) within link h = within (Ok (record { link = link; how = Memory })) h
  response_stands (Dispatching wide) (Unsupported kept) within link h =
      absurd (never wide _ (within (Err (UnsupportedProtocol h.value.0 h.value.1)) (record { value = h.value; is = h.is; holds = refl })))
  response_stands (Unsupported kept) (Dispatching narrow) within link h =
      let given = within (Ok (record { link = link; how = Memory })) h in
      let other = given.holds in
      cc
  response_stands (Unsupported wide) (Unsupported kept) within link h =
      same_link wide h.value.0 h.value.1 link
      (within (Err (UnsupportedProtocol h.value.0 h.value.1)) (record { value = h.value; is = h.is; holds = refl })) h.holds
