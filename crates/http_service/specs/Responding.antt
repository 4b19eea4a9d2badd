-- Words on the future of a connection that says what it speaks.
use Rattle.std.specs.Prelude.{◌≡◌, Option, Some, Result}
use Rattle.http1_grammar.specs.Wire.{Response}
use Rattle.http1_plain.specs.declared.request.Request.{Request}
use Rattle.http_flow.specs.declared.dispatch_error.DispatchError.{DispatchError}
use Rattle.http_flow.specs.declared.flow.HttpFlow.{HttpFlow}
use Rattle.http_flow.specs.declared.framed.Handed.{Handed}
use Rattle.http_flow.specs.declared.protocol.Protocol.{Protocol}
use Rattle.service_core.specs.Holding.{OfKept}
use Rattle.http1_dispatcher.specs.Connection.{Shown, over}
use Rattle.http1_dispatcher.specs.Dispatching.{shown}
use Rattle.http1_dispatcher.specs.declared.dispatcher.Dispatcher.{Dispatcher}
use Rattle.http_service.specs.Serving.{IsUnsupported}
use Rattle.http_service.specs.declared.http_service_handler_response.HttpServiceHandlerResponse.{HttpServiceHandlerResponse}
use Rattle.http_service.specs.declared.http_service_handler_response.HttpServiceHandlerResponse.TheVariants.{Dispatching, Unsupported}

module _ {L S X U E XE UE F XF UF : Type 0} where
  -- P holds of the dispatcher, or Q of what is kept
  abbrev pub OfResponse : (Dispatcher L S X U Response E F Request XE XF (Handed L) UE UF → Type 0) → (Option (Protocol × L) → Type 0)
      → HttpServiceHandlerResponse L S X U Response E F Request XE XF (Handed L) UE UF → Type 0
  OfResponse P Q (Dispatching dispatcher) = P dispatcher
  OfResponse P Q (Unsupported kept) = Q kept

  -- the connection is served, and P holds of its dispatcher
  abbrev pub IsDispatching : (Dispatcher L S X U Response E F Request XE XF (Handed L) UE UF → Type 0)
      → HttpServiceHandlerResponse L S X U Response E F Request XE XF (Handed L) UE UF → Type 0
  IsDispatching P = OfResponse P (λ kept. ⊥)

  -- it is not served: the link is kept as it was given
  abbrev pub IsRefusing : Protocol → L → HttpServiceHandlerResponse L S X U Response E F Request XE XF (Handed L) UE UF → Type 0
  IsRefusing protocol link = OfResponse (λ dispatcher. ⊥) (λ kept. kept ≡ Some (protocol, link))

  -- what is to be seen of the connection
  abbrev pub shown_by : HttpServiceHandlerResponse L S X U Response E F Request XE XF (Handed L) UE UF → Shown L (HttpFlow S X U)
  shown_by (Dispatching dispatcher) = shown dispatcher
  shown_by (Unsupported kept) = over

-- the result where the protocol is not served
abbrev pub GivesBack : {L E XE UE A : Type 0} → Option (Protocol × L) → Result A (DispatchError L E XE UE) → Type 0
GivesBack kept r = OfKept kept (λ given. IsUnsupported given.0 given.1 r)
