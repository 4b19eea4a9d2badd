-- What a handler of connections gives, by its services.
use Rattle.std.specs.Prelude.{Option}
use Rattle.http1_grammar.specs.Wire.{Response}
use Rattle.http1_plain.specs.declared.request.Request.{Request}
use Rattle.http_flow.specs.Readying.{OrReady, ReadyInOrder}
use Rattle.http_flow.specs.Upgrading.{Asked}
use Rattle.http_flow.specs.declared.dispatch_error.DispatchError.{DispatchError}
use Rattle.http_flow.specs.declared.framed.Handed.{Handed}
use Rattle.service_core.specs.Meaning.{Readiness}
use Rattle.service_core.specs.declared.link.Link.{Ghosts as LinkOf}
use Rattle.service_core.specs.declared.service.Service.{Ghosts as ServiceOf}
use Rattle.http1_dispatcher.specs.Connecting.{MayUpgrade, hands_of, relations_of, rules_of}
use Rattle.http_service.specs.Composed.{Composed, flow_of}
use Rattle.http_service.specs.Keeping.{stays_open}
use Rattle.http_service.specs.Serving.{ReadyAs, Serving}

module _ {L S X U E XE UE F XF UF : Type 0} (sg : ServiceOf S Request Response E F) (meaning : E → Option Response)
    (xg : ServiceOf X Request Request XE XF) (refusing : XE → Option Response) (ug : ServiceOf U (Asked L) (Handed L) UE UF) where
  -- by these services and settings
  abbrev pub serving_of : Composed S X U → Serving L E XE
  serving_of h = record {
    relations = relations_of sg meaning xg refusing (flow_of h);
    hands = hands_of ug (flow_of h);
    rules = rules_of h.config.limits (stays_open h.config.keep_alive) (flow_of h);
  }

module _ {L S X U E XE UE F XF UF : Type 0} (sg : ServiceOf S Request Response E F) (xg : ServiceOf X Request Request XE XF)
    (ug : ServiceOf U (Asked L) (Handed L) UE UF) where
  -- its services may be called, and the upgrade service keeps its conditions
  pub record CanServe (g : LinkOf L) (may_stand : UF → L → Type 0) (h : Composed S X U) : Type 0 where
    pub callable : sg.can_call h.service
    pub askable : xg.can_call h.expect
    pub upgradable : MayUpgrade ug g may_stand (flow_of h)

  -- the readiness of the first service that is not ready, in the order expect, service, upgrade
  abbrev pub ReadyBy : Composed S X U → Readiness (DispatchError L E XE UE) → Type 0
  ReadyBy h = ReadyAs (ReadyInOrder (sg.may_ready h.service) (xg.may_ready h.expect) (OrReady h.upgrade ug.may_ready))
