-- What a factory of handlers of connections tells of them, by its three factories.
use Rattle.std.specs.Prelude.{◌≡◌, ◌⊎◌, Option, Result, Ok, Err}
use Rattle.http1_grammar.specs.Wire.{Response}
use Rattle.http1_plain.specs.declared.request.Request.{Request}
use Rattle.http_flow.specs.Creating.{FailsInOrder, MadeInOrder, OfPart, OfSomePart}
use Rattle.http_flow.specs.Making.{Promises}
use Rattle.http_flow.specs.Readying.{OrReady, ReadyInOrder}
use Rattle.http_flow.specs.Upgrading.{Asked, IsUpgrade}
use Rattle.http_flow.specs.declared.dispatch_error.DispatchError.{DispatchError}
use Rattle.http_flow.specs.declared.flow.HttpFlow.{HttpFlow}
use Rattle.http_flow.specs.declared.framed.Handed.{Handed}
use Rattle.http_flow.specs.declared.http_init_error.HttpInitError.{HttpInitError}
use Rattle.http_flow.specs.declared.http_init_error.HttpInitError.TheVariants.{Memory}
use Rattle.service_core.specs.Meaning.{Readiness, Through}
use Rattle.service_core.specs.declared.link.Link.{Ghosts as LinkOf}
use Rattle.service_core.specs.declared.service.Service.{Ghosts as ServiceOf}
use Rattle.service_core.specs.declared.service_factory.ServiceFactory.{Ghosts as FactoryOf}
use Rattle.http1_dispatcher.specs.Connecting.{rules_of}
use Rattle.http_service.specs.Composed.{Composed, flow_of}
use Rattle.http_service.specs.Config.{Config}
use Rattle.http_service.specs.Keeping.{stays_open}
use Rattle.http_service.specs.Serving.{ReadyAs, Serving}

module _ {L M N V E XE UE S X U SI XI UI MF NF VF F XF UF : Type 0}
    (mg : FactoryOf M Request Response E (Unit {0}) S SI MF F) (meaning : E → Option Response)
    (ng : FactoryOf N Request Request XE (Unit {0}) X XI NF XF) (refusing : XE → Option Response)
    (vg : FactoryOf V (Asked L) (Handed L) UE (Unit {0}) U UI VF UF) where
  -- by the services that these factories make, with these settings
  abbrev pub serving_made : Composed M N V → Serving L E XE
  serving_made f = record {
    relations = record {
      meaning = meaning;
      may = mg.may f.service tt;
      refusing = refusing;
      asks = ng.may f.expect tt;
    };
    hands = λ asked handed. OfSomePart f.upgrade (λ v. vg.may v tt asked (Ok handed));
    rules = rules_of f.config.limits (stays_open f.config.keep_alive) (flow_of f);
  }

module _ {L M N V E XE UE S X U SI XI UI MF NF VF F XF UF : Type 0} (mg : FactoryOf M Request Response E (Unit {0}) S SI MF F)
    (ng : FactoryOf N Request Request XE (Unit {0}) X XI NF XF) (vg : FactoryOf V (Asked L) (Handed L) UE (Unit {0}) U UI VF UF) where
  -- its factories may be called, and the upgrade services that are made keep their conditions
  pub record CanMake (g : LinkOf L) (may_stand : UF → L → Type 0) (f : Composed M N V) : Type 0 where
    pub callable : mg.can_make f.service
    pub askable : ng.can_make f.expect
    pub upgradable : OfPart f.upgrade (λ v. vg.can_make v × IsUpgrade g (vg.may v tt) (vg.may_begin v tt) may_stand)

  -- the readiness of the first service that is not ready, in the order expect, service, upgrade
  abbrev pub ReadyByMade : Composed M N V → Readiness (DispatchError L E XE UE) → Type 0
  ReadyByMade f = ReadyAs (ReadyInOrder (mg.may_ready f.service tt) (ng.may_ready f.expect tt)
      (OrReady f.upgrade (λ v. vg.may_ready v tt)))

  -- each of its factories may make a service
  abbrev pub MayMake : Composed M N V → Type 0
  MayMake f = mg.may_make f.service tt × ng.may_make f.expect tt × OfPart f.upgrade (λ v. vg.may_make v tt)

  -- the error of the first factory that makes none, in the order expect, upgrade, service
  abbrev pub MayFail : Composed M N V → HttpInitError SI XI UI → Type 0
  MayFail f = FailsInOrder (mg.may_init f.service tt) (ng.may_make f.expect tt) (ng.may_init f.expect tt)
      (OfPart f.upgrade (λ v. vg.may_make v tt)) (λ e. OfSomePart f.upgrade (λ v. vg.may_init v tt e))

  module _ (sg : ServiceOf S Request Response E F) (xg : ServiceOf X Request Request XE XF) (ug : ServiceOf U (Asked L) (Handed L) UE UF) where
    -- what making its services gives
    abbrev pub MakesFlow : Composed M N V → Result (HttpFlow S X U) (HttpInitError SI XI UI) → Type 0
    MakesFlow f = MadeInOrder (Promises mg sg f.service tt) (Promises ng xg f.expect tt) (λ v. Promises vg ug v tt) f.upgrade

    -- P holds of some services that are made
    abbrev pub OfMade : Composed M N V → (HttpFlow S X U → Type 0) → Type 0
    OfMade f P = Through (λ flow. MakesFlow f (Ok flow)) P

-- a handler with these settings and services of P, an error of P, or that of want of memory
abbrev pub HandlesBy : {S X U SI XI UI : Type 0} → Config → (Result (HttpFlow S X U) (HttpInitError SI XI UI) → Type 0)
    → Result (Composed S X U) (HttpInitError SI XI UI) → Type 0
HandlesBy config P (Ok h) = (h.config ≡ config) × P (Ok (flow_of h))
HandlesBy config P (Err e) = P (Err e) ⊎ (e ≡ Memory)
