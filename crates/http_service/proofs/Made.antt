-- A handler whose services are made gives no more than the factory of handlers tells.
use Rattle.std.proofs.Common.{◌≡◌, Option, Some, None, Result, Ok, Err, inl, inr, ap, refl, subst}
use Rattle.std.specs.Option.{is_some}
use Rattle.futures.specs.declared.future.Future.{Ghosts as FutureOf}
use Rattle.http1_grammar.specs.Wire.{Response}
use Rattle.http1_plain.specs.declared.request.Request.{Request}
use Rattle.http_flow.specs.Creating.{IsUpgradeOf, OfPart, OfSomePart}
use Rattle.http_flow.specs.Making.{Promises}
use Rattle.http_flow.specs.Readying.{OrReady}
use Rattle.http_flow.specs.Upgrading.{Asked, IsUpgrade}
use Rattle.http_flow.specs.declared.dispatch_error.DispatchError.{DispatchError}
use Rattle.http_flow.specs.declared.flow.HttpFlow.{HttpFlow}
use Rattle.http_flow.specs.declared.framed.Handed.{Handed}
use Rattle.http_flow.specs.declared.http_init_error.HttpInitError.{HttpInitError}
use Rattle.http_flow.specs.declared.http_init_error.HttpInitError.TheVariants.{Expect, Upgrade, Service, Memory}
use Rattle.http_flow.specs.declared.protocol.Protocol.{Protocol}
use Rattle.service_core.specs.Making.{LiesWithin, Makes}
use Rattle.service_core.specs.Meaning.{Readiness, Within}
use Rattle.service_core.specs.declared.ended.Ended.{Ended}
use Rattle.service_core.specs.declared.ended.How.TheVariants.{Memory as OutOfMemory}
use Rattle.service_core.specs.declared.link.Link.{Ghosts as LinkOf}
use Rattle.service_core.specs.declared.peer.Peer.{Peer}
use Rattle.service_core.specs.declared.service.Service.{Ghosts as ServiceOf}
use Rattle.service_core.specs.declared.service_factory.ServiceFactory.{Ghosts as FactoryOf}
use Rattle.http1_dispatcher.specs.Connecting.{MayServe, rules_of}
use Rattle.http1_dispatcher.specs.Ending.{EndsWith}
use Rattle.http1_dispatcher.specs.Going.{Start}
use Rattle.http1_dispatcher.specs.declared.rules.Rules.{Rules}
use Rattle.http_service.specs.Composed.{Composed, flow_of}
use Rattle.http_service.specs.Config.{Config}
use Rattle.http_service.specs.Handling.{CanServe, ReadyBy, serving_of}
use Rattle.http_service.specs.Keeping.{stays_open}
use Rattle.http_service.specs.Making.{CanMake, HandlesBy, MakesFlow, MayFail, MayMake, OfMade, ReadyByMade, serving_made}
use Rattle.http_service.specs.Serving.{BeginsProtocol, BeginsServing, Leaves, Serves, ServesProtocol, given_to}
use Rattle.http_service.proofs.Within.{ByProtocol-within, EndsWith-within, IsBegun-within, IsUpgrade-within, MayServe-within, ReadyAs-within, ReadyInOrder-within}

-- ---- the upgrade service, where there is one

module _ {S X U SI XI UI V UE VF UF L : Type 0} (service : Result S SI → Type 0) (expect : Result X XI → Type 0)
    (vg : FactoryOf V (Asked L) (Handed L) UE (Unit {0}) U UI VF UF) (ug : ServiceOf U (Asked L) (Handed L) UE UF) (whole : Option V) where
  abbrev IsMadeOf : Option V → Option U → Type 0
  IsMadeOf = IsUpgradeOf service expect (λ v. Promises vg ug v tt) whole

  has-upgrade : (part : Option V) (made : Option U) → IsMadeOf part made → is_some made ≡ is_some part
  has-upgrade None None is = refl
  has-upgrade None (Some u) is = absurd is
  has-upgrade (Some v) None is = absurd is
  has-upgrade (Some v) (Some u) is = refl

  makes-upgrade : (part : Option V) (made : Option U) → IsMadeOf part made → OfPart part (λ v. vg.may_make v tt)
  makes-upgrade None None is = tt
  makes-upgrade None (Some u) is = absurd is
  makes-upgrade (Some v) None is = absurd is
  makes-upgrade (Some v) (Some u) is = is.0

  can-upgrade : (g : LinkOf L) (may_stand : UF → L → Type 0) (part : Option V) (made : Option U) → IsMadeOf part made
      → OfPart part (λ v. vg.can_make v × IsUpgrade g (vg.may v tt) (vg.may_begin v tt) may_stand)
      → OfPart made (λ u. ug.can_call u × IsUpgrade g (ug.may u) (ug.may_begin u) may_stand)
  can-upgrade g may_stand None None is can = tt
  can-upgrade g may_stand None (Some u) is can = absurd is
  can-upgrade g may_stand (Some v) None is can = absurd is
  can-upgrade g may_stand (Some v) (Some u) is can =
      (is.1.callable, IsUpgrade-within g _ _ _ _ may_stand is.1.answers is.1.futures can.1)

  hands-within : (part : Option V) (made : Option U) → IsMadeOf part made → (asked : Asked L)
      → Within (λ handed. OfSomePart made (λ u. ug.may u asked (Ok handed))) (λ handed. OfSomePart part (λ v. vg.may v tt asked (Ok handed)))
  hands-within None None is asked handed given = given
  hands-within None (Some u) is asked handed given = absurd is
  hands-within (Some v) None is asked handed given = absurd given
  hands-within (Some v) (Some u) is asked handed given = is.1.answers asked (Ok handed) given

  ready-within : (part : Option V) (made : Option U) → IsMadeOf part made
      → Within (OrReady made ug.may_ready) (OrReady part (λ v. vg.may_ready v tt))
  ready-within None None is answer given = given
  ready-within None (Some u) is answer given = absurd is
  ready-within (Some v) None is answer given = absurd is
  ready-within (Some v) (Some u) is answer given = is.1.readiness answer given

-- ---- a handler of made services

module _ {L M N V E XE UE S X U SI XI UI MF NF VF F XF UF : Type 0} (g : LinkOf L)
    (mg : FactoryOf M Request Response E (Unit {0}) S SI MF F) (meaning : E → Option Response)
    (ng : FactoryOf N Request Request XE (Unit {0}) X XI NF XF) (refusing : XE → Option Response)
    (vg : FactoryOf V (Asked L) (Handed L) UE (Unit {0}) U UI VF UF)
    (sg : ServiceOf S Request Response E F) (xg : ServiceOf X Request Request XE XF) (ug : ServiceOf U (Asked L) (Handed L) UE UF)
    (f : Composed M N V) where
  abbrev ServiceMakes : Result S SI → Type 0
  ServiceMakes = Promises mg sg f.service tt

  abbrev ExpectMakes : Result X XI → Type 0
  ExpectMakes = Promises ng xg f.expect tt

  -- why no services are made
  fails : (e : HttpInitError SI XI UI) → MakesFlow mg ng vg sg xg ug f (Err e) → MayFail mg ng vg f e
  fails (Expect e) given = given
  fails (Upgrade e) given = (given.0.1.0, given.1)
  fails (Service e) given =
      (given.0.1.0, makes-upgrade ServiceMakes ExpectMakes vg ug f.upgrade f.upgrade given.1.0 given.1.1, given.2)
  fails Memory given = absurd given

  module _ (h : Composed S X U) (same : h.config ≡ f.config) (made : MakesFlow mg ng vg sg xg ug f (Ok (flow_of h))) where
    makes : MayMake mg ng vg f
    makes = (made.2.0, made.0.0, makes-upgrade ServiceMakes ExpectMakes vg ug f.upgrade f.upgrade h.upgrade made.1)

    can_serve : (may_stand : UF → L → Type 0) → CanMake mg ng vg g may_stand f → CanServe sg xg ug g may_stand h
    can_serve may_stand can = record {
      callable = made.2.1.callable;
      askable = made.0.1.callable;
      upgradable = can-upgrade ServiceMakes ExpectMakes vg ug f.upgrade g may_stand f.upgrade h.upgrade made.1 can.upgradable;
    }

    ReadyBy-within : Within (ReadyBy sg xg ug h) (ReadyByMade mg ng vg f)
    ReadyBy-within = ReadyAs-within _ _ (ReadyInOrder-within _ _ _ _ _ _ made.2.1.readiness made.0.1.readiness
        (ready-within ServiceMakes ExpectMakes vg ug f.upgrade f.upgrade h.upgrade made.1))

    abbrev Rules-of : Rules
    Rules-of = rules_of h.config.limits (stays_open h.config.keep_alive) (flow_of h)

    same-rules : Rules-of ≡ rules_of f.config.limits (stays_open f.config.keep_alive) (flow_of f)
    same-rules = rw same (ap (λ has. record {
      limits = f.config.limits;
      keeps_alive = stays_open f.config.keep_alive;
      has_upgrade = has;
    }) (has-upgrade ServiceMakes ExpectMakes vg ug f.upgrade f.upgrade h.upgrade made.1))

    handing : (asked : Asked L) → Within ((serving_of sg meaning xg refusing ug h).hands asked)
        ((serving_made mg meaning ng refusing vg f).hands asked)
    handing = hands-within ServiceMakes ExpectMakes vg ug f.upgrade f.upgrade h.upgrade made.1

    Serves-within : {A : Type 0} (peer : Peer) (link : L)
        → Within (Serves {A = A} g (serving_of sg meaning xg refusing ug h) peer link) (Serves g (serving_made mg meaning ng refusing vg f) peer link)
    Serves-within {A} peer link =
        let P : Rules → Type 0 = λ rules.
        Within (Serves {A = A} g (serving_of sg meaning xg refusing ug h) peer link)
        (MayServe g (serving_made mg meaning ng refusing vg f).relations (serving_made mg meaning ng refusing vg f).hands rules peer link) in
        subst P same-rules (MayServe-within g meaning refusing (sg.may h.service) (mg.may f.service tt) (xg.may h.expect) (ng.may f.expect tt)
        _ _ made.2.1.answers made.0.1.answers handing Rules-of peer link)

    Leaves-within : (peer : Peer) (link : L)
        → Within (Leaves g (serving_of sg meaning xg refusing ug h) peer link) (Leaves g (serving_made mg meaning ng refusing vg f) peer link)
    Leaves-within peer link left =
        let P : Rules → Type 0 = λ rules.
        Leaves g (serving_of sg meaning xg refusing ug h) peer link left
        → EndsWith g (serving_made mg meaning ng refusing vg f).relations rules peer link (serving_made mg meaning ng refusing vg f).hands left OutOfMemory in
        subst P same-rules (EndsWith-within g meaning refusing (sg.may h.service) (mg.may f.service tt) (xg.may h.expect) (ng.may f.expect tt)
        _ _ made.2.1.answers made.0.1.answers handing Rules-of peer link left OutOfMemory)

    module _ {D : Type 0} (begins : Start L → HttpFlow S X U → D → Type 0) where
      begins-within : (peer : Peer) (link : L) → Within (begins (given_to (serving_of sg meaning xg refusing ug h) peer link) (flow_of h))
          (λ d. OfMade mg ng vg sg xg ug f (λ flow. begins (given_to (serving_made mg meaning ng refusing vg f) peer link) flow d))
      begins-within peer link d begun =
          let P : Rules → Type 0 = λ rules. begins (record { link = link; rules = rules; peer = peer }) (flow_of h) d in
          record { value = flow_of h; comes = made; holds = subst P same-rules begun }

      BeginsServing-within : {A : Type 0} (future : FutureOf D (Result (Ended L) A)) (may_stand : D → L → Type 0) (peer : Peer) (link : L)
          → Within (BeginsServing future may_stand g (serving_of sg meaning xg refusing ug h) (λ start. begins start (flow_of h)) peer link)
          (BeginsServing future may_stand g (serving_made mg meaning ng refusing vg f)
          (λ start d. OfMade mg ng vg sg xg ug f (λ flow. begins start flow d)) peer link)
      BeginsServing-within future may_stand peer link = IsBegun-within future may_stand _ _ _ _ _ _
          (Serves-within peer link) (Leaves-within peer link) (begins-within peer link)

      BeginsProtocol-within : (future : FutureOf D (Result (Ended L) (DispatchError L E XE UE))) (may_stand : D → L → Type 0)
          (refuses : Protocol → L → D → Type 0) (protocol : Protocol) (peer : Peer) (link : L)
          → Within (BeginsProtocol future may_stand g (serving_of sg meaning xg refusing ug h) (λ start. begins start (flow_of h)) refuses protocol peer link)
          (BeginsProtocol future may_stand g (serving_made mg meaning ng refusing vg f)
          (λ start d. OfMade mg ng vg sg xg ug f (λ flow. begins start flow d)) refuses protocol peer link)
      BeginsProtocol-within future may_stand refuses protocol peer link = IsBegun-within future may_stand _ _ _ _ _ _
          (ByProtocol-within protocol _ _ _ _ (Serves-within peer link) (λ r is. is))
          (ByProtocol-within protocol _ _ _ _ (Leaves-within peer link) (λ left is. is))
          (ByProtocol-within protocol _ _ _ _ (begins-within peer link) (λ d is. is))

    ServesProtocol-within : (protocol : Protocol) (peer : Peer) (link : L)
        → Within (ServesProtocol {UE = UE} g (serving_of sg meaning xg refusing ug h) protocol peer link)
        (ServesProtocol g (serving_made mg meaning ng refusing vg f) protocol peer link)
    ServesProtocol-within protocol peer link = ByProtocol-within protocol _ _ _ _ (Serves-within peer link) (λ r is. is)

  -- a handler that lies within what the factory of handlers tells
  pub record Lies (h : Composed S X U) : Type 1 where
    pub callable : (may_stand : UF → L → Type 0) → CanMake mg ng vg g may_stand f → CanServe sg xg ug g may_stand h
    pub readies : Within (ReadyBy sg xg ug h) (ReadyByMade mg ng vg f)
    pub serves : (peer : Peer) (link : L) → Within (Serves {A = DispatchError L E XE UE} g (serving_of sg meaning xg refusing ug h) peer link)
        (Serves g (serving_made mg meaning ng refusing vg f) peer link)
    pub answers : (protocol : Protocol) (peer : Peer) (link : L)
        → Within (ServesProtocol {UE = UE} g (serving_of sg meaning xg refusing ug h) protocol peer link)
        (ServesProtocol g (serving_made mg meaning ng refusing vg f) protocol peer link)
    pub served_by : {D : Type 0} (begins : Start L → HttpFlow S X U → D → Type 0) (future : FutureOf D (Result (Ended L) (DispatchError L E XE UE)))
        (may_stand : D → L → Type 0) (peer : Peer) (link : L)
        → Within (BeginsServing future may_stand g (serving_of sg meaning xg refusing ug h) (λ start. begins start (flow_of h)) peer link)
        (BeginsServing future may_stand g (serving_made mg meaning ng refusing vg f)
        (λ start d. OfMade mg ng vg sg xg ug f (λ flow. begins start flow d)) peer link)
    pub answered_by : {D : Type 0} (begins : Start L → HttpFlow S X U → D → Type 0) (future : FutureOf D (Result (Ended L) (DispatchError L E XE UE)))
        (may_stand : D → L → Type 0) (refuses : Protocol → L → D → Type 0) (protocol : Protocol) (peer : Peer) (link : L)
        → Within (BeginsProtocol future may_stand g (serving_of sg meaning xg refusing ug h) (λ start. begins start (flow_of h)) refuses protocol peer link)
        (BeginsProtocol future may_stand g (serving_made mg meaning ng refusing vg f)
        (λ start d. OfMade mg ng vg sg xg ug f (λ flow. begins start flow d)) refuses protocol peer link)

  lies : (h : Composed S X U) → h.config ≡ f.config → MakesFlow mg ng vg sg xg ug f (Ok (flow_of h)) → Lies h
  lies h same made = record {
    callable = can_serve h same made;
    readies = ReadyBy-within h same made;
    serves = Serves-within h same made;
    answers = ServesProtocol-within h same made;
    served_by = λ {D} begins future may_stand. BeginsServing-within h same made begins future may_stand;
    answered_by = λ {D} begins future may_stand refuses. BeginsProtocol-within h same made begins future may_stand refuses;
  }

  module _ {Q R G D : Type 0} (service : ServiceOf (Composed S X U) Q R G D) (may : Q → Result R G → Type 0)
      (may_ready : Readiness G → Type 0) (may_begin : Q → D → Type 0)
      (within : (h : Composed S X U) → Lies h → LiesWithin service h may may_ready may_begin) where
    makes-handler : Within (HandlesBy f.config (MakesFlow mg ng vg sg xg ug f))
        (Makes service may may_ready may_begin (MayMake mg ng vg f) (MayFail mg ng vg f))
    makes-handler (Ok h) given = (makes h given.0 given.1, within h (lies h given.0 given.1))
    makes-handler (Err e) (inl err) = fails e err
    makes-handler (Err e) (inr is) = rw is tt

    -- a making of handlers by these factories, and with these settings
    pub made_by : (inside : Composed M N V) → inside ≡ f → (gives : Result (Composed S X U) (HttpInitError SI XI UI) → Type 0)
        → Within gives (HandlesBy inside.config (MakesFlow mg ng vg sg xg ug inside))
        → Within gives (Makes service may may_ready may_begin (MayMake mg ng vg f) (MayFail mg ng vg f))
    made_by inside is gives made r given =
        let P : Composed M N V → Type 0 = λ seen. HandlesBy seen.config (MakesFlow mg ng vg sg xg ug seen) r in
        makes-handler r (subst P is (made r given))

-- makings that give only what others give
pub HandlesBy-within : {S X U SI XI UI : Type 0} (config : Config) (P Q : Result (HttpFlow S X U) (HttpInitError SI XI UI) → Type 0)
    → Within P Q → Within (HandlesBy config P) (HandlesBy config Q)
HandlesBy-within config P Q within (Ok h) given = (given.0, within _ given.1)
HandlesBy-within config P Q within (Err e) (inl err) = inl (within _ err)
HandlesBy-within config P Q within (Err e) (inr is) = inr is
