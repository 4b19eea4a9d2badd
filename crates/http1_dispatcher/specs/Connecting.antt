-- What serving a connection may give.
use Rattle.std.specs.Prelude.{◌≡◌, Option, Result, Ok, Err}
use Rattle.std.specs.Option.{is_some}
use Rattle.http1_grammar.specs.Limits.{Limits}
use Rattle.std.specs.Prelude.{Bool}
use Rattle.http1_grammar.specs.Wire.{Response}
use Rattle.http1_plain.specs.declared.request.Request.{Request}
use Rattle.http_flow.specs.Upgrading.{Asked, IsUpgrade}
use Rattle.http_flow.specs.Creating.{OfPart, OfSomePart}
use Rattle.http_flow.specs.declared.flow.HttpFlow.{HttpFlow}
use Rattle.http_flow.specs.declared.framed.Handed.{Handed}
use Rattle.service_core.specs.declared.ended.Ended.{Ended}
use Rattle.service_core.specs.declared.ended.How.TheVariants.{Memory}
use Rattle.service_core.specs.declared.link.Link.{Ghosts as LinkOf}
use Rattle.service_core.specs.declared.peer.Peer.{Peer}
use Rattle.service_core.specs.declared.service.Service.{Ghosts as ServiceOf}
use Rattle.http1_dispatcher.specs.Ending.{EndsWith}
use Rattle.http1_dispatcher.specs.Requests.{Relations}
use Rattle.http1_dispatcher.specs.declared.rules.Rules.{Rules}

-- An end of the service of a link that these relations allow: for each pair of functions that they are, one that their answers allow.
abbrev pub MayServe : {L E XE X : Type 0} → LinkOf L → Relations E XE → (Asked L → Handed L → Type 0) → Rules → Peer
    → L → Result (Ended L) X → Type 0
MayServe g r hands rules peer link (Ok ended) = EndsWith g r rules peer link hands ended.link ended.how
MayServe g r hands rules peer link (Err e) = ⊥

-- the links that such a service may leave before it has ended
abbrev pub MayLeave : {L E XE : Type 0} → LinkOf L → Relations E XE → (Asked L → Handed L → Type 0) → Rules → Peer → L → L → Type 0
MayLeave g r hands rules peer link left = EndsWith g r rules peer link hands left Memory

-- it ended for want of memory, with the link as it was given
abbrev pub IsUntouched : {L : Type 0} → L → Ended L → Type 0
IsUntouched link ended = (ended.link ≡ link) × (ended.how ≡ Memory)

abbrev pub EndsUntouched : {L X : Type 0} → L → Result (Ended L) X → Type 0
EndsUntouched link (Ok ended) = IsUntouched link ended
EndsUntouched link (Err e) = ⊥

module _ {S X U E XE F XF : Type 0} (sg : ServiceOf S Request Response E F) (meaning : E → Option Response)
    (xg : ServiceOf X Request Request XE XF) (refusing : XE → Option Response) where
  -- what the service and the expect service may give
  abbrev pub relations_of : HttpFlow S X U → Relations E XE
  relations_of flow = record {
    meaning = meaning;
    may = sg.may flow.service;
    refusing = refusing;
    asks = xg.may flow.expect;
  }

module _ {L S X U UE UF : Type 0} (ug : ServiceOf U (Asked L) (Handed L) UE UF) where
  -- what the upgrade service may hand back, where there is one
  abbrev pub hands_of : HttpFlow S X U → Asked L → Handed L → Type 0
  hands_of flow asked handed = OfSomePart flow.upgrade (λ u. ug.may u asked (Ok handed))

  -- an upgrade service, where there is one, may be called, and keeps its conditions
  abbrev pub MayUpgrade : LinkOf L → (UF → L → Type 0) → HttpFlow S X U → Type 0
  MayUpgrade g may_stand flow = OfPart flow.upgrade (λ u. ug.can_call u × IsUpgrade g (ug.may u) (ug.may_begin u) may_stand)

-- the rules by which a connection is served by these services
abbrev pub rules_of : {S X U : Type 0} → Limits → Bool → HttpFlow S X U → Rules
rules_of limits keeps_alive flow = record {
  limits = limits;
  keeps_alive = keeps_alive;
  has_upgrade = is_some flow.upgrade;
}
