-- What is served by services that give less is less.
use Rattle.std.proofs.Common.{Option, Result, Ok, Err, inl, inr}
use Rattle.futures.specs.declared.future.Future.{Ghosts as FutureOf}
use Rattle.futures.specs.declared.task.Poll.TheVariants.{Ready, Pending}
use Rattle.http1_grammar.specs.Wire.{Response}
use Rattle.http1_plain.specs.declared.request.Request.{Request}
use Rattle.http_flow.specs.Readying.{ReadyInOrder}
use Rattle.http_flow.specs.Upgrading.{Asked, IsUpgrade}
use Rattle.http_flow.specs.declared.dispatch_error.DispatchError.TheVariants.{Service as Unready, UnsupportedProtocol}
use Rattle.http_flow.specs.declared.framed.Handed.{Handed}
use Rattle.http_flow.specs.declared.protocol.Protocol.{Protocol}
use Rattle.http_flow.specs.declared.protocol.Protocol.TheVariants.{Http1, Http2, Http3}
use Rattle.http_flow.specs.declared.ready_fault.ReadyFault.{ReadyFault}
use Rattle.http_flow.specs.declared.ready_fault.ReadyFault.TheVariants.{Expect, Service, Upgrade}
use Rattle.service_core.specs.Meaning.{Readiness, Within}
use Rattle.service_core.specs.declared.ended.How.{How}
use Rattle.service_core.specs.declared.link.Link.{Ghosts as LinkOf}
use Rattle.service_core.specs.declared.peer.Peer.{Peer}
use Rattle.http1_dispatcher.specs.Connecting.{MayServe}
use Rattle.http1_dispatcher.specs.Ending.{EndsWith, HandsOver, TakenOver}
use Rattle.http1_dispatcher.specs.Requests.{AreFunctions, Functions, Relations}
use Rattle.http1_dispatcher.specs.declared.rules.Rules.{Rules}
use Rattle.http_service.specs.Serving.{ByProtocol, IsBegun, ReadyAs}

module _ {L E XE : Type 0} (g : LinkOf L) (meaning : E → Option Response) (refusing : XE → Option Response)
    (may may' : Request → Result Response E → Type 0) (asks asks' : Request → Result Request XE → Type 0)
    (hands hands' : Asked L → Handed L → Type 0) (answers : (q : Request) → Within (may q) (may' q))
    (expects : (q : Request) → Within (asks q) (asks' q)) (handing : (asked : Asked L) → Within (hands asked) (hands' asked))
    (rules : Rules) (peer : Peer) (before : L) where
  abbrev Narrow : Relations E XE
  Narrow = record { meaning = meaning; may = may; refusing = refusing; asks = asks }

  abbrev Wide : Relations E XE
  Wide = record { meaning = meaning; may = may'; refusing = refusing; asks = asks' }

  -- functions that wider services are, narrower ones are too
  AreFunctions-narrow : (f : Functions) → AreFunctions Wide f → AreFunctions Narrow f
  AreFunctions-narrow f are = (
    λ q r response given is. are.0 q r response (answers q r given) is,
    λ q r answer given is. are.1 q r answer (expects q r given) is,
  )

  HandsOver-within : (asked : Asked L) → HandsOver g Narrow rules peer before asked → HandsOver g Wide rules peer before asked
  HandsOver-within asked h = record {
    is_bare = h.is_bare;
    same = h.same;
    given = λ f are. h.given f (AreFunctions-narrow f are);
  }

  TakenOver-within : (after : L) → TakenOver g Narrow rules peer before hands after → TakenOver g Wide rules peer before hands' after
  TakenOver-within after h = record {
    asked = h.asked;
    handed = h.handed;
    given = HandsOver-within h.asked h.given;
    hands_back = handing h.asked h.handed h.hands_back;
    link_is = h.link_is;
    end_is = h.end_is;
  }

  pub EndsWith-within : (after : L) (how : How) → EndsWith g Narrow rules peer before hands after how
      → EndsWith g Wide rules peer before hands' after how
  EndsWith-within after how h = record {
    ends = record {
      same = h.ends.same;
      faults = h.ends.faults;
      wrote = λ f are. h.ends.wrote f (AreFunctions-narrow f are);
    };
    upgraded = λ is. TakenOver-within after (h.upgraded is);
  }

  pub MayServe-within : {A : Type 0}
      → Within (MayServe {X = A} g Narrow hands rules peer before) (MayServe g Wide hands' rules peer before)
  MayServe-within (Ok ended) h = EndsWith-within ended.link ended.how h
  MayServe-within (Err e) h = h

module _ {E XE UE : Type 0} (service service' : Readiness E → Type 0) (expect expect' : Readiness XE → Type 0)
    (upgrade upgrade' : Readiness UE → Type 0) (services : Within service service') (expects : Within expect expect')
    (upgrades : Within upgrade upgrade') where
  pub ReadyInOrder-within : Within (ReadyInOrder service expect upgrade) (ReadyInOrder service' expect' upgrade')
  ReadyInOrder-within (Ready (Ok done)) h = (expects _ h.0, services _ h.1, upgrades _ h.2)
  ReadyInOrder-within (Ready (Err (Expect e))) h = expects _ h
  ReadyInOrder-within (Ready (Err (Service e))) h = (expects _ h.0, services _ h.1)
  ReadyInOrder-within (Ready (Err (Upgrade e))) h = (expects _ h.0, services _ h.1, upgrades _ h.2)
  ReadyInOrder-within Pending (inl h) = inl (expects _ h)
  ReadyInOrder-within Pending (inr (inl h)) = inr (inl (expects _ h.0, services _ h.1))
  ReadyInOrder-within Pending (inr (inr h)) = inr (inr (expects _ h.0, services _ h.1, upgrades _ h.2))

pub ReadyAs-within : {L E XE UE : Type 0} (P Q : Readiness (ReadyFault E XE UE) → Type 0) → Within P Q
    → Within (ReadyAs {L = L} P) (ReadyAs Q)
ReadyAs-within P Q within (Ready (Ok done)) h = within _ h
ReadyAs-within P Q within (Ready (Err (Unready fault))) h = within _ h
ReadyAs-within P Q within (Ready (Err (UnsupportedProtocol protocol link))) h = h
ReadyAs-within P Q within Pending h = within _ h

-- an upgrade service that gives less keeps its conditions too
pub IsUpgrade-within : {L E F : Type 0} (g : LinkOf L) (may may' : Asked L → Result (Handed L) E → Type 0)
    (may_begin may_begin' : Asked L → F → Type 0) (may_stand : F → L → Type 0) → ((asked : Asked L) → Within (may asked) (may' asked))
    → ((asked : Asked L) → Within (may_begin asked) (may_begin' asked)) → IsUpgrade g may' may_begin' may_stand
    → IsUpgrade g may may_begin may_stand
IsUpgrade-within g may may' may_begin may_begin' may_stand answers futures keeps = record {
  hands = λ asked r given. keeps.hands asked r (answers asked r given);
  leaves = λ asked f link begun stands. keeps.leaves asked f link (futures asked f begun) stands;
}

pub ByProtocol-within : {A : Type 0} (protocol : Protocol) (served served' unsupported unsupported' : A → Type 0) → Within served served'
    → Within unsupported unsupported' → Within (ByProtocol protocol served unsupported) (ByProtocol protocol served' unsupported')
ByProtocol-within Http1 served served' unsupported unsupported' first second x h = first x h
ByProtocol-within Http2 served served' unsupported unsupported' first second x h = second x h
ByProtocol-within Http3 served served' unsupported unsupported' first second x h = second x h

pub IsBegun-within : {F L A : Type 0} (future : FutureOf F A) (may_stand : F → L → Type 0) (gives gives' : A → Type 0)
    (leaves leaves' : L → Type 0) (start start' : F → Type 0) → Within gives gives' → Within leaves leaves'
    → Within start start' → Within (IsBegun future may_stand gives leaves start) (IsBegun future may_stand gives' leaves' start')
IsBegun-within future may_stand gives gives' leaves leaves' start start' given left started f h = record {
  fits = (h.fits.0, λ r may. given r (h.fits.1 r may));
  stands = λ link stands. left link (h.stands link stands);
  starts = started f h.starts;
}
