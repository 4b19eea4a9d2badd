-- A service of connections whose parts are always ready is always ready. For those who promise it of services of their own.
use Rattle.std.proofs.Common.{◌≡◌, Option, Some, None, Ok, Err, inl, inr, refl}
use Rattle.futures.specs.declared.task.Poll.TheVariants.{Ready, Pending}
use Rattle.http_flow.specs.Readying.{OrReady, ReadyInOrder}
use Rattle.http_flow.specs.declared.dispatch_error.DispatchError.{DispatchError}
use Rattle.http_flow.specs.declared.dispatch_error.DispatchError.TheVariants.{Service as NotReady, UnsupportedProtocol}
use Rattle.http_flow.specs.declared.ready_fault.ReadyFault.TheVariants.{Expect, Service, Upgrade}
use Rattle.http_service.specs.Serving.{ReadyAs}
use Rattle.service_core.specs.Meaning.{Readiness}

module _ {E XE UE V : Type 0} (service : Readiness E → Type 0) (expect : Readiness XE → Type 0) (upgrade : V → Readiness UE → Type 0) (part : Option V)
    (serving : (answer : Readiness E) → service answer → answer ≡ Ready (Ok tt))
    (expecting : (answer : Readiness XE) → expect answer → answer ≡ Ready (Ok tt))
    (upgrading : (v : V) (answer : Readiness UE) → upgrade v answer → answer ≡ Ready (Ok tt)) where
  part_ready : (o : Option V) (answer : Readiness UE) → OrReady o upgrade answer → answer ≡ Ready (Ok tt)
  part_ready None answer p = p
  part_ready (Some v) answer p = upgrading v answer p

  ready_together : {L : Type 0} (answer : Readiness (DispatchError L E XE UE)) → ReadyAs (ReadyInOrder service expect (OrReady part upgrade)) answer
      → answer ≡ Ready (Ok tt)
  ready_together (Ready (Ok done)) p = refl
  ready_together (Ready (Err (NotReady (Expect e)))) p = absurd (let is = expecting (Ready (Err e)) p in cc)
  ready_together (Ready (Err (NotReady (Service e)))) p = absurd (let is = serving (Ready (Err e)) p.1 in cc)
  ready_together (Ready (Err (NotReady (Upgrade e)))) p = absurd (let is = part_ready part (Ready (Err e)) p.2 in cc)
  ready_together (Ready (Err (UnsupportedProtocol protocol link))) p = absurd p
  ready_together Pending (inl p) = absurd (let is = expecting Pending p in cc)
  ready_together Pending (inr (inl p)) = absurd (let is = serving Pending p.1 in cc)
  ready_together Pending (inr (inr p)) = absurd (let is = part_ready part Pending p.2 in cc)

pub ready_from : {L E XE UE V : Type 0} (service : Readiness E → Type 0) (expect : Readiness XE → Type 0) (upgrade : V → Readiness UE → Type 0)
    (part : Option V) (answer : Readiness (DispatchError L E XE UE)) → ReadyAs (ReadyInOrder service expect (OrReady part upgrade)) answer
    → ((answer : Readiness E) → service answer → answer ≡ Ready (Ok tt))
    → ((answer : Readiness XE) → expect answer → answer ≡ Ready (Ok tt))
    → ((v : V) (answer : Readiness UE) → upgrade v answer → answer ≡ Ready (Ok tt)) → answer ≡ Ready (Ok tt)
ready_from service expect upgrade part answer ready serving expecting upgrading =
    ready_together service expect upgrade part serving expecting upgrading answer ready
