-- The readiness of the services of a connection: that of the first that is not ready, in the order expect, service, upgrade.
use Rattle.std.specs.Prelude.{◌≡◌, ◌⊎◌, Option, Some, None, Ok, Err}
use Rattle.futures.specs.declared.task.Poll.TheVariants.{Ready, Pending}
use Rattle.service_core.specs.Meaning.{Readiness}
use Rattle.http_flow.specs.declared.ready_fault.ReadyFault.{ReadyFault}
use Rattle.http_flow.specs.declared.ready_fault.ReadyFault.TheVariants.{Expect, Service, Upgrade}

-- it may answer that it is ready
abbrev pub MayPass : {E : Type 0} → (Readiness E → Type 0) → Type 0
MayPass may_ready = may_ready (Ready (Ok tt))

-- what a part answers that may be none: none is always ready
abbrev pub OrReady : {A E : Type 0} → Option A → (A → Readiness E → Type 0) → Readiness E → Type 0
OrReady None may_ready answer = answer ≡ Ready (Ok tt)
OrReady (Some part) may_ready answer = may_ready part answer

module _ {E XE UE : Type 0} (service : Readiness E → Type 0) (expect : Readiness XE → Type 0) (upgrade : Readiness UE → Type 0) where
  abbrev pub ReadyInOrder : Readiness (ReadyFault E XE UE) → Type 0
  ReadyInOrder (Ready (Ok done)) = MayPass expect × MayPass service × MayPass upgrade
  ReadyInOrder (Ready (Err (Expect e))) = expect (Ready (Err e))
  ReadyInOrder (Ready (Err (Service e))) = MayPass expect × service (Ready (Err e))
  ReadyInOrder (Ready (Err (Upgrade e))) = MayPass expect × MayPass service × upgrade (Ready (Err e))
  ReadyInOrder Pending =
      expect Pending ⊎ ((MayPass expect × service Pending) ⊎ (MayPass expect × MayPass service × upgrade Pending))
