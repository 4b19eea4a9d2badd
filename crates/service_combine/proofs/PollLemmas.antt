-- What a poll answered, once more is known of it.
use Rattle.std.proofs.Common.{Result, Ok, Err}
use Rattle.futures.specs.Poll.{IfReady, OnPending}
use Rattle.futures.specs.declared.task.Poll.{Poll}
use Rattle.futures.specs.declared.task.Poll.TheVariants.{Ready, Pending}
use Rattle.service_core.specs.Meaning.{Within}
use Rattle.service_combine.specs.Staging.{AwaitsReady, Turns}

-- more holds of an answer
pub IfReady-more : {A : Type 0} (r : Poll A) (P Q : A → Type 0) → IfReady r P → Within P Q → IfReady r Q
IfReady-more (Ready x) P Q holds within = within x holds
IfReady-more Pending P Q holds within = tt

-- more holds while it is pending
pub OnPending-more : {A : Type 0} (r : Poll A) (P Q : Type 0) → OnPending r P → (P → Q) → OnPending r Q
OnPending-more (Ready x) P Q holds within = tt
OnPending-more Pending P Q holds within = within holds

module _ {S E I : Type 0} (turned : E → I → Type 0) where
  -- an answer whose error is turned
  pub turned-value : (P : Result S E → Type 0) (polled : Poll (Result S E)) (r : Poll (Result S I)) → Turns turned polled r → IfReady polled P
      → IfReady r (AwaitsReady P turned)
  turned-value P Pending r is holds = rw is tt
  turned-value P (Ready (Ok s)) r is holds = rw is holds
  turned-value P (Ready (Err e)) r is holds = rw is.1 (record { value = e; comes = holds; holds = is.2 })

  pub turned-pending : (P : Type 0) (polled : Poll (Result S E)) (r : Poll (Result S I)) → Turns turned polled r → OnPending polled P → OnPending r P
  turned-pending P Pending r is holds = rw is holds
  turned-pending P (Ready (Ok s)) r is holds = rw is tt
  turned-pending P (Ready (Err e)) r is holds = rw is.1 tt
