-- What a combinator's readiness may answer, by what its parts' readiness may answer.
use Rattle.std.specs.Prelude.{◌⊎◌, ⊤, Ok, Err}
use Rattle.futures.specs.declared.task.Poll.TheVariants.{Ready, Pending}
use Rattle.service_core.specs.Meaning.{Readiness, Through}

-- it is ready or pending
abbrev pub IsNoErr : {E : Type 0} → Readiness E → Type 0
IsNoErr (Ready (Ok u)) = ⊤
IsNoErr (Ready (Err e)) = ⊥
IsNoErr Pending = ⊤

-- The readiness of two parts: the first one's error, else the second one's; ready where both are; else pending.
abbrev pub BothReady : {E : Type 0} → (Readiness E → Type 0) → (Readiness E → Type 0) → Readiness E → Type 0
BothReady P Q (Ready (Ok u)) = P (Ready (Ok tt)) × Q (Ready (Ok tt))
BothReady P Q (Ready (Err e)) = P (Ready (Err e)) ⊎ (Through P IsNoErr × Q (Ready (Err e)))
BothReady P Q Pending = (P (Ready (Ok tt)) × Q Pending) ⊎ (P Pending × Through Q IsNoErr)

-- readiness of P with an error changed to what `turned` allows
abbrev pub ReadyErrBy : {E G : Type 0} → (E → G → Type 0) → (Readiness E → Type 0) → Readiness G → Type 0
ReadyErrBy turned P (Ready (Ok u)) = P (Ready (Ok tt))
ReadyErrBy {E} turned P (Ready (Err g)) = (e : E) × P (Ready (Err e)) × turned e g
ReadyErrBy turned P Pending = P Pending
