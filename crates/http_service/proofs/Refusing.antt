-- What holds of a connection that is not served.
use Rattle.std.proofs.Common.{◌≡◌, ◌⊎◌, Some, inl, inr, subst}
use Rattle.http_flow.specs.declared.protocol.Protocol.{Protocol}
use Rattle.http_flow.specs.declared.protocol.Protocol.TheVariants.{Http1, Http2, Http3}
use Rattle.service_core.specs.Holding.{OfKept}
use Rattle.http_service.specs.Serving.{ByProtocol}

-- it is what is kept
pub kept-holds : {A : Type 0} (x : A) (P : A → Type 0) → OfKept (Some x) P → P x
kept-holds x P kept = let same : kept.value ≡ x = cc in subst P same kept.holds

-- only HTTP/1 is served
pub unsupported : {A : Type 0} (protocol : Protocol) (served other : A → Type 0) → (protocol ≡ Http2) ⊎ (protocol ≡ Http3)
    → (x : A) → other x → ByProtocol protocol served other x
unsupported Http1 served other (inl is) x holds = cc
unsupported Http1 served other (inr is) x holds = cc
unsupported Http2 served other is x holds = holds
unsupported Http3 served other is x holds = holds
