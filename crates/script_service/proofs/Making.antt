-- A service that is made of another.
use Rattle.std.proofs.Common.{Result, Ok, Err}
use Rattle.service_core.specs.Making.{LiesWithin, Makes}
use Rattle.service_core.specs.Meaning.{Readiness, Within}
use Rattle.service_core.specs.declared.service.Service.{Ghosts as ServiceOf}
use Rattle.script_service.specs.Making.{ByPart}

pub by_part_within : {S T I : Type 0} (part : T → S) (P Q : Result S I → Type 0) → Within P Q → Within (ByPart part P) (ByPart part Q)
by_part_within part P Q within (Ok service) p = within (Ok (part service)) p
by_part_within part P Q within (Err error) p = within (Err error) p

module _ {S T Q R E F G I : Type 0} (inner : ServiceOf S Q R E F) (outer : ServiceOf T Q R E G) (part : T → S)
    (may : Q → Result R E → Type 0) (may_ready : Readiness E → Type 0) (inner_begins : Q → F → Type 0) (outer_begins : Q → G → Type 0)
    (may_make : Type 0) (may_init : I → Type 0) where
  pub makes_by_part : ((service : T) → LiesWithin inner (part service) may may_ready inner_begins → LiesWithin outer service may may_ready outer_begins)
      → (P : Result S I → Type 0) → Within P (Makes inner may may_ready inner_begins may_make may_init)
      → Within (ByPart part P) (Makes outer may may_ready outer_begins may_make may_init)
  makes_by_part lies P made (Ok service) p = let m = made (Ok (part service)) p in (m.0, lies service m.1)
  makes_by_part lies P made (Err error) p = made (Err error) p
