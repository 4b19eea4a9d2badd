-- A part that is made, and gives no more than before, could be made.
use Rattle.std.proofs.Common.{Option, Some, None, Result, Ok, refl}
use Rattle.service_core.specs.Meaning.{Within}
use Rattle.http_flow.specs.declared.part.Part.{Part}
use Rattle.http_flow.specs.declared.part.Part.TheVariants.{Making, Made, Gone}
use Rattle.http_flow.specs.Creating.{IsUpgradeOf, OfPart}
use Rattle.http_flow.specs.Making.{IsMade, OfBoth, PartGives}

module _ {F T I : Type 0} (gives : F → Result T I → Type 0) where
  pub could-make : (old new : Part F T) → IsMade new → Within (PartGives gives new) (PartGives gives old)
      → (made : T) × PartGives gives old (Ok made)
  could-make old (Making w) made within = absurd made
  could-make old (Made x) made within = (x, within (Ok x) refl)
  could-make old Gone made within = absurd made

  module _ {S X SI XI : Type 0} (service : Result S SI → Type 0) (expect : Result X XI → Type 0) where
    pub could-make-some : (old new : Option (Part F T)) → OfPart new IsMade
        → OfBoth (λ a b. Within (PartGives gives a) (PartGives gives b)) new old
        → (made : Option T) × IsUpgradeOf service expect (PartGives gives) old old made
    could-make-some None None made both = (None, tt)
    could-make-some (Some a) None made both = absurd both
    could-make-some None (Some b) made both = absurd both
    could-make-some (Some a) (Some b) made both = let found = could-make a b made both in (Some found.0, found.1)
