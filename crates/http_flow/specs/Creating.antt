-- The creation of the services of a connection, in the order expect, upgrade, service: the error is that of the first that fails.
use Rattle.std.specs.Prelude.{Option, Some, None, Result, Ok, Err, ⊤}
use Rattle.http_flow.specs.declared.flow.HttpFlow.{HttpFlow}
use Rattle.http_flow.specs.declared.http_init_error.HttpInitError.{HttpInitError}
use Rattle.http_flow.specs.declared.http_init_error.HttpInitError.TheVariants.{Expect, Upgrade, Service, Memory}

-- P holds of the part, where there is one
abbrev pub OfPart : {A : Type 0} → Option A → (A → Type 0) → Type 0
OfPart None P = ⊤
OfPart (Some part) P = P part

-- there is such a part, and P holds of it
abbrev pub OfSomePart : {A : Type 0} → Option A → (A → Type 0) → Type 0
OfSomePart None P = ⊥
OfSomePart (Some part) P = P part

-- what each part gives, where the upgrade part may be none
module _ {S X U SI XI UI P : Type 0} (service : Result S SI → Type 0) (expect : Result X XI → Type 0)
    (upgrade : P → Result U UI → Type 0) (part : Option P) where
  -- it is the upgrade service of the part, or none where there is none
  abbrev pub IsUpgradeOf : Option P → Option U → Type 0
  IsUpgradeOf None None = ⊤
  IsUpgradeOf None (Some made) = ⊥
  IsUpgradeOf (Some p) None = ⊥
  IsUpgradeOf (Some p) (Some made) = upgrade p (Ok made)

  -- what they give together
  abbrev pub MadeInOrder : Result (HttpFlow S X U) (HttpInitError SI XI UI) → Type 0
  MadeInOrder (Ok flow) = expect (Ok flow.expect) × IsUpgradeOf part flow.upgrade × service (Ok flow.service)
  MadeInOrder (Err (Expect e)) = expect (Err e)
  MadeInOrder (Err (Upgrade e)) = ((made : X) × expect (Ok made)) × OfSomePart part (λ p. upgrade p (Err e))
  MadeInOrder (Err (Service e)) =
      ((made : X) × expect (Ok made)) × ((made : Option U) × IsUpgradeOf part made) × service (Err e)
  MadeInOrder (Err Memory) = ⊥

-- why the factories of a connection's services make none: the error is that of the first that fails, behind those that make one
module _ {SI XI UI : Type 0} (service_init : SI → Type 0) (expect_makes : Type 0) (expect_init : XI → Type 0)
    (upgrade_makes : Type 0) (upgrade_init : UI → Type 0) where
  abbrev pub FailsInOrder : HttpInitError SI XI UI → Type 0
  FailsInOrder (Expect e) = expect_init e
  FailsInOrder (Upgrade e) = expect_makes × upgrade_init e
  FailsInOrder (Service e) = expect_makes × upgrade_makes × service_init e
  FailsInOrder Memory = ⊤
