-- What a factory of `apply_cfg_factory` may give, stage by stage.
use Rattle.std.specs.Prelude.{◌≡◌, ◌⊎◌, ⊤, Result, Ok, Err}
use Rattle.std.specs.Arc.{arc_value}
use Rattle.futures.specs.declared.future.Future.{Ghosts as FutureOf}
use Rattle.futures.specs.declared.task.Poll.{Poll}
use Rattle.futures.specs.declared.task.Poll.TheVariants.{Ready as PollReady, Pending}
use Rattle.service_core.specs.Counts.{Rose}
use Rattle.service_core.specs.Made.{MadeBy}
use Rattle.service_core.specs.Meaning.{Follows, Readiness}
use Rattle.service_core.specs.declared.service.Service.{Ghosts as ServiceOf}
use Rattle.service_core.specs.declared.service_factory.ServiceFactory.{Ghosts as FactoryOf}
use Rattle.service_combine.specs.Applying.{Answers}
use Rattle.service_combine.specs.Configuring.{GivesCallable, OfOk}
use Rattle.service_combine.specs.Shown.{apply_cfg_factory_part, apply_cfg_factory_closure}
use Rattle.service_combine.specs.declared.apply_config_factory.ApplyConfigServiceFactory.{ApplyConfigServiceFactory}
use Rattle.service_combine.specs.declared.config_stage.ConfigStage.{ConfigStage}
use Rattle.service_combine.specs.declared.config_stage.ConfigStage.TheVariants.{First, Second, Refused, Done}
use Rattle.service_combine.specs.declared.made_ready.MadeReady.{MadeReady}
use Rattle.service_combine.specs.declared.made_ready.MadeReady.TheVariants.{Making, Readying}
use denote.Ref.{Bor}

-- a service of P that may be ready, an error of P, or an error turned from one that such a service's readiness may answer
abbrev pub ReadyOr : {S E I : Type 0} → (Result S I → Type 0) → (S → Readiness E → Type 0) → (E → I → Type 0) → Result S I → Type 0
ReadyOr P ready turned (Ok s) = P (Ok s) × ready s (PollReady (Ok tt))
ReadyOr P ready turned (Err e) =
    P (Err e) ⊎ Follows (λ from. OfOk P ready (PollReady (Err from))) turned e

-- a service of P, or an error turned from one of P
abbrev pub AwaitsReady : {S E I : Type 0} → (Result S E → Type 0) → (E → I → Type 0) → Result S I → Type 0
AwaitsReady P turned (Ok s) = P (Ok s)
AwaitsReady P turned (Err e) = Follows (λ from. P (Err from)) turned e

-- the answer, with an error changed to what `turned` allows
abbrev pub Turns : {S E I : Type 0} → (E → I → Type 0) → Poll (Result S E) → Poll (Result S I) → Type 0
Turns turned Pending r = r ≡ Pending
Turns turned (PollReady (Ok s)) r = r ≡ PollReady (Ok s)
Turns {I = I} turned (PollReady (Err from)) r = (e : I) × (r ≡ PollReady (Err e)) × turned from e

-- a service that the factory f may make of c, and that may be ready
abbrev pub ReadyBy : {M Q R E C S I U F : Type 0} → FactoryOf M Q R E C S I U F → ServiceOf S Q R E F → M → C → S → Type 0
ReadyBy g service f c s = MadeBy g service f c s × service.may_ready s (PollReady (Ok tt))

-- what the closure's future gives for the configuration c and such a service of the factory
abbrev pub ReadyGives : {M Q R E S I U F K C Fut T : Type 0} → FactoryOf M Q R E (Unit {0}) S I U F → ServiceOf S Q R E F
    → (K → C → Bor S → Fut → Type 0) → (Fut → Result T I → Type 0) → ApplyConfigServiceFactory M Q K C Fut T → C → Result T I → Type 0
ReadyGives factory service post gives a c = Follows (ReadyBy factory service (apply_cfg_factory_part a) tt)
    (λ s. Follows (Answers (post (apply_cfg_factory_closure a)) s c) gives)

-- The closure may be called with c and the service s that is lent to it, and its futures may be polled and give only
-- services of which can_call holds.
pub record MakesFrom {S K F T I : Type 0} (g : FutureOf F (Result T I)) (pre : K → Bor S → Type 0)
    (post : K → Bor S → F → Type 0) (can_call : T → Type 0) (c : K) (s : S) : Type 0 where
  pub callable : (lent : Bor S) → lent.now ≡ s → pre c lent
  pub makes : GivesCallable g can_call (Answers post s c)

-- what the closure's future gives for a service of P, or an error of P
abbrev pub ThroughService : {S F T I : Type 0} → (Result S I → Type 0) → (F → Result T I → Type 0) → (S → F → Type 0) → Result T I → Type 0
ThroughService P gives answers (Ok made) = OfOk P (λ s. Follows (answers s) gives) (Ok made)
ThroughService P gives answers (Err e) = P (Err e) ⊎ OfOk P (λ s. Follows (answers s) gives) (Err e)

-- the count of the part that is polled rose, from 0 where it began in this poll
abbrev pub ReadyWaited : {X S Q : Type 0} → MadeReady X S Q → MadeReady X S Q → Type 0
ReadyWaited (Making old) (Making new) = Rose old.waits new.waits
ReadyWaited (Making old) (Readying new) = Rose 0 new.waits
ReadyWaited (Readying old) (Making new) = ⊥
ReadyWaited (Readying old) (Readying new) = Rose old.waits new.waits

abbrev pub ConfigWaited : {X S Q C P Y : Type 0} → ConfigStage X S Q C P Y → ConfigStage X S Q C P Y → Type 0
ConfigWaited (First old c p) (First new d q) = ReadyWaited old new
ConfigWaited (First old c p) (Second new) = Rose 0 new.waits
ConfigWaited (First old c p) Refused = ⊥
ConfigWaited (First old c p) Done = ⊥
ConfigWaited (Second old) (First new d q) = ⊥
ConfigWaited (Second old) (Second new) = Rose old.waits new.waits
ConfigWaited (Second old) Refused = ⊥
ConfigWaited (Second old) Done = ⊥
ConfigWaited Refused new = ⊥
ConfigWaited Done new = ⊥

-- the factory's service is not given yet
abbrev pub IsFirst : {X S Q C P Y : Type 0} → ConfigStage X S Q C P Y → Type 0
IsFirst (First making c p) = ⊤
IsFirst (Second w) = ⊥
IsFirst Refused = ⊥
IsFirst Done = ⊥

-- what such a stage keeps for the closure
abbrev pub HasFirst : {X S Q C P Y : Type 0} → ConfigStage X S Q C P Y → C → P → Type 0
HasFirst (First making c p) cfg parts = (cfg ≡ c) × (parts ≡ arc_value p)
HasFirst (Second w) cfg parts = ⊥
HasFirst Refused cfg parts = ⊥
HasFirst Done cfg parts = ⊥
