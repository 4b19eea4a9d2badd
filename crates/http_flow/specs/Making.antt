-- How the services of a connection are made, part by part, in the order expect, upgrade, service.
use Rattle.std.specs.Prelude.{◌≡◌, ◌⊎◌, ⊤, ℕ, Option, Some, None, Result, Ok, Err}
use Rattle.futures.specs.declared.future.Future.{Ghosts as FutureOf}
use Rattle.futures.specs.declared.task.Poll.{Poll}
use Rattle.futures.specs.declared.task.Poll.TheVariants.{Ready, Pending}
use Rattle.futures.specs.declared.task.context.Context.{Context}
use Rattle.futures.specs.Task.{Covers}
use Rattle.service_core.specs.Counts.{Rose}
use Rattle.service_core.specs.Making.{Makes}
use Rattle.service_core.specs.Meaning.{Within}
use Rattle.service_core.specs.Shown.{wait_count, watched_future}
use Rattle.service_core.specs.declared.service.Service.{Ghosts as ServiceOf}
use Rattle.service_core.specs.declared.service_factory.ServiceFactory.{Ghosts as FactoryOf}
use Rattle.http_flow.specs.declared.flow.HttpFlow.{HttpFlow}
use Rattle.http_flow.specs.declared.part.Part.{Part}
use Rattle.http_flow.specs.declared.part.Part.TheVariants.{Making, Made, Gone}
use Rattle.http_flow.specs.Creating.{OfPart, OfSomePart}

-- what the factory promises of the making of a service of the configuration
abbrev pub Promises : {M Q R E C S I U F : Type 0} → FactoryOf M Q R E C S I U F → ServiceOf S Q R E F → M → C → Result S I → Type 0
Promises g service m c = Makes service (g.may m c) (g.may_ready m c) (g.may_begin m c) (g.may_make m c) (g.may_init m c)

-- both are none, or there are both, and R holds of them
abbrev pub OfBoth : {A B : Type 0} → (A → B → Type 0) → Option A → Option B → Type 0
OfBoth R None None = ⊤
OfBoth R None (Some b) = ⊥
OfBoth R (Some a) None = ⊥
OfBoth R (Some a) (Some b) = R a b

-- it is made, or its future may be polled
abbrev pub IsLive : {F T : Type 0} → (F → Type 0) → Part F T → Type 0
IsLive can_poll (Making w) = can_poll (watched_future w)
IsLive can_poll (Made x) = ⊤
IsLive can_poll Gone = ⊥

abbrev pub IsMade : {F T : Type 0} → Part F T → Type 0
IsMade (Making w) = ⊥
IsMade (Made x) = ⊤
IsMade Gone = ⊥

-- what its making may give
abbrev pub PartGives : {F T I : Type 0} → (F → Result T I → Type 0) → Part F T → Result T I → Type 0
PartGives gives (Making w) r = gives (watched_future w) r
PartGives gives (Made x) r = r ≡ Ok x
PartGives gives Gone r = ⊥

-- what is waited for: by its future, or by what comes behind it where it is made
abbrev pub PartNeeds : {F T : Type 0} → (F → ℕ → Type 0) → Part F T → (ℕ → Type 0) → ℕ → Type 0
PartNeeds needs (Making w) behind n = needs (watched_future w) n
PartNeeds needs (Made x) behind n = behind n
PartNeeds needs Gone behind n = ⊥

abbrev pub SomeNeeds : {F T : Type 0} → (F → ℕ → Type 0) → Option (Part F T) → (ℕ → Type 0) → ℕ → Type 0
SomeNeeds needs None behind n = behind n
SomeNeeds needs (Some part) behind n = PartNeeds needs part behind n

-- it still is being made, and its count rose
abbrev pub PartRose : {F T : Type 0} → Part F T → Part F T → Type 0
PartRose (Making old) (Making new) = Rose (wait_count old) (wait_count new)
PartRose (Making old) (Made x) = ⊥
PartRose (Making old) Gone = ⊥
PartRose (Made x) new = ⊥
PartRose Gone new = ⊥

abbrev pub SomeRose : {F T : Type 0} → Option (Part F T) → Option (Part F T) → Type 0
SomeRose None new = ⊥
SomeRose (Some old) None = ⊥
SomeRose (Some old) (Some new) = PartRose old new

-- Where a poll waits: at the first part that is not made, whose count rose. Those before it are made, and those behind it are as
-- they were.
abbrev pub Waited : {FS TS FX TX FU TU : Type 0} → HttpFlow (Part FS TS) (Part FX TX) (Part FU TU)
    → HttpFlow (Part FS TS) (Part FX TX) (Part FU TU) → Type 0
Waited old new =
    (PartRose old.expect new.expect × (new.upgrade ≡ old.upgrade) × (new.service ≡ old.service))
    ⊎ ((IsMade new.expect × SomeRose old.upgrade new.upgrade × (new.service ≡ old.service))
    ⊎ (IsMade new.expect × OfPart new.upgrade IsMade × PartRose old.service new.service))

module _ {F T I : Type 0} (g : FutureOf F (Result T I)) where
  -- it may be polled, and gives only results of P
  abbrev pub Begun : (Result T I → Type 0) → Part F T → Type 0
  Begun P part = IsLive g.can_poll part × Within (PartGives g.gives part) P

  -- it gives no more than the other
  abbrev pub Narrows : Part F T → Part F T → Type 0
  Narrows new old = Within (PartGives g.gives new) (PartGives g.gives old)

  -- what one step of a part does: it waits, it is made, or it erred
  abbrev pub Advances : Part F T → Part F T → Context → Poll (Result (Unit {0}) I) → Type 0
  Advances old new cx (Ready (Ok u)) = IsMade new × Narrows new old
  Advances old new cx (Ready (Err e)) = PartGives g.gives old (Err e)
  Advances old new cx Pending =
      IsLive g.can_poll new × Narrows new old × PartRose old new × Covers cx (PartNeeds g.needs new (λ _. ⊥))

  -- and one of a part that may be none
  abbrev pub AdvancesSome : Option (Part F T) → Option (Part F T) → Context → Poll (Result (Unit {0}) I) → Type 0
  AdvancesSome old new cx (Ready (Ok u)) = OfPart new IsMade × OfBoth Narrows new old
  AdvancesSome old new cx (Ready (Err e)) = OfSomePart old (λ part. PartGives g.gives part (Err e))
  AdvancesSome old new cx Pending =
      OfPart new (IsLive g.can_poll) × OfBoth Narrows new old × SomeRose old new × Covers cx (SomeNeeds g.needs new (λ _. ⊥))
