-- What the making of a pair of services may give, and where it may wait.
use Rattle.std.specs.Prelude.{◌≡◌, ◌⊎◌, ⊤, ℕ, Option, Some, None, Result, Ok, Err}
use Rattle.futures.specs.declared.task.context.Context.{Context}
use Rattle.futures.specs.Task.{Covers}
use Rattle.service_core.specs.Counts.{Rose}
use Rattle.service_combine.specs.declared.half.Half.{Half}
use Rattle.service_combine.specs.declared.half.Half.TheVariants.{Waiting, Made, Done}
use Rattle.service_combine.specs.declared.both.Both.{Both}
use Rattle.service_combine.specs.declared.both.Both.TheVariants.{Halves, Refused}

-- it is made, or its future may be polled
abbrev pub IsLive : {F S : Type 0} → (F → Type 0) → Half F S → Type 0
IsLive can_poll (Waiting w) = can_poll w.future
IsLive can_poll (Made s) = ⊤
IsLive can_poll Done = ⊥

-- what its making may give
abbrev pub HalfGives : {F S I : Type 0} → (F → Result S I → Type 0) → Half F S → Result S I → Type 0
HalfGives gives (Waiting w) r = gives w.future r
HalfGives gives (Made s) r = r ≡ Ok s
HalfGives gives Done r = ⊥

-- what its future waits for
abbrev pub HalfNeeds : {F S : Type 0} → (F → ℕ → Type 0) → Half F S → ℕ → Type 0
HalfNeeds needs (Waiting w) n = needs w.future n
HalfNeeds needs (Made s) n = ⊥
HalfNeeds needs Done n = ⊥

abbrev pub IsWaiting : {F S : Type 0} → Half F S → Type 0
IsWaiting (Waiting w) = ⊤
IsWaiting (Made s) = ⊥
IsWaiting Done = ⊥

-- where it still waits, its count rose in this poll
abbrev pub HalfWaited : {F S : Type 0} → Half F S → Half F S → Type 0
HalfWaited (Waiting old) (Waiting new) = Rose old.waits new.waits
HalfWaited (Waiting old) (Made s) = ⊤
HalfWaited (Waiting old) Done = ⊥
HalfWaited (Made s) (Waiting new) = ⊥
HalfWaited (Made s) (Made t) = ⊤
HalfWaited (Made s) Done = ⊥
HalfWaited Done new = ⊥

-- what one step of a half does: it waits or is made, or it has erred
abbrev pub Advances : {F S I : Type 0} → (F → Type 0) → (F → ℕ → Type 0) → (F → Result S I → Type 0)
    → Half F S → Half F S → Context → Result (Unit {0}) I → Type 0
Advances {F} {S} {I} can_poll needs gives old new cx (Ok u) =
    IsLive can_poll new
    × ((r : Result S I) → HalfGives gives new r → HalfGives gives old r)
    × HalfWaited old new
    × (IsWaiting new → Covers cx (HalfNeeds needs new))
Advances can_poll needs gives old new cx (Err e) = HalfGives gives old (Err e) × (new ≡ Done)

-- both services are taken where both are made; else the halves stay
abbrev pub Takes : {X Y S T : Type 0} → Half X S → Half X S → Half Y T → Half Y T → Option (S × T) → Type 0
Takes a c b d (Some pair) = (a ≡ Made pair.0) × (b ≡ Made pair.1)
Takes a c b d None = (c ≡ a) × (d ≡ b)
    × (IsLive (λ _. ⊤) a → IsLive (λ _. ⊤) b → IsWaiting a ⊎ IsWaiting b)

-- two services, or an error of either making
abbrev pub BothGive : {S T I : Type 0} → (Result S I → Type 0) → (Result T I → Type 0) → Result (S × T) I → Type 0
BothGive P Q (Ok pair) = P (Ok pair.0) × Q (Ok pair.1)
BothGive P Q (Err e) = P (Err e) ⊎ Q (Err e)

-- a pair may be pending where a half waits, and each half that waits was polled
abbrev pub BothWaited : {X Y S T : Type 0} → Both X Y S T → Both X Y S T → Type 0
BothWaited (Halves a b) (Halves c d) = HalfWaited a c × HalfWaited b d × (IsWaiting c ⊎ IsWaiting d)
BothWaited (Halves a b) Refused = ⊥
BothWaited Refused new = ⊥

-- the error of the first making, or that of the second where the first was polled and did not err
abbrev pub ErrsInOrder : {X Y S T I : Type 0} → (X → Result S I → Type 0) → (Y → Result T I → Type 0)
    → Both X Y S T → Both X Y S T → I → Type 0
ErrsInOrder P Q (Halves a b) (Halves c d) e =
    (HalfGives P a (Err e) × (c ≡ Done)) ⊎ (HalfWaited a c × HalfGives Q b (Err e) × (d ≡ Done))
ErrsInOrder P Q (Halves a b) Refused e = ⊥
ErrsInOrder P Q Refused new e = ⊤

-- such an error, or want of memory for the pair
abbrev pub PairErrs : {X Y S T I : Type 0} → (X → Result S I → Type 0) → (Y → Result T I → Type 0)
    → Both X Y S T → Both X Y S T → I → I → Type 0
PairErrs P Q old new refusal e = ErrsInOrder P Q old new e ⊎ (e ≡ refusal)
