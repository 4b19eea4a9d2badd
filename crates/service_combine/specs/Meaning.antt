-- What a combinator's calls may give, by what its parts' calls may give.
use Rattle.std.specs.Prelude.{◌≡◌, ◌⊎◌, Result, Ok, Err}
use Rattle.service_core.specs.Meaning.{Follows}

-- a result of P, or the error that stands for want of memory
abbrev pub OrRefused : {A E : Type 0} → (Result A E → Type 0) → E → Result A E → Type 0
OrRefused P refusal r = P r ⊎ (r ≡ Err refusal)

-- r is the result `from` with an Ok changed to what `turned` allows
abbrev pub OkBy : {A B E : Type 0} → (A → B → Type 0) → Result A E → Result B E → Type 0
OkBy {A} {B} {E} turned from r =
    ((y : A) × (z : B) × (from ≡ Ok y) × (r ≡ Ok z) × turned y z)
    ⊎ ((e : E) × (from ≡ Err e) × (r ≡ Err e))

-- r is the result `from` with an Err changed to what `turned` allows
abbrev pub ErrBy : {A E G : Type 0} → (E → G → Type 0) → Result A E → Result A G → Type 0
ErrBy {A} {E} {G} turned from r =
    ((y : A) × (from ≡ Ok y) × (r ≡ Ok y))
    ⊎ ((e : E) × (g : G) × (from ≡ Err e) × (r ≡ Err g) × turned e g)

-- an Err of `from` is r, and an Ok goes to the second part
abbrev pub OkThen : {A B E : Type 0} → (A → Result B E → Type 0) → Result A E → Result B E → Type 0
OkThen {A} {B} {E} second from r =
    ((y : A) × (from ≡ Ok y) × second y r) ⊎ ((e : E) × (from ≡ Err e) × (r ≡ Err e))

-- `map`: a result of P with an Ok changed
abbrev pub Mapped : {A B E : Type 0} → (Result A E → Type 0) → (A → B → Type 0) → Result B E → Type 0
Mapped P turned = Follows P (OkBy turned)

-- `map_err`: a result of P with an Err changed
abbrev pub MappedErr : {A E G : Type 0} → (Result A E → Type 0) → (E → G → Type 0) → Result A G → Type 0
MappedErr P turned = Follows P (ErrBy turned)

-- `and_then`: an Err of P, or what the second part gives for an Ok of P
abbrev pub Chained : {A B E : Type 0} → (Result A E → Type 0) → (A → Result B E → Type 0) → Result B E → Type 0
Chained P second = Follows P (OkThen second)

-- e is an error of P
abbrev pub Errs : {A E : Type 0} → (Result A E → Type 0) → E → Type 0
Errs P e = P (Err e)

-- P has nothing but errors
abbrev pub OnlyErrs : {A E : Type 0} → (Result A E → Type 0) → Type 0
OnlyErrs {A} P = (y : A) → P (Ok y) → ⊥

-- r is the error e
abbrev pub IsErr : {A E : Type 0} → E → Result A E → Type 0
IsErr e r = r ≡ Err e
