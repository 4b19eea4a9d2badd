-- A listener that a binder gave, and what was heard of it.
use Rattle.std.proofs.Common.{◌≡◌, ℕ, List, Option, None, Some, Result, Ok, Err, All, IfOk, IfSome, refl, subst}
use Rattle.std.proofs.lemmas.List.Elements.{All-head}
use Rattle.std.proofs.lemmas.Option.{same_Some}
use Rattle.server_bind.specs.Stock.{IsSteady}
use Rattle.server_run.specs.Listener.{IsTakenFrom, Mark}
use Rattle.service_core.specs.declared.link.Link.{Ghosts as LinkOf}
use Rattle.listening.specs.Listening.{Hears, IsUnbound, Listened}
use Rattle.listening.specs.declared.heard.Heard.{Heard}
use Rattle.listening.specs.declared.listen_error.ListenError.{ListenError}
use Rattle.listening.specs.declared.listen_error.ListenError.TheVariants.{Refused, NoWorker, Memory}

-- what holds of all listeners holds of the first
of_first : {Li : Type 0} (P : Li → Type 0) (before after : Option (List Li)) (listener : Li) → IsTakenFrom before listener after → IfSome before (All P) → IfSome before (λ listeners. P listener)
of_first P None after listener first all = tt
of_first P (Some listeners) None listener first all = absurd (none first)
  where
    none : Some listeners ≡ None → ⊥
    none same = cc
of_first P (Some listeners) (Some rest) listener first all = All-head P listener rest (subst (All P) (same_Some _ _ first) all)

pub listened : {B Li L E : Type 0} (stock : B → Option (List Li)) (left : Li → Option (List L)) (rest : Li → Option (List Mark)) (g : LinkOf L) (before after : B) (limit : ℕ) (listener : Li)
    → IsTakenFrom (stock before) listener (stock after) → IfSome (stock before) (All (IsSteady left rest g.identity))
    → (result : Result Heard E) → IfOk result (Hears left rest g limit listener) → IfOk result (Listened stock left rest g before after limit)
listened stock left rest g before after limit listener first all (Ok heard) hears =
    record { listener = listener; first = first; steady = of_first (IsSteady left rest g.identity) (stock before) (stock after) listener first all; hears = hears }
listened stock left rest g before after limit listener first all (Err error) hears = tt

-- no address was refused where another error comes
pub unrefused : (same rose : Type 0) (error : ListenError) → IsUnbound rose error → (error ≡ Memory → same) → (error ≡ Refused → ⊥) → same
unrefused same rose Refused why memory other = absurd (other refl)
unrefused same rose NoWorker why memory other = absurd why
unrefused same rose Memory why memory other = memory refl
