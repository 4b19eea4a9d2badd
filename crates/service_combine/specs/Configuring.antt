-- What a factory says of services that a closure's future gives.
use Rattle.std.specs.Prelude.{Result, Ok}
use Rattle.futures.specs.declared.future.Future.{Ghosts as FutureOf}
use Rattle.service_core.specs.Meaning.{Follows}

-- what `next` gives for some Ok of P
abbrev pub OfOk : {S I B : Type 0} → (Result S I → Type 0) → (S → B → Type 0) → B → Type 0
OfOk P next = Follows (λ s. P (Ok s)) next

-- each future of `answers` may be polled, and gives only services that may be called
pub record GivesCallable {S F I : Type 0} (g : FutureOf F (Result S I)) (can_call : S → Type 0) (answers : F → Type 0) : Type 0 where
  pub pollable : (f : F) → answers f → g.can_poll f
  pub callable : (f : F) (s : S) → answers f → g.gives f (Ok s) → can_call s
