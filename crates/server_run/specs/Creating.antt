-- What a factory of connections' services says of the services that it makes.
use Rattle.std.specs.Prelude.{◌<◌, ⊤, ℕ, Result, Ok, Err}
use Rattle.service_core.specs.Meaning.{Readiness, Within}
use Rattle.service_core.specs.declared.ended.Ended.{Ended}
use Rattle.service_core.specs.declared.service.Service.{Ghosts as ServiceOf}
use Rattle.service_core.specs.declared.service_factory.ServiceFactory.{Ghosts as FactoryOf}
use Rattle.server_run.specs.declared.serve_error.ServeError.{ServeError}
use Rattle.server_run.specs.declared.serve_error.ServeError.TheVariants.{NoListener, Spawn, Startup, Memory}

-- the call ends the connection, and never errs
abbrev pub OnlyEnds : {L E : Type 0} → (Ended L → Type 0) → Result (Ended L) E → Type 0
OnlyEnds may_serve (Ok ended) = may_serve ended
OnlyEnds may_serve (Err e) = ⊥

-- The factory may be called, and its relations lie within these of a token.
pub record Creates {F L E S I M Fut : Type 0} (g : FactoryOf F L (Ended L) E (Unit {0}) S I M Fut) (may_stand : Fut → L → Type 0)
    (may_serve : L → Ended L → Type 0) (may_leave : L → L → Type 0) (may_ready : Readiness E → Type 0)
    (may_init : I → Type 0) (may_make : Type 0) (factory : F) : Type 0 where
  pub callable : g.can_make factory
  pub serves : (link : L) → Within (g.may factory tt link) (OnlyEnds (may_serve link))
  pub leaves : (link : L) (future : Fut) → g.may_begin factory tt link future → Within (may_stand future) (may_leave link)
  pub readies : Within (g.may_ready factory tt) may_ready
  pub inits : Within (g.may_init factory tt) may_init
  pub makes : g.may_make factory tt → may_make

-- A service of a token: it may be called, and its relations lie within those of the token.
pub record Stands {S L E Fut : Type 0} (g : ServiceOf S L (Ended L) E Fut) (may_stand : Fut → L → Type 0)
    (may_serve : L → Ended L → Type 0) (may_leave : L → L → Type 0) (may_ready : Readiness E → Type 0) (service : S) : Type 0 where
  pub callable : g.can_call service
  pub serves : (link : L) → Within (g.may service link) (OnlyEnds (may_serve link))
  pub leaves : (link : L) (future : Fut) → g.may_begin service link future → Within (may_stand future) (may_leave link)
  pub readies : Within (g.may_ready service) may_ready

-- Each relation of a copy of a factory lies within the one of its original.
pub record HasMeaningOf {F L E I : Type 0} (may_serve : F → ℕ → L → Ended L → Type 0) (may_leave : F → ℕ → L → L → Type 0)
    (may_ready : F → ℕ → Readiness E → Type 0) (may_init : F → ℕ → I → Type 0) (may_make : F → ℕ → Type 0) (original copy : F) : Type 0 where
  pub serves : (token : ℕ) (link : L) → Within (may_serve copy token link) (may_serve original token link)
  pub leaves : (token : ℕ) (link : L) → Within (may_leave copy token link) (may_leave original token link)
  pub readies : (token : ℕ) → Within (may_ready copy token) (may_ready original token)
  pub inits : (token : ℕ) → Within (may_init copy token) (may_init original token)
  pub makes : (token : ℕ) → may_make copy token → may_make original token

-- an error names one of so many workers and of so many listeners, and a factory's is one that the factory of its token may answer
abbrev pub IsStartup : {I : Type 0} → ℕ → ℕ → (ℕ → I → Type 0) → ServeError I → Type 0
IsStartup workers listeners may_init NoListener = ⊤
IsStartup workers listeners may_init (Spawn worker) = worker < workers
IsStartup workers listeners may_init (Startup worker token error) = (worker < workers) × (token < listeners) × may_init token error
IsStartup workers listeners may_init Memory = ⊤
