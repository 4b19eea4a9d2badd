-- What a closure means to which a service is lent.
use Rattle.std.specs.Prelude.{◌≡◌, Result}
use Rattle.futures.specs.declared.future.Future.{Ghosts as FutureOf}
use Rattle.service_core.specs.Meaning.{Follows}
use Rattle.service_combine.specs.Shown.{apply_cfg_part, apply_cfg_closure}
use Rattle.service_combine.specs.declared.apply_config.ApplyConfigService.{ApplyConfigService}
use denote.Ref.{Bor}

-- the closure may answer f for q and the service s that is lent to it
pub record Answers {S Q F : Type 0} (post : Q → Bor S → F → Type 0) (s : S) (q : Q) (f : F) : Type 0 where
  pub lent : Bor S
  pub is : lent.now ≡ s
  pub answered : post q lent f

-- the closure may be called with anything and the service s that is lent to it
abbrev pub MayBeLent : {S Q : Type 0} → (Q → Bor S → Type 0) → S → Type 0
MayBeLent {S} {Q} pre s = (q : Q) (lent : Bor S) → lent.now ≡ s → pre q lent

-- The closure may be called so, and each future that it may then answer may be polled.
pub record TakesLent {S Q F A : Type 0} (g : FutureOf F A) (pre : Q → Bor S → Type 0) (post : Q → Bor S → F → Type 0) (s : S) : Type 0 where
  pub callable : MayBeLent pre s
  pub pollable : (q : Q) (f : F) → Answers post s q f → g.can_poll f

-- `apply_cfg`: what the closure's future gives for the configuration c
abbrev pub LentGives : {S Q K C Fut T I : Type 0} → (K → C → Bor S → Fut → Type 0) → (Fut → Result T I → Type 0)
    → ApplyConfigService S Q K C Fut T I → C → Result T I → Type 0
LentGives post gives a c = Follows (Answers (post (apply_cfg_closure a)) (apply_cfg_part a) c) gives
