-- What it is for a copy to mean what its original means.
use Rattle.service_core.specs.Meaning.{Follows, Within}
use Rattle.service_combine.specs.Applying.{Answers, MayBeLent}
use denote.Ref.{Bor}
use Rattle.service_core.specs.declared.service.Service.{Ghosts as ServiceOf}
use Rattle.service_core.specs.declared.service_factory.ServiceFactory.{Ghosts as FactoryOf}
use Rattle.service_core.specs.declared.transform.Transform.{Ghosts as TransformOf}

-- each of P is one of Q, and each of Q is one of P
abbrev pub Alike : {A : Type 0} → (A → Type 0) → (A → Type 0) → Type 0
Alike P Q = Within P Q × Within Q P

-- as a service
pub record MeansSame {S Q R E F : Type 0} (g : ServiceOf S Q R E F) (s copy : S) : Type 0 where
  pub callable : (g.can_call copy → g.can_call s) × (g.can_call s → g.can_call copy)
  pub answers : (q : Q) → Alike (g.may copy q) (g.may s q)
  pub readiness : Alike (g.may_ready copy) (g.may_ready s)
  pub futures : (q : Q) → Alike (g.may_begin copy q) (g.may_begin s q)

-- with either service lent, the closure may be called alike, and answers alike
pub record TakesSame {S Q F : Type 0} (pre : Q → Bor S → Type 0) (post : Q → Bor S → F → Type 0) (s copy : S) : Type 0 where
  pub callable : (MayBeLent pre copy → MayBeLent pre s) × (MayBeLent pre s → MayBeLent pre copy)
  pub answers : (q : Q) → Alike (Answers post copy q) (Answers post s q)

-- as a factory
pub record MakesSame {M Q R E C S I U F : Type 0} (g : FactoryOf M Q R E C S I U F) (f copy : M) : Type 0 where
  pub callable : (g.can_make copy → g.can_make f) × (g.can_make f → g.can_make copy)
  pub answers : (c : C) (q : Q) → Alike (g.may copy c q) (g.may f c q)
  pub readiness : (c : C) → Alike (g.may_ready copy c) (g.may_ready f c)
  pub futures : (c : C) (q : Q) → Alike (g.may_begin copy c q) (g.may_begin f c q)
  pub errors : (c : C) → Alike (g.may_init copy c) (g.may_init f c)
  pub makes : (c : C) → (g.may_make copy c → g.may_make f c) × (g.may_make f c → g.may_make copy c)

-- as a transform
pub record WrapsSame {T S Q R E W I U F : Type 0} (g : TransformOf T S Q R E W I U F) (t copy : T) : Type 0 where
  pub callable : (s : S) → (g.can_make copy s → g.can_make t s) × (g.can_make t s → g.can_make copy s)
  pub answers : (s : S) (q : Q) → Alike (g.may copy s q) (g.may t s q)
  pub readiness : (s : S) → Alike (g.may_ready copy s) (g.may_ready t s)
  pub errors : Alike (g.may_init copy) (g.may_init t)
  pub makes : (g.may_make copy → g.may_make t) × (g.may_make t → g.may_make copy)

-- h goes from x to z exactly where f goes from x to some y and g from there to z
abbrev pub IsThrough : {X Y Z : Type 0} → (X → Y → Type 0) → (Y → Z → Type 0) → (X → Z → Type 0) → Type 0
IsThrough {X} {Y} {Z} f g h = (x : X) (z : Z) → (h x z → Follows (f x) g z) × (Follows (f x) g z → h x z)
