-- A meaning made of wider parts is wider: of errors, of configurations that come of others, and of services that are made.
use Rattle.std.proofs.Common.{◌⊎◌, inl, inr, Result, Ok, Err, IfOk, MatchResult}
use Rattle.futures.specs.declared.future.Future.{Ghosts as FutureOf}
use Rattle.service_core.specs.Meaning.{Readiness, Through, Within}
use Rattle.service_core.specs.Making.{LiesWithin}
use Rattle.service_core.specs.declared.service.Service.{Ghosts as ServiceOf}
use Rattle.service_combine.specs.Applying.{TakesLent}
use Rattle.service_combine.specs.Same.{TakesSame}
use denote.Ref.{Bor}

-- more holds of a value that is there
pub IfOk-more : {A E : Type 0} (r : Result A E) (P Q : A → Type 0) (refused : E → Type 0) → MatchResult r P refused → Within P Q → IfOk r Q
IfOk-more (Ok x) P Q refused holds within = within x holds
IfOk-more (Err e) P Q refused holds within = tt

pub OrElse-within : {P Q other : Type 0} → (P → Q) → P ⊎ other → Q ⊎ other
OrElse-within within (inl p) = inl (within p)
OrElse-within within (inr is) = inr is

-- more may come
pub Through-comes : {A : Type 0} {P Q holds : A → Type 0} → Within P Q → Through P holds → Through Q holds
Through-comes within t = record { value = t.value; comes = within t.value t.comes; holds = t.holds }

-- more may come, and more holds of it
pub Through-both : {A : Type 0} {P Q holds wider : A → Type 0} → Within P Q → Within holds wider → Through P holds → Through Q wider
Through-both comes within t = record { value = t.value; comes = comes t.value t.comes; holds = within t.value t.holds }

-- more holds of what may come
pub Through-holds : {A : Type 0} {comes P Q : A → Type 0} → Within P Q → Through comes P → Through comes Q
Through-holds within t = record { value = t.value; comes = t.comes; holds = within t.value t.holds }

module _ {S Q R E F : Type 0} {g : ServiceOf S Q R E F}
    {may may' : Q → Result R E → Type 0} {ready ready' : Readiness E → Type 0} {begin begin' : Q → F → Type 0}
    (answers : (q : Q) → Within (may q) (may' q)) (readiness : Within ready ready') (futures : (q : Q) → Within (begin q) (begin' q)) where
  pub LiesWithin-within : (s : S) → LiesWithin g s may ready begin → LiesWithin g s may' ready' begin'
  LiesWithin-within s lies = record {
    callable = lies.callable;
    answers = λ q r gives. answers q r (lies.answers q r gives);
    readiness = λ a gives. readiness a (lies.readiness a gives);
    futures = λ q f begun. futures q f (lies.futures q f begun);
  }

-- a closure that may be lent the one service may be lent the other
module _ {S Q F A : Type 0} (g : FutureOf F A) (pre : Q → Bor S → Type 0) (post : Q → Bor S → F → Type 0) (s copy : S) (same : TakesSame pre post s copy) where
  pub takes-copy : TakesLent g pre post copy → TakesLent g pre post s
  takes-copy takes = record {
    callable = same.callable.0 takes.callable;
    pollable = λ q f answered. takes.pollable q f ((same.answers q).1 f answered);
  }

  pub takes-original : TakesLent g pre post s → TakesLent g pre post copy
  takes-original takes = record {
    callable = same.callable.1 takes.callable;
    pollable = λ q f answered. takes.pollable q f ((same.answers q).0 f answered);
  }
