-- What is made of a pair of services lies within what their makers say.
use Rattle.std.proofs.Common.{◌≡◌, Result, Ok, Err, inl, inr, refl, rules}
use Rattle.std.specs.Prelude.{⊤}
use Rattle.futures.specs.declared.task.Poll.TheVariants.{Ready, Pending}
use Rattle.service_core.specs.Meaning.{Follows, Readiness, Through, Within}
use Rattle.service_core.specs.Making.{LiesWithin, Makes}
use Rattle.service_core.specs.declared.service.Service.{Ghosts as ServiceOf}
use Rattle.service_combine.specs.Meaning.{Chained, OkThen, OrRefused}
use Rattle.service_combine.specs.Making.{WithPart}
use Rattle.service_combine.specs.Pairing.{BothGive}
use Rattle.service_combine.specs.Readying.{BothReady, IsNoErr}

pub Follows-both : {A B : Type 0} (P Q : A → Type 0) (next wider : A → B → Type 0)
    → Within P Q → ((x : A) → Within (next x) (wider x)) → (r : B) → Follows P next r → Follows Q wider r
Follows-both P Q next wider within goes r m = record { value = m.value; comes = within m.value m.comes; holds = goes m.value r m.holds }

pub OkThen-within : {A B E : Type 0} (second wider : A → Result B E → Type 0) → ((y : A) → Within (second y) (wider y))
    → (from : Result A E) (r : Result B E) → OkThen second from r → OkThen wider from r
OkThen-within second wider within from r (inl ok) = inl (ok.0, ok.1, within ok.0 r ok.2)
OkThen-within second wider within from r (inr err) = inr err

pub Chained-both : {A B E : Type 0} (P Q : Result A E → Type 0) (second wider : A → Result B E → Type 0)
    → Within P Q → ((y : A) → Within (second y) (wider y)) → (r : Result B E) → Chained P second r → Chained Q wider r
Chained-both P Q second wider within goes r m =
    Follows-both P Q (OkThen second) (OkThen wider) within (OkThen-within second wider goes) r m

module _ {E : Type 0} where
  pub passes-within : (P Q : Readiness E → Type 0) → Within P Q → Through P IsNoErr → Through Q IsNoErr
  passes-within P Q within p = record { value = p.value; comes = within p.value p.comes; holds = p.holds }

  pub BothReady-within : (P Q R S : Readiness E → Type 0) → Within P Q → Within R S
      → (a : Readiness E) → BothReady P R a → BothReady Q S a
  BothReady-within P Q R S first second (Ready (Ok u)) b = (first _ b.0, second _ b.1)
  BothReady-within P Q R S first second (Ready (Err e)) (inl p) = inl (first _ p)
  BothReady-within P Q R S first second (Ready (Err e)) (inr p) = inr (passes-within P Q first p.0, second _ p.1)
  BothReady-within P Q R S first second Pending (inl p) = inl (first _ p.0, second _ p.1)
  BothReady-within P Q R S first second Pending (inr p) = inr (first _ p.0, passes-within R S second p.1)

same-error : {T I : Type 0} (r : Result T I) (d e : I) → r ≡ Err d → r ≡ Err e → d ≡ e
same-error r d e one other = cc

module _ {S T U Q Q' Q'' R R' R'' E E' E'' F F' F'' I : Type 0}
    (one : ServiceOf S Q R E F) (other : ServiceOf T Q' R' E' F') (pair : ServiceOf U Q'' R'' E'' F'')
    (may-one : Q → Result R E → Type 0) (ready-one : Readiness E → Type 0) (begin-one : Q → F → Type 0)
    (make-one : Type 0) (init-one : I → Type 0)
    (may-other : Q' → Result R' E' → Type 0) (ready-other : Readiness E' → Type 0) (begin-other : Q' → F' → Type 0)
    (make-other : Type 0) (init-other : I → Type 0)
    (may : Q'' → Result R'' E'' → Type 0) (ready : Readiness E'' → Type 0) (begin : Q'' → F'' → Type 0)
    (make : Type 0) (init : I → Type 0)
    (parts : U → S × T) (refusal : I) where
  -- two services that their makers make, as one
  pub Makes-pair : (P : Result S I → Type 0) (P' : Result T I → Type 0)
      → Within P (Makes one may-one ready-one begin-one make-one init-one)
      → Within P' (Makes other may-other ready-other begin-other make-other init-other)
      → ((made : U) → LiesWithin one (parts made).0 may-one ready-one begin-one
      → LiesWithin other (parts made).1 may-other ready-other begin-other → LiesWithin pair made may ready begin)
      → (make-one → make-other → make)
      → Within init-one init → Within init-other init → init refusal
      → Within (OrRefused (WithPart parts (λ _. ⊤) (BothGive P P')) refusal) (Makes pair may ready begin make init)
  Makes-pair P P' first second lies makes errs errs-too refused (Ok made) (inl w) =
      let a = first (Ok (parts made).0) w.0.0 in
      let b = second (Ok (parts made).1) w.0.1 in
      (makes a.0 b.0, lies made a.1 b.1)
  Makes-pair P P' first second lies makes errs errs-too refused (Ok made) (inr is) =
      let no : Ok made ≡ Err refusal = is in search rules
  Makes-pair P P' first second lies makes errs errs-too refused (Err e) (inl (inl p)) = errs e (first (Err e) p)
  Makes-pair P P' first second lies makes errs errs-too refused (Err e) (inl (inr p)) = errs-too e (second (Err e) p)
  Makes-pair P P' first second lies makes errs errs-too refused (Err e) (inr is) = rw (same-error (Err e) e refusal refl is) refused
