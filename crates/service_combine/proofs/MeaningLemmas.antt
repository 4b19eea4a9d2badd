-- A meaning made of wider parts is wider.
use Rattle.std.proofs.Common.{Result, Ok, Err, inl, inr}
use Rattle.std.specs.Prelude.{⊤}
use Rattle.service_core.specs.Meaning.{Follows, Readiness, Within}
use Rattle.service_core.specs.Making.{LiesWithin, Makes}
use Rattle.service_core.specs.declared.service.Service.{Ghosts as ServiceOf}
use Rattle.service_combine.specs.Meaning.{OrRefused}
use Rattle.service_combine.specs.Making.{WithPart}
use Rattle.service_combine.specs.Configuring.{GivesCallable, OfOk}
use Rattle.futures.specs.declared.future.Future.{Ghosts as FutureOf}
use Rattle.service_combine.specs.Readying.{ReadyErrBy}
use Rattle.futures.specs.declared.task.Poll.TheVariants.{Ready, Pending}

pub Follows-within : {A B : Type 0} (P Q : A → Type 0) (next : A → B → Type 0)
    → Within P Q → (r : B) → Follows P next r → Follows Q next r
Follows-within P Q next within r m = record { value = m.value; comes = within m.value m.comes; holds = m.holds }

pub OrRefused-within : {A E : Type 0} (P Q : Result A E → Type 0) (refusal : E)
    → Within P Q → (r : Result A E) → OrRefused P refusal r → OrRefused Q refusal r
OrRefused-within P Q refusal within r (inl p) = inl (within r p)
OrRefused-within P Q refusal within r (inr e) = inr e

pub ReadyErrBy-within : {E G : Type 0} (turned : E → G → Type 0) (P Q : Readiness E → Type 0)
    → Within P Q → (a : Readiness G) → ReadyErrBy turned P a → ReadyErrBy turned Q a
ReadyErrBy-within turned P Q within (Ready (Ok u)) p = within _ p
ReadyErrBy-within turned P Q within (Ready (Err e)) p = (p.0, within _ p.1, p.2)
ReadyErrBy-within turned P Q within Pending p = within _ p

module _ {S T I : Type 0} (part : T → S) (holds : T → Type 0) where
  pub WithPart-within : (P Q : Result S I → Type 0) → Within P Q → (r : Result T I) → WithPart part holds P r → WithPart part holds Q r
  WithPart-within P Q within (Ok made) w = (within (Ok (part made)) w.0, w.1)
  WithPart-within P Q within (Err e) p = within (Err e) p

module _ {S T Q Q' R R' E E' F F' I : Type 0} (g : ServiceOf S Q R E F) (h : ServiceOf T Q' R' E' F')
    (may : Q → Result R E → Type 0) (ready : Readiness E → Type 0) (begin : Q → F → Type 0)
    (may' : Q' → Result R' E' → Type 0) (ready' : Readiness E' → Type 0) (begin' : Q' → F' → Type 0)
    (make : Type 0) (init init' : I → Type 0) (part : T → S) (holds : T → Type 0) where
  -- what is made of a part that its maker makes lies within the relations of the combinator
  pub Makes-part : (P : Result S I → Type 0) → Within P (Makes g may ready begin make init)
      → ((made : T) → holds made → LiesWithin g (part made) may ready begin → LiesWithin h made may' ready' begin')
      → Within init init' → Within (WithPart part holds P) (Makes h may' ready' begin' make init')
  Makes-part P within lies wider (Ok made) w =
      let made-by = within (Ok (part made)) w.0 in
      (made-by.0, lies made w.1 made-by.1)
  Makes-part P within lies wider (Err e) p = wider e (within (Err e) p)

-- a part and what comes with it
pub WithPart-pair : {S B T I : Type 0} (a : T → S) (b : T → B) (holds : B → Type 0) (P : Result S I → Type 0) → (r : Result T I)
    → WithPart {S = S × B} (λ made. (a made, b made)) (λ _. ⊤) (WithPart {T = S × B} (λ pair. pair.0) (λ pair. holds pair.1) P) r
    → WithPart a (λ made. holds (b made)) P r
WithPart-pair a b holds P (Ok made) w = w.0
WithPart-pair a b holds P (Err e) p = p

module _ {S Q R E F Fut I : Type 0} (s : ServiceOf S Q R E F) (g : FutureOf Fut (Result S I)) (answers : Fut → Type 0)
    (callable : GivesCallable g s.can_call answers) (f : Fut) (answered : answers f) where
  abbrev Given : Result S I → Type 0
  Given = Follows answers g.gives

  -- what a future of `answers` gives is a service that such a future gives
  pub Makes-given : Within (g.gives f) (Makes s (λ q. OfOk Given (λ made. s.may made q))
      (OfOk Given (λ made. s.may_ready made)) (λ q. OfOk Given (λ made. s.may_begin made q))
      ((made : S) × Given (Ok made)) (λ e. Given (Err e)))
  Makes-given (Ok made) given =
      let comes : Given (Ok made) = record { value = f; comes = answered; holds = given } in (
        (made, comes),
        record {
          callable = callable.callable f made answered given;
          answers = λ q r h. record { value = made; comes = comes; holds = h };
          readiness = λ a h. record { value = made; comes = comes; holds = h };
          futures = λ q fut h. record { value = made; comes = comes; holds = h };
        },
      )
  Makes-given (Err e) given = record { value = f; comes = answered; holds = given }
