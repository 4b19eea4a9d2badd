-- What a later stage of a factory of `apply_cfg_factory` gives, the earlier one may give.
use Rattle.std.proofs.Common.{◌≡◌, Option, Some, MatchResult, Result, Ok, Err, inl, inr, ◌⊎◌, sym, subst}
use Rattle.futures.specs.Poll.{IfReady}
use Rattle.futures.specs.declared.task.Poll.{Poll}
use Rattle.futures.specs.declared.task.Poll.TheVariants.{Ready as PollReady}
use Rattle.service_core.specs.Holding.{OfKept}
use Rattle.futures.specs.declared.future.Future.{Ghosts as FutureOf}
use Rattle.service_core.specs.Meaning.{Follows, Readiness, Within}
use Rattle.service_core.specs.Making.{LiesWithin, Makes}
use Rattle.service_core.specs.declared.service.Service.{Ghosts as ServiceOf}
use Rattle.service_combine.specs.Configuring.{GivesCallable, OfOk}
use Rattle.service_combine.specs.Staging.{AwaitsReady, ReadyOr, ThroughService}

module _ {S F T I : Type 0} (P : Result S I → Type 0) (gives : F → Result T I → Type 0) (answers : S → F → Type 0) where
  pub from-closure : (s : S) (f : F) → P (Ok s) → answers s f → Within (gives f) (ThroughService P gives answers)
  from-closure s f comes answered (Ok made) given =
      record { value = s; comes = comes; holds = record { value = f; comes = answered; holds = given } }
  from-closure s f comes answered (Err e) given =
      inr (record { value = s; comes = comes; holds = record { value = f; comes = answered; holds = given } })

  pub from-polled : (polled : Poll (Result S I)) → IfReady polled P → (r : Result S I) → polled ≡ PollReady r
      → (s : S) → r ≡ Ok s → (f : F) → answers s f → Within (gives f) (ThroughService P gives answers)
  from-polled polled value r is s ok f answered =
      from-closure s f (subst P ok (subst (λ p. IfReady p P) is value)) answered

  pub ThroughService-within : (Q : Result S I → Type 0) → Within P Q
      → Within (ThroughService P gives answers) (ThroughService Q gives answers)
  ThroughService-within Q within (Ok made) by = record { value = by.value; comes = within _ by.comes; holds = by.holds }
  ThroughService-within Q within (Err e) (inl p) = inl (within _ p)
  ThroughService-within Q within (Err e) (inr by) = inr (record { value = by.value; comes = within _ by.comes; holds = by.holds })

kept-is : {S I : Type 0} (P : Result S I → Type 0) (s : S) (kept : Option S) → kept ≡ Some s → P (Ok s) → (t : S) → kept ≡ Some t → P (Ok t)
kept-is P s kept is came t also = let same : s ≡ t = cc in rw (sym same) came

module _ {S E I : Type 0} (turned : E → I → Type 0) where
  pub AwaitsReady-within : (P Q : Result S E → Type 0) → Within P Q
      → (r : Result S I) → AwaitsReady P turned r → AwaitsReady Q turned r
  AwaitsReady-within P Q within (Ok s) p = within _ p
  AwaitsReady-within P Q within (Err e) t = record { value = t.value; comes = within _ t.comes; holds = t.holds }

  pub ReadyOr-within : (ready : S → Readiness E → Type 0) (P Q : Result S I → Type 0) → Within P Q
      → (r : Result S I) → ReadyOr P ready turned r → ReadyOr Q ready turned r
  ReadyOr-within ready P Q within (Ok s) p = (within _ p.0, p.1)
  ReadyOr-within ready P Q within (Err e) (inl p) = inl (within _ p)
  ReadyOr-within ready P Q within (Err e) (inr t) = inr (record {
    value = t.value;
    comes = record { value = t.comes.value; comes = within _ t.comes.comes; holds = t.comes.holds };
    holds = t.holds;
  })

  -- what the readiness of a service that is kept gives
  pub ready-from : (ready : S → Readiness E → Type 0) (P : Result S I → Type 0) (s : S) (kept : Option S) → kept ≡ Some s → P (Ok s)
      → (Q : Result S E → Type 0) → Within Q (λ r. MatchResult r (λ s. (kept ≡ Some s) × ready s (PollReady (Ok tt))) (λ e. OfKept kept (λ s. ready s (PollReady (Err e)))))
      → (r : Result S I) → AwaitsReady Q turned r → ReadyOr P ready turned r
  ready-from ready P s kept is came Q within (Ok t) q =
      let one = within (Ok t) q in
      (kept-is P s kept is came t one.0, one.1)
  ready-from ready P s kept is came Q within (Err e) t =
      let one = within (Err t.value) t.comes in
      inr (record {
        value = t.value;
        comes = record { value = one.value; comes = kept-is P s kept is came one.value one.is; holds = one.holds };
        holds = t.holds;
      })

module _ {S T Q R E F Q' R' E' F' I Fut : Type 0} (inner : ServiceOf S Q R E F) (outer : ServiceOf T Q' R' E' F')
    (may : Q → Result R E → Type 0) (ready : Readiness E → Type 0) (begin : Q → F → Type 0) (make : Type 0) (init : I → Type 0)
    (turned : E → I → Type 0) (refusal : I) (g : FutureOf Fut (Result T I)) (answers : S → Fut → Type 0)
    (P : Result S I → Type 0) where
  abbrev Given : Result T I → Type 0
  Given = Follows (λ s. LiesWithin inner s may ready begin × inner.may_ready s (PollReady (Ok tt))) (λ s. Follows (answers s) g.gives)

  -- what a closure gives for a service that a maker makes and that is ready
  pub Makes-through : Within P (Makes inner may ready begin make init)
      → ((s : S) → inner.can_call s → GivesCallable g outer.can_call (answers s))
      → Within (ThroughService (ReadyOr P inner.may_ready turned) g.gives answers) (Makes outer
      (λ q. OfOk Given (λ made. outer.may made q)) (OfOk Given (λ made. outer.may_ready made))
      (λ q. OfOk Given (λ made. outer.may_begin made q)) (make × ((made : T) × Given (Ok made)))
      (λ e. init e ⊎ (Follows (λ from. ready (PollReady (Err from))) turned e ⊎ (Given (Err e) ⊎ (e ≡ refusal)))))
  Makes-through within callable (Ok made) by =
      let from = within (Ok by.value) by.comes.0 in
      let comes : Given (Ok made) = record { value = by.value; comes = (from.1, by.comes.1); holds = by.holds } in (
        (from.0, (made, comes)),
        record {
          callable = (callable by.value from.1.callable).callable by.holds.value made by.holds.comes by.holds.holds;
          answers = λ q r h. record { value = made; comes = comes; holds = h };
          readiness = λ a h. record { value = made; comes = comes; holds = h };
          futures = λ q f h. record { value = made; comes = comes; holds = h };
        },
      )
  Makes-through within callable (Err e) (inl (inl p)) = inl (within (Err e) p)
  Makes-through within callable (Err e) (inl (inr t)) =
      let from = within (Ok t.comes.value) t.comes.comes in
      inr (inl (record { value = t.value; comes = from.1.readiness _ t.comes.holds; holds = t.holds }))
  Makes-through within callable (Err e) (inr by) =
      let from = within (Ok by.value) by.comes.0 in
      inr (inr (inl (record { value = by.value; comes = (from.1, by.comes.1); holds = by.holds })))
