-- Laws of combinators, over the relations of any parts.
use Rattle.std.proofs.Common.{◌≡◌, ◌∙◌, Result, Ok, Err, inl, inr, refl, sym, rules}
use Rattle.service_core.specs.Meaning.{Follows, Within}
use Rattle.service_combine.specs.Meaning.{Chained, Errs, IsErr, Mapped, OkBy, OkThen, OnlyErrs, OrRefused}
use Rattle.service_combine.specs.Same.{Alike, IsThrough}
use Rattle.service_combine.proofs.MeaningLemmas.{Follows-within, OrRefused-within}
use Rattle.service_combine.proofs.PairLemmas.{Chained-both}

apart : {A E : Type 0} (r : Result A E) (y : A) (e : E) → r ≡ Ok y → r ≡ Err e → ⊥
apart r y e ok err = let no : Ok y ≡ Err e = sym ok ∙ err in search rules

same-ok : {A E : Type 0} (r : Result A E) (y z : A) → r ≡ Ok y → r ≡ Ok z → y ≡ z
same-ok r y z one other = cc

same-err : {A E : Type 0} (r : Result A E) (d e : E) → r ≡ Err d → r ≡ Err e → d ≡ e
same-err r d e one other = cc

module _ {X Y Z E : Type 0} (P : Result X E → Type 0) (Q : X → Result Y E → Type 0) (R : Y → Result Z E → Type 0) (refusal : E) where
  abbrev Left : Result Z E → Type 0
  Left = OrRefused (Chained (OrRefused (Chained P Q) refusal) R) refusal

  abbrev Right : Result Z E → Type 0
  Right = OrRefused (Chained P (λ x. OrRefused (Chained (Q x) R) refusal)) refusal

  err-right : (from : Result X E) → P from → (mid : Result Y E) (e : E) → from ≡ Err e → mid ≡ Err e
      → (r : Result Z E) → OkThen R mid r → Right r
  err-right from given mid e is is-mid r (inl ok) = absurd (apart mid ok.0 e ok.1 is-mid)
  err-right from given mid e is is-mid r (inr err) =
      let same : err.0 ≡ e = same-err mid err.0 e err.1 is-mid in
      inl (record { value = from; comes = given; holds = inr (e, is, rw same at err.2) })

  refused-right : (mid : Result Y E) → mid ≡ Err refusal → (r : Result Z E) → OkThen R mid r → Right r
  refused-right mid is r (inl ok) = absurd (apart mid ok.0 refusal ok.1 is)
  refused-right mid is r (inr err) =
      let same : err.0 ≡ refusal = same-err mid err.0 refusal err.1 is in
      inr (rw same at err.2)

  chain-right : (from : Result X E) → P from → (mid : Result Y E) → OkThen Q from mid → (r : Result Z E) → OkThen R mid r → Right r
  chain-right from given mid (inl ok) r goes =
      inl (record { value = from; comes = given; holds = inl (ok.0, ok.1, inl (record { value = mid; comes = ok.2; holds = goes })) })
  chain-right from given mid (inr err) r goes = err-right from given mid err.0 err.1 err.2 r goes

  to-right : (mid : Result Y E) → OrRefused (Chained P Q) refusal mid → (r : Result Z E) → OkThen R mid r → Right r
  to-right mid (inl n) r goes = chain-right n.value n.comes mid n.holds r goes
  to-right mid (inr is) r goes = refused-right mid is r goes

  pub and_then-right : (r : Result Z E) → Left r → Right r
  and_then-right r (inl m) = to-right m.value m.comes r m.holds
  and_then-right r (inr is) = inr is

  to-left : (from : Result X E) → P from → (r : Result Z E) → OkThen (λ x. OrRefused (Chained (Q x) R) refusal) from r → Left r
  to-left from given r (inl (x, is, inl n)) = inl (record {
    value = n.value;
    comes = inl (record { value = from; comes = given; holds = inl (x, is, n.comes) });
    holds = n.holds;
  })
  to-left from given r (inl (x, is, inr refused)) = inr refused
  to-left from given r (inr err) = inl (record {
    value = Err err.0;
    comes = inl (record { value = from; comes = given; holds = inr (err.0, err.1, refl) });
    holds = inr (err.0, refl, err.2);
  })

  pub and_then-left : (r : Result Z E) → Right r → Left r
  and_then-left r (inl m) = to-left m.value m.comes r m.holds
  and_then-left r (inr is) = inr is

module _ {X Y Z E : Type 0} (P P' : Result X E → Type 0) (Q Q' : X → Result Y E → Type 0) (R R' : Y → Result Z E → Type 0) (refusal : E) where
  Right-within : Within P P' → ((x : X) → Within (Q x) (Q' x)) → ((y : Y) → Within (R y) (R' y))
      → Within (Right P Q R refusal) (Right P' Q' R' refusal)
  Right-within p q r = OrRefused-within _ _ refusal (Chained-both P P' _ _ p
      (λ x. OrRefused-within _ _ refusal (Chained-both (Q x) (Q' x) R R' (q x) r)))

module _ {X Y Z E : Type 0} (P P' : Result X E → Type 0) (Q Q' : X → Result Y E → Type 0) (R R' : Y → Result Z E → Type 0) (refusal : E) where
  -- three parts in a row, bracketed to the left, and others that mean the same, bracketed to the right
  pub and_then-alike : Alike P' P → ((x : X) → Alike (Q' x) (Q x)) → ((y : Y) → Alike (R' y) (R y))
      → Alike (Left P Q R refusal) (Right P' Q' R' refusal)
  and_then-alike p q r = (
    λ z m. Right-within P P' Q Q' R R' refusal p.1 (λ x. (q x).1) (λ y. (r y).1) z (and_then-right P Q R refusal z m),
    λ z m. and_then-left P Q R refusal z (Right-within P' P Q' Q R' R refusal p.0 (λ x. (q x).0) (λ y. (r y).0) z m),
  )

module _ {A B E : Type 0} (P : Result A E → Type 0) (only : OnlyErrs P) (refusal : E) where
  errs-chain : (second : A → Result B E → Type 0) (from : Result A E) (r : Result B E) → P from → OkThen second from r
      → OrRefused (Follows (Errs P) IsErr) refusal r
  errs-chain second from r given (inl (y, is, goes)) = absurd (only y (rw is at given))
  errs-chain second from r given (inr (e, is, is-r)) = inl (record { value = e; comes = rw is at given; holds = is-r })

  -- of a part that gives only errors
  pub errs-and_then : (second : A → Result B E → Type 0)
      → Within (OrRefused (Chained P second) refusal) (OrRefused (Follows (Errs P) IsErr) refusal)
  errs-and_then second r (inl m) = errs-chain second m.value r m.comes m.holds
  errs-and_then second r (inr is) = inr is

  errs-next : (second : Result A E → Result B E → Type 0) (from : Result A E) (r : Result B E) → P from → second from r
      → OrRefused (Follows (Errs P) (λ e. second (Err e))) refusal r
  errs-next second (Ok y) r given goes = absurd (only y given)
  errs-next second (Err e) r given goes = inl (record { value = e; comes = given; holds = goes })

  pub errs-then : (second : Result A E → Result B E → Type 0)
      → Within (OrRefused (Follows P second) refusal) (OrRefused (Follows (Errs P) (λ e. second (Err e))) refusal)
  errs-then second r (inl m) = errs-next second m.value r m.comes m.holds
  errs-then second r (inr is) = inr is

module _ {X Y Z E : Type 0} (P : Result X E → Type 0) (f : X → Y → Type 0) (g : Y → Z → Type 0) (h : X → Z → Type 0)
    (through : IsThrough f g h) (refusal : E) where
  abbrev Twice : Result Z E → Type 0
  Twice = OrRefused (Mapped (OrRefused (Mapped P f) refusal) g) refusal

  abbrev Once : Result Z E → Type 0
  Once = OrRefused (Mapped P h) refusal

  ok-once : (from : Result X E) → P from → (mid : Result Y E) (x : X) (y : Y) → from ≡ Ok x → mid ≡ Ok y → f x y
      → (r : Result Z E) → OkBy g mid r → Once r
  ok-once from given mid x y is is-mid fxy r (inl (y', z, is', is-r, gyz)) =
      let same : y' ≡ y = same-ok mid y' y is' is-mid in
      inl (record {
        value = from;
        comes = given;
        holds = inl (x, z, is, is-r, (through x z).1 (record { value = y; comes = fxy; holds = rw same at gyz }));
      })
  ok-once from given mid x y is is-mid fxy r (inr err) = absurd (apart mid y err.0 is-mid err.1)

  err-once : (from : Result X E) → P from → (mid : Result Y E) (e : E) → from ≡ Err e → mid ≡ Err e
      → (r : Result Z E) → OkBy g mid r → Once r
  err-once from given mid e is is-mid r (inl ok) = absurd (apart mid ok.0 e ok.2 is-mid)
  err-once from given mid e is is-mid r (inr err) =
      let same : err.0 ≡ e = same-err mid err.0 e err.1 is-mid in
      inl (record { value = from; comes = given; holds = inr (e, is, rw same at err.2) })

  by-once : (from : Result X E) → P from → (mid : Result Y E) → OkBy f from mid → (r : Result Z E) → OkBy g mid r → Once r
  by-once from given mid (inl (x, y, is, is-mid, fxy)) r goes = ok-once from given mid x y is is-mid fxy r goes
  by-once from given mid (inr err) r goes = err-once from given mid err.0 err.1 err.2 r goes

  refused-once : (mid : Result Y E) → mid ≡ Err refusal → (r : Result Z E) → OkBy g mid r → Once r
  refused-once mid is r (inl ok) = absurd (apart mid ok.0 refusal ok.2 is)
  refused-once mid is r (inr err) =
      let same : err.0 ≡ refusal = same-err mid err.0 refusal err.1 is in
      inr (rw same at err.2)

  to-once : (mid : Result Y E) → OrRefused (Mapped P f) refusal mid → (r : Result Z E) → OkBy g mid r → Once r
  to-once mid (inl n) r goes = by-once n.value n.comes mid n.holds r goes
  to-once mid (inr is) r goes = refused-once mid is r goes

  pub map-once : (r : Result Z E) → Twice r → Once r
  map-once r (inl m) = to-once m.value m.comes r m.holds
  map-once r (inr is) = inr is

  to-twice : (from : Result X E) → P from → (r : Result Z E) → OkBy h from r → Twice r
  to-twice from given r (inl (x, z, is, is-r, hxz)) =
      let mid = (through x z).0 hxz in
      inl (record {
        value = Ok mid.value;
        comes = inl (record { value = from; comes = given; holds = inl (x, mid.value, is, refl, mid.comes) });
        holds = inl (mid.value, z, refl, is-r, mid.holds);
      })
  to-twice from given r (inr err) = inl (record {
    value = Err err.0;
    comes = inl (record { value = from; comes = given; holds = inr (err.0, err.1, refl) });
    holds = inr (err.0, refl, err.2);
  })

  pub map-twice : (r : Result Z E) → Once r → Twice r
  map-twice r (inl m) = to-twice m.value m.comes r m.holds
  map-twice r (inr is) = inr is

module _ {X Y Z E : Type 0} (P P' : Result X E → Type 0) (f : X → Y → Type 0) (g : Y → Z → Type 0) (h : X → Z → Type 0)
    (through : IsThrough f g h) (refusal : E) where
  Once-within : (S T : Result X E → Type 0) → Within S T → Within (Once S f g h through refusal) (Once T f g h through refusal)
  Once-within S T within = OrRefused-within _ _ refusal (Follows-within S T (OkBy h) within)

  -- a part that is mapped twice, and another that means the same and is mapped once
  pub map-alike : Alike P' P → Alike (Twice P f g h through refusal) (Once P' f g h through refusal)
  map-alike p = (
    λ z m. Once-within P P' p.1 z (map-once P f g h through refusal z m),
    λ z m. map-twice P f g h through refusal z (Once-within P' P p.0 z m),
  )
