-- The readiness of three parts in a row is the same however they are bracketed.
use Rattle.std.proofs.Common.{Ok, Err, inl, inr}
use Rattle.futures.specs.declared.task.Poll.TheVariants.{Ready, Pending}
use Rattle.service_core.specs.Meaning.{Readiness, Through}
use Rattle.service_combine.specs.Readying.{BothReady, IsNoErr}
use Rattle.service_combine.specs.Same.{Alike}
use Rattle.service_combine.proofs.PairLemmas.{BothReady-within}

module _ {E : Type 0} (P Q : Readiness E → Type 0) where
  each-passes : (a : Readiness E) → BothReady P Q a → IsNoErr a → Through P IsNoErr × Through Q IsNoErr
  each-passes (Ready (Ok u)) b passes = (record { value = _; comes = b.0; holds = tt }, record { value = _; comes = b.1; holds = tt })
  each-passes (Ready (Err e)) b passes = absurd passes
  each-passes Pending (inl b) passes = (record { value = _; comes = b.0; holds = tt }, record { value = _; comes = b.1; holds = tt })
  each-passes Pending (inr b) passes = (record { value = _; comes = b.0; holds = tt }, b.1)

  both-pass : (a b : Readiness E) → P a → IsNoErr a → Q b → IsNoErr b → Through (BothReady P Q) IsNoErr
  both-pass (Ready (Ok u)) (Ready (Ok v)) p passes q passes-too = record { value = Ready (Ok tt); comes = (p, q); holds = tt }
  both-pass (Ready (Ok u)) (Ready (Err e)) p passes q passes-too = absurd passes-too
  both-pass (Ready (Ok u)) Pending p passes q passes-too = record { value = Pending; comes = inl (p, q); holds = tt }
  both-pass (Ready (Err e)) b p passes q passes-too = absurd passes
  both-pass Pending b p passes q passes-too =
      record { value = Pending; comes = inr (p, record { value = b; comes = q; holds = passes-too }); holds = tt }

  pass-both : Through P IsNoErr → Through Q IsNoErr → Through (BothReady P Q) IsNoErr
  pass-both p q = both-pass p.value q.value p.comes p.holds q.comes q.holds

module _ {E : Type 0} (P Q R : Readiness E → Type 0) where
  ready-right : (a : Readiness E) → BothReady (BothReady P Q) R a → BothReady P (BothReady Q R) a
  ready-right (Ready (Ok u)) b = (b.0.0, (b.0.1, b.1))
  ready-right (Ready (Err e)) (inl (inl p)) = inl p
  ready-right (Ready (Err e)) (inl (inr b)) = inr (b.0, inl b.1)
  ready-right (Ready (Err e)) (inr b) =
      let each = each-passes P Q b.0.value b.0.comes b.0.holds in
      inr (each.0, inr (each.1, b.1))
  ready-right Pending (inl b) = inl (b.0.0, inl (b.0.1, b.1))
  ready-right Pending (inr (inl b, r)) = inl (b.0, inr (b.1, r))
  ready-right Pending (inr (inr b, r)) = inr (b.0, pass-both Q R b.1 r)

  ready-left : (a : Readiness E) → BothReady P (BothReady Q R) a → BothReady (BothReady P Q) R a
  ready-left (Ready (Ok u)) b = ((b.0, b.1.0), b.1.1)
  ready-left (Ready (Err e)) (inl p) = inl (inl p)
  ready-left (Ready (Err e)) (inr (p, inl q)) = inl (inr (p, q))
  ready-left (Ready (Err e)) (inr (p, inr b)) = inr (pass-both P Q p b.0, b.1)
  ready-left Pending (inl (p, inl b)) = inl ((p, b.0), b.1)
  ready-left Pending (inl (p, inr b)) = inr (inl (p, b.0), b.1)
  ready-left Pending (inr (p, t)) =
      let each = each-passes Q R t.value t.comes t.holds in
      inr (inr (p, each.0), each.1)

module _ {E : Type 0} (P P' Q Q' R R' : Readiness E → Type 0) where
  pub ready-alike : Alike P' P → Alike Q' Q → Alike R' R → Alike (BothReady (BothReady P Q) R) (BothReady P' (BothReady Q' R'))
  ready-alike p q r = (
    λ a b. BothReady-within P P' (BothReady Q R) (BothReady Q' R') p.1 (BothReady-within Q Q' R R' q.1 r.1) a (ready-right P Q R a b),
    λ a b. ready-left P Q R a (BothReady-within P' P (BothReady Q' R') (BothReady Q R) p.0 (BothReady-within Q' Q R' R q.0 r.0) a b),
  )
