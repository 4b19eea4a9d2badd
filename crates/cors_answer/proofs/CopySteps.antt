-- What may be given under a policy grows with what the service under it may give.
use Rattle.std.proofs.Common.{◌≡◌, Option, Result, inl, inr, subst, sym}
use Rattle.http1_grammar.specs.Wire.{Response}
use Rattle.http1_plain.specs.Views.{view}
use Rattle.http1_plain.specs.declared.request.Request.{Request}
use Rattle.cors_rules.specs.Policy.{Policy}
use Rattle.cors_rules.specs.Origins.{Rules}
use Rattle.cors_rules.specs.Answers.{Verdict, answered, handed_on, verdict}
use Rattle.service_core.specs.Meaning.{Readiness, Within}
use Rattle.cors_answer.specs.Meaning.{GivesBy, ReadyBy, UnderPolicy}

module _ {E : Type 0} (response_of : E → Option Response) where
  gives_within : {G : Type 0} (policy : Policy G) (v : Verdict) (P Q : Result Response E → Type 0) → Within P Q
      → Within (GivesBy response_of policy P v) (GivesBy response_of policy Q v)
  gives_within policy (answered answer) P Q within r gives = gives
  gives_within policy (handed_on grant) P Q within r (inl wraps) =
      inl (record { from = wraps.from; given = within wraps.from wraps.given; goes = wraps.goes })
  gives_within policy (handed_on grant) P Q within r (inr memory) = inr memory

  pub under_within : {G : Type 0} (allows : Rules G) (policy copy : Policy G) → copy ≡ policy → (P Q : Result Response E → Type 0) → Within P Q
      → (q : Request) → Within (UnderPolicy response_of allows copy P q) (UnderPolicy response_of allows policy Q q)
  under_within allows policy copy same P Q within q =
      subst (λ (p : Policy _). Within (UnderPolicy response_of allows p P q) (UnderPolicy response_of allows policy Q q)) (sym same)
      (gives_within policy (verdict allows policy (view q.head)) P Q within)

  pub ready_within : (P Q : Readiness E → Type 0) → Within P Q → Within (ReadyBy response_of P) (ReadyBy response_of Q)
  ready_within P Q within answer ready = record { from = ready.from; given = within ready.from ready.given; goes = ready.goes }
