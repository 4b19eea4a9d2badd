-- What a call under a policy may give, by its verdict: want of memory, the answer that was found, or what the inner future gives.
use Rattle.std.proofs.Common.{◌≡◌, List, ℕ, Option, Some, Result, Ok, Err, inl, inr, subst, sym}
use Rattle.std.proofs.lemmas.Option.{same_Some}
use Rattle.http1_grammar.specs.Wire.{Response}
use Rattle.cors_rules.specs.Policy.{Policy}
use Rattle.cors_rules.specs.Answers.{Verdict, answered, handed_on}
use Rattle.service_core.specs.Meaning.{Within}
use Rattle.cors_answer.specs.Meaning.{Augments, GivesBy, OrMemory, Wraps}
use Rattle.cors_answer.specs.declared.fault.CorsFault.{CorsFault}
use Rattle.cors_answer.specs.declared.fault.CorsFault.TheVariants.{Memory}

module _ {G E : Type 0} (response_of : E → Option Response) (policy : Policy G) (inner : Result Response E → Type 0) where
  pub memory_given : (v : Verdict) (x : Result Response CorsFault) → Some (Err Memory) ≡ Some x → GivesBy response_of policy inner v x
  memory_given (answered response) x same = inr (sym (same_Some _ _ same))
  memory_given (handed_on grant) x same = inr (sym (same_Some _ _ same))

  pub answer_given : (response : Response) (v : Verdict) → answered response ≡ v → (x : Result Response CorsFault)
      → Some (Ok response) ≡ Some x → GivesBy response_of policy inner v x
  answer_given response v is x same = subst (λ w. GivesBy response_of policy inner w x) is (inl (sym (same_Some _ _ same)))

  pub inner_given : (grant : Option (List ℕ)) (v : Verdict) → handed_on grant ≡ v → (own : Policy G) → own ≡ policy
      → (gives : Result Response E → Type 0) → Within gives inner → (x : Result Response CorsFault)
      → Wraps response_of own grant gives x → GivesBy response_of policy inner v x
  inner_given grant v is own same gives within x wraps =
      subst (λ w. GivesBy response_of policy inner w x) is
      (inl (record {
        from = wraps.from;
        given = within wraps.from wraps.given;
        goes = subst (λ p. OrMemory (Augments response_of p grant wraps.from x) x) same wraps.goes;
      }))
