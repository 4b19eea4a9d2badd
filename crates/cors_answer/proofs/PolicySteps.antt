-- Over a service whose responses are one function's, the responses under a policy are the policy's answers over that function.
use Rattle.std.proofs.Common.{◌≡◌, ℕ, List, Option, Some, None, Result, Ok, Err, inl, inr, refl, sym, ◌∙◌, ap}
use Rattle.std.proofs.lemmas.Option.{same_Some}
use Rattle.http1_grammar.specs.Wire.{Response}
use Rattle.cors_rules.specs.Policy.{Policy}
use Rattle.cors_rules.specs.Answers.{Verdict, answered, augmented, by_verdict, handed_on}
use Rattle.cors_answer.specs.Faults.{fault_response}
use Rattle.cors_answer.specs.Meaning.{Augments, GivesBy, OrMemory, Responds, response_by}
use Rattle.cors_answer.specs.declared.fault.CorsFault.{CorsFault}

-- what has a response is no want of memory
not_memory : (P : Type 0) (r : Result Response CorsFault) (given : Response) → OrMemory P r → response_by fault_response r ≡ Some given → P
not_memory P r given (inl p) is = p
not_memory P r given (inr memory) is = let none : response_by fault_response r ≡ None = rw memory in cc

module _ {G E : Type 0} (response_of : E → Option Response) (policy : Policy G) where
  -- what the policy writes into a result is written into its response
  augments : (grant : Option (List ℕ)) (from : Result Response E) (r : Result Response CorsFault) (response given : Response)
      → ((x : Response) → response_by response_of from ≡ Some x → x ≡ response)
      → Augments response_of policy grant from r → response_by fault_response r ≡ Some given → given ≡ augmented policy grant response
  augments grant (Ok from) r response given over goes is =
      sym (same_Some _ _ (sym (ap (response_by fault_response) goes) ∙ is)) ∙ ap (augmented policy grant) (over from refl)
  augments grant (Err error) r response given over goes is =
      sym (same_Some _ _ (sym (ap (response_by fault_response) goes.2) ∙ is)) ∙ ap (augmented policy grant) (over goes.0 goes.1)

  pub by_policy : (v : Verdict) (inner : Result Response E → Type 0) (response : Response) → Responds response_of inner response
      → Responds fault_response (GivesBy response_of policy inner v) (by_verdict policy response v)
  by_policy (answered answer) inner response over r given gives is =
      let here : r ≡ Ok answer = not_memory _ r given gives is in
      sym (same_Some _ _ (sym (ap (response_by fault_response) here) ∙ is))
  by_policy (handed_on grant) inner response over r given gives is =
      let wraps = not_memory _ r given gives is in
      augments grant wraps.from r response given (λ x some. over wraps.from x wraps.given some) (not_memory _ r given wraps.goes is) is
