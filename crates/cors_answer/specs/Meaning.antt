-- What a service under a policy may give.
use Rattle.std.specs.Prelude.{◌≡◌, ◌⊎◌, ℕ, List, Option, Some, Result, Ok, Err}
use Rattle.futures.specs.declared.task.Poll.TheVariants.{Ready, Pending}
use Rattle.http1_grammar.specs.Wire.{Response}
use Rattle.http1_plain.specs.Views.{view}
use Rattle.http1_plain.specs.declared.request.Request.{Request}
use Rattle.cors_rules.specs.Policy.{Policy}
use Rattle.cors_rules.specs.Origins.{Rules}
use Rattle.cors_rules.specs.Answers.{Verdict, answered, handed_on, augmented, verdict}
use Rattle.cors_answer.specs.declared.fault.CorsFault.{CorsFault}
use Rattle.cors_answer.specs.declared.fault.CorsFault.TheVariants.{Answered, Memory}
use Rattle.service_core.specs.Meaning.{Readiness}

-- the result, with what the policy writes: an error goes by its response
abbrev pub Augments : {G E : Type 0} → (E → Option Response) → Policy G → Option (List ℕ)
    → Result Response E → Result Response CorsFault → Type 0
Augments response_of policy grant (Ok response) result = result ≡ Ok (augmented policy grant response)
Augments response_of policy grant (Err error) result =
    (response : Response) × (response_of error ≡ Some response) × (result ≡ Err (Answered (augmented policy grant response)))

-- memory may run out in its place
abbrev pub OrMemory : Type 0 → Result Response CorsFault → Type 0
OrMemory P result = P ⊎ (result ≡ Err Memory)

-- some result of the inner service, with what the policy writes
pub record Wraps {G E : Type 0} (response_of : E → Option Response) (policy : Policy G) (grant : Option (List ℕ))
    (inner : Result Response E → Type 0) (result : Result Response CorsFault) : Type 0 where
  pub from : Result Response E
  pub given : inner from
  pub goes : OrMemory (Augments response_of policy grant from result) result

-- the answer that was found here, or the inner service's
abbrev pub GivesBy : {G E : Type 0} → (E → Option Response) → Policy G → (Result Response E → Type 0) → Verdict
    → Result Response CorsFault → Type 0
GivesBy response_of policy inner (answered response) result = OrMemory (result ≡ Ok response) result
GivesBy response_of policy inner (handed_on grant) result = OrMemory (Wraps response_of policy grant inner result) result

-- what may be given to a request under the policy, where the inner service may give results of `inner`
abbrev pub UnderPolicy : {G E : Type 0} → (E → Option Response) → Rules G → Policy G → (Result Response E → Type 0) → Request
    → Result Response CorsFault → Type 0
UnderPolicy response_of allows policy inner request = GivesBy response_of policy inner (verdict allows policy (view request.head))

-- the inner readiness, with an error's response in its place
abbrev pub ReadyAs : {E : Type 0} → (E → Option Response) → Readiness E → Readiness CorsFault → Type 0
ReadyAs response_of Pending answer = answer ≡ Pending
ReadyAs response_of (Ready (Ok u)) answer = answer ≡ Ready (Ok tt)
ReadyAs response_of (Ready (Err error)) answer =
    (answer ≡ Ready (Err Memory)) ⊎ ((response : Response) × (response_of error ≡ Some response) × (answer ≡ Ready (Err (Answered response))))

pub record ReadyBy {E : Type 0} (response_of : E → Option Response) (inner : Readiness E → Type 0)
    (answer : Readiness CorsFault) : Type 0 where
  pub from : Readiness E
  pub given : inner from
  pub goes : ReadyAs response_of from answer

-- the response of a result, unless it stands for want of memory
abbrev pub response_by : {E : Type 0} → (E → Option Response) → Result Response E → Option Response
response_by response_of (Ok response) = Some response
response_by response_of (Err error) = response_of error

-- each result that has a response has this one
abbrev pub Responds : {E : Type 0} → (E → Option Response) → (Result Response E → Type 0) → Response → Type 0
Responds {E} response_of may response =
    (result : Result Response E) (given : Response) → may result → response_by response_of result ≡ Some given → given ≡ response
