-- The services of a script are functions: the policy's answer over the handler's response, and what its expectations are answered.
use Rattle.std.proofs.Common.{◌≡◌, Bool, true, false, Some, None, Result, inl, inr, refl, sym, ◌∙◌, ap}
use Rattle.std.proofs.lemmas.Option.{same_Some}
use Rattle.http1_grammar.specs.Wire.{Response}
use Rattle.http1_grammar.specs.Answers.{Expected, Request}
use Rattle.http1_plain.specs.Views.{request_of, view}
use Rattle.http1_plain.specs.declared.request.Request.{Request as Asked}
use Rattle.service_core.specs.Meaning.{Within}
use Rattle.service_core.specs.declared.peer.Peer.{Peer}
use Rattle.cors_rules.specs.Policy.{Policy}
use Rattle.cors_rules.specs.Answers.{cors, verdict}
use Rattle.cors_answer.specs.Faults.{fault_response}
use Rattle.cors_answer.specs.Meaning.{Responds, UnderPolicy}
use Rattle.cors_answer.specs.declared.fault.CorsFault.{CorsFault}
use Rattle.cors_answer.proofs.PolicySteps as policies
use Rattle.handlers.specs.Expecting.{expect_result, expects_as, response_of_expectation}
use Rattle.handlers.specs.Handlers.{HandlerGives, handler_response, handler_result, response_of_fault}
use Rattle.handlers.specs.declared.expectation_fault.ExpectationFault.{ExpectationFault}
use Rattle.handlers.specs.declared.handler_fault.HandlerFault.{HandlerFault}
use Rattle.http1_dispatcher.specs.Requests.{responds, says}
use Rattle.script.specs.Rules.{script_rules}
use Rattle.script.specs.declared.handler.Handler.{Handler}
use Rattle.script.specs.declared.handler.Handler.TheVariants as handlers
use Rattle.script.specs.declared.policy.script_rule.ScriptRule.{ScriptRule}

-- the response of a handler's result
result_response : (h : Handler) (request : Request Peer) → responds response_of_fault (handler_result h request) ≡ Some (handler_response h request)
result_response handlers.Hello request = refl
result_response handlers.Echo request = refl
result_response handlers.Peer request = refl
result_response (handlers.Status status) request = refl
result_response handlers.Fail request = refl

-- each response of a handler is its function's; want of memory has none
handler_responds : (h : Handler) (request : Request Peer) → Responds response_of_fault (HandlerGives h request) (handler_response h request)
handler_responds h request r given (inl is) some = same_Some _ _ (sym some ∙ ap (responds response_of_fault) is ∙ result_response h request)
handler_responds h request r given (inr memory) some = let none : responds response_of_fault r ≡ None = rw memory in cc

-- a service that gives what a handler gives answers, under a policy, as the policy says
pub policed_function : (policy : Policy ScriptRule) (h : Handler) (may : Result Response HandlerFault → Type 0) (request : Asked)
    → Within may (HandlerGives h (request_of request)) → (r : Result Response CorsFault) (response : Response)
    → UnderPolicy response_of_fault script_rules policy may request r → responds fault_response r ≡ Some response
    → response ≡ cors script_rules policy (handler_response h) (request_of request)
policed_function policy h may request within r response gives is =
    policies.by_policy response_of_fault policy (verdict script_rules policy (view request.head)) may (handler_response h (request_of request))
    (λ x given m some. handler_responds h (request_of request) x given (within x m) some) r response gives is

-- what the expect service says is the function's
pub expect_function : (refuses : Bool) (request : Asked) (r : Result Asked ExpectationFault) (answer : Expected Peer)
    → r ≡ expect_result refuses request → says response_of_expectation r ≡ Some answer → answer ≡ expects_as refuses (request_of request)
expect_function true request r answer e is = same_Some _ _ (sym is ∙ ap (says response_of_expectation) e)
expect_function false request r answer e is = same_Some _ _ (sym is ∙ ap (says response_of_expectation) e)
