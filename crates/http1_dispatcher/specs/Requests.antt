-- What the services of a connection answer, as functions.
use Rattle.std.specs.Prelude.{◌≡◌, ◌⊎◌, ℕ, true, false, List, [], Option, Some, Result, Ok, Err}
use Rattle.std.specs.Option.{option_map}
use Rattle.http1_grammar.specs.Head.{Head}
use Rattle.http1_grammar.specs.Tokens.{expects}
use Rattle.http1_grammar.specs.Wire.{Response, continue_line}
use Rattle.http1_grammar.specs.Answers as grammar
use Rattle.http1_grammar.specs.Answers.{Answers, Expected, Settings, answers, bare, goes_on, is_answered}
use Rattle.http1_plain.specs.Views.{request_of}
use Rattle.http1_plain.specs.declared.request.Request.{Request}
use Rattle.service_core.specs.declared.peer.Peer.{Peer}
use Rattle.http1_dispatcher.specs.declared.rules.Rules.{Rules}

abbrev pub Handler : Type 0
Handler = grammar.Request Peer → Response

abbrev pub Expect : Type 0
Expect = grammar.Request Peer → Expected Peer

-- what the service of requests and the expect service answer
pub record Functions : Type 0 where
  pub handler : Handler
  pub expect : Expect

-- What the two services may give, and what their errors mean: the response of each, where it has one.
pub record Relations (E XE : Type 0) : Type 1 where
  pub meaning : E → Option Response
  pub may : Request → Result Response E → Type 0
  pub refusing : XE → Option Response
  pub asks : Request → Result Request XE → Type 0

-- the response of a result, where it has one
abbrev pub responds : {E : Type 0} → (E → Option Response) → Result Response E → Option Response
responds meaning (Ok response) = Some response
responds meaning (Err e) = meaning e

-- what a result of an expect service says, where it says something
abbrev pub says : {XE : Type 0} → (XE → Option Response) → Result Request XE → Option (Expected Peer)
says refusing (Ok request) = Some (goes_on (request_of request))
says refusing (Err e) = option_map is_answered (refusing e)

-- each result that has a response has the one of the handler
abbrev pub IsFunction : {E : Type 0} → (E → Option Response) → (Request → Result Response E → Type 0) → Handler → Type 0
IsFunction {E} meaning may h =
    (request : Request) (r : Result Response E) (response : Response) → may request r → responds meaning r ≡ Some response
    → response ≡ h (request_of request)

-- each result that says something says what the function does
abbrev pub IsExpect : {XE : Type 0} → (XE → Option Response) → (Request → Result Request XE → Type 0) → Expect → Type 0
IsExpect {XE} refusing asks e =
    (request : Request) (r : Result Request XE) (answer : Expected Peer) → asks request r → says refusing r ≡ Some answer
    → answer ≡ e (request_of request)

-- both are what the services answer
abbrev pub AreFunctions : {E XE : Type 0} → Relations E XE → Functions → Type 0
AreFunctions r f = IsFunction r.meaning r.may f.handler × IsExpect r.refusing r.asks f.expect

abbrev pub settings_of : Rules → Functions → Settings Peer
settings_of rules f = record {
  limits = rules.limits;
  keeps_alive = rules.keeps_alive;
  handler = f.handler;
  expect = f.expect;
  has_upgrade = rules.has_upgrade;
}

-- the answers to all the bytes that a connection will ever be given
abbrev pub served : Rules → Peer → Functions → List ℕ → Answers
served rules peer f bytes = answers (settings_of rules f) bytes peer

-- the request whose body may come behind a head, and what is told before: `100 Continue` where the head waits for that
abbrev pub MayCome : Expect → Peer → Head → grammar.Request Peer → List ℕ → Type 0
MayCome e peer head request told =
    ((expects head ≡ false) × (request ≡ bare head peer) × (told ≡ []))
    ⊎ ((expects head ≡ true) × (e (bare head peer) ≡ goes_on request) × (told ≡ continue_line))
