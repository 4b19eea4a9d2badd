-- A connection under way.
use Rattle.std.specs.Prelude.{◌≡◌, ℕ, ◌+◌, Bool, true, List, [], ◌++◌, length, drop, IfSome, ⊤, if◌then◌else◌}
use Rattle.http1_grammar.specs.Wire.{Response, wire_of, refusal, continue_line}
use Rattle.http1_grammar.specs.Answers as grammar
use Rattle.http1_grammar.specs.Answers.{Answers, Expected, after, bare, done, goes_on, is_answered, up}
use Rattle.http1_grammar.specs.Reading as reading
use Rattle.http1_grammar.specs.Reading.{Reading as Reader, Decision, needs_more, refuses, a_head, a_body, decision, fed, IsAtBody}
use Rattle.http1_plain.specs.Views.{minor_version, request_of, view}
use Rattle.service_core.specs.declared.link.Link.{Ghosts as LinkOf}
use Rattle.service_core.specs.declared.peer.Peer.{Peer}
use Rattle.http_flow.specs.Upgrading.{Grew}
use Rattle.http1_dispatcher.specs.Requests.{Functions, served}
use Rattle.http1_dispatcher.specs.declared.exchange.Exchange.{Exchange}
use Rattle.http1_dispatcher.specs.declared.exchange.Reply.{Reply}
use Rattle.http1_dispatcher.specs.declared.exchange.Stage.{Stage}
use Rattle.http1_dispatcher.specs.declared.exchange.Stage.TheVariants.{Reading, Asking, Awaiting, Calling, Upgrading, Closing}
use Rattle.http1_dispatcher.specs.declared.rules.Rules.{Rules}

-- the bytes of a response
abbrev pub text_of : Reply → Response → Bool → List ℕ
text_of reply response closing = wire_of reply.method (minor_version reply.version) response closing

module _ (rules : Rules) (peer : Peer) (f : Functions) where
  -- a response, and the answers to the bytes behind its request where it does not close
  abbrev pub answered : List ℕ → Bool → List ℕ → Answers
  answered response closing bytes = if closing then (response, done) else after response (served rules peer f bytes)

  -- the answers from a body on, by what its reader decides
  abbrev pub owed_behind : grammar.Request Peer → Reply → Decision → Answers
  owed_behind request reply needs_more = ([], done)
  owed_behind request reply (refuses status) = (refusal status, done)
  owed_behind request reply (a_head other rest) = ([], done)
  owed_behind request reply (a_body data' rest) =
      answered (text_of reply (f.handler (record request { body = data' })) reply.closing) reply.closing rest

  -- the answers from what the expect service says on
  abbrev pub owed_expected : Reply → Decision → Expected Peer → Answers
  owed_expected reply body (goes_on request) = after continue_line (owed_behind request reply body)
  owed_expected reply body (is_answered response) = (text_of reply response true, done)

  -- the answers still to come but for those that wait to be written, where the reader is this
  abbrev pub owed_at : Stage → Reader → Answers
  owed_at Reading reader = served rules peer f reader.unread
  owed_at (Asking request reply) reader = owed_expected reply (decision reader) (f.expect (request_of request.value))
  owed_at (Awaiting head from reply) reader = owed_behind (bare (view head) from) reply (decision reader)
  owed_at (Calling request reply) reader =
      answered (text_of reply (f.handler (request_of request.value)) reply.closing) reply.closing reader.unread
  owed_at (Upgrading head) reader = ([], up (view head) reader.unread)
  owed_at Closing reader = ([], done)

  -- the answers still to be written, once `more` bytes have come
  abbrev pub owed : Exchange → List ℕ → Answers
  owed exchange more = after exchange.out (owed_at exchange.stage (fed exchange.reader more))

-- where the reader stands at a stage, and that a link is handed over only where that is allowed
abbrev pub Stands : Bool → Stage → reading.Stage → Type 0
Stands has_upgrade Reading stage = stage ≡ reading.at_head
Stands has_upgrade (Asking request reply) stage = IsAtBody stage
Stands has_upgrade (Awaiting head from reply) stage = IsAtBody stage
Stands has_upgrade (Calling request reply) stage = stage ≡ reading.at_head
Stands has_upgrade (Upgrading head) stage = has_upgrade ≡ true
Stands has_upgrade Closing stage = ⊤

-- the reader stands where the exchange does, and goes by these rules
pub record IsPlaced (rules : Rules) (exchange : Exchange) : Type 0 where
  pub limits_are : exchange.reader.limits ≡ rules.limits
  pub stands : Stands rules.has_upgrade exchange.stage exchange.reader.stage

module _ {L : Type 0} (g : LinkOf L) (before link : L) where
  -- these bytes were taken between the two
  pub record Took (got : List ℕ) (all : List ℕ) : Type 0 where
    pub count : g.taken link ≡ g.taken before + length got
    pub bytes : got ++ drop (g.taken link) all ≡ drop (g.taken before) all

  -- it is the same link, and nothing has failed
  pub record IsSound : Type 0 where
    pub same : g.identity link ≡ g.identity before
    pub read_faults : g.read_faults link ≡ g.read_faults before
    pub write_faults : g.write_faults link ≡ g.write_faults before

  -- What was taken and written since the service began. The answers to any bytes are those written and those owed.
  pub record Progress (served owes : List ℕ → Answers) : Type 0 where
    pub got : List ℕ
    pub put : List ℕ
    pub took : IfSome (g.identity before).held (Took got)
    pub wrote : Grew (g.written before) (g.written link) put
    pub goes : (more : List ℕ) → served (got ++ more) ≡ after put (owes more)
