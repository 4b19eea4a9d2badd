-- How the exchange of a connection goes on.
use Rattle.std.specs.Prelude.{◌≡◌, ◌⊎◌, ◌<◌, ◌≤◌, ℕ, ◌+◌, ◌*◌, ◌&&◌, true, false, Option, Some, None, List, [], length, ⊤}
use Rattle.http1_grammar.specs.Wire.{Response}
use Rattle.http1_grammar.specs.Answers.{Expected}
use Rattle.http1_grammar.specs.Reading.{needs_more, decision}
use Rattle.http1_grammar.specs.Tokens.{closes, expects, upgrades}
use Rattle.http1_plain.specs.Views.{request_of, view}
use Rattle.http1_plain.specs.declared.request.Request.{Request}
use Rattle.http1_plain.specs.declared.request_head.RequestHead.{RequestHead}
use Rattle.service_core.specs.declared.peer.Peer.{Peer}
use Rattle.http1_dispatcher.specs.Requests.{Expect, Functions, Handler}
use Rattle.http1_dispatcher.specs.Progress.{owed, IsPlaced}
use Rattle.http1_dispatcher.specs.declared.exchange.Exchange.{Exchange}
use Rattle.http1_dispatcher.specs.declared.exchange.Reply.{Reply}
use Rattle.http1_dispatcher.specs.declared.exchange.Stage.{Stage}
use Rattle.http1_dispatcher.specs.declared.exchange.Stage.TheVariants.{Reading, Asking, Awaiting, Calling, Upgrading, Closing}
use Rattle.http1_dispatcher.specs.declared.begin.Begun.{Begun}
use Rattle.http1_dispatcher.specs.declared.begin.Begun.TheVariants.{NeedMore, On, Called}
use Rattle.http1_dispatcher.specs.declared.rules.Rules.{Rules}

-- the same answers are owed, for each pair of functions
abbrev pub OwesSame : Rules → Peer → Exchange → Exchange → Type 0
OwesSame rules peer old new = (f : Functions) (more : List ℕ) → owed rules peer f new more ≡ owed rules peer f old more

-- bytes decide the next step
abbrev pub IsOpen : Stage → Type 0
IsOpen Reading = ⊤
IsOpen (Asking request reply) = ⊥
IsOpen (Awaiting head from reply) = ⊤
IsOpen (Calling request reply) = ⊥
IsOpen (Upgrading head) = ⊥
IsOpen Closing = ⊥

-- more bytes decide the next step
pub record IsUndecided (exchange : Exchange) : Type 0 where
  pub is_open : IsOpen exchange.stage
  pub waits : decision exchange.reader ≡ needs_more

-- it waits for a body
abbrev pub IsAwaiting : Stage → Type 0
IsAwaiting Reading = ⊥
IsAwaiting (Asking request reply) = ⊥
IsAwaiting (Awaiting head from reply) = ⊤
IsAwaiting (Calling request reply) = ⊥
IsAwaiting (Upgrading head) = ⊥
IsAwaiting Closing = ⊥

-- it has called the service
abbrev pub IsCall : Stage → Type 0
IsCall Reading = ⊥
IsCall (Asking request reply) = ⊥
IsCall (Awaiting head from reply) = ⊥
IsCall (Calling request reply) = ⊤
IsCall (Upgrading head) = ⊥
IsCall Closing = ⊥

-- it has asked the expect service
abbrev pub IsAsk : Stage → Type 0
IsAsk Reading = ⊥
IsAsk (Asking request reply) = ⊤
IsAsk (Awaiting head from reply) = ⊥
IsAsk (Calling request reply) = ⊥
IsAsk (Upgrading head) = ⊥
IsAsk Closing = ⊥

-- another protocol takes its link over
abbrev pub IsUpgrade : Stage → Type 0
IsUpgrade Reading = ⊥
IsUpgrade (Asking request reply) = ⊥
IsUpgrade (Awaiting head from reply) = ⊥
IsUpgrade (Calling request reply) = ⊥
IsUpgrade (Upgrading head) = ⊤
IsUpgrade Closing = ⊥

-- no service was called that has not answered
abbrev pub IsNoCall : Stage → Type 0
IsNoCall Reading = ⊤
IsNoCall (Asking request reply) = ⊥
IsNoCall (Awaiting head from reply) = ⊤
IsNoCall (Calling request reply) = ⊥
IsNoCall (Upgrading head) = ⊤
IsNoCall Closing = ⊤

-- it calls the service with this request
abbrev pub IsCalling : Stage → Request → Type 0
IsCalling Reading asked = ⊥
IsCalling (Asking request reply) asked = ⊥
IsCalling (Awaiting head from reply) asked = ⊥
IsCalling (Calling request reply) asked = request.value ≡ asked
IsCalling (Upgrading head) asked = ⊥
IsCalling Closing asked = ⊥

-- it asks the expect service with this request
abbrev pub IsAsking : Stage → Request → Type 0
IsAsking Reading asked = ⊥
IsAsking (Asking request reply) asked = request.value ≡ asked
IsAsking (Awaiting head from reply) asked = ⊥
IsAsking (Calling request reply) asked = ⊥
IsAsking (Upgrading head) asked = ⊥
IsAsking Closing asked = ⊥

-- it calls a service with this request: that of requests, or the expect service
abbrev pub IsCalledWith : Stage → Request → Type 0
IsCalledWith Reading asked = ⊥
IsCalledWith (Asking request reply) asked = request.value ≡ asked
IsCalledWith (Awaiting head from reply) asked = ⊥
IsCalledWith (Calling request reply) asked = request.value ≡ asked
IsCalledWith (Upgrading head) asked = ⊥
IsCalledWith Closing asked = ⊥

-- the request that it calls a service with is put by
abbrev pub IsPutBy : Option Request → Stage → Type 0
IsPutBy None stage = ⊥
IsPutBy (Some asked) stage = IsCalledWith stage asked

-- where a service is to be called, the request is put by
abbrev pub PutsBy : Begun → Exchange → Type 0
PutsBy NeedMore exchange = ⊤
PutsBy On exchange = ⊤
PutsBy Called exchange = IsPutBy exchange.request exchange.stage

-- the handler's response to the request that it has called the service with
abbrev pub IsAnswer : Stage → Handler → Response → Type 0
IsAnswer Reading h response = ⊥
IsAnswer (Asking request reply) h response = ⊥
IsAnswer (Awaiting head from reply) h response = ⊥
IsAnswer (Calling request reply) h response = response ≡ h (request_of request.value)
IsAnswer (Upgrading head) h response = ⊥
IsAnswer Closing h response = ⊥

-- what the function says to the request that it has asked the expect service with
abbrev pub IsExpected : Stage → Expect → Expected Peer → Type 0
IsExpected Reading e answer = ⊥
IsExpected (Asking request reply) e answer = answer ≡ e (request_of request.value)
IsExpected (Awaiting head from reply) e answer = ⊥
IsExpected (Calling request reply) e answer = ⊥
IsExpected (Upgrading head) e answer = ⊥
IsExpected Closing e answer = ⊥

-- how the response to a request of this head is written
abbrev pub reply_to : Rules → RequestHead → Reply
reply_to rules head =
    record { method = head.method; version = head.version; closing = closes rules.keeps_alive (view head) }

-- the request of a head, with no body
abbrev pub headed : Peer → RequestHead → Request
headed peer head = record { head = head; body = []; peer = peer }

-- What a head leads to: another protocol, a question whether its body may come, or that body.
abbrev pub IsHeaded : Rules → Peer → RequestHead → Stage → Begun → Type 0
IsHeaded rules peer head (Upgrading other) On = ((upgrades (view head) && rules.has_upgrade) ≡ true) × (other ≡ head)
IsHeaded rules peer head (Asking request reply) Called =
    ((upgrades (view head) && rules.has_upgrade) ≡ false) × (expects (view head) ≡ true)
    × (request.value ≡ headed peer head) × (reply ≡ reply_to rules head)
IsHeaded rules peer head (Awaiting other from reply) On =
    ((upgrades (view head) && rules.has_upgrade) ≡ false) × (expects (view head) ≡ false)
    × (other ≡ head) × (from ≡ peer) × (reply ≡ reply_to rules head)
IsHeaded rules peer head stage begun = ⊥

-- it waits for the body of this head and peer
abbrev pub awaiting : RequestHead → Peer → Reply → Exchange → Exchange
awaiting head from reply exchange = record exchange { stage = Awaiting head from reply }

-- it calls the service with this request, to which it replies so
abbrev pub IsCallWith : Request → Reply → Stage → Begun → Type 0
IsCallWith asked reply (Calling request later) Called = (request.value ≡ asked) × (later ≡ reply)
IsCallWith asked reply stage begun = ⊥

-- the same behind the stage that waited for the body
abbrev pub IsCallOf : Stage → List ℕ → Stage → Begun → Type 0
IsCallOf Reading data' new begun = ⊥
IsCallOf (Asking request reply) data' new begun = ⊥
IsCallOf (Awaiting head from reply) data' new begun = IsCallWith (record { head = head; body = data'; peer = from }) reply new begun
IsCallOf (Calling request reply) data' new begun = ⊥
IsCallOf (Upgrading head) data' new begun = ⊥
IsCallOf Closing data' new begun = ⊥

-- how far it is from its end, where so many bytes are unread: each step but writing lowers it
abbrev pub pace_of : Stage → ℕ → ℕ
pace_of Reading count = 4 * count + 1
pace_of (Asking request reply) count = 4 * count + 4
pace_of (Awaiting head from reply) count = 4 * count + 3
pace_of (Calling request reply) count = 4 * count + 2
pace_of (Upgrading head) count = 0
pace_of Closing count = 0

abbrev pub pace : Exchange → ℕ
pace exchange = pace_of exchange.stage (length exchange.reader.unread)

-- what beginning the next step makes of it
abbrev pub Begins : Rules → Peer → Exchange → Exchange → Begun → Type 0
Begins rules peer old new NeedMore = OwesSame rules peer old new × IsPlaced rules new × IsUndecided new
Begins rules peer old new On = OwesSame rules peer old new × IsPlaced rules new × IsNoCall new.stage × (pace new < pace old)
Begins rules peer old new Called =
    OwesSame rules peer old new × IsPlaced rules new × IsPutBy new.request new.stage × (pace new < pace old)

-- what a body begins, whoever is at the other end of the connection
abbrev pub BeginsBody : Rules → Exchange → Exchange → Begun → Type 0
BeginsBody rules old new begun = (peer : Peer) → Begins rules peer old new begun

-- what a head begins: another protocol, a question whether its body may come, or what its body begins
abbrev pub BeginsHead : Rules → Peer → RequestHead → Exchange → Exchange → Begun → Type 0
BeginsHead rules peer head old new begun =
    (IsHeaded rules peer head new.stage begun × PutsBy begun new × (new.reader ≡ old.reader) × (new.out ≡ old.out))
    ⊎ (IsHeaded rules peer head (Awaiting head peer (reply_to rules head)) On
    × BeginsBody rules (awaiting head peer (reply_to rules head) old) new begun)

-- what an answer makes of it, where it is what these functions answer
abbrev pub Answers : Rules → Peer → Functions → Exchange → Exchange → Type 0
Answers rules peer f old new = (more : List ℕ) → owed rules peer f new more ≡ owed rules peer f old more

-- it goes on by its rules, with no call under way
pub record GoesOn (rules : Rules) (old new : Exchange) : Type 0 where
  pub placed : IsPlaced rules new
  pub no_call : IsNoCall new.stage
  pub slower : pace new ≤ pace old
