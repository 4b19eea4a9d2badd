-- The handlers of a script, and what each answers.
use Rattle.std.specs.Prelude.{◌≡◌, ◌⊎◌, ℕ, [], ◌∷◌, ◌++◌, Option, Some, None, Result, Ok, Err, codes}
use Rattle.http1_grammar.specs.Wire.{Response}
use Rattle.http1_grammar.specs.Answers.{Request}
use Rattle.service_core.specs.declared.peer.Peer.{Peer}
use Rattle.report.specs.Peers.{peer_text}
use Rattle.script.specs.declared.handler.Handler.{Handler}
use Rattle.script.specs.declared.handler.Handler.TheVariants as handlers
use Rattle.handlers.specs.declared.handler_fault.HandlerFault.{HandlerFault}
use Rattle.handlers.specs.declared.handler_fault.HandlerFault.TheVariants.{Failed, Memory}

-- 200, with a text
abbrev pub hello_response : Response
hello_response =
    record { status = 200; headers = (codes "content-type", codes "text/plain") ∷ []; body = codes "Hello world!" }

-- 200, with the peer in words
abbrev pub peer_response : Peer → Response
peer_response peer = record { status = 200; headers = []; body = peer_text peer }

-- 200, with the method, a space, the target, LF and the body of the request
abbrev pub echo_response : Request Peer → Response
echo_response request = record {
  status = 200;
  headers = [];
  body = request.head.method ++ (32 ∷ []) ++ request.head.target ++ (10 ∷ []) ++ request.body;
}

-- this status alone
abbrev pub status_response : ℕ → Response
status_response status = record { status = status; headers = []; body = [] }

-- 500
abbrev pub failed_response : Response
failed_response = record { status = 500; headers = []; body = codes "failed" }

-- the response of a handler's error; want of memory has none
abbrev pub response_of_fault : HandlerFault → Option Response
response_of_fault Failed = Some failed_response
response_of_fault Memory = None

-- what a handler answers to a request, want of memory aside
abbrev pub handler_result : Handler → Request Peer → Result Response HandlerFault
handler_result handlers.Hello request = Ok hello_response
handler_result handlers.Echo request = Ok (echo_response request)
handler_result handlers.Peer request = Ok (peer_response request.peer)
handler_result (handlers.Status status) request = Ok (status_response status)
handler_result handlers.Fail request = Err Failed

-- the same, an error by its response
abbrev pub handler_response : Handler → Request Peer → Response
handler_response handlers.Hello request = hello_response
handler_response handlers.Echo request = echo_response request
handler_response handlers.Peer request = peer_response request.peer
handler_response (handlers.Status status) request = status_response status
handler_response handlers.Fail request = failed_response

abbrev pub HandlerGives : Handler → Request Peer → Result Response HandlerFault → Type 0
HandlerGives handler request r = (r ≡ handler_result handler request) ⊎ (r ≡ Err Memory)
