-- Connections that are made from a number, by a linear congruential generator.
use Rattle.std.specs.Prelude.{ℕ, zero, suc, ◌+◌, ◌*◌, ◌/◌, ◌%◌, ◌==◌, ◌++◌, true, if◌then◌else◌, List, [], ◌∷◌, codes, decimal, replicate}
use Rattle.service_core.specs.declared.peer.Peer.TheVariants.{V4}
use Rattle.cors_rules.specs.Policy.{fresh}
use Rattle.script.specs.Planned.{Planned, gives}
use Rattle.script.specs.PolicyText.{and_lines}
use Rattle.script.specs.Script.{Plan, nothing_yet}
use Rattle.script.specs.declared.coming.Coming.TheVariants.{Connection}
use Rattle.script.specs.declared.handler.Handler.TheVariants.{Echo}
use Rattle.script.specs.declared.policy.policy_line.PolicyLine.TheVariants.{AnyOrigin, AnyMethod, AnyHeader}

-- the state behind a draw, and what is drawn
abbrev pub next_state : ℕ → ℕ
next_state state = (state * 1103515245 + 12345) % 2147483648

abbrev pub draw : ℕ → ℕ
draw state = next_state state / 65536

-- a simple request across origins, one with a body of so many letters, and a preflight
abbrev pub get_text : List ℕ
get_text = codes "GET / HTTP/1.1\r\nOrigin: https://gen.example\r\n\r\n"

abbrev pub post_text : ℕ → List ℕ
post_text size =
    codes "POST / HTTP/1.1\r\nOrigin: https://gen.example\r\nContent-Length: " ++ (decimal size ++ (codes "\r\n\r\n" ++ replicate size 120))

abbrev pub preflight_text : List ℕ
preflight_text = codes "OPTIONS / HTTP/1.1\r\nOrigin: https://gen.example\r\nAccess-Control-Request-Method: PUT\r\n\r\n"

-- a request of this kind, and the state behind it
abbrev pub request_of : ℕ → ℕ → List ℕ × ℕ
request_of kind state =
    if kind == 0 then (get_text, state)
    else if kind == 1 then (post_text (draw state % 64), next_state state)
    else (preflight_text, state)

-- the next request: a draw gives its kind
abbrev pub request : ℕ → List ℕ × ℕ
request state = request_of (draw state % 3) (next_state state)

-- so many requests, one behind the other, and the state behind them
abbrev pub requests : ℕ → ℕ → List ℕ × ℕ
requests zero state = ([], state)
requests (suc count) state =
    let first = request state in
    let more = requests count first.1 in
    (first.0 ++ more.0, more.1)

-- a draw gives how many requests a connection has
abbrev pub request_number : ℕ → ℕ
request_number state = 1 + draw state % 4

abbrev pub on_connection : ℕ → List ℕ × ℕ
on_connection state = requests (request_number state) (next_state state)

-- the next connection, of the peer 10.0.0.1:1000, whose bytes come in pieces of at most seven
abbrev pub connection : ℕ → Planned
connection state = record { peer = V4 167772161 1000; reads = gives 7 (on_connection state).0; writes = [] }

abbrev pub connections : ℕ → ℕ → List Planned
connections zero state = []
connections (suc count) state = connection state ∷ connections count (on_connection state).1

-- how many requests so many connections have together
abbrev pub request_count : ℕ → ℕ → ℕ
request_count zero state = 0
request_count (suc count) state = request_number state + request_count count (on_connection state).1

-- What is served: so many connections to one listener, under a policy that allows every origin, method and header, by a handler that
-- echoes, on four workers.
abbrev pub generated : ℕ → ℕ → Plan
generated count seed = record nothing_yet {
  cors = and_lines fresh (AnyOrigin ∷ AnyMethod ∷ AnyHeader ∷ []);
  has_policy = true;
  handler = Echo;
  cut = 7;
  workers = 4;
  limit = 8;
  ring = 4;
  listeners = record { comings = replicate count Connection; connections = connections count seed } ∷ [];
}
