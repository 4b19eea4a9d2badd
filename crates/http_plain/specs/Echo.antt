-- A service that echoes requests.
use Rattle.std.specs.Prelude.{ℕ, true, false, List, [], ◌++◌, bytes_eq, codes, if◌then◌else◌}
use Rattle.http1_grammar.specs.Limits.{Limits}
use Rattle.http1_grammar.specs.Answers.{Request, Settings, goes_on}
use Rattle.http1_grammar.specs.Wire.{Response}
use Rattle.service_core.specs.declared.peer.Peer.{Peer}

-- what it answers to a target and a body: both, with LF between them
abbrev pub echoed : List ℕ → List ℕ → Response
echoed target body =
    if bytes_eq target (codes "/none") then record { status = 404; headers = []; body = [] }
    else record {
      status = if bytes_eq target (codes "/empty") then 204 else 200;
      headers = [];
      body = target ++ codes "\n" ++ body;
    }

-- the service, by the request
abbrev pub echo : {P : Type 0} → Request P → Response
echo request = echoed request.head.target request.body

-- its connections: they are kept alive, go on where `100 Continue` is waited for, and offer no other protocol
abbrev pub echoing : Limits → Settings Peer
echoing limits = record { limits = limits; keeps_alive = true; handler = echo; expect = goes_on; has_upgrade = false }
