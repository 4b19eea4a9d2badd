-- What a binder of sockets keeps.
use Rattle.std.specs.Prelude.{ℕ, List, Option}
use Rattle.std.specs.Net.Grammar.{IsSocketText}
use Rattle.std.specs.declared.net.socket_addr.SocketAddr.{SocketAddr}
use Rattle.server_sockets.specs.declared.socket_bind_error.SocketBindError.{SocketBindError}
use Rattle.server_sockets.specs.declared.mio_binder.MioBinder.{MioBinder}

-- why it refused an address the last time
abbrev pub reason : MioBinder → Option SocketBindError
reason binder = binder.last_error

-- where the TCP listener listens that it bound last
abbrev pub place : MioBinder → Option SocketAddr
place binder = binder.local_addr

-- the text is no IP address with a port
abbrev pub IsNoAddress : List ℕ → Type 0
IsNoAddress text = (at : SocketAddr) → IsSocketText text at → ⊥
