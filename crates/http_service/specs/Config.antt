-- The settings of a service of connections.
use Rattle.std.specs.Prelude.{ℕ, Bool, true, false, Option, None}
use Rattle.std.specs.declared.time.Duration.{Duration}
use Rattle.service_core.specs.declared.peer.Peer.{Peer}
use Rattle.http1_plain.specs.declared.limits.Limits.{Limits}
use Rattle.http_service.specs.declared.keep_alive.KeepAlive.{KeepAlive}
use Rattle.http_service.specs.Keeping.{default_keep_alive, seconds}

pub record Config : Type 0 where
  pub keep_alive : KeepAlive
  pub secure : Bool
  pub local_addr : Option Peer
  -- how long the head of a request may take
  pub client_request_timeout : Duration
  -- how long the end of a connection may take: of no length where it may take for ever
  pub client_disconnect_timeout : Duration
  pub tcp_nodelay : Option Bool
  pub h1_allow_half_closed : Bool
  -- in bytes, at least 1
  pub h1_write_buffer_size : ℕ
  -- in bytes
  pub h2_initial_window_size : ℕ
  -- in bytes
  pub h2_initial_connection_window_size : ℕ
  pub graceful_shutdown_signal : Bool
  pub limits : Limits

-- where nothing is set
abbrev pub default_config : Config
default_config = record {
  keep_alive = default_keep_alive;
  secure = false;
  local_addr = None;
  client_request_timeout = seconds 5;
  client_disconnect_timeout = seconds 0;
  tcp_nodelay = None;
  h1_allow_half_closed = true;
  h1_write_buffer_size = 32768;
  h2_initial_window_size = 1048576;
  h2_initial_connection_window_size = 2097152;
  graceful_shutdown_signal = false;
  limits = record { head = 32768; body = 1048576 };
}
