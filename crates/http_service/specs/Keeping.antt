-- Whether a connection stays open between requests.
use Rattle.std.specs.Prelude.{ℕ, Bool, true, false, ◌==◌, if◌then◌else◌}
use Rattle.std.specs.Duration.{as_nanos}
use Rattle.std.specs.declared.time.Duration.{Duration}
use Rattle.http_service.specs.declared.keep_alive.KeepAlive.{KeepAlive}
use Rattle.http_service.specs.declared.keep_alive.KeepAlive.TheVariants.{Timeout, Os, Disabled}

-- the only duration of so many whole seconds
abbrev pub seconds : ℕ → Duration
seconds n = record { secs = n; nanos = 0 }

-- where nothing is set
abbrev pub default_keep_alive : KeepAlive
default_keep_alive = Timeout (seconds 5)

-- a timeout of no length keeps nothing open
abbrev pub keep_alive_of : Duration → KeepAlive
keep_alive_of duration = if as_nanos duration == 0 then Disabled else Timeout duration

-- a connection may serve a second request
abbrev pub stays_open : KeepAlive → Bool
stays_open (Timeout duration) = true
stays_open Os = true
stays_open Disabled = false
