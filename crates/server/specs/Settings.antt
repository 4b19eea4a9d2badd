-- What a server is set to.
use Rattle.std.specs.Prelude.{◌≤◌, ◌<◌, ◌-◌, ◌^◌}
use Rattle.server.specs.declared.settings.Settings.{Settings}

-- the settings are such that a server can run by them
pub record IsInRange (s : Settings) : Type 0 where
  pub some_workers : 1 ≤ s.workers
  pub most_workers : s.workers ≤ 512
  pub some_connections : 1 ≤ s.limit
  pub limited : s.limit < 2 ^ 64 - 1
  pub some_places : 1 ≤ s.ring
  pub most_places : s.ring ≤ 4096
  pub some_failures : 1 ≤ s.retry_limit
  pub some_seconds : s.shutdown_timeout < 2 ^ 32

abbrev pub default_settings : Settings
default_settings = record { workers = 2; limit = 25600; ring = 128; retry_limit = 8; shutdown_timeout = 30 }
