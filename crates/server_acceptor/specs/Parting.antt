-- What stays as it was where a worker is given up or comes anew, between two turns.
use Rattle.std.specs.Prelude.{◌≡◌, map}
use Rattle.rtrb.specs.Ring.{sent}
use Rattle.server_acceptor.specs.Acceptors.{core_of, events_of, failed_of, first_of, forced_of, lacks_room_of, limit_of, listeners_of, parcels_of, places_of, ready_of, retry_limit_of, serial_of, shutdown_timeout_of, stop_of, stopped_of, workers_of}
use Rattle.server_acceptor.specs.declared.acceptor.Acceptor.{Acceptor}

-- No command came, nothing was accepted, nothing went to a worker, and nothing was written down.
pub record LeavesRest {L : Type 0} (a b : Acceptor L) : Type 0 where
  pub paused : (core_of b).paused ≡ (core_of a).paused
  pub stopping : (core_of b).stopping ≡ (core_of a).stopping
  pub stop : stop_of b ≡ stop_of a
  pub shutdown_timeout : shutdown_timeout_of b ≡ shutdown_timeout_of a
  pub places : places_of b ≡ places_of a
  pub serial : serial_of b ≡ serial_of a
  pub ready : ready_of b ≡ ready_of a
  pub stopped : stopped_of b ≡ stopped_of a
  pub forced : forced_of b ≡ forced_of a
  pub failed : failed_of b ≡ failed_of a
  pub first : first_of b ≡ first_of a
  pub events : events_of b ≡ events_of a
  pub sent : map (λ p. sent p) (parcels_of b) ≡ map (λ p. sent p) (parcels_of a)
  pub listeners : listeners_of b ≡ listeners_of a
  pub workers : workers_of b ≡ workers_of a
  pub limit : limit_of b ≡ limit_of a
  pub retry_limit : retry_limit_of b ≡ retry_limit_of a
  pub lacks_room : lacks_room_of b ≡ lacks_room_of a
