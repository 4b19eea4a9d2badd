-- Room at a worker.
use Rattle.std.specs.Prelude.{◌≡◌, ◌<◌, ◌+◌, [], false}
use Rattle.std.specs.Vec.{vec_len, vec_capacity}
use Rattle.std.specs.VecDeque.{deque_len, deque_capacity}
use Rattle.server_worker.specs.declared.connections.Connections.{Connections}

-- for one connection more: where it waits, among the live ones, and for its way back
pub record HasRoom {L Fut : Type 0} (w : Connections L Fut) : Type 0 where
  pub in_queue : deque_len w.queue < deque_capacity w.queue
  pub among_strays : vec_len w.strays + (vec_len w.live + deque_len w.queue) < vec_capacity w.strays
  pub among_live : vec_len w.live + deque_len w.queue < vec_capacity w.live
  pub back : deque_len w.owed + (vec_len w.live + (deque_len w.queue + vec_len w.strays)) + 1 < deque_capacity w.owed

-- none has come over these ends yet
pub record IsFresh {L Fut : Type 0} (w : Connections L Fut) : Type 0 where
  pub queue : w.queue.items ≡ []
  pub strays : w.strays.items ≡ []
  pub live : w.live.items ≡ []
  pub owed : w.owed.items ≡ []
  pub stopped : w.stopped ≡ false
  pub forced : w.forced ≡ false
  pub told : w.told ≡ false
