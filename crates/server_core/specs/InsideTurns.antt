-- How the fields of the turns are seen.
use Rattle.std.specs.Prelude.{◌≤◌, length}
use Rattle.server_core.specs.Turns.{Rota, workers_at, ArePlaces, AreWithin}
use Rattle.server_core.specs.declared.turns.Turns.TheInside.{Inside}

abbrev pub rota_of : Inside → Rota
rota_of t = record { order = t.order.items; next = t.next; free = workers_at t.order.items t.free }

pub record IsSound (t : Inside) : Type 0 where
  pub fits : length t.order.items ≤ 512
  pub places : ArePlaces t.order.items t.places
  pub marks : AreWithin t.free t.order.items
