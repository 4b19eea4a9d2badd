-- How an accept core's fields are seen.
use Rattle.server_core.specs.Core.{Core, IsKept}
use Rattle.server_core.specs.declared.accept_core.AcceptCore.TheInside.{Inside}

abbrev pub core_of : Inside → Core
core_of c = record {
  ended = c.ended.items;
  failures = c.failures.items;
  waiting = c.waiting;
  order = c.turns.order;
  next = c.turns.next;
  free = c.turns.free;
  out = c.out.items;
  retired = c.retired;
  given = c.given;
  done = c.done;
  paused = c.paused;
  stopping = c.stopping;
}

abbrev pub IsSound : Inside → Type 0
IsSound c = IsKept (core_of c)
