-- What the listener in memory that a script asks for has to give.
use Rattle.std.specs.Prelude.{◌≡◌, ⊤, ℕ, ◌+◌, List, [], ◌∷◌, map, Some}
use Rattle.std.specs.List.{count_by}
use Rattle.service_core.specs.declared.link.Link.{Ghosts as LinkOf}
use Rattle.server_run.specs.declared.listener_step.ListenerStep.{ListenerStep}
use Rattle.server_run.specs.declared.listener_step.ListenerStep.TheVariants.{Give, NotYet, Skip as Skips, Fail}
use Rattle.server_run.specs.declared.memory_link.MemoryLink.{MemoryLink}
use Rattle.server_run.specs.declared.memory_listener.MemoryListener.{MemoryListener}
use Rattle.server_run.specs.Listener.{Mark, gives, fails}
use Rattle.server_run.specs.Memory.{links}
use Rattle.server_run.specs.Steps.{IsAtStart, is_read_fail, is_write_fail}
use Rattle.script.specs.Planned.{Listening, Planned, held_of}
use Rattle.script.specs.declared.coming.Coming.{Coming}
use Rattle.script.specs.declared.coming.Coming.TheVariants.{Connection, Late, Skip, Failure}

-- a link of this name that goes by a connection's steps, of which nothing was taken, and to which nothing was written; as many of its
-- calls fail as there are steps that fail, at the most
pub record IsFresh (g : LinkOf MemoryLink) (name : ℕ) (planned : Planned) (link : MemoryLink) : Type 0 where
  pub identity : g.identity link ≡ record {
    name = Some name;
    peer = planned.peer;
    held = Some (held_of planned);
    read_fails = Some (count_by is_read_fail planned.reads);
    write_fails = Some (count_by is_write_fail planned.writes);
  }
  pub taken : g.taken link ≡ 0
  pub written : g.written link ≡ Some []
  pub reads : link.reads.items ≡ planned.reads
  pub writes : link.writes.items ≡ planned.writes
  pub start : IsAtStart link.step link.offset link.write_step

-- a link for each connection, in order, named by its place
abbrev pub AreFresh : LinkOf MemoryLink → ℕ → List Planned → List MemoryLink → Type 0
AreFresh g name [] [] = ⊤
AreFresh g name [] (link ∷ links) = ⊥
AreFresh g name (planned ∷ more) [] = ⊥
AreFresh g name (planned ∷ more) (link ∷ links) = IsFresh g name planned link × AreFresh g (name + 1) more links

-- what a step of a listener in memory answers
abbrev pub coming_of : ListenerStep → Coming
coming_of (Give link) = Connection
coming_of NotYet = Late
coming_of Skips = Skip
coming_of Fail = Failure

-- the connections and the failures among what a listener answers
abbrev pub marks_of : List Coming → List Mark
marks_of [] = []
marks_of (Connection ∷ comings) = gives ∷ marks_of comings
marks_of (Late ∷ comings) = marks_of comings
marks_of (Skip ∷ comings) = marks_of comings
marks_of (Failure ∷ comings) = fails ∷ marks_of comings

-- the listener gives these connections, and answers as is planned, late, skipped and failed calls included
pub record Offers (g : LinkOf MemoryLink) (listening : Listening) (listener : MemoryListener) : Type 0 where
  pub fresh : AreFresh g 0 listening.connections (links listener.steps.items)
  pub answers : map coming_of listener.steps.items ≡ listening.comings

-- a listener for each that is planned, in order
abbrev pub AllOffer : LinkOf MemoryLink → List Listening → List MemoryListener → Type 0
AllOffer g [] [] = ⊤
AllOffer g [] (listener ∷ listeners) = ⊥
AllOffer g (listening ∷ more) [] = ⊥
AllOffer g (listening ∷ more) (listener ∷ listeners) = Offers g listening listener × AllOffer g more listeners
