-- What a bound listener that was served came to.
use Rattle.std.specs.Prelude.{◌≡◌, ◌≤◌, ◌<◌, ◌⊎◌, ⊤, ℕ, All, List, length, min, take, Option, IfSome, option_map}
use Rattle.service_core.specs.declared.link.Link.{Ghosts as LinkOf}
use Rattle.script_service.specs.Serving.{LeavesScript, ServesScript}
use Rattle.server_run.specs.Delivery.{IsServedFrom, once_below, place_count}
use Rattle.server_run.specs.Done.{served_count}
use Rattle.server_bind.specs.Stock.{IsSteady}
use Rattle.server_run.specs.Listener.{IsTakenFrom, Mark}
use Rattle.server_run.specs.declared.outcome.Outcome.TheVariants.{Served, Memory as NoMemory}
use Rattle.server_run.specs.declared.entry.Entry.{Entry}
use Rattle.server_run.specs.declared.report.End.TheVariants.{Drained, Memory as NoRoom}
use Rattle.listening.specs.Sites.{listen_site}
use Rattle.listening.specs.declared.heard.Heard.{Heard}
use Rattle.listening.specs.declared.listen_error.ListenError.{ListenError}
use Rattle.listening.specs.declared.listen_error.ListenError.TheVariants.{Refused, NoWorker, Memory}

-- all of n connections were served
abbrev pub IsWhole : ℕ → Heard → Type 0
IsWhole n heard = (heard.connections ≡ n) × (heard.served ≡ n) × (heard.end ≡ Drained)

-- Memory ran out: for some of n connections, or nothing more was accepted. The others were served.
pub record LacksMemory {L : Type 0} (n : ℕ) (entries : List (Entry L)) (heard : Heard) : Type 0 where
  pub few : heard.connections ≤ n
  pub short : ((heard.connections ≡ n) × (heard.served < n) × (heard.end ≡ Drained)) ⊎ (heard.end ≡ NoRoom)
  pub outcomes : All (λ entry. (entry.outcome ≡ Served) ⊎ (entry.outcome ≡ NoMemory)) entries

-- The first connections of a listener, up to a limit, each with its link as a service of the site ended it, once.
pub record Hears {Li L : Type 0} (left : Li → Option (List L)) (rest : Li → Option (List Mark)) (g : LinkOf L) (limit : ℕ) (listener : Li) (heard : Heard) : Type 0 where
  pub entries : List (Entry L)
  pub connections : heard.connections ≡ length entries
  pub served : heard.served ≡ served_count entries
  pub few : length entries ≤ limit
  pub places : (place : ℕ) → place_count 0 place entries ≡ once_below (length entries) place
  pub links : All (IsServedFrom g.identity (λ token. ServesScript listen_site g) (λ token. LeavesScript listen_site g) (option_map (take limit) (left listener))) entries
  -- all that come of a steady listener are served, want of memory aside
  pub steady : IsSteady left rest g.identity listener
      → IfSome (left listener) (λ all. IsWhole (min limit (length all)) heard ⊎ LacksMemory (min limit (length all)) entries heard)

-- A binder gave a listener, the first of its stock where it tells it, which is steady then, and this was heard of it.
pub record Listened {B Li L : Type 0} (stock : B → Option (List Li)) (left : Li → Option (List L)) (rest : Li → Option (List Mark)) (g : LinkOf L) (before after : B) (limit : ℕ) (heard : Heard) : Type 0 where
  pub listener : Li
  pub first : IsTakenFrom (stock before) listener (stock after)
  pub steady : IfSome (stock before) (λ listeners. IsSteady left rest g.identity listener)
  pub hears : Hears left rest g limit listener heard

-- why no listener is bound, and why none is served
abbrev pub IsUnbound : Type 0 → ListenError → Type 0
IsUnbound bind_refused Refused = bind_refused
IsUnbound bind_refused NoWorker = ⊥
IsUnbound bind_refused Memory = ⊤

abbrev pub IsUnserved : Type 0 → ListenError → Type 0
IsUnserved start_refused Refused = ⊥
IsUnserved start_refused NoWorker = start_refused
IsUnserved start_refused Memory = ⊤

abbrev pub IsUnheard : Type 0 → Type 0 → ListenError → Type 0
IsUnheard bind_refused start_refused Refused = bind_refused
IsUnheard bind_refused start_refused NoWorker = start_refused
IsUnheard bind_refused start_refused Memory = ⊤
