-- What a report tells of connections and listeners, and its text.
use Rattle.std.specs.Prelude.{ℕ, ◌+◌, List, [], ◌∷◌, ◌++◌, map}
use Rattle.server_run.specs.declared.entry.Entry.{Entry}
use Rattle.server_run.specs.declared.memory_link.MemoryLink.{MemoryLink}
use Rattle.server_run.specs.declared.outcome.Outcome.{Outcome}
use Rattle.server_run.specs.declared.report.End.{End}
use Rattle.server_run.specs.declared.report.ListenerState.{ListenerState}
use Rattle.report.specs.Report.{end_line, entries_of, line_of, state_lines}

-- how a connection ended, and what was written on it
abbrev pub Told : Type 0
Told = Outcome × List ℕ

-- a listener's connections, from the first one on, and what became of the listener
abbrev pub Telling : Type 0
Telling = List Told × ListenerState

-- the lines of a listener's connections, from this place on
abbrev pub lines_of : ℕ → ℕ → List Told → List ℕ
lines_of token place [] = []
lines_of token place (told ∷ more) = line_of token place told.0 told.1 ++ lines_of token (place + 1) more

-- the lines of the connections of all listeners, from this token on
abbrev pub all_lines : ℕ → List Telling → List ℕ
all_lines token [] = []
all_lines token (telling ∷ more) = lines_of token 0 telling.0 ++ all_lines (token + 1) more

-- the connections by token and place, then the listeners, then the end
abbrev pub text_of : List Telling → End → List ℕ
text_of tellings end = all_lines 0 tellings ++ (state_lines 0 (map (λ (telling : Telling). telling.1) tellings) ++ end_line end)

-- what an entry tells of its connection
abbrev pub told_by : Entry MemoryLink → Told
told_by entry = (entry.outcome, entry.link.written)

-- what entries in this order and states tell, listener by listener, from this token on
abbrev pub tellings_of : ℕ → List ListenerState → List (Entry MemoryLink) → List Telling
tellings_of token [] entries = []
tellings_of token (state ∷ states) entries = (map told_by (entries_of token entries), state) ∷ tellings_of (token + 1) states entries
