-- The text of a report.
use Rattle.std.specs.Prelude.{◌≡◌, ℕ, zero, suc, ◌+◌, ◌/◌, ◌%◌, ◌==◌, ◌&&◌, true, false, nat_le, nat_lt, if◌then◌else◌, length, List, [], ◌∷◌, ◌++◌, codes, decimal, IsPermutation, IsSortedBy}
use Rattle.std.specs.List.{filter, flat_map}
use Rattle.server_run.specs.declared.entry.Entry.{Entry}
use Rattle.server_run.specs.declared.outcome.Outcome.{Outcome}
use Rattle.server_run.specs.declared.outcome.Outcome.TheVariants.{Served, ReadFault, WriteFault, Upgraded, Lost, Stopped, Memory}
use Rattle.server_run.specs.declared.memory_link.MemoryLink.{MemoryLink}
use Rattle.server_run.specs.declared.report.Report.{Report}
use Rattle.server_run.specs.declared.report.End.{End}
use Rattle.server_run.specs.declared.report.End.TheVariants.{Drained, Stopped as StoppedBy, NoWorkers, Memory as NoRoom}
use Rattle.server_run.specs.declared.report.ListenerState.{ListenerState}
use Rattle.server_run.specs.declared.report.ListenerState.TheVariants.{Ended, Faulted, Open}
use Rattle.report.specs.Peers.{hex_letter}

-- a byte as it stands between the quotes
abbrev pub shown : ℕ → List ℕ
shown b =
    if b == 13 then codes "\\r" else if b == 10 then codes "\\n" else if b == 9 then codes "\\t"
    else if b == 34 then 92 ∷ 34 ∷ [] else if b == 92 then 92 ∷ 92 ∷ []
    else if nat_le 32 b && nat_le b 126 then b ∷ []
    else 92 ∷ 120 ∷ hex_letter (b / 16) ∷ hex_letter (b % 16) ∷ []

abbrev pub outcome_word : Outcome → List ℕ
outcome_word Served = codes "served"
outcome_word ReadFault = codes "read-fault"
outcome_word WriteFault = codes "write-fault"
outcome_word Upgraded = codes "upgraded"
outcome_word (Lost worker) = codes "lost"
outcome_word (Stopped false) = codes "stopped"
outcome_word (Stopped true) = codes "stopped-forced"
outcome_word Memory = codes "memory"

-- token, place, outcome, and the bytes written between quotes
abbrev pub line_of : ℕ → ℕ → Outcome → List ℕ → List ℕ
line_of token place outcome written =
    decimal token ++ 46 ∷ decimal place ++ 32 ∷ outcome_word outcome ++ 32 ∷ 34 ∷ flat_map shown written ++ 34 ∷ 10 ∷ []

abbrev pub entry_line : Entry MemoryLink → List ℕ
entry_line entry = line_of entry.token entry.place entry.outcome entry.link.written

-- what became of a listener: one that was given up is told with the number of its failures
abbrev pub state_word : ListenerState → List ℕ
state_word Ended = codes "ended"
state_word (Faulted failures) = codes "faulted " ++ decimal failures
state_word Open = codes "open"

abbrev pub state_line : ℕ → ListenerState → List ℕ
state_line token state = codes "listener " ++ decimal token ++ 32 ∷ state_word state ++ 10 ∷ []

-- a line for each listener, from this token on
abbrev pub state_lines : ℕ → List ListenerState → List ℕ
state_lines token [] = []
state_lines token (state ∷ states) = state_line token state ++ state_lines (token + 1) states

abbrev pub end_line : End → List ℕ
end_line Drained = codes "end drained" ++ 10 ∷ []
end_line (StoppedBy true) = codes "end stopped graceful" ++ 10 ∷ []
end_line (StoppedBy false) = codes "end stopped forced" ++ 10 ∷ []
end_line NoWorkers = codes "end no-workers" ++ 10 ∷ []
end_line NoRoom = codes "end memory" ++ 10 ∷ []

-- the entries of this listener, in the order of these
abbrev pub entries_of : ℕ → List (Entry MemoryLink) → List (Entry MemoryLink)
entries_of token entries = filter (λ (entry : Entry MemoryLink). entry.token == token) entries

-- the lines of the entries of so many listeners, from this token on, listener by listener
abbrev pub entry_lines : ℕ → ℕ → List (Entry MemoryLink) → List ℕ
entry_lines token zero entries = []
entry_lines token (suc count) entries = flat_map entry_line (entries_of token entries) ++ entry_lines (token + 1) count entries

-- no entry has a lower place than the one before it
abbrev pub IsByPlace : List (Entry MemoryLink) → Type 0
IsByPlace entries = IsSortedBy (λ (x y : Entry MemoryLink). nat_lt x.place y.place) entries

-- The text of a report: a line for each connection, by token and then by place, one for each listener, and the end.
pub record IsText (entries : List (Entry MemoryLink)) (report : Report) (text : List ℕ) : Type 0 where
  pub ordered : List (Entry MemoryLink)
  pub same : IsPermutation entries ordered
  pub by_place : IsByPlace ordered
  pub is : text ≡ entry_lines 0 (length report.listeners.items) ordered ++ (state_lines 0 report.listeners.items ++ end_line report.end)
