-- The report of a script.
use Rattle.std.specs.Prelude.{◌≡◌, ◌≤◌, ◌⊎◌, ⊤, ℕ, Bool, List, [], ◌∷◌, ◌++◌, All, Any, length, map, not, take, false, true}
use Rattle.std.specs.List.{count_by}
use Rattle.http1_grammar.specs.Answers.{Answers, up}
use Rattle.http1_grammar.specs.Head.{Head}
use Rattle.server_run.specs.Listener.{Mark, fails, gives, in_a_row}
use Rattle.server_run.specs.Steps.{is_read_fail, is_write_fail}
use Rattle.server_run.specs.declared.outcome.Outcome.{Outcome}
use Rattle.server_run.specs.declared.outcome.Outcome.TheVariants.{Served, ReadFault, WriteFault, Upgraded, Lost, Stopped, Memory}
use Rattle.server_run.specs.declared.report.End.{End}
use Rattle.server_run.specs.declared.report.End.TheVariants.{Drained, Memory as NoRoom}
use Rattle.server_run.specs.declared.report.ListenerState.TheVariants.{Ended, Faulted, Open}
use Rattle.report.specs.Told.{Telling, Told, text_of}
use Rattle.script.specs.Offering.{marks_of}
use Rattle.script.specs.Planned.{Listening, Planned, held_of}
use Rattle.script.specs.Script.{Plan}
use Rattle.script_service.specs.Sites.{Site, answers_of, site_of}

-- what a script's connection is answered to all bytes that it gives
abbrev pub answers_to : Site → Planned → Answers
answers_to site planned = answers_of site planned.peer (held_of planned)

-- ---- a script whose calls don't fail, and that echoes no upgrade

-- no step of the connection fails
pub record GoesOn (planned : Planned) : Type 0 where
  pub reads : count_by is_read_fail planned.reads ≡ 0
  pub writes : count_by is_write_fail planned.writes ≡ 0

abbrev pub is_failure : Mark → Bool
is_failure gives = false
is_failure fails = true

-- nor does the listener
pub record IsUntroubled (listener : Listening) : Type 0 where
  pub connections : All GoesOn listener.connections
  pub comings : count_by is_failure (marks_of listener.comings) ≡ 0

pub record IsPlain (plan : Plan) : Type 0 where
  pub goes_on : All IsUntroubled plan.listeners
  pub upgrades : plan.echoes_upgrades ≡ false

-- each connection was served, and was written the answers to all bytes that it gave, however its reads and its writes came; and each
-- listener has ended
abbrev pub wholly_told : Site → Listening → Telling
wholly_told site listener = (map (λ planned. (Served, (answers_to site planned).0)) listener.connections, Ended)

-- The report of a script. It names no number of workers, no limit, no ring and no cut.
abbrev pub report_text : Plan → List ℕ
report_text plan = text_of (map (wholly_told (site_of plan)) plan.listeners) Drained

-- memory ran out: it has a `memory` line or the end `end memory`
abbrev pub ShowsMemory : List Telling → End → Type 0
ShowsMemory tellings end = (end ≡ NoRoom) ⊎ Any (λ (telling : Telling). Any (λ (told : Told). told.0 ≡ Memory) telling.0) tellings

-- ---- any script

-- a front of the answers was written
pub record IsFront (answers : Answers) (written : List ℕ) : Type 0 where
  pub back : List ℕ
  pub is : answers.0 ≡ written ++ back

-- all answers were, and more, and they end in an upgrade
pub record IsBeyond (answers : Answers) (written : List ℕ) : Type 0 where
  pub head : Head
  pub rest : List ℕ
  pub is_up : answers.1 ≡ up head rest
  pub more : List ℕ
  pub is : written ≡ answers.0 ++ more

-- what was written on a connection, by how it ended: a read or a write fails only by a line that says so, and none is stopped or lost
abbrev pub Shows : Site → Planned → Outcome → List ℕ → Type 0
Shows site planned Served written = written ≡ (answers_to site planned).0
Shows site planned ReadFault written =
    (1 ≤ count_by is_read_fail planned.reads) × ((taken : ℕ) × (written ≡ (answers_of site planned.peer (take taken (held_of planned))).0))
Shows site planned WriteFault written = (1 ≤ count_by is_write_fail planned.writes) × IsFront (answers_to site planned) written
Shows site planned Upgraded written = (site.echoes_upgrades ≡ true) × IsBeyond (answers_to site planned) written
Shows site planned (Lost worker) written = ⊥
Shows site planned (Stopped forced) written = ⊥
Shows site planned Memory written = IsFront (answers_to site planned) written ⊎ IsBeyond (answers_to site planned) written

-- the first of these connections are told, each with what was written on it
abbrev pub AreTold : Site → List Planned → List Told → Type 0
AreTold site connections [] = ⊤
AreTold site [] (told ∷ more) = ⊥
AreTold site (planned ∷ connections) (told ∷ more) = Shows site planned told.0 told.1 × AreTold site connections more

-- a listener failed so often in a row, after so many connections
pub record GaveUp (retry_limit : ℕ) (listener : Listening) (connections : ℕ) : Type 0 where
  pub came : List Mark
  pub back : List Mark
  pub is : marks_of listener.comings ≡ came ++ back
  pub in_row : in_a_row 0 came ≡ retry_limit
  pub given : count_by (λ mark. not (is_failure mark)) came ≡ connections

-- What is told of a listener. All of its connections are where it has ended.
pub record IsTelling (site : Site) (retry_limit : ℕ) (listener : Listening) (telling : Telling) : Type 0 where
  pub connections : AreTold site listener.connections telling.0
  pub ended : telling.1 ≡ Ended → length telling.0 ≡ length listener.connections
  pub faulted : (failures : ℕ) → telling.1 ≡ Faulted failures → (failures ≡ retry_limit) × GaveUp retry_limit listener (length telling.0)

-- the listeners, in order
abbrev pub AreTelling : Site → ℕ → List Listening → List Telling → Type 0
AreTelling site retry_limit [] [] = ⊤
AreTelling site retry_limit [] (telling ∷ more) = ⊥
AreTelling site retry_limit (listener ∷ listeners) [] = ⊥
AreTelling site retry_limit (listener ∷ listeners) (telling ∷ more) =
    IsTelling site retry_limit listener telling × AreTelling site retry_limit listeners more

-- What is told of a script, and its text: the report of a script that is plain, or the report of a run in which memory ran out. Of
-- another script it is told what each connection and each listener may show.
pub record IsReportOf (plan : Plan) (text : List ℕ) : Type 0 where
  pub tellings : List Telling
  pub end : End
  pub is : text ≡ text_of tellings end
  pub told : AreTelling (site_of plan) plan.retry_limit plan.listeners tellings
  -- a listener is open only beside `end memory`
  pub open_by : All (λ (telling : Telling). telling.1 ≡ Open → end ≡ NoRoom) tellings
  pub plain : IsPlain plan → (text ≡ report_text plan) ⊎ ShowsMemory tellings end
