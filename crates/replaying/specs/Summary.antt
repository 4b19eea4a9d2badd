-- The summary of connections that are made.
use Rattle.std.specs.Prelude.{◌≡◌, ◌≤◌, ◌<◌, ◌⊎◌, ℕ, List, length, sum_by}
use Rattle.generator.specs.Generator.{connections, generated, request_count}
use Rattle.report.specs.Summary.{summary_of}
use Rattle.script.specs.Planned.{Planned}
use Rattle.script_service.specs.Sites.{Site, site_of}
use Rattle.server_run.specs.declared.report.End.{End}
use Rattle.server_run.specs.declared.report.End.TheVariants.{Drained, Memory as NoRoom}
use Rattle.replaying.specs.Reported.{answers_to}

-- how many bytes these connections are answered together
abbrev pub answer_bytes : Site → List Planned → ℕ
answer_bytes site planned = sum_by (λ (p : Planned). length (answers_to site p).0) planned

-- how many bytes so many connections from this seed are answered
abbrev pub generated_bytes : ℕ → ℕ → ℕ
generated_bytes count seed = answer_bytes (site_of (generated count seed)) (connections count seed)

-- The summary of so many connections from this seed: each was served. It names no worker.
abbrev pub summary_text : ℕ → ℕ → List ℕ
summary_text count seed = summary_of count (request_count count seed) count (generated_bytes count seed) Drained

-- the summary of a run in which memory ran out: fewer were served, or the end says so
pub record IsCutShort (count seed : ℕ) (text : List ℕ) : Type 0 where
  pub served : ℕ
  pub bytes : ℕ
  pub end : End
  pub is : text ≡ summary_of count (request_count count seed) served bytes end
  pub few : (served ≤ count) × (bytes ≤ generated_bytes count seed)
  pub short : (served < count) ⊎ (end ≡ NoRoom)

abbrev pub IsSummaryOf : ℕ → ℕ → List ℕ → Type 0
IsSummaryOf count seed text = (text ≡ summary_text count seed) ⊎ IsCutShort count seed text
