-- What a script that was served came to.
use Rattle.std.specs.Prelude.{◌≡◌, ◌≢◌, ℕ, Bool, false, List, All, length, Option, Some}
use Rattle.script.specs.Offering.{AllOffer}
use Rattle.script.specs.Script.{Plan}
use Rattle.script_service.specs.Serving.{LeavesScript, ServesScript}
use Rattle.script_service.specs.Sites.{site_of}
use Rattle.service_core.specs.declared.link.Link.{Ghosts as LinkOf}
use Rattle.server_run.specs.Delivery.{Delivers}
use Rattle.server_run.specs.Listener.{Mark}
use Rattle.server_run.specs.Memory.{links, marks}
use Rattle.server_run.specs.Outcome.{is_lost, is_stopped}
use Rattle.server_run.specs.Report.{Tells, is_stop}
use Rattle.server_run.specs.declared.entry.Entry.{Entry}
use Rattle.server_run.specs.declared.memory_link.MemoryLink.{MemoryLink}
use Rattle.server_run.specs.declared.memory_listener.MemoryListener.{MemoryListener}
use Rattle.server_run.specs.declared.report.End.TheVariants.{NoWorkers}
use Rattle.server_run.specs.declared.report.Report.{Report}

-- what the listener in memory tells of itself
abbrev pub left_of : MemoryListener → Option (List MemoryLink)
left_of listener = Some (links listener.steps.items)

abbrev pub rest_of : MemoryListener → Option (List Mark)
rest_of listener = Some (marks listener.steps.items)

abbrev pub given_of : MemoryListener → ℕ
given_of listener = listener.given

abbrev pub ended_of : MemoryListener → Bool
ended_of listener = listener.ended

-- its connection was neither stopped nor lost
abbrev pub IsUndisturbed : Entry MemoryLink → Type 0
IsUndisturbed entry = (is_stopped entry.outcome ≡ false) × (is_lost entry.outcome ≡ false)

-- The script's listeners gave these entries, each with its link, and ended as the report says.
pub record Runs (g : LinkOf MemoryLink) (plan : Plan) (entries : List (Entry MemoryLink)) (report : Report) : Type 0 where
  pub old : List MemoryListener
  pub new : List MemoryListener
  pub offer : AllOffer g plan.listeners old
  pub same_count : length new ≡ length old
  pub delivers : Delivers given_of left_of g.identity (λ token. ServesScript (site_of plan) g) (λ token. LeavesScript (site_of plan) g) old new entries
  pub faults_of : MemoryListener → ℕ
  pub told : Tells rest_of ended_of faults_of plan.retry_limit old new report
  pub retries : plan.retry_limit ≢ 0
  -- nothing stopped it, and no worker ended by a fault, and so none of its connections was stopped or lost
  pub unstopped : is_stop report.end ≡ false
  pub staffed : report.end ≢ NoWorkers
  pub undisturbed : All IsUndisturbed entries
