-- A script's connections, from their links to the printed report.
use Rattle.std.proofs.Common.{◌≡◌, ◌≢◌, ◌≤◌, ◌++◌, ◌+◌, ◌⊎◌, ℕ, Bool, true, false, List, [], All, length, Some, None, refl, subst, sym, inl, inr}
use Rattle.std.specs.List.{count_by}
use Rattle.std.specs.Option.{option_map}
use Rattle.std.proofs.Math.Nat.{le_trans}
use Rattle.std.proofs.lemmas.List.Elements.{All-weaker}
use Rattle.std.proofs.lemmas.List.Sums.{sum_by-take-le}
use Rattle.std.proofs.lemmas.Option.{same_Some}
use Rattle.report.specs.Report.{IsText}
use Rattle.script.specs.Offering.{AllOffer}
use Rattle.script.specs.Script.{Plan}
use Rattle.script_service.specs.Serving.{LeavesScript, ServesScript}
use Rattle.script_service.specs.Sites.{Site, site_of}
use Rattle.server.specs.Starting.{RoseBy, Started}
use Rattle.service_core.specs.declared.link.Link.{Ghosts as LinkOf}
use Rattle.server_run.specs.Delivery.{Delivers}
use Rattle.server_run.specs.Outcome.{is_lost}
use Rattle.server_run.specs.Report.{Tells, is_stop}
use Rattle.server_run.specs.Serving.{HasCause, IsLostBy}
use Rattle.server_run.specs.Steps.{is_read_fail, is_write_fail}
use Rattle.server_run.specs.declared.entry.Entry.{Entry}
use Rattle.server_run.specs.declared.memory_link.MemoryLink.{MemoryLink}
use Rattle.server_run.specs.declared.memory_listener.MemoryListener.{MemoryListener}
use Rattle.server_run.specs.declared.outcome.Outcome.{Outcome}
use Rattle.server_run.specs.declared.outcome.Outcome.TheVariants as outcome
use Rattle.server_run.specs.declared.report.End.{End}
use Rattle.server_run.specs.declared.report.End.TheVariants.{NoWorkers}
use Rattle.server_run.specs.declared.report.Report.{Report}
use Rattle.server_run.specs.contracts.memory_link.MemoryLinkLink.TheImpl.{ghosts}
use Rattle.replaying.proofs.Telling.{report_is}
use Rattle.replaying.specs.Running.{IsUndisturbed, Runs, ended_of, given_of, left_of, rest_of}
use Rattle.replaying.specs.Reported.{IsReportOf}

-- no more reads and writes of a link in memory have failed than its steps say
pub few_reads : (link : MemoryLink) → link.read_faults ≤ count_by is_read_fail link.reads.items
few_reads link = le_trans link.failed_reads (sum_by-take-le _ link.reads.items link.step)

pub few_writes : (link : MemoryLink) → link.write_faults ≤ count_by is_write_fail link.writes.items
few_writes link = le_trans link.failed_writes (sum_by-take-le _ link.writes.items link.write_step)

-- no more workers were started where none may end by a fault
pub rose_by : (may_fault : Type 0) (n before now : ℕ) → Started may_fault n before now → (may_fault → ⊥) → RoseBy n before now
rose_by may_fault n before now started sound = record { at_least = started.at_least; at_most = few started.at_most }
  where
    few : (now ≤ before + n) ⊎ may_fault → now ≤ before + n
    few (inl most) = most
    few (inr fault) = absurd (sound fault)

-- a connection is neither stopped nor lost where nothing stopped the run, and no worker may end by a fault
undisturbed_by : (workers : ℕ) (may_fault : Type 0) (end : End) → (may_fault → ⊥) → is_stop end ≡ false → end ≢ NoWorkers
    → (e : Entry MemoryLink) → HasCause workers may_fault end e → IsUndisturbed e
undisturbed_by workers may_fault end sound unstopped staffed e cause = (going _ cause.stopped, kept e.outcome cause.lost)
  where
    going : (stopped : Bool) → (stopped ≡ true → is_stop end ≡ true) → stopped ≡ false
    going false stops = refl
    going true stops = absurd (let stop = stops refl in cc)

    kept : (out : Outcome) → IsLostBy workers may_fault end out → is_lost out ≡ false
    kept outcome.Served lost = refl
    kept outcome.ReadFault lost = refl
    kept outcome.WriteFault lost = refl
    kept outcome.Upgraded lost = refl
    kept (outcome.Lost (Some worker)) lost = absurd (sound lost.1)
    kept (outcome.Lost None) lost = absurd (staffed lost)
    kept (outcome.Stopped forced) lost = refl
    kept outcome.Memory lost = refl

-- what a server that served the script's listeners answered
pub runs_by : (g : LinkOf MemoryLink) (plan : Plan) (at : Site) → at ≡ site_of plan → (kept : List (Entry MemoryLink)) (report : Report) (old new : List MemoryListener)
    (faults : MemoryListener → ℕ) (retry_limit : ℕ) → retry_limit ≡ plan.retry_limit → plan.retry_limit ≢ 0 → AllOffer g plan.listeners old → length new ≡ length old
    → (workers : ℕ) (may_fault : Type 0) (entries : List (Entry MemoryLink)) → Some kept ≡ option_map (λ xs. xs ++ entries) (Some [])
    → Delivers given_of left_of g.identity (λ token. ServesScript at g) (λ token. LeavesScript at g) old new entries
    → Tells rest_of ended_of faults retry_limit old new report → is_stop report.end ≡ false → (report.end ≡ NoWorkers → may_fault) → All (HasCause workers may_fault report.end) entries
    → (may_fault → ⊥) → Runs g plan kept report
runs_by g plan at same kept report old new faults retry_limit limit some offers many workers may_fault entries is delivers told unstopped faulted outcomes sound =
    let all : kept ≡ entries = same_Some _ _ is in
    let staffed : report.end ≢ NoWorkers = λ none. sound (faulted none) in
    record {
      old = old;
      new = new;
      offer = offers;
      same_count = many;
      delivers = subst (λ (es : List (Entry MemoryLink)). Delivers given_of left_of g.identity (λ token. ServesScript (site_of plan) g) (λ token. LeavesScript (site_of plan) g) old new es) (sym all)
          (subst (λ (s : Site). Delivers given_of left_of g.identity (λ token. ServesScript s g) (λ token. LeavesScript s g) old new entries) same delivers);
      faults_of = faults;
      told = subst (λ (n : ℕ). Tells rest_of ended_of faults n old new report) limit told;
      retries = some;
      unstopped = unstopped;
      staffed = staffed;
      undisturbed = subst (λ (es : List (Entry MemoryLink)). All IsUndisturbed es) (sym all)
          (All-weaker (HasCause workers may_fault report.end) IsUndisturbed (undisturbed_by workers may_fault report.end sound unstopped staffed) entries outcomes);
    }

-- the report of the script
pub reported : (plan : Plan) (entries : List (Entry MemoryLink)) (report : Report) (text : List ℕ) → Runs ghosts plan entries report → IsText entries report text → IsReportOf plan text
reported plan entries report text runs printed =
    report_is ghosts (λ link. refl) (λ link. (few_reads link, few_writes link)) plan runs.faults_of entries report runs.old runs.new text runs.offer runs.same_count runs.delivers runs.told printed
    runs.unstopped runs.staffed runs.undisturbed
    runs.retries
