-- A worker that was joined, once all that it had was taken back: it is retired, or another one takes its place.
use Rattle.std.proofs.Common.{◌≡◌, ◌≢◌, ◌<◌, ◌≤◌, ℕ, Bool, true, false, List, Option, None, Some, IfSome, length, slice_get, sum_by, refl, sym, ◌∙◌, ap, length-set, subst, inl, inr}
use Rattle.std.specs.Prelude.{◌⊎◌, is_some, slice_set}
use Rattle.std.specs.List.{list_any}
use Rattle.std.specs.FinSet as set
use Rattle.std.specs.Option.{option_map}
use Rattle.rtrb.specs.Ring.{known_items}
use Rattle.service_core.specs.Counts.{risen}
use Rattle.service_core.specs.Link.{Identity}
use Rattle.service_core.specs.Meaning.{Readiness}
use Rattle.service_core.specs.declared.ended.Ended.{Ended}
use Rattle.server_acceptor.specs.Accepting.{received_at}
use Rattle.server_acceptor.specs.Acceptors.{core_of, notes_of as rings_back, out_of, parcels_of as rings_to, waiting_of, workers_of}
use Rattle.server_acceptor.specs.Parting.{LeavesRest}
use Rattle.server_acceptor.specs.Sending.{IsStopped}
use Rattle.server_acceptor.specs.declared.acceptor.Acceptor.{Acceptor}
use Rattle.server_core.specs.Core.{all_retired, allowed, in_order, may_return, step}
use Rattle.server_core.specs.declared.event.Event.TheVariants.{Replaced, Retired}
use Rattle.server_jobs.specs.Jobs.{job_of}
use Rattle.server_jobs.specs.Parcels.{is_stop}
use Rattle.server_jobs.specs.declared.handed.Handed.{Handed}
use Rattle.server_jobs.specs.declared.running.Running.{Running}
use Rattle.server_jobs.specs.declared.waiting.Waiting.{Waiting}
use Rattle.server_run.specs.Serving.{MayFault}
use Rattle.server.specs.Parting.{IsParted, StartsNone}
use Rattle.server.specs.Replacing.{Crew, HasFaulted, IsAlone, IsEven, IsSuccessor, KeepsOthers, Recalls, Restarts}
use Rattle.server.specs.Retiring.{AreRetired, IsUnfaulted, vacancy}
use Rattle.std.proofs.lemmas.Option.{slice_get_within}
use Rattle.server_worker.proofs.Lists.{slice_get-set_same}
use Rattle.server.proofs.CoreSteps.{no_some}
use Rattle.server.proofs.PlaceSteps.{crew_replaced, crew_retired, early_now, even_now, fault_now, gone_now, kept_first, may_return_now, none_left_now, none_out, none_runs, placed_nowhere, placed_now, placed_so, replaced_keeps, same_total, some_is, started_more, started_same, stop_there}
use Rattle.server.proofs.ReplaceSteps.{keeps_rings}
use Rattle.server.proofs.RetireSteps.{retired_ended, retired_refused, retired_replaced}
use Rattle.server.proofs.TakeBackSteps.{leaves_trans}
use Rattle.worker_job.specs.Promise.{CanWork}
use Rattle.worker_job.specs.declared.departure.Departure.{Departure}
use Rattle.worker_job.specs.declared.worker_job.WorkerJob.{WorkerJob}

module _ {F L E I : Type 0} (may_serve : F → ℕ → L → Ended L → Type 0) (may_leave : F → ℕ → L → L → Type 0) (may_ready : F → ℕ → Readiness E → Type 0) (may_init : F → ℕ → I → Type 0) (may_make : F → ℕ → Type 0)
    (identity : L → Identity) (factory : F) (listeners : ℕ) (a b : Acceptor L) (w : ℕ) (rs ss : List (Option (Running (WorkerJob L F) (Handed L F (Departure E I))))) (handed : Handed L F (Departure E I))
    (crew : Crew may_serve may_leave may_ready may_init may_make identity factory listeners a rs) (faulted : HasFaulted may_serve may_leave may_ready may_init may_make identity factory listeners a w rs) (even : IsEven identity a)
    (parted : IsParted may_serve may_leave may_ready may_init may_make identity a b w rs ss handed) where
  abbrev Fault : Type 0
  Fault = MayFault (may_ready factory) (may_init factory) listeners

  fault : Fault
  fault = fault_now may_serve may_leave may_ready may_init may_make identity factory listeners a b w rs ss handed crew faulted even parted

  -- one more was started, or none was
  pub restarts_filled : (before now : ℕ × ℕ) → now.0 ≡ risen before.0 → Restarts Fault before now
  restarts_filled before now is = record { starts = started_more before.0 now.0 is; cause = inr fault }

  pub restarts_vacant : {J : Type 0} (job : Option J) (before now : ℕ × ℕ) → StartsNone job before now → Restarts Fault before now
  restarts_vacant job before now (inl same) = record { starts = started_same before.0 now.0 (ap (λ x. x.0) same.1); cause = inl same.1 }
  restarts_vacant job before now (inr refused) = record { starts = started_same before.0 now.0 refused.0; cause = inr fault }

  pub still_inside : (c : Acceptor L) → Recalls b c w handed → w < workers_of a → w < workers_of c
  still_inside c recalls inside = subst (λ k. w < k) (sym (recalls.takes.rest.workers ∙ parted.rest.workers)) inside

  pub room_there : (room : ℕ) → out_of a ≤ room → out_of b ≤ room
  room_there room fits = same_total (core_of a) (core_of b) room parted.out_same (b.waits ∙ ap (option_map (λ (x : Waiting L). x.token)) parted.waits ∙ sym a.waits) fits

  pub has_place : w < length ss
  has_place = subst (λ n. w < n) (sym (ap length parted.vacant ∙ length-set rs w None)) (slice_get_within rs w (Some parted.ended) parted.was)

  -- once all was taken back
  module _ (inside : w < workers_of a) (c d : Acceptor L) (recalls : Recalls b c w handed) where
    may_return_there : may_return (core_of c) w ≡ true
    may_return_there = may_return_now (core_of c) w (still_inside c recalls inside) (ap (λ o. in_order o w) recalls.takes.order ∙ parted.off)
        (ap (λ x. set.contains x w) (recalls.takes.retired ∙ parted.retired) ∙ kept_first may_serve may_leave may_ready may_init may_make identity factory listeners a b w rs ss handed crew faulted even parted)
        (none_left_now may_serve may_leave may_ready may_init may_make identity factory listeners a b w rs ss handed crew faulted even parted c recalls)

    pub rest_there : LeavesRest c d → LeavesRest a d
    rest_there then_this = leaves_trans a c d (leaves_trans a b c parted.rest recalls.takes.rest) then_this

    -- it was retired
    module _ {X : Type 0} (retired : allowed (core_of c) (Retired w) ≡ true → (core_of d ≡ step (core_of c) (Retired w)) × X) (ins : rings_to d ≡ rings_to c) (outs : rings_back d ≡ rings_back c)
        (order : (core_of d).order ≡ (core_of c).order) (others : (v : ℕ) → v ≢ w → set.contains (core_of d).retired v ≡ set.contains (core_of c).retired v) (out : (core_of d).out ≡ (core_of c).out) where
      onward : KeepsOthers w c d
      onward = keeps_rings w c d ins outs (λ v other off. ap (λ o. in_order o v) order ∙ off) others

      came : received_at (rings_back d) w ≡ received_at (rings_back c) w
      came = ap (λ ns. received_at ns w) outs

      pub crew_vacant : Crew may_serve may_leave may_ready may_init may_make identity factory listeners d ss
      crew_vacant = crew_retired may_serve may_leave may_ready may_init may_make identity factory listeners a b w rs ss handed crew faulted even parted c d recalls onward came
          (ap (λ o. in_order o w) (order ∙ recalls.takes.order) ∙ parted.off) (gone_now w (core_of c) (core_of d) may_return_there retired)

      pub alone_vacant : (all_retired (core_of d) ≡ true) × (waiting_of d ≡ None) × ((core_of d).stopping ≡ None) → IsAlone d × MayFault (may_ready factory) (may_init factory) listeners × (sum_by vacancy ss ≡ length ss)
      alone_vacant last = (
        record {
          waiting = last.1;
          none_out = none_out may_serve may_leave may_ready may_init may_make identity factory listeners d ss crew_vacant
              (even_now may_serve may_leave may_ready may_init may_make identity factory listeners a b w rs ss handed crew faulted even parted c d recalls onward came out) last.0;
          unstopped = last.2;
        },
        fault,
        none_runs may_serve may_leave may_ready may_init may_make identity factory listeners d ss crew_vacant last.0,
      )

    -- and where no stop came it is known why
    pub retires_vacant : (job : Option (WorkerJob L F)) (before counts now : ℕ × ℕ) → StartsNone job counts now → (core_of d).stopping ≡ None → LeavesRest c d → (IsStopped (rings_to a) w → is_some (core_of a).stopping ≡ true)
        → (job ≡ None → (is_some (core_of c).stopping ≡ true) ⊎ ((list_any is_stop (known_items handed.parcels) ≡ true) ⊎ IsUnfaulted handed.departure))
        → AreRetired (may_init factory) listeners rs before counts → AreRetired (may_init factory) listeners ss before now
    retires_vacant job before counts now starts calm rest told why so_far = subst (λ xs. AreRetired (may_init factory) listeners xs before now) (sym parted.vacant) (by_start starts)
      where
        none_came : (core_of c).stopping ≡ None
        none_came = sym rest.stopping ∙ calm

        none_before : (core_of a).stopping ≡ None
        none_before = sym (recalls.takes.rest.stopping ∙ parted.rest.stopping) ∙ none_came

        by_cause : now ≡ counts → (is_some (core_of c).stopping ≡ true) ⊎ ((list_any is_stop (known_items handed.parcels) ≡ true) ⊎ IsUnfaulted handed.departure) → AreRetired (may_init factory) listeners (slice_set rs w None) before now
        by_cause same (inl stopping) = absurd (no_some (core_of c).stopping none_came stopping)
        by_cause same (inr (inl stop)) = absurd (no_some (core_of a).stopping none_before (told (stop_there may_serve may_leave may_ready may_init may_make identity factory listeners a b w rs ss handed crew faulted even parted stop)))
        by_cause same (inr (inr unfaulted)) =
            let early = early_now may_serve may_leave may_ready may_init may_make identity factory listeners a b w rs ss handed crew faulted even parted unfaulted in
            retired_ended (may_init factory) listeners rs w parted.ended None before counts now early.1.0 parted.was refl early.0 early.1.1 same so_far

        by_start : StartsNone job counts now → AreRetired (may_init factory) listeners (slice_set rs w None) before now
        by_start (inl same) = by_cause same.1 (why same.0)
        by_start (inr refused) = retired_refused (may_init factory) listeners rs w parted.ended None before counts now parted.was refl refused.0 refused.1 so_far

    pub placed_vacant : (P : Type 0) → IfSome (slice_get ss w) (λ now. is_some now ≡ true → P)
    placed_vacant P = placed_nowhere P ss w (ap (λ xs. slice_get xs w) parted.vacant ∙ slice_get-set_same rs w None (slice_get_within rs w (Some parted.ended) parted.was))

    -- another one takes its place
    module _ (put : Bool) (replaced : put ≡ true → core_of d ≡ step (core_of c) (Replaced w)) (refused : put ≡ false → (core_of d ≡ core_of c) × (allowed (core_of c) (Replaced w) ≡ false))
        (ins : rings_to d ≡ rings_to c) (outs : rings_back d ≡ rings_back c) (ts : List (Option (Running (WorkerJob L F) (Handed L F (Departure E I))))) (s : Running (WorkerJob L F) (Handed L F (Departure E I))) (filled : ts ≡ slice_set ss w (Some s)) where
      kept : ((core_of d).out ≡ (core_of c).out) × ((core_of d).waiting ≡ (core_of c).waiting) × ((core_of d).retired ≡ (core_of c).retired) × ((v : ℕ) → v ≢ w → in_order (core_of c).order v ≡ false → in_order (core_of d).order v ≡ false)
      kept = replaced_keeps w (core_of c) (core_of d) put replaced refused

      pub crew_filled : (job : Option (WorkerJob L F)) → IfSome job (IsSuccessor c w handed listeners) → job ≡ Some (job_of s) → Crew may_serve may_leave may_ready may_init may_make identity factory listeners d ts
      crew_filled job succeeds is = crew_replaced may_serve may_leave may_ready may_init may_make identity factory listeners a b w rs ss handed crew faulted even parted c d recalls
          (keeps_rings w c d ins outs kept.3 (λ v other. ap (λ x. set.contains x v) kept.2)) (ap (λ ns. received_at ns w) outs) ts (job_of s) s filled (some_is (IsSuccessor c w handed listeners) job (job_of s) is succeeds) refl outs
          (kept.2 ∙ recalls.takes.retired ∙ parted.retired)

      pub placed_filled : IfSome (slice_get ts w) (λ now. is_some now ≡ true → in_order (core_of d).order w ≡ true)
      placed_filled = placed_so (slice_get ts w) (placed_now w (core_of c) (core_of d) put may_return_there replaced refused)

      pub retires_filled : (before counts now : ℕ × ℕ) → now.0 ≡ risen counts.0 → now.1 ≡ counts.1 → AreRetired (may_init factory) listeners rs before counts → AreRetired (may_init factory) listeners ts before now
      retires_filled before counts now starts refusals so_far = subst (λ xs. AreRetired (may_init factory) listeners xs before now) (sym (filled ∙ ap (λ xs. slice_set xs w (Some s)) parted.vacant))
          (retired_replaced (may_init factory) listeners rs w parted.ended s None (Some s) before counts now parted.was (slice_get_within rs w (Some parted.ended) parted.was) refl refl starts refusals so_far)

-- a job that takes a worker's place may begin
pub can_begin : {F L E I : Type 0} (b : Acceptor L) (w : ℕ) (handed : Handed L F (Departure E I)) (listeners : ℕ) (job : Option (WorkerJob L F)) → IfSome job (IsSuccessor b w handed listeners) → 0 < listeners → listeners ≤ 64 → IfSome job CanWork
can_begin b w handed listeners None succeeds some few = tt
can_begin b w handed listeners (Some job) succeeds some few = record {
  some = subst (λ n. 0 < n) (sym succeeds.as_many) some;
  few = subst (λ n. n ≤ 64) (sym succeeds.as_many) few;
  place = succeeds.place;
}
