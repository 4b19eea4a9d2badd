-- A worker that is joined while the server accepts.
use Rattle.std.proofs.Common.{◌≡◌, ◌<◌, ℕ, List, Option, Some, IfSome, sym, ◌∙◌, ap, arith, subst}
use Rattle.std.specs.Prelude.{slice_get}
use Rattle.std.specs.declared.alloc.Global.{Global}
use Rattle.rtrb.specs.Ring.{IsPair}
use Rattle.rtrb.specs.declared.AnyItems.{AnyItems}
use Rattle.rtrb.specs.declared.consumer.Consumer.{Consumer}
use Rattle.rtrb.specs.declared.producer.Producer.{Producer}
use Rattle.service_core.specs.Link.{Identity}
use Rattle.service_core.specs.Meaning.{Readiness}
use Rattle.service_core.specs.declared.ended.Ended.{Ended}
use Rattle.server_acceptor.specs.Acceptors.{notes_of as rings_back, parcels_of as rings_to, workers_of}
use Rattle.server_acceptor.specs.declared.acceptor.Acceptor.{Acceptor}
use Rattle.server_jobs.specs.Jobs.{job_of}
use Rattle.server_jobs.specs.declared.handed.Handed.{Handed}
use Rattle.server_jobs.specs.declared.note.Note.{Note}
use Rattle.server_jobs.specs.declared.parcel.Parcel.{Parcel}
use Rattle.server_jobs.specs.declared.running.Running.{Running}
use Rattle.server.specs.Parting.{RunsOver}
use Rattle.server.specs.Replacing.{Crew}
use Rattle.server.proofs.PlaceSteps.{there}
use Rattle.worker_job.specs.Jobs.{notes_of, parcels_of}
use Rattle.worker_job.specs.Promise.{HandsOver}
use Rattle.worker_job.specs.declared.departure.Departure.{Departure}
use Rattle.worker_job.specs.declared.worker_job.WorkerJob.{WorkerJob}

module _ {F L E I : Type 0} (may_serve : F → ℕ → L → Ended L → Type 0) (may_leave : F → ℕ → L → L → Type 0) (may_ready : F → ℕ → Readiness E → Type 0) (may_init : F → ℕ → I → Type 0) (may_make : F → ℕ → Type 0)
    (identity : L → Identity) where
  -- a job of a run has the other ends of its rings
  pub crew_over : (factory : F) (listeners : ℕ) (a : Acceptor L) (w : ℕ) (rs : List (Option (Running (WorkerJob L F) (Handed L F (Departure E I)))))
      → Crew may_serve may_leave may_ready may_init may_make identity factory listeners a rs → RunsOver a w rs
  crew_over factory listeners a w rs crew p n r at_p at_n at_r = let it = crew.each w p n (Some r) at_p at_n at_r in (it.runs.to_it, it.runs.from_it)

  -- and so has what it hands over, wherever these ends stand
  module _ (a : Acceptor L) (w : ℕ) (inside : w < workers_of a) (rs : List (Option (Running (WorkerJob L F) (Handed L F (Departure E I))))) (r : Running (WorkerJob L F) (Handed L F (Departure E I)))
      (over : RunsOver a w rs) (at_r : slice_get rs w ≡ Some (Some r)) (out : Handed L F (Departure E I)) (promised : HandsOver identity may_serve may_leave may_ready may_init may_make (job_of r) out) where
    its_p : (p : Producer (Parcel L) Global AnyItems) × (slice_get (rings_to a) w ≡ Some p)
    its_p = there (rings_to a) w (let m = a.workers.0 in omega (arith, m, inside))

    its_n : (n : Consumer (Note L) Global AnyItems) × (slice_get (rings_back a) w ≡ Some n)
    its_n = there (rings_back a) w (let m = a.workers.1 in omega (arith, m, inside))

    its_ends : IsPair its_p.0 (parcels_of (job_of r)) × IsPair (notes_of (job_of r)) its_n.0
    its_ends = over its_p.0 its_n.0 r its_p.1 its_n.1 at_r

    pub to_first : (ps : List (Producer (Parcel L) Global AnyItems)) → ps ≡ rings_to a → IfSome (slice_get ps w) (λ p. IsPair p out.parcels)
    to_first ps is = subst (λ o. IfSome o (λ x. IsPair x out.parcels)) (sym (ap (λ qs. slice_get qs w) is ∙ its_p.1)) (
      promised.accounts.same_inward.0.0 ∙ its_ends.0.0,
      promised.accounts.same_inward.0.1 ∙ its_ends.0.1,
      promised.accounts.same_inward.0.2 ∙ its_ends.0.2,
      promised.accounts.same_inward.0.3 ∙ its_ends.0.3,
    )

    pub from_first : (ns : List (Consumer (Note L) Global AnyItems)) → ns ≡ rings_back a → IfSome (slice_get ns w) (λ c. IsPair out.notes c)
    from_first ns is = subst (λ o. IfSome o (λ x. IsPair out.notes x)) (sym (ap (λ qs. slice_get qs w) is ∙ its_n.1)) (
      its_ends.1.0 ∙ sym promised.accounts.same_outward.0.0,
      its_ends.1.1 ∙ sym promised.accounts.same_outward.0.1,
      its_ends.1.2 ∙ sym promised.accounts.same_outward.0.2,
      its_ends.1.3 ∙ sym promised.accounts.same_outward.0.3,
    )
