-- Why places come to have no worker, one after another.
use Rattle.std.proofs.Common.{◌≡◌, ◌≤◌, ◌<◌, ◌∷◌, [], ℕ, zero, suc, ◌+◌, List, All, Option, None, Some, length, slice_get, sum_by, refl, sym, ap, arith, subst}
use Rattle.std.specs.Prelude.{Err, IfOk, Ok, Result, slice_set}
use Rattle.std.proofs.lemmas.List.Elements.{All-cons, All-head, All-nil, All-tail}
use Rattle.std.proofs.lemmas.List.Sums.{sum_by-cons, sum_by-set}
use Rattle.std.proofs.lemmas.Option.{get_or_from_slice_get, slice_get_within}
use Rattle.std.specs.declared.alloc.Global.{Global}
use Rattle.rtrb.specs.Ring.{sent}
use Rattle.rtrb.specs.declared.AnyItems.{AnyItems}
use Rattle.rtrb.specs.declared.consumer.Consumer.{Consumer}
use Rattle.rtrb.specs.declared.producer.Producer.{Producer}
use Rattle.service_core.specs.Counts.{risen}
use Rattle.service_core.specs.Link.{Identity}
use Rattle.service_core.specs.Meaning.{Readiness}
use Rattle.service_core.specs.declared.ended.Ended.{Ended}
use Rattle.server_jobs.specs.Jobs.{job_of}
use Rattle.server_jobs.specs.declared.note.Note.{Note}
use Rattle.server_jobs.specs.declared.parcel.Parcel.{Parcel}
use Rattle.server_jobs.specs.declared.running.Running.{Running}
use Rattle.server_run.specs.declared.report.Report.{Report}
use Rattle.server_run.specs.declared.report.End.TheVariants.{NoWorkers}
use Rattle.server_worker.proofs.Lists.{slice_get-set_same}
use Rattle.server.specs.Retiring.{AreFirst, AreRetired, MayEndEarly, Retirements, succession, vacancy}
use Rattle.server.specs.Rows.{by_job, rows_of}
use Rattle.server.specs.Starting.{HasStarted, IsStarted, RoseBy}
use Rattle.worker_job.specs.Jobs.{notes_of}
use Rattle.worker_job.specs.declared.worker_job.WorkerJob.{WorkerJob}

-- a sum of which one element was changed
pub sum_changed : {X : Type 0} (f : X → ℕ) (xs : List X) (w : ℕ) (x y : X) → slice_get xs w ≡ Some x → sum_by f (slice_set xs w y) + f x ≡ sum_by f xs + f y
sum_changed f xs w x y at = subst (λ z. sum_by f (slice_set xs w y) + f z ≡ sum_by f xs + f y) (get_or_from_slice_get xs w x y at) (sum_by-set f xs w y y (slice_get_within xs w x at))

module _ {I : Type 0} (may_init : ℕ → I → Type 0) (listeners : ℕ) where
  -- none is vacant at first
  pub none_retired : (counts : ℕ × ℕ) → Retirements may_init listeners 0 0 counts counts
  none_retired counts = record { ended = []; early = All-nil (MayEndEarly may_init listeners); few = omega arith; started = omega arith; refused = omega arith }

  -- another one was started in a place
  pub one_replaced : (vacant replaced then_replaced : ℕ) (before now then_these : ℕ × ℕ) → then_replaced ≤ replaced + 1 → then_these.0 ≡ risen now.0 → then_these.1 ≡ now.1
      → Retirements may_init listeners vacant replaced before now → Retirements may_init listeners vacant then_replaced before then_these
  one_replaced vacant replaced then_replaced before now then_these more starts refusals r = record {
    ended = r.ended;
    early = r.early;
    few = r.few;
    started = let s = r.started in omega (arith, s, starts, more);
    refused = let s = r.refused in omega (arith, s, refusals);
  }

  -- one was refused
  pub one_refused : (vacant replaced then_replaced : ℕ) (before now then_these : ℕ × ℕ) → then_replaced ≤ replaced → then_these.0 ≡ now.0 → then_these.1 ≡ risen now.1
      → Retirements may_init listeners vacant replaced before now → Retirements may_init listeners (vacant + 1) then_replaced before then_these
  one_refused vacant replaced then_replaced before now then_these less starts refusals r = record {
    ended = r.ended;
    early = r.early;
    few = let f = r.few in omega (arith, f);
    started = let s = r.started in omega (arith, s, starts, less);
    refused = let s = r.refused in let f = r.few in omega (arith, s, f, refusals);
  }

  -- one that had replaced another ended before its services stood
  pub one_ended : (vacant replaced then_replaced : ℕ) (before now then_these : ℕ × ℕ) (error : Option (ℕ × I)) → MayEndEarly may_init listeners error → then_replaced + 1 ≤ replaced → then_these ≡ now
      → Retirements may_init listeners vacant replaced before now → Retirements may_init listeners (vacant + 1) then_replaced before then_these
  one_ended vacant replaced then_replaced before now then_these error may less same r = subst (Retirements may_init listeners (vacant + 1) then_replaced before) (sym same) (record {
    ended = error ∷ r.ended;
    early = All-cons (MayEndEarly may_init listeners) error r.ended may r.early;
    few = let f = r.few in omega (arith, f);
    started = let s = r.started in omega (arith, s, less);
    refused = let s = r.refused in let f = r.few in omega (arith, s, f);
  })

  -- the same where as many were started before
  pub retired_since : (vacant first : ℕ) (before counted now : ℕ × ℕ) → RoseBy first before.0 counted.0 → counted.1 ≡ before.1
      → Retirements may_init listeners vacant 0 counted now → Retirements may_init listeners vacant 0 (before.0 + first, before.1) now
  retired_since vacant first before counted now rose same r = record {
    ended = r.ended;
    early = r.early;
    few = r.few;
    started = let s = r.started in let e = rose.at_least in omega (arith, s, e);
    refused = let s = r.refused in omega (arith, s, same);
  }

  module _ {F L O : Type 0} where
    -- the workers of a run at its start
    pub first_retired : (rs : List (Option (Running (WorkerJob L F) O))) (counts : ℕ × ℕ) → AreFirst rs → AreRetired may_init listeners rs counts counts
    first_retired rs counts first = subst (λ v. Retirements may_init listeners v (sum_by succession rs) counts counts) (sym first.none_vacant)
        (subst (λ s. Retirements may_init listeners 0 s counts counts) (sym first.none_replaced) (none_retired counts))

    -- one took the place of another
    pub retired_replaced : (rs : List (Option (Running (WorkerJob L F) O))) (w : ℕ) (r s : Running (WorkerJob L F) O) (mid now : Option (Running (WorkerJob L F) O)) (before counts then_these : ℕ × ℕ) → slice_get rs w ≡ Some (Some r) → w < length rs
        → mid ≡ None → now ≡ Some s → then_these.0 ≡ risen counts.0 → then_these.1 ≡ counts.1 → AreRetired may_init listeners rs before counts → AreRetired may_init listeners (slice_set (slice_set rs w mid) w now) before then_these
    retired_replaced rs w r s mid now before counts then_these at inside none some starts refusals so_far =
        let at_mid = slice_get-set_same rs w mid inside in
        let vacant = sum_changed vacancy rs w (Some r) mid at in
        let filled = sum_changed vacancy (slice_set rs w mid) w mid now at_mid in
        let left = sum_changed succession rs w (Some r) mid at in
        let replaced = sum_changed succession (slice_set rs w mid) w mid now at_mid in
        let a = ap vacancy none in
        let b = ap vacancy some in
        let c = ap succession none in
        let d = ap succession some in
        subst (λ v. Retirements may_init listeners v (sum_by succession (slice_set (slice_set rs w mid) w now)) before then_these) (omega (arith, vacant, filled, a, b))
        (one_replaced (sum_by vacancy rs) (sum_by succession rs) (sum_by succession (slice_set (slice_set rs w mid) w now)) before counts then_these (omega (arith, left, replaced, c, d)) starts refusals so_far)

    -- none did, since it was refused
    pub retired_refused : (rs : List (Option (Running (WorkerJob L F) O))) (w : ℕ) (r : Running (WorkerJob L F) O) (now : Option (Running (WorkerJob L F) O)) (before counts then_these : ℕ × ℕ) → slice_get rs w ≡ Some (Some r) → now ≡ None
        → then_these.0 ≡ counts.0 → then_these.1 ≡ risen counts.1 → AreRetired may_init listeners rs before counts → AreRetired may_init listeners (slice_set rs w now) before then_these
    retired_refused rs w r now before counts then_these at is starts refusals so_far =
        let vacant = sum_changed vacancy rs w (Some r) now at in
        let replaced = sum_changed succession rs w (Some r) now at in
        let one = ap vacancy is in
        let none = ap succession is in
        subst (λ v. Retirements may_init listeners v (sum_by succession (slice_set rs w now)) before then_these) (omega (arith, vacant, one))
        (one_refused (sum_by vacancy rs) (sum_by succession rs) (sum_by succession (slice_set rs w now)) before counts then_these (omega (arith, replaced, none)) starts refusals so_far)

    -- none did, since it had replaced another and ended before its services stood
    pub retired_ended : (rs : List (Option (Running (WorkerJob L F) O))) (w : ℕ) (r : Running (WorkerJob L F) O) (now : Option (Running (WorkerJob L F) O)) (before counts then_these : ℕ × ℕ) (error : Option (ℕ × I))
        → slice_get rs w ≡ Some (Some r) → now ≡ None → 1 ≤ length (sent (notes_of (job_of r))) → MayEndEarly may_init listeners error
        → then_these ≡ counts → AreRetired may_init listeners rs before counts → AreRetired may_init listeners (slice_set rs w now) before then_these
    retired_ended rs w r now before counts then_these error at is later may same so_far =
        let vacant = sum_changed vacancy rs w (Some r) now at in
        let replaced = sum_changed succession rs w (Some r) now at in
        let one = ap vacancy is in
        let none = ap succession is in
        subst (λ v. Retirements may_init listeners v (sum_by succession (slice_set rs w now)) before then_these) (omega (arith, vacant, one))
        (one_ended (sum_by vacancy rs) (sum_by succession rs) (sum_by succession (slice_set rs w now)) before counts then_these error may (omega (arith, replaced, none, later)) same so_far)

    -- the same counts
    pub retired_on : (rs : List (Option (Running (WorkerJob L F) O))) (before counts then_these : ℕ × ℕ) → AreRetired may_init listeners rs before counts → then_these ≡ counts → AreRetired may_init listeners rs before then_these
    retired_on rs before counts then_these so_far same = subst (AreRetired may_init listeners rs before) (sym same) so_far

    -- all are retired
    pub all_retired_now : (rs : List (Option (Running (WorkerJob L F) O))) (many : ℕ) (before now : ℕ × ℕ) → sum_by vacancy rs ≡ length rs → length rs ≡ many → AreRetired may_init listeners rs before now → Retirements may_init listeners many 0 before now
    all_retired_now rs many before now all is r = record {
      ended = r.ended;
      early = r.early;
      few = let f = r.few in omega (arith, f, all, is);
      started = let s = r.started in omega (arith, s);
      refused = let s = r.refused in omega (arith, s, all, is);
    }

-- where none runs, each place is vacant
pub all_vacant : {J O : Type 0} (rs : List (Option (Running J O))) → ((w : ℕ) (r : Running J O) → slice_get rs w ≡ Some (Some r) → ⊥) → sum_by vacancy rs ≡ length rs
all_vacant [] none = refl
all_vacant {J = J} {O = O} (None ∷ rs) none =
    let rest = all_vacant rs (λ w r at. none (suc w) r at) in
    let more = sum_by-cons (vacancy {J = J} {O = O}) None rs in omega (arith, rest, more)
all_vacant (Some r ∷ rs) none = absurd (none zero r refl)

-- workers that were just started are the first in their places
pub first_started : {L F E I O : Type 0} (may_serve : F → ℕ → L → Ended L → Type 0) (may_leave : F → ℕ → L → L → Type 0) (may_ready : F → ℕ → Readiness E → Type 0) (may_init : F → ℕ → I → Type 0) (may_make : F → ℕ → Type 0)
    (identity : L → Identity) (workers : ℕ) (factory : F) (listeners : ℕ) (ps : List (Producer (Parcel L) Global AnyItems)) (ns : List (Consumer (Note L) Global AnyItems)) (rs : List (Option (Running (WorkerJob L F) O)))
    → (length ps ≡ length rs) × (length ns ≡ length rs) → All (HasStarted may_serve may_leave may_ready may_init may_make identity workers factory listeners) (rows_of ps ns rs) → AreFirst rs
first_started may_serve may_leave may_ready may_init may_make identity workers factory listeners ps ns [] as_many started = record { none_vacant = refl; none_replaced = refl }
first_started may_serve may_leave may_ready may_init may_make identity workers factory listeners [] ns (r ∷ rs) as_many started = absurd (let m = as_many.0 in omega (arith, m))
first_started may_serve may_leave may_ready may_init may_make identity workers factory listeners (p ∷ ps) [] (r ∷ rs) as_many started = absurd (let m = as_many.1 in omega (arith, m))
first_started {L = L} {F = F} {O = O} may_serve may_leave may_ready may_init may_make identity workers factory listeners (p ∷ ps) (n ∷ ns) (r ∷ rs) as_many started =
    let here = by_running r (All-head (HasStarted may_serve may_leave may_ready may_init may_make identity workers factory listeners) (record { parcels = p; notes = n; running = r }) (rows_of ps ns rs) started) in
    let rest = first_started may_serve may_leave may_ready may_init may_make identity workers factory listeners ps ns rs ((let m = as_many.0 in omega (arith, m)), (let m = as_many.1 in omega (arith, m)))
    (All-tail (HasStarted may_serve may_leave may_ready may_init may_make identity workers factory listeners) (record { parcels = p; notes = n; running = r }) (rows_of ps ns rs) started) in
    let vacant = rest.none_vacant in
    let replaced = rest.none_replaced in
    record {
      none_vacant = omega (arith, here.0, vacant, sum_by-cons vacancy r rs);
      none_replaced = omega (arith, here.1, replaced, sum_by-cons succession r rs);
    }
  where
    by_running : (r : Option (Running (WorkerJob L F) O)) → by_job (IsStarted may_serve may_leave may_ready may_init may_make identity workers factory listeners) (λ p n. ⊥) p n r → (vacancy r ≡ 0) × (succession r ≡ 0)
    by_running None is = absurd is
    by_running (Some s) is = let none = ap length is.unsent in (refl, omega (arith, none))

-- the same of a run, whose workers were started before
pub alone_since : {I X : Type 0} (may_init : ℕ → I → Type 0) (listeners many workers : ℕ) (before counted now : ℕ × ℕ) (result : Result Report X) → many ≡ workers → RoseBy many before.0 counted.0 → counted.1 ≡ before.1
    → IfOk result (λ report. report.end ≡ NoWorkers → Retirements may_init listeners many 0 counted now)
    → IfOk result (λ report. report.end ≡ NoWorkers → Retirements may_init listeners workers 0 (before.0 + workers, before.1) now)
alone_since may_init listeners many workers before counted now (Ok report) is rose same alone = λ none.
    subst (λ n. Retirements may_init listeners n 0 (before.0 + n, before.1) now) is (retired_since may_init listeners many many before counted now rose same (alone none))
alone_since may_init listeners many workers before counted now (Err error) is rose same alone = tt
