-- What was put on the ring of a worker that was joined came back, and each connection came back as it may.
use Rattle.std.proofs.Common.{◌≡◌, ◌≤◌, ◌<◌, ◌++◌, ◌∷◌, [], ℕ, zero, suc, true, false, List, All, Contains, Option, None, Some, length, length-append, sum_by, refl, sym, ◌∙◌, ap, arith, subst, inl, inr, append_assoc}
use Rattle.std.specs.Prelude.{◌⊎◌, Bool, Err, slice_index_or, ◌||◌}
use Rattle.std.specs.List.{list_any}
use Rattle.std.proofs.lemmas.List.{append_cancel_left}
use Rattle.std.proofs.lemmas.List.Folds.{list_any-append}
use Rattle.std.proofs.lemmas.List.Sums.{sum_by-append, sum_by-cons}
use Rattle.std.proofs.lemmas.List.Elements.{All-append, All-cons, All-head, All-nil, All-tail, All-weaker, Contains-append_left, Contains-append_right}
use Rattle.rtrb.specs.Ring.{known_items, received, sent}
use Rattle.futures.specs.declared.task.Poll.TheVariants.{Ready as PollReady}
use Rattle.service_core.specs.Link.{Identity}
use Rattle.service_core.specs.Meaning.{Readiness}
use Rattle.service_core.specs.declared.ended.Ended.{Ended}
use Rattle.server_run.specs.Outcome.{is_stopped}
use Rattle.server_run.specs.Serving.{MayFault}
use Rattle.server_run.specs.declared.entry.Entry.{Entry}
use Rattle.server_jobs.specs.Cards.{of_parcel}
use Rattle.server_jobs.specs.Jobs.{job_of}
use Rattle.server_jobs.specs.Parcels.{is_stop}
use Rattle.server_jobs.specs.Returning.{entries_of, entry_of_note, entry_of_waiting, one_or_none}
use Rattle.server_jobs.specs.declared.handed.Handed.{Handed}
use Rattle.server_jobs.specs.declared.line.Line.{Line}
use Rattle.server_jobs.specs.declared.note.Note.{Note}
use Rattle.server_jobs.specs.declared.note.Note.TheVariants.{Ready, Back, Faulted}
use Rattle.server_jobs.specs.declared.parcel.Parcel.{Parcel}
use Rattle.server_jobs.specs.declared.parcel.Parcel.TheVariants.{Conn}
use Rattle.server_jobs.specs.declared.waiting.Waiting.{Waiting}
use Rattle.server_worker.proofs.TakeSteps.{told_onward}
use Rattle.server_worker.specs.Leaving.{HasStayed}
use Rattle.server_worker.specs.Sound.{IsTold}
use Rattle.worker_job.specs.Jobs.{factory_of, listeners_of, notes_of, parcels_of}
use Rattle.worker_job.specs.Promise.{HandsOver, AreSignals}
use Rattle.worker_job.specs.declared.departure.Departure.{Departure}
use Rattle.worker_job.specs.declared.departure.Departure.TheVariants.{Left, Unstarted, Faulted as FaultedJob, Memory}
use Rattle.worker_job.specs.declared.worker_job.WorkerJob.{WorkerJob}
use Rattle.server.specs.Joining.{IsJoined}
use Rattle.server.specs.Retiring.{IsUnfaulted, MayEndEarly}
use Rattle.server.specs.Starting.{RunsFor}
use Rattle.server.specs.Tales.{IsFrom, IsTale}
use Rattle.server.proofs.ReturnSteps.{all_front, told_wider}
use Rattle.server.proofs.TaleSteps.{from_notes, from_rest, tale_onward, tale_told}

-- what holds of each element holds of those behind
all_back : {X : Type 0} (P : X → Type 0) (xs ys : List X) → All P (xs ++ ys) → All P ys
all_back P [] ys all = all
all_back P (x ∷ xs) ys all = all_back P xs ys (All-tail P x (xs ++ ys) all)

pub no_length : {X : Type 0} (xs : List X) → length xs ≡ 0 → xs ≡ []
no_length [] nothing = refl
no_length (x ∷ xs) nothing = absurd (omega arith)

-- an element weighs no more than all together
at_least : {X : Type 0} (f : X → ℕ) (xs : List X) (x : X) (k : ℕ) → k < length xs → slice_index_or xs k x ≡ x → f x ≤ sum_by f xs
at_least f [] x k inside is = absurd (omega arith)
at_least f (y ∷ ys) x zero inside is = let here : f y ≡ f x = ap f is in let more = sum_by-cons f y ys in omega (arith, here, more)
at_least f (y ∷ ys) x (suc k) inside is = let rest = at_least f ys x k (omega (arith, inside)) is in let more = sum_by-cons f y ys in omega (arith, rest, more)

-- the note that all services stand, weighed, and the one that tells of a fault
abbrev of_ready : {L : Type 0} → Note L → ℕ
of_ready Ready = 1
of_ready (Back e) = 0
of_ready Faulted = 0

abbrev of_fault : {L : Type 0} → Note L → ℕ
of_fault Ready = 0
of_fault (Back e) = 0
of_fault Faulted = 1

-- a job that told that its services stand did not end for want of one
no_unstarted : {L : Type 0} (told owed : List (Note L)) → Contains told Ready → AreSignals told owed (Faulted ∷ []) → ⊥
no_unstarted told owed has signals =
    let weigh = signals of_ready (λ entry. refl) in
    let least = at_least of_ready told Ready has.0 has.1 has.2 in
    omega (arith, weigh, least)

-- what stands before more than one weighs no more than all but the last
weighs_before : {X : Type 0} (f : X → ℕ) (xs : List X) (y : X) (ys before : List X) (x : X) → xs ++ y ∷ ys ≡ before ++ x ∷ [] → sum_by f xs ≤ sum_by f before
weighs_before f [] y ys before x is = omega arith
weighs_before f (z ∷ xs) y ys [] x is = absurd (let l = ap length is in let m = length-append xs (y ∷ ys) in omega (arith, l, m))
weighs_before f (z ∷ xs) y ys (b ∷ before) x is =
    let here : z ≡ b = cc in
    let rest : xs ++ y ∷ ys ≡ before ++ x ∷ [] = cc in
    let more = weighs_before f xs y ys before x rest in
    let g = ap f here in
    omega (arith, more, g, sum_by-cons f z xs, sum_by-cons f b before)

-- where the last note tells of a fault, and no other does, nothing follows one that does
none_behind : {L : Type 0} (more known before : List (Note L)) → Contains more Faulted → more ++ known ≡ before ++ Faulted ∷ [] → sum_by of_fault (more ++ known) ≤ 1 → known ≡ []
none_behind more [] before has is one = refl
none_behind more (k ∷ ks) before has is one = absurd (
    let least = at_least of_fault more Faulted has.0 has.1 has.2 in
    let front = weighs_before of_fault more k ks before Faulted is in
    let all = ap (sum_by of_fault) is in
    let both = sum_by-append of_fault before (Faulted ∷ []) in
    omega (arith, least, front, all, both, one))

no_or : (a b : Bool) → a ≡ false → b ≡ false → (a || b) ≡ false
no_or true b first second = absurd (cc)
no_or false b first second = second

module _ {L F E I : Type 0} (may_serve : F → ℕ → L → Ended L → Type 0) (may_leave : F → ℕ → L → L → Type 0) (may_ready : F → ℕ → Readiness E → Type 0)
    (may_init : F → ℕ → I → Type 0) (may_make : F → ℕ → Type 0) (identity : L → Identity) (workers : ℕ) (factory : F) (listeners : ℕ)
    (line : Line L (WorkerJob L F) (Handed L F (Departure E I))) (runs : RunsFor may_serve may_leave may_ready may_init may_make identity workers factory listeners line)
    (it : IsJoined {D = Departure E I} identity (λ job out. HandsOver identity may_serve may_leave may_ready may_init may_make job out) (λ all. all) line) where
  abbrev Fault : Type 0
  Fault = MayFault (may_ready factory) (may_init factory) listeners

  abbrev job : WorkerJob L F
  job = job_of line.running

  -- the notes that came, and those on their way, are those that the job sent, behind those that had gone before
  notes : received line.notes ++ known_items it.joined.notes ≡ sent (notes_of job) ++ it.hands.promised.told
  notes = ap (λ ns. ns ++ known_items it.joined.notes) (sym it.same_received) ∙ it.from_it ∙ it.hands.outward.1 ∙ it.hands.promised.went

  -- what the job received came over the line
  pub parcels : sent line.parcels ≡ received it.hands.out.parcels ++ known_items it.joined.handed.parcels
  parcels = sym (it.to_it ∙ it.same_sent) ∙ ap (λ ps. ps ++ known_items it.joined.handed.parcels) it.hands.inward.1

  -- and so did what had come before
  parcels_before : sent line.parcels ≡ received (parcels_of job) ++ (it.hands.promised.taken ++ known_items it.joined.handed.parcels)
  parcels_before = parcels ∙ ap (λ ps. ps ++ known_items it.joined.handed.parcels) it.hands.promised.came ∙ append_assoc (received (parcels_of job)) it.hands.promised.taken (known_items it.joined.handed.parcels)

  abbrev Tale : Note L → Type 0
  Tale n = IsTale workers Fault (may_serve factory) (may_leave factory) (may_make factory) listeners (sent line.parcels) n

  -- a note that is true there is true of the factory, and of all that was put on the ring
  onward : (n : Note L) → IsTold (may_serve (factory_of job)) (may_leave (factory_of job)) (may_make (factory_of job)) listeners (received it.hands.out.parcels) n → Tale n
  onward n told = tale_told workers Fault (may_serve factory) (may_leave factory) (may_make factory) listeners (sent line.parcels) n
      (told_wider may_serve may_leave may_ready may_init may_make factory (factory_of job) runs.means listeners (sent line.parcels) n
      (told_onward (received it.hands.out.parcels) (known_items it.joined.handed.parcels) (sent line.parcels) parcels (may_serve (factory_of job)) (may_leave (factory_of job)) (may_make (factory_of job)) listeners n told))

  all_onward : (ns : List (Note L)) → All (IsTold (may_serve (factory_of job)) (may_leave (factory_of job)) (may_make (factory_of job)) (listeners_of job) (received it.hands.out.parcels)) ns → All Tale ns
  all_onward ns told = All-weaker (IsTold (may_serve (factory_of job)) (may_leave (factory_of job)) (may_make (factory_of job)) listeners (received it.hands.out.parcels)) Tale onward ns
      (subst (λ n. All (IsTold (may_serve (factory_of job)) (may_leave (factory_of job)) (may_make (factory_of job)) n (received it.hands.out.parcels)) ns) runs.as_many told)

  earlier : All Tale (sent (notes_of job))
  earlier = All-weaker (IsTale workers Fault (may_serve factory) (may_leave factory) (may_make factory) listeners (received (parcels_of job))) Tale
      (tale_onward workers Fault (may_serve factory) (may_leave factory) (received (parcels_of job)) (it.hands.promised.taken ++ known_items it.joined.handed.parcels) (sent line.parcels) parcels_before (may_make factory) listeners)
      (sent (notes_of job)) runs.told

  pub true_told : All Tale (received line.notes ++ known_items it.joined.notes)
  true_told = subst (All Tale) (sym notes) (All-append Tale (sent (notes_of job)) it.hands.promised.told earlier (all_onward it.hands.promised.told it.hands.promised.true_told))

  pub true_came : All Tale (received line.notes)
  true_came = all_front Tale (received line.notes) (known_items it.joined.notes) true_told

  true_owed : All Tale it.joined.handed.owed.items
  true_owed = subst (λ q. All Tale q.items) (sym it.hands.same.1) (all_onward it.hands.out.owed.items it.hands.promised.true_owed)

  abbrev From : List (Entry L) → Type 0
  From es = All (IsFrom workers Fault (may_serve factory) (may_leave factory) (sent line.parcels)) es

  pub from_known : From (entries_of entry_of_note (known_items it.joined.notes))
  from_known = from_notes workers Fault (may_serve factory) (may_leave factory) (sent line.parcels) (may_make factory) listeners (known_items it.joined.notes)
      (all_back Tale (received line.notes) (known_items it.joined.notes) true_told)

  pub from_owed : From (entries_of entry_of_note it.joined.handed.owed.items)
  from_owed = from_notes workers Fault (may_serve factory) (may_leave factory) (sent line.parcels) (may_make factory) listeners it.joined.handed.owed.items true_owed

  stayed : (w : Waiting L) → HasStayed identity (may_leave (factory_of job)) (received it.hands.out.parcels) w → HasStayed identity (may_leave factory) (sent line.parcels) w
  stayed w so = record {
    link = so.link;
    came = subst (λ ps. Contains ps (Conn w.serial w.token w.place so.link)) (sym parcels) (Contains-append_left (received it.hands.out.parcels) (known_items it.joined.handed.parcels) _ so.came);
    same = so.same;
    stands = stands_so so.stands;
  }
    where
      stands_so : ((w.link ≡ so.link) ⊎ may_leave (factory_of job) w.token so.link w.link) → (w.link ≡ so.link) ⊎ may_leave factory w.token so.link w.link
      stands_so (inl is) = inl is
      stands_so (inr left) = inr (runs.means.leaves w.token so.link w.link left)

  -- where something that had not ended was handed over, workers may end by faults
  module _ (worker : ℕ) (number : worker < workers) where
    pub from_left : Fault → From (entries_of (entry_of_waiting worker) it.joined.handed.rest.items)
    from_left fault = from_rest workers Fault (may_serve factory) (may_leave factory) (sent line.parcels) identity worker (number, fault) it.joined.handed.rest.items
        (subst (λ ws. All (HasStayed identity (may_leave factory) (sent line.parcels)) ws.items) (sym it.hands.same.2)
        (All-weaker (HasStayed identity (may_leave (factory_of job)) (received it.hands.out.parcels)) (HasStayed identity (may_leave factory) (sent line.parcels)) stayed it.hands.out.rest.items it.hands.promised.stayed))

  -- what is left in the ring was put there
  pub is_there : (p : Parcel L) → Contains (known_items it.joined.handed.parcels) p → Contains (sent line.parcels) p
  is_there p has = subst (λ ps. Contains ps p) (sym parcels) (Contains-append_right (received it.hands.out.parcels) (known_items it.joined.handed.parcels) p has)

  -- it told before that its services stand
  by_ready : Contains (received line.notes) Ready → sent (notes_of job) ≡ [] → Contains it.hands.promised.told Ready
  by_ready has none = subst (λ ns. Contains ns Ready) (notes ∙ ap (λ ns. ns ++ it.hands.promised.told) none) (Contains-append_left (received line.notes) (known_items it.joined.notes) Ready has)

  -- a service of its erred, and its factory refused another
  errs : (token : ℕ) (readiness : E) (error : I) → it.hands.out.departure ≡ FaultedJob token readiness error → Fault
  errs token readiness error is =
      let departs = rw is at it.hands.promised.departs in
      record {
        token = token;
        within = subst (λ n. token < n) runs.as_many departs.1;
        readiness = readiness;
        errs = runs.means.readies token (PollReady (Err readiness)) departs.2;
        error = error;
        refuses = runs.means.inits token error departs.3;
      }

  -- one that told that its services stand, or the place of which did, and that has none now
  lacks : Contains (received line.notes) Ready → AreSignals it.hands.promised.told it.hands.out.owed.items (Faulted ∷ []) → Fault
  lacks has signals = by_began runs.began
    where
      by_began : ((sent (notes_of job) ≡ []) ⊎ Fault) → Fault
      by_began (inl none) = absurd (no_unstarted it.hands.promised.told it.hands.out.owed.items (by_ready has none) signals)
      by_began (inr fault) = fault

  -- what had not ended, by why it left
  left_over : (departure : Departure E I) → it.hands.out.departure ≡ departure → Contains (received line.notes) Ready → (length it.hands.out.rest.items ≡ 0) ⊎ Fault
  left_over Left is has = inl (rw is at it.hands.promised.departs).1
  left_over (Unstarted token error) is has = inr (lacks has (rw is at it.hands.promised.signals))
  left_over (FaultedJob token readiness error) is has = inr (errs token readiness error is)
  left_over Memory is has = inl (rw is at it.hands.promised.departs).1

  -- nothing was put on the ring, or the place told that its services stand
  pub none_or_fault : (sum_by (of_parcel identity (λ c. 1)) (sent line.parcels) ≡ 0) ⊎ Contains (received line.notes) Ready → (it.joined.handed.rest.items ≡ []) ⊎ Fault
  none_or_fault (inl none) =
      let once = it.once (λ c. 1) in
      let put = ap (sum_by (of_parcel identity (λ c. 1))) it.same_sent in
      let weighs : sum_by (λ (w : Waiting L). 1) it.joined.handed.rest.items ≡ 0 = omega (arith, once, put, none) in
      inl (no_length it.joined.handed.rest.items (by_ones it.joined.handed.rest.items weighs))
    where
      by_ones : (ws : List (Waiting L)) → sum_by (λ (w : Waiting L). 1) ws ≡ 0 → length ws ≡ 0
      by_ones [] nothing = refl
      by_ones (w ∷ ws) nothing = absurd (let more = sum_by-cons (λ (x : Waiting L). 1) w ws in omega (arith, more, nothing))
  none_or_fault (inr has) = by_left (left_over it.hands.out.departure refl has)
    where
      by_left : (length it.hands.out.rest.items ≡ 0) ⊎ Fault → (it.joined.handed.rest.items ≡ []) ⊎ Fault
      by_left (inl nothing) = inl (ap (λ q. q.items) it.hands.same.2 ∙ no_length it.hands.out.rest.items nothing)
      by_left (inr fault) = inr fault

  -- ---- it told of a fault since its job began
  module _ (ready : Contains (received line.notes) Ready) (more : List (Note L)) (since : received line.notes ≡ sent (notes_of job) ++ more) (faulted : Contains more Faulted) where
    -- what it told came, and what is on its way
    told_is : more ++ known_items it.joined.notes ≡ it.hands.promised.told
    told_is = append_cancel_left (sent (notes_of job)) (more ++ known_items it.joined.notes) it.hands.promised.told
        (sym (append_assoc (sent (notes_of job)) more (known_items it.joined.notes)) ∙ ap (λ ns. ns ++ known_items it.joined.notes) (sym since) ∙ notes)

    has_told : Contains it.hands.promised.told Faulted
    has_told = subst (λ ns. Contains ns Faulted) told_is (Contains-append_left more (known_items it.joined.notes) Faulted faulted)

    one_at_least : 1 ≤ sum_by of_fault it.hands.promised.told
    one_at_least = at_least of_fault it.hands.promised.told Faulted has_told.0 has_told.1 has_told.2

    -- so it did not leave by a stop
    not_left : it.hands.out.departure ≡ Left → ⊥
    not_left is = by_signals (rw is at it.hands.promised.signals)
      where
        by_signals : AreSignals it.hands.promised.told it.hands.out.owed.items [] ⊎ AreSignals it.hands.promised.told it.hands.out.owed.items (Ready ∷ []) → ⊥
        by_signals (inl signals) = let weigh = signals of_fault (λ entry. refl) in omega (arith, weigh, one_at_least)
        by_signals (inr signals) = let weigh = signals of_fault (λ entry. refl) in omega (arith, weigh, one_at_least)

    pub fault : Fault
    fault = by_departure it.hands.out.departure refl
      where
        by_departure : (departure : Departure E I) → it.hands.out.departure ≡ departure → Fault
        by_departure Left is = absurd (not_left is)
        by_departure (Unstarted token error) is = lacks ready (rw is at it.hands.promised.signals)
        by_departure (FaultedJob token readiness error) is = errs token readiness error is
        by_departure Memory is = lacks ready (rw is at it.hands.promised.signals)

    -- one whose services never stood took another one's place
    later : AreSignals it.hands.promised.told it.hands.out.owed.items (Faulted ∷ []) → 1 ≤ length (sent (notes_of job))
    later signals = by_notes (sent (notes_of job)) refl
      where
        by_notes : (ns : List (Note L)) → sent (notes_of job) ≡ ns → 1 ≤ length ns
        by_notes [] none = absurd (no_unstarted it.hands.promised.told it.hands.out.owed.items (by_ready ready none) signals)
        by_notes (n ∷ ns) some = omega arith

    pub early : IsUnfaulted it.hands.out.departure → (1 ≤ length (sent (notes_of job))) × ((error : Option (ℕ × I)) × MayEndEarly (may_init factory) listeners error)
    early unfaulted = by_departure it.hands.out.departure refl unfaulted
      where
        by_departure : (departure : Departure E I) → it.hands.out.departure ≡ departure → IsUnfaulted departure → (1 ≤ length (sent (notes_of job))) × ((error : Option (ℕ × I)) × MayEndEarly (may_init factory) listeners error)
        by_departure Left is ended = absurd (not_left is)
        by_departure (Unstarted token error) is ended =
            let departs = rw is at it.hands.promised.departs in
            (later (rw is at it.hands.promised.signals), (Some (token, error), (subst (λ n. token < n) runs.as_many departs.1, runs.means.inits token error departs.2)))
        by_departure (FaultedJob token readiness error) is ended = absurd ended
        by_departure Memory is ended = (later (rw is at it.hands.promised.signals), (None, tt))

    -- nothing is on its way behind that note
    pub none_known : known_items it.joined.notes ≡ []
    none_known = by_departure it.hands.out.departure refl
      where
        by_last : it.hands.promised.told ≡ it.hands.promised.last.0 ++ Faulted ∷ [] → sum_by of_fault it.hands.promised.told ≤ 1 → known_items it.joined.notes ≡ []
        by_last last one = none_behind more (known_items it.joined.notes) it.hands.promised.last.0 faulted (told_is ∙ last) (subst (λ ns. sum_by of_fault ns ≤ 1) (sym told_is) one)

        one_by : (signals : List (Note L)) → AreSignals it.hands.promised.told it.hands.out.owed.items signals → sum_by of_fault signals ≡ 1 → sum_by of_fault it.hands.promised.told ≤ 1
        one_by signals are one = let weigh = are of_fault (λ entry. refl) in omega (arith, weigh, one)

        by_departure : (departure : Departure E I) → it.hands.out.departure ≡ departure → known_items it.joined.notes ≡ []
        by_departure Left is = absurd (not_left is)
        by_departure (Unstarted token error) is = by_last (rw is at it.hands.promised.last.1) (one_by (Faulted ∷ []) (rw is at it.hands.promised.signals) refl)
        by_departure (FaultedJob token readiness error) is = by_last (rw is at it.hands.promised.last.1) (one_by (Ready ∷ Faulted ∷ []) (rw is at it.hands.promised.signals) refl)
        by_departure Memory is = by_last (rw is at it.hands.promised.last.1) (one_by (Faulted ∷ []) (rw is at it.hands.promised.signals) refl)

    -- no stop had come to it
    pub unstopped : list_any is_stop (received it.hands.out.parcels) ≡ false
    unstopped = ap (list_any is_stop) it.hands.promised.came ∙ list_any-append is_stop (received (parcels_of job)) it.hands.promised.taken
        ∙ no_or (list_any is_stop (received (parcels_of job))) (list_any is_stop it.hands.promised.taken) runs.unstopped (by_departure it.hands.out.departure refl)
      where
        by_departure : (departure : Departure E I) → it.hands.out.departure ≡ departure → list_any is_stop it.hands.promised.taken ≡ false
        by_departure Left is = absurd (not_left is)
        by_departure (Unstarted token error) is = (rw is at it.hands.promised.departs).0
        by_departure (FaultedJob token readiness error) is = (rw is at it.hands.promised.departs).0
        by_departure Memory is = (rw is at it.hands.promised.departs).0

    -- so nothing that it owes was stopped
    pub owed_unstopped : All (λ e. is_stopped e.outcome ≡ true → ⊥) (entries_of entry_of_note it.joined.handed.owed.items)
    owed_unstopped = subst (λ q. All (λ e. is_stopped e.outcome ≡ true → ⊥) (entries_of entry_of_note q.items)) (sym it.hands.same.1) (each it.hands.out.owed.items it.hands.promised.true_owed)
      where
        Told : Note L → Type 0
        Told n = IsTold (may_serve (factory_of job)) (may_leave (factory_of job)) (may_make (factory_of job)) (listeners_of job) (received it.hands.out.parcels) n

        one : (n : Note L) → Told n → All (λ e. is_stopped e.outcome ≡ true → ⊥) (one_or_none (entry_of_note n))
        one Ready told = All-nil _
        one (Back e) told = All-cons (λ e. is_stopped e.outcome ≡ true → ⊥) e [] (λ is. let s : true ≡ false = sym (told.stop is) ∙ unstopped in cc) (All-nil _)
        one Faulted told = All-nil _

        each : (ns : List (Note L)) → All Told ns → All (λ e. is_stopped e.outcome ≡ true → ⊥) (entries_of entry_of_note ns)
        each [] told = All-nil _
        each (n ∷ ns) told = All-append (λ e. is_stopped e.outcome ≡ true → ⊥) (one_or_none (entry_of_note n)) (entries_of entry_of_note ns)
            (one n (All-head Told n ns told)) (each ns (All-tail Told n ns told))
