-- A worker is turned until it leaves, and its job's promise is kept.
use Rattle.std.proofs.Common.{◌≡◌, ◌⊎◌, ◌++◌, ◌∷◌, [], ℕ, ◌+◌, Bool, true, false, true≢false, List, All, Result, length, sum_by, refl, sym, ◌∙◌, ap, append_assoc, arith, subst, inl, inr}
use Rattle.std.specs.Prelude.{◌||◌}
use Rattle.std.specs.List.{list_any}
use Rattle.std.proofs.lemmas.List.{append-nil}
use Rattle.std.proofs.lemmas.List.Sums.{sum_by-append, sum_by_push}
use Rattle.std.proofs.lemmas.List.Elements.{All-append, All-cons, All-nil}
use Rattle.futures.specs.declared.future.Future.{Ghosts as FutureOf}
use Rattle.rtrb.specs.Ring.{SameProducer, received, sent}
use Rattle.rtrb.specs.declared.AnyItems.{AnyItems}
use Rattle.rtrb.specs.declared.consumer.Consumer.{Consumer}
use Rattle.std.specs.declared.alloc.Global.{Global}
use Rattle.service_core.specs.Link.{Identity}
use Rattle.service_core.specs.Meaning.{Readiness}
use Rattle.service_core.specs.declared.ended.Ended.{Ended}
use Rattle.service_core.specs.declared.service.Service.{Ghosts as ServiceOf}
use Rattle.service_core.specs.declared.service_factory.ServiceFactory.{Ghosts as FactoryOf}
use Rattle.server_jobs.specs.Cards.{Card, of_note, of_parcel, of_waiting}
use Rattle.server_jobs.specs.Joins.{Accounts as JobAccounts}
use Rattle.server_jobs.specs.declared.handed.Handed.{Handed}
use Rattle.server_jobs.specs.declared.note.Note.{Note}
use Rattle.server_jobs.specs.declared.note.Note.TheVariants.{Ready, Faulted as FaultedNote}
use Rattle.server_jobs.specs.declared.parcel.Parcel.{Parcel}
use Rattle.server_worker.specs.Holding.{Accounts, of_live}
use Rattle.server_worker.specs.Leaving.{HasStayed, Leaves, Runs}
use Rattle.server_worker.specs.Room.{IsFresh}
use Rattle.server_worker.specs.Sound.{IsSound, IsTold, Tells}
use Rattle.server_jobs.specs.Parcels.{is_stop}
use Rattle.server_worker.specs.Taken.{Receives}
use Rattle.server_worker.specs.Telling.{TellsReady, newly, noted}
use Rattle.server_worker.specs.Workers.{factory_of, hand_of, held_by, listeners_of, stopped_of}
use Rattle.server_worker.specs.declared.connections.Connections.{Connections}
use Rattle.server_worker.specs.declared.slot.Slot.{Slot}
use Rattle.server_worker.specs.declared.worker.Worker.{Worker}
use Rattle.server_worker.specs.declared.worker_parts.WorkerParts.{WorkerParts}
use Rattle.server_worker.proofs.LeaveSteps.{runs_none, runs_trans}
use Rattle.worker_job.specs.Jobs as job
use Rattle.worker_job.specs.Leaving.{GivesUp, TellsLast}
use Rattle.worker_job.specs.Promise.{AreSignals, HandsOver, IsDeparture, TellsOfItself, last_notes}
use Rattle.worker_job.specs.Working.{Announces, CanTurn, Departs, IsMadeOf, Says, SaysBefore, Turns}
use Rattle.worker_job.specs.declared.departure.Departure.{Departure}
use Rattle.worker_job.specs.declared.departure.Departure.TheVariants.{Left, Unstarted, Faulted, Memory}
use Rattle.worker_job.specs.declared.worker_job.WorkerJob.{WorkerJob}

abbrev RunsBy : {L F Fut : Type 0} → (L → Identity) → (F → ℕ → L → Ended L → Type 0) → (F → ℕ → L → L → Type 0) → (F → ℕ → Type 0) → F → ℕ → Connections L Fut → Connections L Fut → Type 0
RunsBy identity may_serve may_leave may_make f n a b = Runs identity (may_serve f) (may_leave f) (may_make f) n a b

module _ {L F Fac E S I MFut Fut : Type 0} (fg : FactoryOf Fac L (Ended L) E (Unit {0}) S I MFut Fut) (mg : FutureOf MFut (Result S I)) (sg : ServiceOf S L (Ended L) E Fut) (g : FutureOf Fut (Result (Ended L) E)) (may_stand : Fut → L → Type 0)
    (identity : L → Identity) (may_serve : F → ℕ → L → Ended L → Type 0) (may_leave : F → ℕ → L → L → Type 0) (may_ready : F → ℕ → Readiness E → Type 0)
    (may_init : F → ℕ → I → Type 0) (may_make : F → ℕ → Type 0) where
  -- no turn
  pub turns_none : (a : Worker L F Fac E S I MFut Fut) → CanTurn fg mg sg g may_stand may_serve may_leave may_ready may_init may_make a
      → Turns g may_stand identity may_serve may_leave may_make a a
  turns_none a can = record {
    same_factory = refl;
    as_many = refl;
    sound = can.connections;
    runs = runs_none identity (may_serve (factory_of a)) (may_leave (factory_of a)) (may_make (factory_of a)) (listeners_of a) (hand_of a);
  }

  pub turns_trans : (a b c : Worker L F Fac E S I MFut Fut) → Turns g may_stand identity may_serve may_leave may_make a b → Turns g may_stand identity may_serve may_leave may_make b c
      → Turns g may_stand identity may_serve may_leave may_make a c
  turns_trans a b c p q = record {
    same_factory = q.same_factory ∙ p.same_factory;
    as_many = q.as_many ∙ p.as_many;
    sound = q.sound;
    runs = runs_trans identity (may_serve (factory_of c)) (may_leave (factory_of c)) (may_make (factory_of c)) (listeners_of c) (hand_of a) (hand_of b) (hand_of c) before q.runs;
  }
    where
      before : RunsBy identity may_serve may_leave may_make (factory_of c) (listeners_of c) (hand_of a) (hand_of b)
      before = subst (λ f. RunsBy identity may_serve may_leave may_make f (listeners_of c) (hand_of a) (hand_of b)) (sym q.same_factory) (subst (λ n. RunsBy identity may_serve may_leave may_make (factory_of b) n (hand_of a) (hand_of b)) (sym q.as_many) p.runs)

  -- one turn more
  pub turns_more : (a b c : Worker L F Fac E S I MFut Fut) → Turns g may_stand identity may_serve may_leave may_make a b
      → factory_of c ≡ factory_of b → listeners_of c ≡ listeners_of b
      → IsSound g may_stand (may_serve (factory_of c)) (may_leave (factory_of c)) (may_make (factory_of c)) (listeners_of c) (hand_of c)
      → Accounts identity (hand_of b) (hand_of c) → Receives (hand_of b) (hand_of c)
      → Tells (may_serve (factory_of c)) (may_leave (factory_of c)) (may_make (factory_of c)) (listeners_of c) (hand_of b) (hand_of c)
      → Turns g may_stand identity may_serve may_leave may_make a c
  turns_more a b c so_far factory listeners sound accounts came tells = turns_trans a b c so_far (record {
    same_factory = factory;
    as_many = listeners;
    sound = sound;
    runs = record { accounts = accounts; receives = came; tells = tells };
  })

newly_trans : (n : ℕ) (a b c : Bool) → (a ≡ true → b ≡ true) → (b ≡ true → c ≡ true) → newly n a c ≡ newly n a b + newly n b c
newly_trans n true true c p q = refl
newly_trans n true false c p q = absurd (true≢false (sym (p refl)))
newly_trans n false false c p q = omega arith
newly_trans n false true c p q = rw (q refl) (omega arith)

newly_none : (n : ℕ) (a : Bool) → newly n a a ≡ 0
newly_none n true = refl
newly_none n false = refl

pub announces_none : {L Fut : Type 0} (a : Connections L Fut) → Announces a a
announces_none a = record { once = λ f nothing. omega (arith, newly_none (f Ready) a.told); stays = λ was. was }

pub announces_more : {L Fut MFut S E : Type 0} (slots : List (Slot MFut S E)) (a b c : Connections L Fut) → Announces a b → TellsReady slots b c → Announces a c
announces_more slots a b c p q = record {
  once = λ f nothing. omega (arith, p.once f nothing, q.once f nothing, newly_trans (f Ready) a.told b.told c.told p.stays q.stays);
  stays = λ was. q.stays (p.stays was);
}

-- one signal weighs as it does
one : {L : Type 0} (f : Note L → ℕ) (n : Note L) → sum_by f (n ∷ []) ≡ f n
one f n = omega (arith, sum_by_push f [] n)

module _ {L Fut : Type 0} (a b : Connections L Fut) (untold : a.told ≡ false) where
  -- nothing was told, or that the services stand
  pub says_ready : Announces a b → Says a b [] ⊎ Says a b (Ready ∷ [])
  says_ready announces = go b.told refl
    where
      go : (told : Bool) → b.told ≡ told → Says a b [] ⊎ Says a b (Ready ∷ [])
      go false is = inl (λ f nothing. omega (arith, announces.once f nothing, ap (λ t. newly (f Ready) t b.told) untold, ap (λ t. newly (f Ready) false t) is))
      go true is = inr (λ f nothing. omega (arith, announces.once f nothing, ap (λ t. newly (f Ready) t b.told) untold, ap (λ t. newly (f Ready) false t) is, one f Ready))

  -- where a service errs they stood
  pub says_stood : Announces a b → b.told ≡ true → Says a b (Ready ∷ [])
  says_stood announces stood f nothing = omega (arith, announces.once f nothing, ap (λ t. newly (f Ready) t b.told) untold, ap (λ t. newly (f Ready) false t) stood, one f Ready)

  -- nothing was told where they never stood
  pub says_none : Announces a b → b.told ≡ false → Says a b []
  says_none announces still f nothing = omega (arith, announces.once f nothing, ap (λ t. newly (f Ready) t b.told) untold, ap (λ t. newly (f Ready) false t) still)

pub says_nothing : {L Fut : Type 0} (a : Connections L Fut) → Says a a []
says_nothing a f nothing = omega arith

-- it is stopped where a stop came
stopped_by : {L Fut : Type 0} (a b : Connections L Fut) (r : Receives a b) → a.stopped ≡ false → b.stopped ≡ list_any is_stop r.more
stopped_by a b r fresh = r.stopped ∙ ap (λ s. s || list_any is_stop r.more) fresh

-- that the worker ends by a fault is true by itself
fault_true : {L : Type 0} (may_serve : ℕ → L → Ended L → Type 0) (may_leave : ℕ → L → L → Type 0) (may_make : ℕ → Type 0) (listeners : ℕ) (parcels : List (Parcel L)) → All (IsTold may_serve may_leave may_make listeners parcels) (FaultedNote ∷ [])
fault_true may_serve may_leave may_make listeners parcels = All-cons (IsTold may_serve may_leave may_make listeners parcels) FaultedNote [] tt (All-nil (IsTold may_serve may_leave may_make listeners parcels))

-- the last notes hand no connection back, and are true
weightless : {L E I : Type 0} (identity : L → Identity) (h : Card → ℕ) (departure : Departure E I) → sum_by (of_note identity h) (last_notes {L = L} departure) ≡ 0
weightless identity h Left = refl
weightless identity h (Unstarted token error) = refl
weightless identity h (Faulted token readiness error) = refl
weightless identity h Memory = refl

last_true : {L E I : Type 0} (may_serve : ℕ → L → Ended L → Type 0) (may_leave : ℕ → L → L → Type 0) (may_make : ℕ → Type 0) (listeners : ℕ) (parcels : List (Parcel L)) (departure : Departure E I)
    → All (IsTold may_serve may_leave may_make listeners parcels) (last_notes departure)
last_true may_serve may_leave may_make listeners parcels Left = All-nil (IsTold may_serve may_leave may_make listeners parcels)
last_true may_serve may_leave may_make listeners parcels (Unstarted token error) = fault_true may_serve may_leave may_make listeners parcels
last_true may_serve may_leave may_make listeners parcels (Faulted token readiness error) = fault_true may_serve may_leave may_make listeners parcels
last_true may_serve may_leave may_make listeners parcels Memory = fault_true may_serve may_leave may_make listeners parcels

-- What was told before the last notes, and they, are what a job tells of itself.
told_so : {L E I Fut : Type 0} (a b : Connections L Fut) (more owed : List (Note L)) → ((f : Note L → ℕ) → sum_by f more + sum_by f owed + noted f a ≡ noted f b) → (departure : Departure E I) → SaysBefore a b departure
    → TellsOfItself (AreSignals (more ++ last_notes departure) owed) departure
told_so a b more owed same Left (inl says) = inl (λ f nothing. omega (arith, same f, says f nothing, sum_by-append f more []))
told_so a b more owed same Left (inr says) = inr (λ f nothing. omega (arith, same f, says f nothing, sum_by-append f more []))
told_so a b more owed same (Unstarted token error) says = λ f nothing. omega (arith, same f, says f nothing, sum_by-append f more (FaultedNote ∷ []))
told_so a b more owed same (Faulted token readiness error) says = λ f nothing.
    omega (arith, same f, says f nothing, sum_by-append f more (FaultedNote ∷ []), sum_by-append f (Ready ∷ []) (FaultedNote ∷ []))
told_so a b more owed same Memory says = λ f nothing. omega (arith, same f, says f nothing, sum_by-append f more (FaultedNote ∷ []))

-- the promise of a job, by what came of the connections from its start on, and by its last notes
module _ {L F E I Fut : Type 0} (identity : L → Identity) (may_serve : F → ℕ → L → Ended L → Type 0) (may_leave : F → ℕ → L → L → Type 0) (may_ready : F → ℕ → Readiness E → Type 0) (may_init : F → ℕ → I → Type 0) (may_make : F → ℕ → Type 0)
    (it : WorkerJob L F) (a b : Connections L Fut) (handed out : Handed L F (Departure E I)) (parcels : a.parcels ≡ job.parcels_of it) (notes : a.notes ≡ job.notes_of it) (fresh : IsFresh a)
    (runs : RunsBy identity may_serve may_leave may_make (job.factory_of it) (job.listeners_of it) a b) (leaves : Leaves identity (may_leave (job.factory_of it)) b handed) (lasts : TellsLast handed out) where
  abbrev last : List (Note L)
  last = last_notes handed.departure

  sent_all : sent out.notes ≡ sent b.notes ++ last
  sent_all = lasts.told ∙ ap (λ n. sent n ++ last) leaves.notes

  same_ends : SameProducer b.notes out.notes
  same_ends = subst (λ n. SameProducer n out.notes) leaves.notes lasts.notes

  accounts_by : JobAccounts identity (job.parcels_of it) (job.notes_of it) out
  accounts_by = record {
    same_inward = rw (sym parcels, lasts.parcels, leaves.parcels) runs.accounts.parcels;
    same_outward = rw (sym notes) (
      (same_ends.0.0 ∙ runs.accounts.notes.0.0, same_ends.0.1 ∙ runs.accounts.notes.0.1, same_ends.0.2 ∙ runs.accounts.notes.0.2, same_ends.0.3 ∙ runs.accounts.notes.0.3),
      same_ends.1 ∙ runs.accounts.notes.1,
    );
    once = λ h.
        let q = ap (sum_by (of_waiting identity h)) fresh.queue in
        let s = ap (sum_by (of_waiting identity h)) fresh.strays in
        let l = ap (sum_by (of_live identity h)) fresh.live in
        let d = ap (sum_by (of_note identity h)) fresh.owed in
        let p = ap (λ p. sum_by (of_parcel identity h) (received p)) parcels in
        let n = ap (λ n. sum_by (of_note identity h) (sent n)) notes in
        let r = ap (λ p. sum_by (of_parcel identity h) (received p)) (lasts.parcels ∙ leaves.parcels) in
        let m = ap (sum_by (of_note identity h)) sent_all in
        let k = sum_by-append (of_note identity h) (sent b.notes) last in
        let w = weightless {L = L} identity h handed.departure in
        let o = ap (sum_by (of_note identity h)) (ap (λ o. o.items) lasts.owed ∙ leaves.owed) in
        let v = ap (λ v. sum_by (of_waiting identity h) v.items) lasts.rest in
        omega (arith, runs.accounts.once h, leaves.once h, q, s, l, d, p, n, r, m, k, w, o, v);
  }

  abbrev Told : Consumer (Parcel L) Global AnyItems → Note L → Type 0
  Told p = IsTold (may_serve (job.factory_of it)) (may_leave (job.factory_of it)) (may_make (job.factory_of it)) (job.listeners_of it) (received p)

  promised : All (IsTold (may_serve (job.factory_of it)) (may_leave (job.factory_of it)) (may_make (job.factory_of it)) (job.listeners_of it) (received b.parcels)) b.owed.items
      → handed.factory ≡ job.factory_of it → IsDeparture (job.listeners_of it) (may_ready (job.factory_of it)) (may_init (job.factory_of it)) b.stopped (length handed.rest.items) handed.departure
      → SaysBefore a b handed.departure
      → HandsOver identity may_serve may_leave may_ready may_init may_make it out
  promised owed factory departs says = record {
    accounts = accounts_by;
    same_factory = lasts.same_factory ∙ factory;
    taken = runs.receives.more;
    came = ap (λ p. received p) (lasts.parcels ∙ leaves.parcels) ∙ runs.receives.came ∙ ap (λ p. received p ++ runs.receives.more) parcels;
    told = runs.tells.more ++ last;
    went = sent_all ∙ ap (λ ns. ns ++ last) (runs.tells.appended ∙ ap (λ n. sent n ++ runs.tells.more) notes) ∙ append_assoc (sent (job.notes_of it)) runs.tells.more last;
    last = (runs.tells.more, ap (λ d. runs.tells.more ++ last_notes d) (sym lasts.departure));
    true_told = rw (lasts.parcels, leaves.parcels) (All-append (Told b.parcels) runs.tells.more last runs.tells.told
        (last_true (may_serve (job.factory_of it)) (may_leave (job.factory_of it)) (may_make (job.factory_of it)) (job.listeners_of it) (received b.parcels) handed.departure));
    true_owed = rw (lasts.parcels, leaves.parcels, lasts.owed, leaves.owed) owed;
    stayed = rw (lasts.parcels, leaves.parcels, lasts.rest) leaves.stayed;
    departs = rw (lasts.departure, lasts.rest) (subst (λ stopped. IsDeparture (job.listeners_of it) (may_ready (job.factory_of it)) (may_init (job.factory_of it)) stopped (length handed.rest.items) handed.departure)
        (stopped_by a b runs.receives fresh.stopped) departs);
    signals = rw (lasts.departure, lasts.owed) (told_so a b runs.tells.more handed.owed.items so handed.departure says);
  }
    where
      so : (f : Note L → ℕ) → sum_by f runs.tells.more + sum_by f handed.owed.items + noted f a ≡ noted f b
      so f =
          let o = ap (sum_by f) leaves.owed in
          let e = ap (sum_by f) fresh.owed in
          omega (arith, o, e, ap (sum_by f) runs.tells.appended, sum_by-append f (sent a.notes) runs.tells.more)

-- the promise of a job, by the turns of its worker
pub hands_over : {L F Fac E S I MFut Fut : Type 0} (g : FutureOf Fut (Result (Ended L) E)) (may_stand : Fut → L → Type 0)
    (identity : L → Identity) (may_serve : F → ℕ → L → Ended L → Type 0) (may_leave : F → ℕ → L → L → Type 0) (may_ready : F → ℕ → Readiness E → Type 0) (may_init : F → ℕ → I → Type 0) (may_make : F → ℕ → Type 0)
    (it : WorkerJob L F) (a b : Worker L F Fac E S I MFut Fut) (handed out : Handed L F (Departure E I)) → IsMadeOf a it → IsFresh (hand_of a)
    → Turns g may_stand identity may_serve may_leave may_make a b → Leaves identity (may_leave (factory_of b)) (hand_of b) handed → length handed.rest.items ≡ held_by b → handed.factory ≡ factory_of b
    → (departure : Departure E I) → handed.departure ≡ departure → Departs may_ready may_init b departure → SaysBefore (hand_of a) (hand_of b) departure → TellsLast handed out
    → HandsOver identity may_serve may_leave may_ready may_init may_make it out
hands_over {F = F} {E = E} {I = I} g may_stand identity may_serve may_leave may_ready may_init may_make it a b handed out made fresh turns leaves held factory departure is departs says lasts =
    promised identity may_serve may_leave may_ready may_init may_make it (hand_of a) (hand_of b) handed out made.parcels made.notes fresh
    (subst (λ f. RunsBy identity may_serve may_leave may_make f (job.listeners_of it) (hand_of a) (hand_of b)) same
    (subst (λ n. RunsBy identity may_serve may_leave may_make (factory_of b) n (hand_of a) (hand_of b)) many turns.runs))
    (subst (λ f. Leaves identity (may_leave f) (hand_of b) handed) same leaves)
    lasts
    (subst (λ f. All (IsTold (may_serve f) (may_leave f) (may_make f) (job.listeners_of it) (received (hand_of b).parcels)) (hand_of b).owed.items) same
    (subst (λ n. All (IsTold (may_serve (factory_of b)) (may_leave (factory_of b)) (may_make (factory_of b)) n (received (hand_of b).parcels)) (hand_of b).owed.items) many turns.sound.owed))
    (factory ∙ same)
    (subst (λ f. IsDeparture (job.listeners_of it) (may_ready f) (may_init f) (stopped_of b) (length handed.rest.items) handed.departure) same
    (subst (λ n. IsDeparture n (may_ready (factory_of b)) (may_init (factory_of b)) (stopped_of b) (length handed.rest.items) handed.departure) many
    (subst (λ k. IsDeparture (listeners_of b) (may_ready (factory_of b)) (may_init (factory_of b)) (stopped_of b) k handed.departure) (sym held)
    (subst (λ d. IsDeparture (listeners_of b) (may_ready (factory_of b)) (may_init (factory_of b)) (stopped_of b) (held_by b) d) (sym is) departs))))
    (subst (SaysBefore (hand_of a) (hand_of b)) (sym is) says)
  where
    same : factory_of b ≡ job.factory_of it
    same = turns.same_factory ∙ made.same_factory

    many : listeners_of b ≡ job.listeners_of it
    many = turns.as_many ∙ made.as_many

-- the promise of a job whose worker could not be made
pub gives_up : {L F E I : Type 0} (identity : L → Identity) (may_serve : F → ℕ → L → Ended L → Type 0) (may_leave : F → ℕ → L → L → Type 0) (may_ready : F → ℕ → Readiness E → Type 0) (may_init : F → ℕ → I → Type 0) (may_make : F → ℕ → Type 0)
    (parts : WorkerParts L F) (it : WorkerJob L F) (out : Handed L F (Departure E I)) → parts.parcels ≡ job.parcels_of it → parts.notes ≡ job.notes_of it → parts.factory ≡ job.factory_of it
    → GivesUp parts out → HandsOver identity may_serve may_leave may_ready may_init may_make it out
gives_up {L = L} identity may_serve may_leave may_ready may_init may_make parts it out parcels notes factory gives = record {
  accounts = record {
    same_inward = rw (sym parcels, gives.parcels) ((refl, refl, refl, refl), refl);
    same_outward = rw (sym notes) gives.notes;
    once = λ h.
        let a = ap (λ p. sum_by (of_parcel identity h) (received p)) (gives.parcels ∙ parcels) in
        let b = ap (sum_by (of_note identity h)) gives.told in
        let c = sum_by-append (of_note identity h) (sent parts.notes) (FaultedNote ∷ []) in
        let d = ap (λ n. sum_by (of_note identity h) (sent n)) notes in
        let e = ap (sum_by (of_note identity h)) gives.owed in
        let f = ap (sum_by (of_waiting identity h)) gives.rest in
        omega (arith, a, b, c, d, e, f);
  };
  same_factory = gives.same_factory ∙ factory;
  taken = [];
  came = ap (λ p. received p) (gives.parcels ∙ parcels) ∙ sym (append-nil _);
  told = FaultedNote ∷ [];
  went = gives.told ∙ ap (λ n. sent n ++ FaultedNote ∷ []) notes;
  last = ([], rw gives.departure refl);
  true_told = fault_true (may_serve (job.factory_of it)) (may_leave (job.factory_of it)) (may_make (job.factory_of it)) (job.listeners_of it) (received out.parcels);
  true_owed = rw gives.owed (All-nil (IsTold (may_serve (job.factory_of it)) (may_leave (job.factory_of it)) (may_make (job.factory_of it)) (job.listeners_of it) (received out.parcels)));
  stayed = rw gives.rest (All-nil (HasStayed identity (may_leave (job.factory_of it)) (received out.parcels)));
  departs = rw (gives.departure, gives.rest) (refl, refl);
  signals = rw (gives.departure, gives.owed) (λ f nothing. omega arith);
}
