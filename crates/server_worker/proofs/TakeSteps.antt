-- Takings, one behind the other.
use Rattle.std.proofs.Common.{◌≤◌, ◌≡◌, Bool, true, false, ◌<◌, ◌++◌, ◌∷◌, [], ℕ, List, All, Contains, refl, sym, ◌∙◌, ap, append_assoc, subst, Result}
use Rattle.std.specs.Prelude.{◌||◌, not}
use Rattle.std.specs.List.{list_any}
use Rattle.std.proofs.lemmas.List.{append-nil}
use Rattle.std.proofs.lemmas.List.Folds.{list_any-append}
use Rattle.std.proofs.lemmas.List.Elements.{All-nil, All-append, All-cons, Contains-append_left, Contains-push}
use Rattle.futures.specs.declared.future.Future.{Ghosts as FutureOf}
use Rattle.rtrb.specs.Ring.{received}
use Rattle.service_core.specs.declared.ended.Ended.{Ended}
use Rattle.server_worker.specs.Sound.{IsSound, IsTold, Lives, Strays, Waits, WaitsFor}
use Rattle.server_worker.specs.Taken.{Grows, Queues, Receives, Takes}
use Rattle.server_jobs.specs.Parcels.{is_force, is_stop}
use Rattle.server_jobs.specs.declared.parcel.Parcel.TheVariants.{Conn, Stop}
use Rattle.server_worker.specs.declared.connections.Connections.{Connections}
use Rattle.server_worker.specs.declared.live.Live.{Live}
use Rattle.server_jobs.specs.declared.note.Note.{Note}
use Rattle.server_jobs.specs.declared.note.Note.TheVariants.{Ready, Back, Faulted}
use Rattle.server_jobs.specs.declared.parcel.Parcel.{Parcel}
use Rattle.server_jobs.specs.declared.waiting.Waiting.{Waiting}

all_map : {X : Type 0} (P Q : X → Type 0) (xs : List X) → ((x : X) → P x → Q x) → All P xs → All Q xs
all_map P Q xs f all = λ i d inside. f _ (all i d inside)

pub or_none : (b : Bool) → b ≡ (b || false)
or_none true = refl
or_none false = refl

pub or_true : (b : Bool) → true ≡ (b || true)
or_true true = refl
or_true false = refl

pub or_twice : (a b c : Bool) → ((a || b) || c) ≡ (a || (b || c))
or_twice true b c = refl
or_twice false b c = refl

either_way : (was before more : Bool) → (was ≡ true → before ≡ true) → (was || more) ≡ true → (before || more) ≡ true
either_way true before more so is = ap (λ b. b || more) (so refl)
either_way false true more so is = refl
either_way false false more so is = is

module _ {L : Type 0} (before more after : List (Parcel L)) (is : after ≡ before ++ more) where
  onward : (p : Parcel L) → Contains before p → Contains after p
  onward p has = subst (λ ps. Contains ps p) (sym is) (Contains-append_left before more p has)

  pub any_onward : (p : Parcel L → Bool) → list_any p before ≡ true → list_any p after ≡ true
  any_onward p has = ap (list_any p) is ∙ list_any-append p before more ∙ ap (λ b. b || list_any p more) has

  strays_onward : (listeners : ℕ) (w : Waiting L) → Strays listeners before w → Strays listeners after w
  strays_onward listeners w has = (has.0, onward _ has.1)

  waits_for_onward : (listeners : ℕ) (w : Waiting L) → WaitsFor listeners before w → WaitsFor listeners after w
  waits_for_onward listeners w has = (has.0, onward _ has.1)

  module _ (may_serve : ℕ → L → Ended L → Type 0) (may_leave : ℕ → L → L → Type 0) where
    pub told_onward : (may_make : ℕ → Type 0) (listeners : ℕ) (n : Note L) → IsTold may_serve may_leave may_make listeners before n → IsTold may_serve may_leave may_make listeners after n
    told_onward may_make listeners Ready told = told
    told_onward may_make listeners (Back e) told = record { link = told.link; came = onward _ told.came; comes_back = told.comes_back; unlost = told.unlost; stop = λ is. any_onward is_stop (told.stop is); force = λ is. any_onward is_force (told.force is) }
    told_onward may_make listeners Faulted told = told

    lives_onward : {E Fut : Type 0} (g : FutureOf Fut (Result (Ended L) E)) (may_stand : Fut → L → Type 0) (c : Live L Fut) → Lives g may_stand may_serve may_leave before c → Lives g may_stand may_serve may_leave after c
    lives_onward g may_stand c lives = (onward _ lives.0, lives.1)

pub takes_none : {L Fut : Type 0} {listeners : ℕ} {a : Connections L Fut} → Takes listeners a a
takes_none {L} {Fut} {listeners} {a} = record {
  more = [];
  came = sym (append-nil (received a.parcels));
  stopped = or_none a.stopped;
  forced = or_none a.forced;
  queued = [];
  queue = sym (append-nil a.queue.items);
  each_queued = All-nil _;
  strayed = [];
  strays = sym (append-nil a.strays.items);
  each_strayed = All-nil _;
  live = refl;
  owed = refl;
  notes = refl;
  told_ready = refl;
}

pub takes_grown : {L Fut : Type 0} {listeners : ℕ} {a b : Connections L Fut} → Grows a b → Takes listeners a b
takes_grown {L} {Fut} {listeners} {a} {b} g = record {
  more = [];
  came = ap (λ p. received p) g.parcels ∙ sym (append-nil (received a.parcels));
  stopped = g.stopped ∙ or_none a.stopped;
  forced = g.forced ∙ or_none a.forced;
  queued = [];
  queue = g.queue ∙ sym (append-nil a.queue.items);
  each_queued = All-nil _;
  strayed = [];
  strays = g.strays ∙ sym (append-nil a.strays.items);
  each_strayed = All-nil _;
  live = g.live;
  owed = g.owed;
  notes = g.notes;
  told_ready = g.told_ready;
}

module _ {L Fut : Type 0} (listeners : ℕ) (a b : Connections L Fut) (live : b.live.items ≡ a.live.items) (owed : b.owed.items ≡ a.owed.items) (notes : b.notes ≡ a.notes) (told : b.told ≡ a.told) where
  pub takes_stop : (graceful : _) → received b.parcels ≡ received a.parcels ++ Stop graceful ∷ [] → b.stopped ≡ true → b.forced ≡ (a.forced || not graceful) → b.queue.items ≡ a.queue.items → b.strays.items ≡ a.strays.items → Takes listeners a b
  takes_stop graceful came stopped forced queue strays = record {
    more = Stop graceful ∷ [];
    came = came;
    stopped = stopped ∙ or_true a.stopped;
    forced = forced ∙ ap (λ x. a.forced || x) (or_none (not graceful));
    queued = [];
    queue = queue ∙ sym (append-nil a.queue.items);
    each_queued = All-nil _;
    strayed = [];
    strays = strays ∙ sym (append-nil a.strays.items);
    each_strayed = All-nil _;
    live = live;
    owed = owed;
    notes = notes;
    told_ready = told;
  }

  module _ (w : Waiting L) (stopped : b.stopped ≡ a.stopped) (forced : b.forced ≡ a.forced) (came : received b.parcels ≡ received a.parcels ++ Conn w.serial w.token w.place w.link ∷ []) where
    has_come : Waits (received b.parcels) w
    has_come = subst (λ ps. Contains ps (Conn w.serial w.token w.place w.link)) (sym came) (Contains-push (received a.parcels) (Conn w.serial w.token w.place w.link))

    pub takes_queued : b.queue.items ≡ a.queue.items ++ w ∷ [] → b.strays.items ≡ a.strays.items → w.token < listeners → Takes listeners a b
    takes_queued queue strays known = record {
      more = Conn w.serial w.token w.place w.link ∷ [];
      came = came;
      stopped = stopped ∙ or_none a.stopped;
      forced = forced ∙ or_none a.forced;
      queued = w ∷ [];
      queue = queue;
      each_queued = All-cons (WaitsFor listeners (received b.parcels)) w [] (known, has_come) (All-nil _);
      strayed = [];
      strays = strays ∙ sym (append-nil a.strays.items);
      each_strayed = All-nil _;
      live = live;
      owed = owed;
      notes = notes;
      told_ready = told;
    }

    pub takes_strayed : b.queue.items ≡ a.queue.items → b.strays.items ≡ a.strays.items ++ w ∷ [] → listeners ≤ w.token → Takes listeners a b
    takes_strayed queue strays unknown = record {
      more = Conn w.serial w.token w.place w.link ∷ [];
      came = came;
      stopped = stopped ∙ or_none a.stopped;
      forced = forced ∙ or_none a.forced;
      queued = [];
      queue = queue ∙ sym (append-nil a.queue.items);
      each_queued = All-nil _;
      strayed = w ∷ [];
      strays = strays;
      each_strayed = All-cons (Strays listeners (received b.parcels)) w [] (unknown, has_come) (All-nil _);
      live = live;
      owed = owed;
      notes = notes;
      told_ready = told;
    }

pub takes_trans : {L Fut : Type 0} {listeners : ℕ} {a b c : Connections L Fut} → Takes listeners a b → Takes listeners b c → Takes listeners a c
takes_trans {L} {Fut} {listeners} {a} {b} {c} p q = record {
  more = p.more ++ q.more;
  came = q.came ∙ ap (λ xs. xs ++ q.more) p.came ∙ append_assoc (received a.parcels) p.more q.more;
  stopped = q.stopped ∙ ap (λ s. s || list_any is_stop q.more) p.stopped ∙ or_twice a.stopped (list_any is_stop p.more) (list_any is_stop q.more) ∙ ap (λ s. a.stopped || s) (sym (list_any-append is_stop p.more q.more));
  forced = q.forced ∙ ap (λ s. s || list_any is_force q.more) p.forced ∙ or_twice a.forced (list_any is_force p.more) (list_any is_force q.more) ∙ ap (λ s. a.forced || s) (sym (list_any-append is_force p.more q.more));
  queued = p.queued ++ q.queued;
  queue = q.queue ∙ ap (λ xs. xs ++ q.queued) p.queue ∙ append_assoc a.queue.items p.queued q.queued;
  each_queued = All-append (WaitsFor listeners (received c.parcels)) p.queued q.queued (all_map (WaitsFor listeners (received b.parcels)) (WaitsFor listeners (received c.parcels)) p.queued (waits_for_onward (received b.parcels) q.more (received c.parcels) q.came listeners) p.each_queued) q.each_queued;
  strayed = p.strayed ++ q.strayed;
  strays = q.strays ∙ ap (λ xs. xs ++ q.strayed) p.strays ∙ append_assoc a.strays.items p.strayed q.strayed;
  each_strayed = All-append (Strays listeners (received c.parcels)) p.strayed q.strayed (all_map (Strays listeners (received b.parcels)) (Strays listeners (received c.parcels)) p.strayed (strays_onward (received b.parcels) q.more (received c.parcels) q.came listeners) p.each_strayed) q.each_strayed;
  live = q.live ∙ p.live;
  owed = q.owed ∙ p.owed;
  notes = q.notes ∙ p.notes;
  told_ready = q.told_ready ∙ p.told_ready;
}

-- what is known of each connection stays true
pub sound_taken : {L E Fut : Type 0} (g : FutureOf Fut (Result (Ended L) E)) (may_stand : Fut → L → Type 0) (may_serve : ℕ → L → Ended L → Type 0) (may_leave : ℕ → L → L → Type 0) (may_make : ℕ → Type 0)
    (listeners : ℕ) (a b : Connections L Fut) → Takes listeners a b → IsSound g may_stand may_serve may_leave may_make listeners a → IsSound g may_stand may_serve may_leave may_make listeners b
sound_taken g may_stand may_serve may_leave may_make listeners a b t sound = record {
  queue = subst (All (WaitsFor listeners (received b.parcels))) (sym t.queue)
      (All-append (WaitsFor listeners (received b.parcels)) a.queue.items t.queued (all_map (WaitsFor listeners (received a.parcels)) (WaitsFor listeners (received b.parcels)) a.queue.items (waits_for_onward (received a.parcels) t.more (received b.parcels) t.came listeners) sound.queue) t.each_queued);
  strays = subst (All (Strays listeners (received b.parcels))) (sym t.strays)
      (All-append (Strays listeners (received b.parcels)) a.strays.items t.strayed (all_map (Strays listeners (received a.parcels)) (Strays listeners (received b.parcels)) a.strays.items (strays_onward (received a.parcels) t.more (received b.parcels) t.came listeners) sound.strays) t.each_strayed);
  live = subst (All (Lives g may_stand may_serve may_leave (received b.parcels))) (sym t.live)
      (all_map (Lives g may_stand may_serve may_leave (received a.parcels)) (Lives g may_stand may_serve may_leave (received b.parcels)) a.live.items (lives_onward (received a.parcels) t.more (received b.parcels) t.came may_serve may_leave g may_stand) sound.live);
  owed = subst (All (IsTold may_serve may_leave may_make listeners (received b.parcels))) (sym t.owed)
      (all_map (IsTold may_serve may_leave may_make listeners (received a.parcels)) (IsTold may_serve may_leave may_make listeners (received b.parcels)) a.owed.items (told_onward (received a.parcels) t.more (received b.parcels) t.came may_serve may_leave may_make listeners) sound.owed);
  stop = λ is. ap (list_any is_stop) t.came ∙ list_any-append is_stop (received a.parcels) t.more ∙ either_way a.stopped _ _ sound.stop (sym t.stopped ∙ is);
  force = λ is. ap (list_any is_force) t.came ∙ list_any-append is_force (received a.parcels) t.more ∙ either_way a.forced _ _ sound.force (sym t.forced ∙ is);
}

-- what was taken was received, and stays so
pub receives_taken : {L Fut : Type 0} (listeners : ℕ) (a b c : Connections L Fut) → Takes listeners a b → c.parcels ≡ b.parcels → c.stopped ≡ b.stopped → c.forced ≡ b.forced → Receives a c
receives_taken listeners a b c takes parcels stopped forced = record { more = takes.more; came = ap (λ p. received p) parcels ∙ takes.came; stopped = stopped ∙ takes.stopped; forced = forced ∙ takes.forced }

-- what was taken went behind the queue, and stays there
pub queues_taken : {L Fut : Type 0} (listeners : ℕ) (a b c : Connections L Fut) → Takes listeners a b → c.queue.items ≡ b.queue.items → Queues a c
queues_taken listeners a b c takes same = record { more = takes.queued; appended = same ∙ takes.queue }
