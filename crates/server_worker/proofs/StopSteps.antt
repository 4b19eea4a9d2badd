-- One connection more is handed back by a stop.
use Rattle.std.proofs.Common.{◌≡◌, ℕ, ◌+◌, true, false, true≢false, [], ◌∷◌, ◌++◌, sum_by, All, Contains, Result, refl, sym, ◌∙◌, ap, arith, subst, inr}
use Rattle.std.proofs.lemmas.List.Sums.{sum_by_push, sum_by-append}
use Rattle.std.proofs.lemmas.List.Elements.{All-head, All-tail, All-push}
use Rattle.futures.specs.declared.future.Future.{Ghosts as FutureOf}
use Rattle.rtrb.specs.Ring.{received}
use Rattle.service_core.specs.Link.{Identity}
use Rattle.service_core.specs.declared.ended.Ended.{Ended}
use Rattle.server_jobs.specs.Cards.{Card, of_note, of_waiting}
use Rattle.server_jobs.specs.declared.note.Note.TheVariants.{Back}
use Rattle.server_jobs.specs.declared.parcel.Parcel.TheVariants.{Conn}
use Rattle.server_jobs.specs.declared.waiting.Waiting.{Waiting}
use Rattle.server_worker.specs.Holding.{of_live}
use Rattle.server_worker.specs.Polled.{queued}
use Rattle.server_worker.specs.Sound.{Answers, IsSound, IsTold, Lives, Strays, Waits, WaitsFor}
use Rattle.server_worker.specs.Stopping.{GivesBack, LetsGo, of_stop, stopped_entry}
use Rattle.server_worker.specs.declared.connections.Connections.{Connections}
use Rattle.server_worker.specs.declared.live.Live.{Live}
use Rattle.server_worker.proofs.LeaveSteps.{last_of, rest_of, same_card}

module _ {L Fut : Type 0} (identity : L → Identity) where
  pub gives_none : (a b : Connections L Fut) → b.queue.items ≡ a.queue.items → b.strays.items ≡ a.strays.items → b.owed ≡ a.owed → b.live ≡ a.live → b.parcels ≡ a.parcels → b.notes ≡ a.notes
      → b.stopped ≡ a.stopped → b.forced ≡ a.forced → b.told ≡ a.told → GivesBack identity a b
  gives_none a b queue strays owed live parcels notes stopped forced told = record {
    once = λ h. rw (queue, strays, owed) refl;
    stops = λ h. rw (queue, strays, owed) refl;
    forces = λ h. rw owed refl;
    signals = λ f nothing. rw owed refl;
    live = live;
    parcels = parcels;
    notes = notes;
    stopped = stopped;
    forced = forced;
    told_ready = told;
  }

  pub gives_trans : {a b c : Connections L Fut} → GivesBack identity a b → GivesBack identity b c → GivesBack identity a c
  gives_trans p q = record {
    once = λ h. q.once h ∙ p.once h;
    stops = λ h. q.stops h ∙ p.stops h;
    forces = λ h. q.forces h ∙ p.forces h;
    signals = λ f nothing. q.signals f nothing ∙ p.signals f nothing;
    live = q.live ∙ p.live;
    parcels = q.parcels ∙ p.parcels;
    notes = q.notes ∙ p.notes;
    stopped = q.stopped ∙ p.stopped;
    forced = q.forced ∙ p.forced;
    told_ready = q.told_ready ∙ p.told_ready;
  }

  -- the first of the queue left it
  left_queue : (a b : Connections L Fut) (w : Waiting L) → a.queue.items ≡ w ∷ b.queue.items → b.strays.items ≡ a.strays.items
      → (h : Card → ℕ) → queued identity h b + of_waiting identity h w ≡ queued identity h a
  left_queue a b w queue strays h =
      let s = ap (sum_by (of_waiting identity h)) strays in
      let q = ap (sum_by (of_waiting identity h)) queue in
      omega (arith, s, q, sum_by-append (of_waiting identity h) (w ∷ []) b.queue.items)

  -- the last of the strays left them
  left_strays : (a b : Connections L Fut) (w : Waiting L) → b.queue.items ≡ a.queue.items → a.strays.items ≡ b.strays.items ++ w ∷ []
      → (h : Card → ℕ) → queued identity h b + of_waiting identity h w ≡ queued identity h a
  left_strays a b w queue strays h =
      let s = ap (sum_by (of_waiting identity h)) strays in
      let q = ap (sum_by (of_waiting identity h)) queue in
      omega (arith, s, q, sum_by_push (of_waiting identity h) b.strays.items w)

  gives_one : (a b : Connections L Fut) (w : Waiting L) → ((h : Card → ℕ) → queued identity h b + of_waiting identity h w ≡ queued identity h a)
      → b.owed.items ≡ a.owed.items ++ Back (stopped_entry w false) ∷ [] → b.live ≡ a.live → b.parcels ≡ a.parcels → b.notes ≡ a.notes
      → b.stopped ≡ a.stopped → b.forced ≡ a.forced → b.told ≡ a.told → GivesBack identity a b
  gives_one a b w waiting owed live parcels notes stopped forced told = record {
    once = λ h.
        let o = ap (sum_by (of_note identity h)) owed in
        let weight : of_note identity h (Back (stopped_entry w false)) ≡ of_waiting identity h w = refl in
        omega (arith, waiting h, o, weight, sum_by_push (of_note identity h) a.owed.items (Back (stopped_entry w false)));
    stops = λ h.
        let o = ap (sum_by (of_stop identity false h)) owed in
        let weight : of_stop identity false h (Back (stopped_entry w false)) ≡ of_waiting identity h w = refl in
        omega (arith, waiting h, o, weight, sum_by_push (of_stop identity false h) a.owed.items (Back (stopped_entry w false)));
    forces = λ h.
        let o = ap (sum_by (of_stop identity true h)) owed in
        let weight : of_stop identity true h (Back (stopped_entry w false)) ≡ 0 = refl in
        omega (arith, o, weight, sum_by_push (of_stop identity true h) a.owed.items (Back (stopped_entry w false)));
    signals = λ f nothing. omega (arith, ap (sum_by f) owed, nothing (stopped_entry w false), sum_by_push f a.owed.items (Back (stopped_entry w false)));
    live = live;
    parcels = parcels;
    notes = notes;
    stopped = stopped;
    forced = forced;
    told_ready = told;
  }

  pub gives_queued : (a b : Connections L Fut) (w : Waiting L) → a.queue.items ≡ w ∷ b.queue.items → b.strays ≡ a.strays
      → b.owed.items ≡ a.owed.items ++ Back (stopped_entry w false) ∷ [] → b.live ≡ a.live → b.parcels ≡ a.parcels → b.notes ≡ a.notes
      → b.stopped ≡ a.stopped → b.forced ≡ a.forced → b.told ≡ a.told → GivesBack identity a b
  gives_queued a b w queue strays = gives_one a b w (left_queue a b w queue (ap (λ s. s.items) strays))

  pub gives_stray : (a b : Connections L Fut) (w : Waiting L) → b.queue.items ≡ a.queue.items → a.strays.items ≡ b.strays.items ++ w ∷ []
      → b.owed.items ≡ a.owed.items ++ Back (stopped_entry w false) ∷ [] → b.live ≡ a.live → b.parcels ≡ a.parcels → b.notes ≡ a.notes
      → b.stopped ≡ a.stopped → b.forced ≡ a.forced → b.told ≡ a.told → GivesBack identity a b
  gives_stray a b w queue strays = gives_one a b w (left_strays a b w queue strays)

  pub goes_none : (a b : Connections L Fut) → b.live.items ≡ a.live.items → b.owed ≡ a.owed → b.queue ≡ a.queue → b.strays ≡ a.strays → b.parcels ≡ a.parcels → b.notes ≡ a.notes
      → b.stopped ≡ a.stopped → b.forced ≡ a.forced → b.told ≡ a.told → LetsGo identity a b
  goes_none a b live owed queue strays parcels notes stopped forced told = record {
    once = λ h. rw (live, owed) refl;
    forces = λ h. rw (live, owed) refl;
    stops = λ h. rw owed refl;
    signals = λ f nothing. rw owed refl;
    queue = queue;
    strays = strays;
    parcels = parcels;
    notes = notes;
    stopped = stopped;
    forced = forced;
    told_ready = told;
  }

  pub goes_trans : {a b c : Connections L Fut} → LetsGo identity a b → LetsGo identity b c → LetsGo identity a c
  goes_trans p q = record {
    once = λ h. q.once h ∙ p.once h;
    forces = λ h. q.forces h ∙ p.forces h;
    stops = λ h. q.stops h ∙ p.stops h;
    signals = λ f nothing. q.signals f nothing ∙ p.signals f nothing;
    queue = q.queue ∙ p.queue;
    strays = q.strays ∙ p.strays;
    parcels = q.parcels ∙ p.parcels;
    notes = q.notes ∙ p.notes;
    stopped = q.stopped ∙ p.stopped;
    forced = q.forced ∙ p.forced;
    told_ready = q.told_ready ∙ p.told_ready;
  }

  pub goes_one : (a b : Connections L Fut) (w : Waiting L) (c : Live L Fut) → a.live.items ≡ b.live.items ++ c ∷ [] → b.owed.items ≡ a.owed.items ++ Back (stopped_entry w true) ∷ []
      → b.queue ≡ a.queue → b.strays ≡ a.strays → b.parcels ≡ a.parcels → b.notes ≡ a.notes → b.stopped ≡ a.stopped → b.forced ≡ a.forced → b.told ≡ a.told
      → w.serial ≡ c.serial → w.token ≡ c.token → w.place ≡ c.place → identity w.link ≡ identity c.given.value → LetsGo identity a b
  goes_one a b w c live owed queue strays parcels notes stopped forced told serial token place same = record {
    once = λ h.
        let l = ap (sum_by (of_live identity h)) live in
        let o = ap (sum_by (of_note identity h)) owed in
        let weight : of_note identity h (Back (stopped_entry w true)) ≡ of_waiting identity h w = refl in
        omega (arith, l, o, weight, same_card identity h w c serial token place same, sum_by_push (of_live identity h) b.live.items c, sum_by_push (of_note identity h) a.owed.items (Back (stopped_entry w true)));
    forces = λ h.
        let l = ap (sum_by (of_live identity h)) live in
        let o = ap (sum_by (of_stop identity true h)) owed in
        let weight : of_stop identity true h (Back (stopped_entry w true)) ≡ of_waiting identity h w = refl in
        omega (arith, l, o, weight, same_card identity h w c serial token place same, sum_by_push (of_live identity h) b.live.items c, sum_by_push (of_stop identity true h) a.owed.items (Back (stopped_entry w true)));
    stops = λ h.
        let o = ap (sum_by (of_stop identity false h)) owed in
        let weight : of_stop identity false h (Back (stopped_entry w true)) ≡ 0 = refl in
        omega (arith, o, weight, sum_by_push (of_stop identity false h) a.owed.items (Back (stopped_entry w true)));
    signals = λ f nothing. omega (arith, ap (sum_by f) owed, nothing (stopped_entry w true), sum_by_push f a.owed.items (Back (stopped_entry w true)));
    queue = queue;
    strays = strays;
    parcels = parcels;
    notes = notes;
    stopped = stopped;
    forced = forced;
    told_ready = told;
  }

module _ {L E Fut : Type 0} (g : FutureOf Fut (Result (Ended L) E)) (may_stand : Fut → L → Type 0) (may_serve : ℕ → L → Ended L → Type 0) (may_leave : ℕ → L → L → Type 0)
    (may_make : ℕ → Type 0) (listeners : ℕ) (a b : Connections L Fut) (w : Waiting L)
    (parcels : b.parcels ≡ a.parcels) (stopped : b.stopped ≡ a.stopped) (forced : b.forced ≡ a.forced) (is : a.stopped ≡ true)
    (sound : IsSound g may_stand may_serve may_leave may_make listeners a) where
  -- one that waits is as it came
  returned_told : Waits (received a.parcels) w → Answers may_serve may_leave (received a.parcels) (stopped_entry w false)
  returned_told came = record { link = w.link; came = came; comes_back = inr refl; unlost = refl; stop = λ so. sound.stop is; force = λ so. absurd (true≢false (sym so)) }

  module _ (owed : b.owed.items ≡ a.owed.items ++ Back (stopped_entry w false) ∷ []) (live : b.live ≡ a.live) where
    -- the first of the queue went to what is owed
    pub sound_queued : a.queue.items ≡ w ∷ b.queue.items → b.strays ≡ a.strays → IsSound g may_stand may_serve may_leave may_make listeners b
    sound_queued queue strays = record {
      queue = rw parcels (All-tail (WaitsFor listeners (received a.parcels)) w b.queue.items waits);
      strays = rw (parcels, strays) sound.strays;
      live = rw (parcels, live) sound.live;
      owed = rw (parcels, owed) (All-push (IsTold may_serve may_leave may_make listeners (received a.parcels)) a.owed.items (Back (stopped_entry w false)) sound.owed
          (returned_told (All-head (WaitsFor listeners (received a.parcels)) w b.queue.items waits).1));
      stop = rw (parcels, stopped) sound.stop;
      force = rw (parcels, forced) sound.force;
    }
      where
        waits : All (WaitsFor listeners (received a.parcels)) (w ∷ b.queue.items)
        waits = subst (All (WaitsFor listeners (received a.parcels))) queue sound.queue

    -- the last of the strays went to what is owed
    pub sound_stray : b.queue.items ≡ a.queue.items → a.strays.items ≡ b.strays.items ++ w ∷ [] → IsSound g may_stand may_serve may_leave may_make listeners b
    sound_stray queue strays = record {
      queue = rw (parcels, queue) sound.queue;
      strays = rw parcels (rest_of (Strays listeners (received a.parcels)) a.strays.items b.strays.items w strays sound.strays);
      live = rw (parcels, live) sound.live;
      owed = rw (parcels, owed) (All-push (IsTold may_serve may_leave may_make listeners (received a.parcels)) a.owed.items (Back (stopped_entry w false)) sound.owed
          (returned_told (last_of (Strays listeners (received a.parcels)) a.strays.items b.strays.items w strays sound.strays).1));
      stop = rw (parcels, stopped) sound.stop;
      force = rw (parcels, forced) sound.force;
    }

  -- a live one went to what is owed
  pub sound_let_go : (c : Live L Fut) → b.owed.items ≡ a.owed.items ++ Back (stopped_entry w true) ∷ [] → a.live.items ≡ b.live.items ++ c ∷ [] → b.queue ≡ a.queue → b.strays ≡ a.strays → a.forced ≡ true
      → w.serial ≡ c.serial → w.token ≡ c.token → w.place ≡ c.place → may_leave c.token c.given.value w.link → IsSound g may_stand may_serve may_leave may_make listeners b
  sound_let_go c owed live queue strays by_force serial token place leaves = record {
    queue = rw (parcels, queue) sound.queue;
    strays = rw (parcels, strays) sound.strays;
    live = rw parcels (rest_of (Lives g may_stand may_serve may_leave (received a.parcels)) a.live.items b.live.items c live sound.live);
    owed = rw (parcels, owed) (All-push (IsTold may_serve may_leave may_make listeners (received a.parcels)) a.owed.items (Back (stopped_entry w true)) sound.owed answer);
    stop = rw (parcels, stopped) sound.stop;
    force = rw (parcels, forced) sound.force;
  }
    where
      came : Contains (received a.parcels) (Conn c.serial c.token c.place c.given.value)
      came = (last_of (Lives g may_stand may_serve may_leave (received a.parcels)) a.live.items b.live.items c live sound.live).0

      answer : Answers may_serve may_leave (received a.parcels) (stopped_entry w true)
      answer = record {
        link = c.given.value;
        came = rw (serial, token, place) came;
        comes_back = inr (rw token leaves);
        unlost = refl;
        stop = λ so. sound.stop is;
        force = λ so. sound.force by_force;
      }
