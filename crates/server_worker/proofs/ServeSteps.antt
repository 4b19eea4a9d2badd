-- The live connections were polled, and what ended was posted.
use Rattle.std.proofs.Common.{◌≡◌, Bool, true, false, true≢false, ◌++◌, ◌∷◌, [], ℕ, ◌+◌, List, All, Result, sum_by, refl, sym, ◌∙◌, ap, arith, subst}
use Rattle.std.proofs.lemmas.List.Sums.{sum_by-append}
use Rattle.std.proofs.lemmas.List.Elements.{All-nil, All-cons, All-head, All-tail}
use Rattle.futures.specs.declared.future.Future.{Ghosts as FutureOf}
use Rattle.rtrb.specs.Ring.{received, sent, SameProducer}
use Rattle.service_core.specs.Counts.{risen}
use Rattle.service_core.specs.Link.{Identity}
use Rattle.service_core.specs.declared.ended.Ended.{Ended}
use Rattle.server_jobs.specs.Cards.{Card, of_note, of_parcel, of_waiting}
use Rattle.server_worker.specs.Holding.{Accounts, of_live}
use Rattle.server_worker.specs.Telling.{TellsNoReady, TellsReady, newly}
use Rattle.server_worker.specs.Due.{PolledDue, PollsDue}
use Rattle.server_worker.specs.Polled.{Admits, OwesMore, PollsLive, as_it_is, handed, once_polled, queued}
use Rattle.server_worker.specs.Posted.{Posts}
use Rattle.server_worker.specs.Sound.{IsSound, IsTold, Tells}
use Rattle.server_worker.specs.Standing.{AllMade}
use Rattle.server_worker.specs.Stopping.{of_stop, told_as}
use Rattle.server_worker.specs.declared.connections.Connections.{Connections}
use Rattle.server_worker.specs.declared.slot.Slot.{Slot}
use Rattle.server_jobs.specs.declared.note.Note.{Note}
use Rattle.server_jobs.specs.declared.note.Note.TheVariants.{Ready}
use Rattle.server_worker.proofs.Accounting.{accounts_trans}
use Rattle.server_worker.proofs.StopWords.{ended_weighs}

pub all_left : {X : Type 0} (P : X → Type 0) (xs ys : List X) → All P (xs ++ ys) → All P xs
all_left P [] ys all = All-nil P
all_left P (x ∷ xs) ys all = All-cons P x xs (All-head P x (xs ++ ys) all) (all_left P xs ys (All-tail P x (xs ++ ys) all))

pub all_right : {X : Type 0} (P : X → Type 0) (xs ys : List X) → All P (xs ++ ys) → All P ys
all_right P [] ys all = all
all_right P (x ∷ xs) ys all = all_right P xs ys (All-tail P x (xs ++ ys) all)

module _ {L E Fut : Type 0} (g : FutureOf Fut (Result (Ended L) E)) (may_stand : Fut → L → Type 0) (may_serve : ℕ → L → Ended L → Type 0) (may_leave : ℕ → L → L → Type 0)
    (may_make : ℕ → Type 0) (listeners : ℕ) (identity : L → Identity) (a m b : Connections L Fut)
    (every : Bool) (news : List ℕ) (polled : PolledDue g may_stand may_serve may_leave may_make listeners identity every news a m) (posts : Posts m b) where
  -- what was kept went on the ring or is kept
  moved : (h : Card → ℕ) → sum_by (of_note identity h) (sent m.notes) + sum_by (of_note identity h) m.owed.items ≡ sum_by (of_note identity h) (sent b.notes) + sum_by (of_note identity h) b.owed.items
  moved h = omega (arith, ap (sum_by (of_note identity h)) posts.appended, ap (sum_by (of_note identity h)) posts.kept, sum_by-append (of_note identity h) (sent m.notes) posts.more, sum_by-append (of_note identity h) posts.more b.owed.items)

  pub serves_due : PollsDue identity news a b
  serves_due = record {
    admitted = [];
    polled = polled.polled;
    rested = polled.rested;
    ended = polled.ended;
    split = λ h. omega (arith, polled.split h);
    once = λ h. rw posts.live (polled.once h);
    waited = polled.waited;
    unheard = polled.unheard;
    stayed = λ f. rw posts.live (polled.stayed f);
    came = λ h. rw (posts.parcels, posts.queue, posts.strays, polled.parcels, polled.queue, polled.strays) (omega arith);
    told = λ h. let n = ap (λ p. sum_by (of_note identity h) (sent p)) polled.notes in omega (arith, moved h, polled.told h, n);
  }

  pub serves_polls : every ≡ true → PollsLive identity a b
  serves_polls all = record {
    admitted = [];
    ended = polled.ended;
    once = λ h.
        let s : sum_by (λ (e : Card × ℕ). h e.0 (risen e.1)) polled.polled + sum_by (once_polled identity h) polled.rested ≡ sum_by (once_polled identity h) a.live.items = polled.split (λ c n. h c (risen n)) in
        let r = ap (sum_by (once_polled identity h)) (polled.all all) in
        let q = ap (sum_by (as_it_is identity h)) (polled.all all) in
        rw posts.live (omega (arith, polled.once h, s, r, q));
    came = λ h. rw (posts.parcels, posts.queue, posts.strays, polled.parcels, polled.queue, polled.strays) (omega arith);
    told = λ h. let n = ap (λ p. sum_by (of_note identity h) (sent p)) polled.notes in omega (arith, moved h, polled.told h, n);
  }

  pub serves_accounts : Accounts identity a b
  serves_accounts = record {
    parcels = rw (posts.parcels, polled.parcels) ((refl, refl, refl, refl), refl);
    notes = subst (λ n. SameProducer n b.notes) polled.notes posts.notes;
    spares = λ free. posts.spares (rw polled.notes free);
    once = λ h.
        let n = ap (λ p. sum_by (of_note identity h) (sent p)) polled.notes in
        let q = ap (λ q. sum_by (of_waiting identity h) q.items) (posts.queue ∙ polled.queue) in
        let s = ap (λ q. sum_by (of_waiting identity h) q.items) (posts.strays ∙ polled.strays) in
        let p = ap (λ p. sum_by (of_parcel identity h) (received p)) (posts.parcels ∙ polled.parcels) in
        let l = ap (λ l. sum_by (of_live identity h) l.items) posts.live in
        let o : sum_by (λ (e : Card × ℕ). h e.0) polled.polled + sum_by (of_live identity h) polled.rested ≡ sum_by (of_live identity h) m.live.items + sum_by (λ (e : Card × ℕ). h e.0) polled.ended = polled.once (λ c n. h c) in
        let d : sum_by (λ (e : Card × ℕ). h e.0) polled.polled + sum_by (of_live identity h) polled.rested ≡ sum_by (of_live identity h) a.live.items = polled.split (λ c n. h c) in
        omega (arith, moved h, polled.told h, n, q, s, p, l, o, d);
  }

  pub serves_no_ready : TellsNoReady a b
  serves_no_ready = record {
    count = λ f nothing.
        let n = ap (λ p. sum_by f (sent p)) polled.notes in
        omega (arith, polled.signals f (λ e ended. nothing e), n, ap (sum_by f) posts.appended, ap (sum_by f) posts.kept, sum_by-append f (sent m.notes) posts.more, sum_by-append f posts.more b.owed.items);
    told = posts.told_ready ∙ polled.told_ready;
  }

  pub serves_stops : (forced : Bool) (h : Card → ℕ) → told_as identity forced h b ≡ told_as identity forced h a
  serves_stops forced h =
      let n = ap (λ p. sum_by (of_stop identity forced h) (sent p)) polled.notes in
      omega (arith, polled.signals (of_stop identity forced h) (λ e ended. ended_weighs forced _ e.outcome ended), n, ap (sum_by (of_stop identity forced h)) posts.appended, ap (sum_by (of_stop identity forced h)) posts.kept, sum_by-append (of_stop identity forced h) (sent m.notes) posts.more, sum_by-append (of_stop identity forced h) posts.more b.owed.items)

  pub serves_tells : Tells may_serve may_leave may_make listeners a b
  serves_tells = record {
    more = posts.more;
    appended = posts.appended ∙ ap (λ n. sent n ++ posts.more) polled.notes;
    told = all_left (IsTold may_serve may_leave may_make listeners (received b.parcels)) posts.more b.owed.items told;
  }
    where
      told : All (IsTold may_serve may_leave may_make listeners (received b.parcels)) (posts.more ++ b.owed.items)
      told = rw posts.parcels (subst (All (IsTold may_serve may_leave may_make listeners (received m.parcels))) posts.kept polled.sound.owed)

  pub serves_sound : IsSound g may_stand may_serve may_leave may_make listeners b
  serves_sound = record {
    queue = rw (posts.parcels, posts.queue) polled.sound.queue;
    strays = rw (posts.parcels, posts.strays) polled.sound.strays;
    live = rw (posts.parcels, posts.live) polled.sound.live;
    stop = rw (posts.parcels, posts.stopped) polled.sound.stop;
    force = rw (posts.parcels, posts.forced) polled.sound.force;
    owed = all_right (IsTold may_serve may_leave may_make listeners (received b.parcels)) posts.more b.owed.items told;
  }
    where
      told : All (IsTold may_serve may_leave may_make listeners (received b.parcels)) (posts.more ++ b.owed.items)
      told = rw posts.parcels (subst (All (IsTold may_serve may_leave may_make listeners (received m.parcels))) posts.kept polled.sound.owed)

pub newly_same : (n : ℕ) (b : Bool) → newly n b b ≡ 0
newly_same n true = refl
newly_same n false = refl

pub newly_none : (a b : Bool) → newly 0 a b ≡ 0
newly_none true b = refl
newly_none false true = refl
newly_none false false = refl

module _ {L Fut MFut S E : Type 0} (slots : List (Slot MFut S E)) where
  -- that all services stand was told by what is owed, or was told before, or is not told
  pub turn_ready : {identity : L → Identity} (b c d e : Connections L Fut) → OwesMore identity Ready b c → Admits identity c d → TellsNoReady d e
      → (b.told ≡ false → c.told ≡ true → AllMade slots) → TellsReady slots b e
  turn_ready b c d e owes admits none stand = record {
    once = λ f nothing.
        let n = ap (λ p. sum_by f (sent p)) (admits.notes ∙ owes.notes) in
        let o = ap (λ q. sum_by f q.items) admits.owed in
        let m = ap (λ x. newly (f Ready) b.told x) same in
        omega (arith, none.count f nothing, owes.signals f, n, o, m);
    stays = λ was. same ∙ owes.told_ready was;
    stand = λ was is. stand was (sym same ∙ is);
  }
    where
      same : e.told ≡ c.told
      same = none.told ∙ admits.told_ready

  -- nothing of it was told
  pub turn_no_ready : (b e : Connections L Fut) → TellsNoReady b e → TellsReady slots b e
  turn_no_ready b e none = record {
    once = λ f nothing.
        let m = ap (λ x. newly (f Ready) b.told x) none.told in
        omega (arith, none.count f nothing, m, newly_same (f Ready) b.told);
    stays = λ was. none.told ∙ was;
    stand = λ was is. absurd (true≢false (sym is ∙ none.told ∙ was));
  }

-- a note may be owed, those that may were admitted, and then what had ended was handed back
module _ {L Fut : Type 0} (identity : L → Identity) (b c d e : Connections L Fut) (owes : OwesMore identity Ready b c) (admits : Admits identity c d) where
  same_notes : (h : Card → ℕ) → handed identity h d ≡ handed identity h b
  same_notes h =
      let n = ap (λ p. sum_by (of_note identity h) (sent p)) (admits.notes ∙ owes.notes) in
      let o = ap (λ q. sum_by (of_note identity h) q.items) admits.owed in
      omega (arith, owes.once h, n, o)

  same_queue : (h : Card → ℕ) → queued identity h d + sum_by h admits.admitted ≡ queued identity h b
  same_queue h =
      let q = ap (λ q. sum_by (of_waiting identity h) q.items) owes.queue in
      let s = ap (λ q. sum_by (of_waiting identity h) q.items) (admits.strays ∙ owes.strays) in
      omega (arith, admits.queue h, q, s)

  same_parcels : (h : Card → ℕ) → sum_by (of_parcel identity h) (received d.parcels) ≡ sum_by (of_parcel identity h) (received b.parcels)
  same_parcels h = ap (λ p. sum_by (of_parcel identity h) (received p)) (admits.parcels ∙ owes.parcels)

  live_by : (h : Card → ℕ → ℕ) → sum_by (as_it_is identity h) d.live.items ≡ sum_by (as_it_is identity h) b.live.items + sum_by (λ (k : Card). h k 0) admits.admitted
  live_by h =
      let l = ap (λ l. sum_by (as_it_is identity h) l.items) owes.live in
      omega (arith, admits.live h, l)

  pub turn_stops : (forced : Bool) (h : Card → ℕ) → told_as identity forced h e ≡ told_as identity forced h d → told_as identity forced h e ≡ told_as identity forced h b
  turn_stops forced h same =
      let n = ap (λ p. sum_by (of_stop identity forced h) (sent p)) (admits.notes ∙ owes.notes) in
      let o = ap (λ q. sum_by (of_stop identity forced h) q.items) admits.owed in
      omega (arith, same, owes.signals (of_stop identity forced h), newly_none b.told c.told, n, o)

  pub turn_polls : PollsLive identity d e → PollsLive identity b e
  turn_polls polls = record {
    admitted = admits.admitted ++ polls.admitted;
    ended = polls.ended;
    once = λ h.
        let l : sum_by (once_polled identity h) d.live.items ≡ sum_by (once_polled identity h) b.live.items + sum_by (λ (k : Card). h k 1) admits.admitted = live_by (λ k n. h k (risen n)) in
        omega (arith, l, polls.once h, sum_by-append (λ (k : Card). h k 1) admits.admitted polls.admitted);
    came = λ h. omega (arith, same_queue h, same_parcels h, polls.came h, sum_by-append h admits.admitted polls.admitted);
    told = λ h. omega (arith, same_notes h, polls.told h);
  }

  pub turn_due : (news : List ℕ) → PollsDue identity news d e → PollsDue identity news b e
  turn_due news polls = record {
    admitted = admits.admitted ++ polls.admitted;
    polled = polls.polled;
    rested = polls.rested;
    ended = polls.ended;
    split = λ h. omega (arith, live_by h, polls.split h, sum_by-append (λ (k : Card). h k 0) admits.admitted polls.admitted);
    once = polls.once;
    waited = polls.waited;
    unheard = polls.unheard;
    stayed = polls.stayed;
    came = λ h. omega (arith, same_queue h, same_parcels h, polls.came h, sum_by-append h admits.admitted polls.admitted);
    told = λ h. omega (arith, same_notes h, polls.told h);
  }

  pub turn_accounts : Accounts identity d e → Accounts identity b e
  turn_accounts served = accounts_trans between served
    where
      between : Accounts identity b d
      between = record {
        parcels = rw (admits.parcels, owes.parcels) ((refl, refl, refl, refl), refl);
        notes = rw (admits.notes, owes.notes) ((refl, refl, refl, refl), refl);
        spares = rw (admits.notes, owes.notes) (λ free. free);
        once = λ h.
            let n = ap (λ p. sum_by (of_note identity h) (sent p)) (admits.notes ∙ owes.notes) in
            let o = ap (λ q. sum_by (of_note identity h) q.items) admits.owed in
            let l : sum_by (of_live identity h) d.live.items ≡ sum_by (of_live identity h) b.live.items + sum_by h admits.admitted = live_by (λ k n. h k) in
            omega (arith, same_queue h, same_parcels h, owes.once h, n, o, l);
      }

-- ---- what was kept went on the ring, and nothing was polled
module _ {L E Fut : Type 0} (g : FutureOf Fut (Result (Ended L) E)) (may_stand : Fut → L → Type 0) (may_serve : ℕ → L → Ended L → Type 0) (may_leave : ℕ → L → L → Type 0)
    (may_make : ℕ → Type 0) (listeners : ℕ) (identity : L → Identity) (a b : Connections L Fut) (sound : IsSound g may_stand may_serve may_leave may_make listeners a) (posts : Posts a b) where
  moved_on : (f : Note L → ℕ) → sum_by f (sent a.notes) + sum_by f a.owed.items ≡ sum_by f (sent b.notes) + sum_by f b.owed.items
  moved_on f = omega (arith, ap (sum_by f) posts.appended, ap (sum_by f) posts.kept, sum_by-append f (sent a.notes) posts.more, sum_by-append f posts.more b.owed.items)

  pub posted_accounts : Accounts identity a b
  posted_accounts = record {
    parcels = rw posts.parcels ((refl, refl, refl, refl), refl);
    notes = posts.notes;
    spares = posts.spares;
    once = λ h.
        let q = ap (λ q. sum_by (of_waiting identity h) q.items) posts.queue in
        let s = ap (λ q. sum_by (of_waiting identity h) q.items) posts.strays in
        let p = ap (λ p. sum_by (of_parcel identity h) (received p)) posts.parcels in
        let l = ap (λ l. sum_by (of_live identity h) l.items) posts.live in
        omega (arith, moved_on (of_note identity h), q, s, p, l);
  }

  pub posted_no_ready : TellsNoReady a b
  posted_no_ready = record { count = λ f nothing. sym (moved_on f); told = posts.told_ready }

  pub posted_stops : (forced : Bool) (h : Card → ℕ) → told_as identity forced h b ≡ told_as identity forced h a
  posted_stops forced h = sym (moved_on (of_stop identity forced h))

  posted_told : All (IsTold may_serve may_leave may_make listeners (received b.parcels)) (posts.more ++ b.owed.items)
  posted_told = rw posts.parcels (subst (All (IsTold may_serve may_leave may_make listeners (received a.parcels))) posts.kept sound.owed)

  pub posted_tells : Tells may_serve may_leave may_make listeners a b
  posted_tells = record {
    more = posts.more;
    appended = posts.appended;
    told = all_left (IsTold may_serve may_leave may_make listeners (received b.parcels)) posts.more b.owed.items posted_told;
  }

  pub posted_sound : IsSound g may_stand may_serve may_leave may_make listeners b
  posted_sound = record {
    queue = rw (posts.parcels, posts.queue) sound.queue;
    strays = rw (posts.parcels, posts.strays) sound.strays;
    live = rw (posts.parcels, posts.live) sound.live;
    stop = rw (posts.parcels, posts.stopped) sound.stop;
    force = rw (posts.parcels, posts.forced) sound.force;
    owed = all_right (IsTold may_serve may_leave may_make listeners (received b.parcels)) posts.more b.owed.items posted_told;
  }
