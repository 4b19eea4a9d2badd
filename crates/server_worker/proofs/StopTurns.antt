-- The steps of the turn of a worker that was stopped, one behind the other.
use Rattle.std.proofs.Common.{◌≡◌, Bool, true, false, ◌++◌, [], ℕ, ◌+◌, List, All, Result, sum_by, refl, ◌∙◌, ap, arith, subst}
use Rattle.std.proofs.lemmas.List.Sums.{sum_by-append}
use Rattle.futures.specs.declared.future.Future.{Ghosts as FutureOf}
use Rattle.rtrb.specs.Ring.{received, sent, SameProducer}
use Rattle.service_core.specs.Link.{Identity}
use Rattle.service_core.specs.declared.ended.Ended.{Ended}
use Rattle.server_jobs.specs.Cards.{Card, of_note, of_parcel, of_waiting}
use Rattle.server_jobs.specs.declared.note.Note.{Note}
use Rattle.server_jobs.specs.declared.note.Note.TheVariants.{Ready}
use Rattle.server_worker.specs.Holding.{Accounts, of_live}
use Rattle.server_worker.specs.Due.{PollsDue}
use Rattle.server_worker.specs.Polled.{PollsLive, as_it_is, once_polled, queued}
use Rattle.server_worker.specs.Posted.{Posts}
use Rattle.server_worker.specs.Sound.{IsSound, IsTold, Tells}
use Rattle.server_worker.specs.Stopping.{GivesBack, GivesUp, LetsGo, Returns, of_stop, told_as}
use Rattle.server_worker.specs.Taken.{Takes}
use Rattle.server_worker.specs.Telling.{TellsNoReady, TellsReady, newly, noted}
use Rattle.server_worker.specs.declared.connections.Connections.{Connections}
use Rattle.server_worker.specs.declared.slot.Slot.{Slot}
use Rattle.server_worker.proofs.Accounting.{accounts_trans}
use Rattle.server_worker.proofs.ServeSteps.{all_left, all_right}

-- what was owed went on the ring or is owed
posts_noted : {L Fut : Type 0} (m b : Connections L Fut) → Posts m b → (f : Note L → ℕ) → noted f b ≡ noted f m
posts_noted m b posts f = omega (arith, ap (sum_by f) posts.appended, ap (sum_by f) posts.kept, sum_by-append f (sent m.notes) posts.more, sum_by-append f posts.more b.owed.items)

-- the live ones were let go, and what is owed was posted
module _ {L E Fut : Type 0} (g : FutureOf Fut (Result (Ended L) E)) (may_stand : Fut → L → Type 0) (may_serve : ℕ → L → Ended L → Type 0) (may_leave : ℕ → L → L → Type 0)
    (may_make : ℕ → Type 0) (listeners : ℕ) (identity : L → Identity) (a m b : Connections L Fut)
    (goes : LetsGo identity a m) (posts : Posts m b) (sound : IsSound g may_stand may_serve may_leave may_make listeners m) where
  gone_told : All (IsTold may_serve may_leave may_make listeners (received b.parcels)) (posts.more ++ b.owed.items)
  gone_told = rw posts.parcels (subst (All (IsTold may_serve may_leave may_make listeners (received m.parcels))) posts.kept sound.owed)

  pub gone_sound : IsSound g may_stand may_serve may_leave may_make listeners b
  gone_sound = record {
    queue = rw (posts.parcels, posts.queue) sound.queue;
    strays = rw (posts.parcels, posts.strays) sound.strays;
    live = rw (posts.parcels, posts.live) sound.live;
    owed = all_right (IsTold may_serve may_leave may_make listeners (received b.parcels)) posts.more b.owed.items gone_told;
    stop = rw (posts.parcels, posts.stopped) sound.stop;
    force = rw (posts.parcels, posts.forced) sound.force;
  }

  pub gone_tells : Tells may_serve may_leave may_make listeners a b
  gone_tells = record {
    more = posts.more;
    appended = posts.appended ∙ ap (λ n. sent n ++ posts.more) goes.notes;
    told = all_left (IsTold may_serve may_leave may_make listeners (received b.parcels)) posts.more b.owed.items gone_told;
  }

  gone_sent : (f : Note L → ℕ) → sum_by f (sent m.notes) ≡ sum_by f (sent a.notes)
  gone_sent f = ap (λ p. sum_by f (sent p)) goes.notes

  pub gone_no_ready : TellsNoReady a b
  gone_no_ready = record {
    count = λ f nothing. omega (arith, posts_noted m b posts f, goes.signals f nothing, gone_sent f);
    told = posts.told_ready ∙ goes.told_ready;
  }

  pub gone_accounts : Accounts identity a b
  gone_accounts = record {
    parcels = rw (posts.parcels, goes.parcels) ((refl, refl, refl, refl), refl);
    notes = subst (λ n. SameProducer n b.notes) goes.notes posts.notes;
    spares = λ free. posts.spares (rw goes.notes free);
    once = λ h.
        let q = ap (λ q. sum_by (of_waiting identity h) q.items) (posts.queue ∙ goes.queue) in
        let s = ap (λ q. sum_by (of_waiting identity h) q.items) (posts.strays ∙ goes.strays) in
        let p = ap (λ p. sum_by (of_parcel identity h) (received p)) (posts.parcels ∙ goes.parcels) in
        let l = ap (λ l. sum_by (of_live identity h) l.items) posts.live in
        omega (arith, posts_noted m b posts (of_note identity h), gone_sent (of_note identity h), goes.once h, q, s, p, l);
  }

  pub gone_up : m.live.items ≡ [] → GivesUp identity a b
  gone_up none = record {
    live = ap (λ l. l.items) posts.live ∙ none;
    once = λ h.
        let l = ap (sum_by (of_live identity h)) none in
        omega (arith, posts_noted m b posts (of_stop identity true h), gone_sent (of_stop identity true h), goes.forces h, l);
  }

  pub gone_unreturned : (h : Card → ℕ) → told_as identity false h b ≡ told_as identity false h a
  gone_unreturned h = omega (arith, posts_noted m b posts (of_stop identity false h), gone_sent (of_stop identity false h), goes.stops h)

-- those that waited were given back, and the live ones were polled, or let go
module _ {L Fut : Type 0} (identity : L → Identity) (a m e : Connections L Fut)
    (gives : GivesBack identity a m) (queue : m.queue.items ≡ []) (strays : m.strays.items ≡ []) where
  given_sent : (f : Note L → ℕ) → sum_by f (sent m.notes) ≡ sum_by f (sent a.notes)
  given_sent f = ap (λ p. sum_by f (sent p)) gives.notes

  none_queued : (h : Card → ℕ) → queued identity h m ≡ 0
  none_queued h =
      let q = ap (sum_by (of_waiting identity h)) queue in
      let s = ap (sum_by (of_waiting identity h)) strays in
      omega (arith, q, s)

  pub back_accounts : Accounts identity m e → Accounts identity a e
  back_accounts after = accounts_trans given after
    where
      given : Accounts identity a m
      given = record {
        parcels = rw gives.parcels ((refl, refl, refl, refl), refl);
        notes = rw gives.notes ((refl, refl, refl, refl), refl);
        spares = rw gives.notes (λ free. free);
        once = λ h.
            let p = ap (λ p. sum_by (of_parcel identity h) (received p)) gives.parcels in
            let l = ap (λ l. sum_by (of_live identity h) l.items) gives.live in
            omega (arith, gives.once h, given_sent (of_note identity h), p, l);
      }

  pub back_tells : (may_serve : ℕ → L → Ended L → Type 0) (may_leave : ℕ → L → L → Type 0) (may_make : ℕ → Type 0) (listeners : ℕ)
      → Tells may_serve may_leave may_make listeners m e → Tells may_serve may_leave may_make listeners a e
  back_tells may_serve may_leave may_make listeners tells = record { more = tells.more; appended = tells.appended ∙ ap (λ n. sent n ++ tells.more) gives.notes; told = tells.told }

  pub back_no_ready : TellsNoReady m e → TellsNoReady a e
  back_no_ready none = record {
    count = λ f nothing. omega (arith, none.count f nothing, gives.signals f nothing, given_sent f);
    told = none.told ∙ gives.told_ready;
  }

  pub back_returns : e.queue.items ≡ m.queue.items → e.strays.items ≡ m.strays.items → e.parcels ≡ m.parcels
      → ((h : Card → ℕ) → told_as identity false h e ≡ told_as identity false h m) → Returns identity a e
  back_returns same_queue same_strays parcels same = record {
    queue = same_queue ∙ queue;
    strays = same_strays ∙ strays;
    once = λ h.
        let p = ap (λ p. sum_by (of_parcel identity h) (received p)) (parcels ∙ gives.parcels) in
        omega (arith, same h, gives.stops h, given_sent (of_stop identity false h), none_queued h, p);
  }

  given_unforced : (h : Card → ℕ) → told_as identity true h m ≡ told_as identity true h a
  given_unforced h = omega (arith, gives.forces h, given_sent (of_stop identity true h))

  pub back_gives_up : GivesUp identity m e → GivesUp identity a e
  back_gives_up up = record {
    live = up.live;
    once = λ h.
        let l = ap (λ l. sum_by (of_live identity h) l.items) gives.live in
        omega (arith, up.once h, given_unforced h, l);
  }

  pub back_unforced : ((h : Card → ℕ) → told_as identity true h e ≡ told_as identity true h m) → (h : Card → ℕ) → told_as identity true h e ≡ told_as identity true h a
  back_unforced same h = same h ∙ given_unforced h

  pub back_polls : PollsLive identity m e → PollsLive identity a e
  back_polls polls = record {
    admitted = polls.admitted;
    ended = polls.ended;
    once = λ h.
        let l = ap (λ l. sum_by (once_polled identity h) l.items) gives.live in
        omega (arith, polls.once h, l);
    came = λ h.
        let p = ap (λ p. sum_by (of_parcel identity h) (received p)) gives.parcels in
        omega (arith, polls.came h, p, none_queued h);
    told = λ h. omega (arith, polls.told h, gives.once h, given_sent (of_note identity h), none_queued h);
  }

-- what came was taken, and the rest of the turn was made
module _ {L Fut : Type 0} (identity : L → Identity) (listeners : ℕ) (a b e : Connections L Fut) (accounts : Accounts identity a b) (takes : Takes listeners a b) where
  taken_noted : (f : Note L → ℕ) → noted f b ≡ noted f a
  taken_noted f =
      let n = ap (λ p. sum_by f (sent p)) takes.notes in
      let o = ap (sum_by f) takes.owed in
      omega (arith, n, o)

  came_in : (h : Card → ℕ) → sum_by (of_parcel identity h) (received b.parcels) + queued identity h a ≡ sum_by (of_parcel identity h) (received a.parcels) + queued identity h b
  came_in h =
      let l = ap (sum_by (of_live identity h)) takes.live in
      omega (arith, accounts.once h, l, taken_noted (of_note identity h))

  pub taken_tells : (may_serve : ℕ → L → Ended L → Type 0) (may_leave : ℕ → L → L → Type 0) (may_make : ℕ → Type 0) (many : ℕ)
      → Tells may_serve may_leave may_make many b e → Tells may_serve may_leave may_make many a e
  taken_tells may_serve may_leave may_make many tells = record { more = tells.more; appended = tells.appended ∙ ap (λ n. sent n ++ tells.more) takes.notes; told = tells.told }

  pub taken_ready : {MFut S E : Type 0} (slots : List (Slot MFut S E)) → TellsReady slots b e → TellsReady slots a e
  taken_ready slots ready = record {
    once = λ f nothing.
        let k = ap (λ x. newly (f Ready) x e.told) takes.told_ready in
        omega (arith, ready.once f nothing, taken_noted f, k);
    stays = λ was. ready.stays (takes.told_ready ∙ was);
    stand = λ was is. ready.stand (takes.told_ready ∙ was) is;
  }

  pub taken_told : (forced : Bool) (h : Card → ℕ) → told_as identity forced h e ≡ told_as identity forced h b → told_as identity forced h e ≡ told_as identity forced h a
  taken_told forced h same = same ∙ taken_noted (of_stop identity forced h)

  pub taken_returns : Returns identity b e → Returns identity a e
  taken_returns returns = record {
    queue = returns.queue;
    strays = returns.strays;
    once = λ h. omega (arith, returns.once h, came_in h, taken_noted (of_stop identity false h));
  }

  pub taken_gives_up : GivesUp identity b e → GivesUp identity a e
  taken_gives_up up = record {
    live = up.live;
    once = λ h.
        let l = ap (sum_by (of_live identity h)) takes.live in
        omega (arith, up.once h, l, taken_noted (of_stop identity true h));
  }

  pub taken_polls : PollsLive identity b e → PollsLive identity a e
  taken_polls polls = record {
    admitted = polls.admitted;
    ended = polls.ended;
    once = λ h.
        let l = ap (sum_by (once_polled identity h)) takes.live in
        omega (arith, polls.once h, l);
    came = λ h. omega (arith, polls.came h, came_in h);
    told = λ h. omega (arith, polls.told h, taken_noted (of_note identity h));
  }

  pub taken_due : (news : List ℕ) → PollsDue identity news b e → PollsDue identity news a e
  taken_due news polls = record {
    admitted = polls.admitted;
    polled = polls.polled;
    rested = polls.rested;
    ended = polls.ended;
    split = λ h.
        let l = ap (sum_by (as_it_is identity h)) takes.live in
        omega (arith, polls.split h, l);
    once = polls.once;
    waited = polls.waited;
    unheard = polls.unheard;
    stayed = polls.stayed;
    came = λ h. omega (arith, polls.came h, came_in h);
    told = λ h. omega (arith, polls.told h, taken_noted (of_note identity h));
  }
