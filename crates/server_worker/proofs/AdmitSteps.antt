-- One connection more is admitted.
use Rattle.std.proofs.Common.{◌≡◌, ◌<◌, ℕ, List, [], ◌∷◌, ◌++◌, length, sum_by, All, Result, Some, IfSome, slice_get, get_or, true, true≢false, refl, sym, ◌∙◌, ap, arith, subst}
use Rattle.std.proofs.lemmas.Option.{slice_get_read}
use Rattle.std.proofs.lemmas.List.Sums.{sum_by_push, sum_by-append}
use Rattle.std.proofs.lemmas.List.Elements.{All-head, All-tail, All-push}
use Rattle.futures.specs.declared.future.Future.{Ghosts as FutureOf}
use Rattle.rtrb.specs.Ring.{received}
use Rattle.service_core.specs.Link.{Identity}
use Rattle.service_core.specs.Shown.{wait_count}
use Rattle.service_core.specs.declared.ended.Ended.{Ended}
use Rattle.server_jobs.specs.Cards.{Card, card, of_waiting}
use Rattle.server_worker.specs.Polled.{Admits, as_it_is}
use Rattle.server_worker.specs.Sound.{IsSound, Lives, Serves, WaitsFor}
use Rattle.server_worker.specs.Checking.{IsStanding}
use Rattle.server_worker.specs.Standing.{fits, fits_at}
use Rattle.worker_core.proofs.WorkerCoreRuns.{available_each}
use Rattle.worker_core.specs.WorkerCore.{Worker, state_of, status_of}
use Rattle.worker_core.specs.declared.service_status.ServiceStatus.TheVariants.{Available}
use Rattle.worker_core.specs.declared.worker_state.WorkerState.TheVariants as state
use Rattle.server_worker.specs.declared.connections.Connections.{Connections}
use Rattle.server_worker.specs.declared.live.Live.{Live}
use Rattle.server_worker.specs.declared.slot.Slot.{Slot}
use Rattle.server_worker.specs.declared.slot.Slot.TheVariants.{Making, Made, Failed, Remaking, Gone}
use Rattle.server_jobs.specs.declared.waiting.Waiting.{Waiting}

-- of a slot that is read P holds
pub of_slot : {Fut S E : Type 0} (P : ℕ → Slot Fut S E → Type 0) (slots : List (Slot Fut S E)) (token : ℕ) (slot : Slot Fut S E) → token < length slots → slot ≡ get_or slots token slot
    → ((t : ℕ) → IfSome (slice_get slots t) (P t)) → P token slot
of_slot P slots token slot inside is all =
    let here : slice_get slots token ≡ Some slot = slice_get_read slots (length slots) token slot refl inside is in
    subst (λ o. IfSome o (P token)) here (all token)

pub of_slot_at : {Fut S E : Type 0} (P : Slot Fut S E → Type 0) (slots : List (Slot Fut S E)) (token : ℕ) (slot : Slot Fut S E) → token < length slots → slot ≡ get_or slots token slot → IfSome (slice_get slots token) P → P slot
of_slot_at P slots token slot inside is here =
    let at : slice_get slots token ≡ Some slot = slice_get_read slots (length slots) token slot refl inside is in
    subst (λ o. IfSome o P) at here

-- what is none that stands does not stand
pub not_standing : {Fut S E : Type 0} (slot : Slot Fut S E) → ((service : S) → slot ≡ Made service → ⊥) → IsStanding (Some slot) → ⊥
not_standing (Making future) other stands = stands
not_standing (Made service) other stands = other service refl
not_standing (Failed error) other stands = stands
not_standing (Remaking future error) other stands = stands
not_standing Gone other stands = stands

-- where all are available, a slot that is read stands
pub stands_at : {Fut S E : Type 0} (slots : List (Slot Fut S E)) (w : Worker) (token : ℕ) (slot : Slot Fut S E) → token < length slots → length slots ≡ length w.services → slot ≡ get_or slots token slot
    → ((t : ℕ) → fits_at (status_of w t) (slice_get slots t) ≡ true) → state_of w ≡ state.Available → IsStanding (Some slot)
stands_at {Fut = Fut} {S = S} {E = E} slots w token slot inside many is fit available =
    let here : slice_get slots token ≡ Some slot = slice_get_read slots (length slots) token slot refl inside is in
    by_slot slot (subst (λ s. fits s slot ≡ true) (available_each w token available (omega (arith, inside, many))) (subst (λ o. fits_at (status_of w token) o ≡ true) here (fit token)))
  where
    by_slot : (slot : Slot Fut S E) → fits Available slot ≡ true → IsStanding (Some slot)
    by_slot (Making future) fit = absurd (true≢false (sym fit))
    by_slot (Made service) fit = tt
    by_slot (Failed error) fit = absurd (true≢false (sym fit))
    by_slot (Remaking future error) fit = absurd (true≢false (sym fit))
    by_slot Gone fit = absurd (true≢false (sym fit))

same_weight : {L Fut : Type 0} (identity : L → Identity) (h : Card → ℕ → ℕ) (w : Waiting L) (c : Live L Fut)
    → c.serial ≡ w.serial → c.token ≡ w.token → c.place ≡ w.place → c.given.value ≡ w.link → wait_count c.future ≡ 0 → as_it_is identity h c ≡ h (card w.serial w.token w.place (identity w.link)) 0
same_weight identity h w c serial token place given fresh = rw (serial, token, place, given, fresh)

module _ {L Fut : Type 0} (identity : L → Identity) where
  pub admits_none : (a b : Connections L Fut) → b.parcels ≡ a.parcels → b.notes ≡ a.notes → b.strays ≡ a.strays → b.owed ≡ a.owed → b.stopped ≡ a.stopped → b.forced ≡ a.forced → b.told ≡ a.told
      → b.live ≡ a.live → a.queue.items ≡ b.queue.items → Admits identity a b
  admits_none a b parcels notes strays owed stopped forced told live queue = record {
    admitted = [];
    live = λ h. rw live (omega arith);
    queue = λ h. omega (arith, ap (sum_by (of_waiting identity h)) queue);
    parcels = parcels;
    notes = notes;
    strays = strays;
    owed = owed;
    stopped = stopped;
    forced = forced;
    told_ready = told;
  }

  pub admits_same : (a : Connections L Fut) → Admits identity a a
  admits_same a = admits_none a a refl refl refl refl refl refl refl refl refl

  pub admits_trans : {a b c : Connections L Fut} → Admits identity a b → Admits identity b c → Admits identity a c
  admits_trans p q = record {
    admitted = p.admitted ++ q.admitted;
    live = λ h. omega (arith, p.live h, q.live h, sum_by-append (λ (c : Card). h c 0) p.admitted q.admitted);
    queue = λ h. omega (arith, p.queue h, q.queue h, sum_by-append h p.admitted q.admitted);
    parcels = q.parcels ∙ p.parcels;
    notes = q.notes ∙ p.notes;
    strays = q.strays ∙ p.strays;
    owed = q.owed ∙ p.owed;
    stopped = q.stopped ∙ p.stopped;
    forced = q.forced ∙ p.forced;
    told_ready = q.told_ready ∙ p.told_ready;
  }

  module _ (a b : Connections L Fut) (w : Waiting L) (c : Live L Fut)
      (parcels : b.parcels ≡ a.parcels) (notes : b.notes ≡ a.notes) (strays : b.strays ≡ a.strays) (owed : b.owed ≡ a.owed) (stopped : b.stopped ≡ a.stopped) (forced : b.forced ≡ a.forced) (told : b.told ≡ a.told)
      (queue : a.queue.items ≡ w ∷ b.queue.items) (live : b.live.items ≡ a.live.items ++ c ∷ [])
      (serial : c.serial ≡ w.serial) (token : c.token ≡ w.token) (place : c.place ≡ w.place) (given : c.given.value ≡ w.link) where
    abbrev the_card : Card
    the_card = card w.serial w.token w.place (identity w.link)

    pub admits_one : wait_count c.future ≡ 0 → Admits identity a b
    admits_one fresh = record {
      admitted = the_card ∷ [];
      live = λ h.
          omega (arith, ap (sum_by (as_it_is identity h)) live, sum_by_push (as_it_is identity h) a.live.items c, same_weight identity h w c serial token place given fresh);
      queue = λ h.
          let weight : of_waiting identity h w ≡ h the_card = refl in
          omega (arith, ap (sum_by (of_waiting identity h)) queue, sum_by-append (of_waiting identity h) (w ∷ []) b.queue.items, weight);
      parcels = parcels;
      notes = notes;
      strays = strays;
      owed = owed;
      stopped = stopped;
      forced = forced;
      told_ready = told;
    }

    pub sound_admitted : {E : Type 0} (g : FutureOf Fut (Result (Ended L) E)) (may_stand : Fut → L → Type 0) (may_serve : ℕ → L → Ended L → Type 0) (may_leave : ℕ → L → L → Type 0) (may_make : ℕ → Type 0) (listeners : ℕ)
        → IsSound g may_stand may_serve may_leave may_make listeners a → Serves g may_stand may_serve may_leave c → IsSound g may_stand may_serve may_leave may_make listeners b
    sound_admitted g may_stand may_serve may_leave may_make listeners sound serves = record {
      queue = rw parcels (All-tail (WaitsFor listeners (received a.parcels)) w b.queue.items waits);
      strays = rw (parcels, strays) sound.strays;
      live = rw (parcels, live) (All-push (Lives g may_stand may_serve may_leave (received a.parcels)) a.live.items c sound.live
          (rw (serial, token, place, given) (All-head (WaitsFor listeners (received a.parcels)) w b.queue.items waits).1, serves));
      owed = rw (parcels, owed) sound.owed;
      stop = rw (parcels, stopped) sound.stop;
      force = rw (parcels, forced) sound.force;
    }
      where
        waits : All (WaitsFor listeners (received a.parcels)) (w ∷ b.queue.items)
        waits = subst (All (WaitsFor listeners (received a.parcels))) queue sound.queue
