-- One live connection more is polled.
use Rattle.std.proofs.Common.{◌≡◌, false, true≢false, ◌<◌, ◌≤◌, ℕ, ◌+◌, List, [], ◌∷◌, ◌++◌, length, take, drop, set, get_or, sum_by, Contains, Result, refl, sym, ◌∙◌, ap, arith, subst}
use Rattle.std.specs.List.{swap_remove}
use Rattle.std.proofs.Math.ListN.{length-set}
use Rattle.std.proofs.lemmas.List.{take-set, drop_all, get_or-set_same}
use Rattle.std.proofs.lemmas.List.Sums.{sum_by_more, sum_by_push, sum_by-take-drop}
use Rattle.std.proofs.lemmas.List.Elements.{All-set, All-get_or, All-push}
use Rattle.futures.specs.declared.future.Future.{Ghosts as FutureOf}
use Rattle.rtrb.specs.Ring.{received}
use Rattle.service_core.specs.Counts.{risen}
use Rattle.service_core.specs.Link.{Identity}
use Rattle.service_core.specs.Shown.{wait_count}
use Rattle.service_core.specs.declared.ended.Ended.{Ended}
use Rattle.server_run.specs.Delivery.{ComesBack}
use Rattle.server_run.specs.Outcome.{is_lost, is_stopped}
use Rattle.server_jobs.specs.Cards.{Card, of_note}
use Rattle.server_worker.specs.Ending.{EndsAt, IsSameConnection, entry_of}
use Rattle.server_worker.specs.Polled.{PolledFrom, as_it_is, once_polled, card_of}
use Rattle.server_worker.specs.Sound.{Answers, IsSound, IsTold, Lives, Serves}
use Rattle.server_worker.specs.declared.connections.Connections.{Connections}
use Rattle.server_worker.specs.declared.finished.Finished.{Finished}
use Rattle.server_worker.specs.declared.live.Live.{Live}
use Rattle.server_jobs.specs.declared.parcel.Parcel.TheVariants.{Conn}
use Rattle.server_jobs.specs.declared.note.Note.TheVariants.{Back}
use Rattle.server_worker.proofs.StopWords.{forced_stopped}
use Rattle.server_worker.proofs.Places.{all_removed, length_removed, removed_before, removed_set, sum_from_removed, sum_from_set}

pub more_within : (at n : ℕ) → at + 1 ≤ n → at < n
more_within at n within = omega (arith, within)

pub reads_set : {X : Type 0} (xs : List X) (n : ℕ) (x : X) → n < length xs → x ≡ get_or (set xs n x) n x
reads_set xs n x inside = sym (get_or-set_same xs n x x inside)

-- none was polled yet
pub polled_none : {L E Fut : Type 0} (g : FutureOf Fut (Result (Ended L) E)) (may_stand : Fut → L → Type 0) (may_serve : ℕ → L → Ended L → Type 0) (may_leave : ℕ → L → L → Type 0)
    (may_make : ℕ → Type 0) (listeners : ℕ) (identity : L → Identity) (a : Connections L Fut) (at : ℕ) → at ≡ length a.live.items → IsSound g may_stand may_serve may_leave may_make listeners a
    → PolledFrom g may_stand may_serve may_leave may_make listeners identity a a at
polled_none g may_stand may_serve may_leave may_make listeners identity a at is sound = record {
  sound = sound;
  within = omega arith;
  ended = [];
  once = λ h. omega (arith, sum_by-take-drop (once_polled identity h) a.live.items at, ap (sum_by (once_polled identity h)) none, ap (sum_by (as_it_is identity h)) none);
  told = λ h. omega arith;
  signals = λ f none. refl;
  parcels = refl;
  notes = refl;
  queue = refl;
  strays = refl;
  stopped = refl;
  forced = refl;
  told_ready = refl;
}
  where
    none : drop at a.live.items ≡ []
    none = drop_all at a.live.items (omega arith)

module _ {L E Fut : Type 0} (g : FutureOf Fut (Result (Ended L) E)) (may_stand : Fut → L → Type 0) (may_serve : ℕ → L → Ended L → Type 0) (may_leave : ℕ → L → L → Type 0)
    (may_make : ℕ → Type 0) (listeners : ℕ) (identity : L → Identity) (first a : Connections L Fut) (at : ℕ) (c d : Live L Fut)
    (here : c ≡ get_or a.live.items at c) (inside : at < length a.live.items) (same : IsSameConnection c d)
    (so_far : PolledFrom g may_stand may_serve may_leave may_make listeners identity first a (at + 1)) where
  came : Contains (received a.parcels) (Conn c.serial c.token c.place c.given.value)
  came = (subst (Lives g may_stand may_serve may_leave (received a.parcels)) (sym here) (All-get_or (Lives g may_stand may_serve may_leave (received a.parcels)) a.live.items at c inside so_far.sound.live)).0

  came_same : Contains (received a.parcels) (Conn d.serial d.token d.place d.given.value)
  came_same = rw (same.serial, same.token, same.place, same.given) came

  same_card : card_of identity d ≡ card_of identity c
  same_card = rw (same.serial, same.token, same.place, same.given)

  module _ (h : Card → ℕ → ℕ) where
    before : sum_by (once_polled identity h) (take (at + 1) a.live.items) ≡ sum_by (once_polled identity h) (take at a.live.items) + once_polled identity h c
    before = sum_by_more (once_polled identity h) a.live.items at c inside ∙ ap (λ x. sum_by (once_polled identity h) (take at a.live.items) + once_polled identity h x) (sym here)

  -- it was pending
  pub polled_pending : (b : Connections L Fut) → Serves g may_stand may_serve may_leave d → wait_count d.future ≡ risen (wait_count c.future)
      → b.live.items ≡ set a.live.items at d → b.owed ≡ a.owed → b.parcels ≡ a.parcels → b.notes ≡ a.notes → b.queue ≡ a.queue → b.strays ≡ a.strays → b.stopped ≡ a.stopped → b.forced ≡ a.forced → b.told ≡ a.told
      → PolledFrom g may_stand may_serve may_leave may_make listeners identity first b at
  polled_pending b serves waits live owed parcels notes queue strays stopped forced told = record {
    sound = record {
      queue = rw (parcels, queue) so_far.sound.queue;
      strays = rw (parcels, strays) so_far.sound.strays;
      live = rw (parcels, live) (All-set (Lives g may_stand may_serve may_leave (received a.parcels)) a.live.items at d (came_same, serves) so_far.sound.live);
      owed = rw (parcels, owed) so_far.sound.owed;
      stop = rw (parcels, stopped) so_far.sound.stop;
      force = rw (parcels, forced) so_far.sound.force;
    };
    within = rw live (let l = length-set a.live.items at d in omega arith);
    ended = so_far.ended;
    once = λ h. rw (live, take-set a.live.items at d) (
        let counted : as_it_is identity h d ≡ once_polled identity h c = rw (same_card, waits) in
        omega (arith, before h, sum_from_set (as_it_is identity h) a.live.items at c d inside, so_far.once h, counted));
    told = λ h. rw owed (so_far.told h);
    signals = λ f nothing. ap (λ q. sum_by f q.items) owed ∙ so_far.signals f nothing;
    parcels = parcels ∙ so_far.parcels;
    notes = notes ∙ so_far.notes;
    queue = queue ∙ so_far.queue;
    strays = strays ∙ so_far.strays;
    stopped = stopped ∙ so_far.stopped;
    forced = forced ∙ so_far.forced;
    told_ready = told ∙ so_far.told_ready;
  }

  -- it ended
  pub polled_ended : (m b : Connections L Fut) (f : Finished L)
      → m.live.items ≡ set a.live.items at d → m.owed ≡ a.owed → m.parcels ≡ a.parcels → m.notes ≡ a.notes → m.queue ≡ a.queue → m.strays ≡ a.strays → m.stopped ≡ a.stopped → m.forced ≡ a.forced → m.told ≡ a.told
      → EndsAt m b at d f
      → ComesBack (may_serve c.token) (may_leave c.token) c.given.value f.link f.outcome → is_stopped f.outcome ≡ false → is_lost f.outcome ≡ false → identity f.link ≡ identity c.given.value
      → PolledFrom g may_stand may_serve may_leave may_make listeners identity first b at
  polled_ended m b f live owed parcels notes queue strays stopped forced told ends back ended unlost is = record {
    sound = record {
      queue = rw (ends.parcels, ends.queue, parcels, queue) so_far.sound.queue;
      strays = rw (ends.parcels, ends.strays, parcels, strays) so_far.sound.strays;
      live = rw (ends.parcels, parcels, items) (all_removed (Lives g may_stand may_serve may_leave (received a.parcels)) a.live.items at c inside so_far.sound.live);
      owed = rw (ends.parcels, ends.owed, parcels, owed) (All-push (IsTold may_serve may_leave may_make listeners (received a.parcels)) a.owed.items (Back (entry_of d f)) so_far.sound.owed answer);
      stop = rw (ends.parcels, ends.stopped, parcels, stopped) so_far.sound.stop;
      force = rw (ends.parcels, ends.forced, parcels, forced) so_far.sound.force;
    };
    within = rw items (omega (arith, length_removed a.live.items at c inside));
    ended = so_far.ended ++ (card_of identity c, risen (wait_count c.future)) ∷ [];
    once = λ h. rw (items, removed_before a.live.items at c inside) (omega (arith, before h, sum_from_removed (as_it_is identity h) a.live.items at c inside, so_far.once h, sum_by_push (λ (e : Card × ℕ). h e.0 e.1) so_far.ended (card_of identity c, risen (wait_count c.future))));
    told = λ h. rw (ends.owed, owed) (
        let weight : of_note identity h (Back (entry_of d f)) ≡ h (card_of identity c) = rw (same.serial, same.token, same.place, is) in
        omega (arith, so_far.told h, sum_by_push (of_note identity h) a.owed.items (Back (entry_of d f)), weight, sum_by_push (λ (e : Card × ℕ). h e.0) so_far.ended (card_of identity c, risen (wait_count c.future))));
    signals = λ weigh nothing.
        let o = ap (λ q. sum_by weigh q.items) owed in
        omega (arith, ap (sum_by weigh) ends.owed, sum_by_push weigh m.owed.items (Back (entry_of d f)), nothing (entry_of d f) ended, o, so_far.signals weigh nothing);
    parcels = ends.parcels ∙ parcels ∙ so_far.parcels;
    notes = ends.notes ∙ notes ∙ so_far.notes;
    queue = ends.queue ∙ queue ∙ so_far.queue;
    strays = ends.strays ∙ strays ∙ so_far.strays;
    stopped = ends.stopped ∙ stopped ∙ so_far.stopped;
    forced = ends.forced ∙ forced ∙ so_far.forced;
    told_ready = ends.told_ready ∙ told ∙ so_far.told_ready;
  }
    where
      items : b.live.items ≡ swap_remove a.live.items at c
      items = ends.live ∙ ap (λ xs. swap_remove xs at d) live ∙ removed_set a.live.items at c d inside

      answer : Answers may_serve may_leave (received a.parcels) (entry_of d f)
      answer = record { link = d.given.value; came = came_same; comes_back = rw (same.token, same.given) back; unlost = unlost; stop = λ is. absurd (true≢false (sym is ∙ ended)); force = λ is. absurd (true≢false (sym (forced_stopped f.outcome is) ∙ ended)) }
