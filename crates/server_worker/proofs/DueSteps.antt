-- Those live connections that are due were polled, and the others rested.
use Rattle.std.proofs.Common.{◌≡◌, ◌<◌, ℕ, ◌+◌, List, [], ◌∷◌, ◌++◌, true, Bool, length, map, take, drop, sum_by, All, Result, refl, sym, ◌∙◌, ap, arith, subst}
use Rattle.std.specs.List.{swap}
use Rattle.std.specs.List.Sorted.{IsPermutation}
use Rattle.std.proofs.lemmas.List.Sorted.{All-permutation, IsPermutation-refl, IsPermutation-swap, IsPermutation-trans, sum_by-IsPermutation}
use Rattle.std.proofs.lemmas.List.Sums.{sum_by-append, sum_by-cons, sum_by-take-drop}
use Rattle.std.proofs.lemmas.List.Elements.{All-nil}
use Rattle.futures.specs.declared.future.Future.{Ghosts as FutureOf}
use Rattle.rtrb.specs.Ring.{received}
use Rattle.service_core.specs.Counts.{risen}
use Rattle.service_core.specs.Link.{Identity}
use Rattle.service_core.specs.Shown.{wait_count}
use Rattle.service_core.specs.declared.ended.Ended.{Ended}
use Rattle.server_jobs.specs.Cards.{Card, of_note}
use Rattle.server_worker.specs.Due.{IsMoved, PolledDue, PollsDue}
use Rattle.server_worker.specs.Polled.{PolledFrom, PollsLive, as_it_is, card_of, once_polled}
use Rattle.server_worker.specs.Sound.{IsSound, Lives}
use Rattle.server_worker.specs.Waited.{HasWaited, IsUnheard, NoneWaitsForAny}
use Rattle.server_worker.proofs.BerthSteps.{all_at}
use Rattle.server_worker.specs.declared.connections.Connections.{Connections}
use Rattle.server_worker.specs.declared.live.Live.{Live}

sum_by_mapped : {X Y : Type 0} (f : Y → ℕ) (g : X → Y) (xs : List X) → sum_by f (map g xs) ≡ sum_by (λ x. f (g x)) xs
sum_by_mapped f g [] = refl
sum_by_mapped f g (x ∷ xs) = sum_by-cons f (g x) (map g xs) ∙ ap (λ n. f (g x) + n) (sum_by_mapped f g xs) ∙ sym (sum_by-cons (λ y. f (g y)) x xs)

-- ---- another order
module _ {L Fut : Type 0} where
  pub moved_none : (a : Connections L Fut) → IsMoved a a
  moved_none a = record { live = IsPermutation-refl a.live.items; parcels = refl; notes = refl; queue = refl; strays = refl; owed = refl; stopped = refl; forced = refl; told_ready = refl }

  -- two of them changed places
  pub moved_swapped : (a b : Connections L Fut) (i j : ℕ) → i < length a.live.items → j < length a.live.items → b.live.items ≡ swap a.live.items i j
      → b.parcels ≡ a.parcels → b.notes ≡ a.notes → b.queue ≡ a.queue → b.strays ≡ a.strays → b.owed ≡ a.owed → b.stopped ≡ a.stopped → b.forced ≡ a.forced → b.told ≡ a.told → IsMoved a b
  moved_swapped a b i j one other swapped parcels notes queue strays owed stopped forced told = record {
    live = IsPermutation-swap a.live.items b.live.items i j one other swapped;
    parcels = parcels;
    notes = notes;
    queue = queue;
    strays = strays;
    owed = owed;
    stopped = stopped;
    forced = forced;
    told_ready = told;
  }

  pub moved_trans : {a b c : Connections L Fut} → IsMoved a b → IsMoved b c → IsMoved a c
  moved_trans {a} {b} {c} m n = record {
    live = IsPermutation-trans a.live.items b.live.items c.live.items m.live n.live;
    parcels = n.parcels ∙ m.parcels;
    notes = n.notes ∙ m.notes;
    queue = n.queue ∙ m.queue;
    strays = n.strays ∙ m.strays;
    owed = n.owed ∙ m.owed;
    stopped = n.stopped ∙ m.stopped;
    forced = n.forced ∙ m.forced;
    told_ready = n.told_ready ∙ m.told_ready;
  }

  -- nothing of it changed that counts, after or before
  pub same_moved : (a b c : Connections L Fut) → IsMoved a b → c.live ≡ b.live → c.parcels ≡ b.parcels → c.notes ≡ b.notes → c.queue ≡ b.queue → c.strays ≡ b.strays → c.owed ≡ b.owed → c.stopped ≡ b.stopped → c.forced ≡ b.forced → c.told ≡ b.told → IsMoved a c
  same_moved a b c m live parcels notes queue strays owed stopped forced told = record {
    live = subst (λ l. IsPermutation a.live.items l.items) (sym live) m.live;
    parcels = parcels ∙ m.parcels;
    notes = notes ∙ m.notes;
    queue = queue ∙ m.queue;
    strays = strays ∙ m.strays;
    owed = owed ∙ m.owed;
    stopped = stopped ∙ m.stopped;
    forced = forced ∙ m.forced;
    told_ready = told ∙ m.told_ready;
  }

  pub same_moves : (a b c : Connections L Fut) → IsMoved b c → b.live ≡ a.live → b.parcels ≡ a.parcels → b.notes ≡ a.notes → b.queue ≡ a.queue → b.strays ≡ a.strays → b.owed ≡ a.owed → b.stopped ≡ a.stopped → b.forced ≡ a.forced → b.told ≡ a.told → IsMoved a c
  same_moves a b c m live parcels notes queue strays owed stopped forced told = record {
    live = subst (λ l. IsPermutation l.items c.live.items) live m.live;
    parcels = m.parcels ∙ parcels;
    notes = m.notes ∙ notes;
    queue = m.queue ∙ queue;
    strays = m.strays ∙ strays;
    owed = m.owed ∙ owed;
    stopped = m.stopped ∙ stopped;
    forced = m.forced ∙ forced;
    told_ready = m.told_ready ∙ told;
  }

  pub moved_sound : {E : Type 0} (g : FutureOf Fut (Result (Ended L) E)) (may_stand : Fut → L → Type 0) (may_serve : ℕ → L → Ended L → Type 0) (may_leave : ℕ → L → L → Type 0)
      (may_make : ℕ → Type 0) (listeners : ℕ) (a b : Connections L Fut) → IsMoved a b → IsSound g may_stand may_serve may_leave may_make listeners a → IsSound g may_stand may_serve may_leave may_make listeners b
  moved_sound g may_stand may_serve may_leave may_make listeners a b m sound = record {
    queue = rw (m.parcels, m.queue) sound.queue;
    strays = rw (m.parcels, m.strays) sound.strays;
    live = rw m.parcels (All-permutation (Lives g may_stand may_serve may_leave (received a.parcels)) a.live.items b.live.items m.live sound.live);
    owed = rw (m.parcels, m.owed) sound.owed;
    stop = rw (m.parcels, m.stopped) sound.stop;
    force = rw (m.parcels, m.forced) sound.force;
  }

-- ---- what was polled and what rested
module _ {L E Fut : Type 0} (g : FutureOf Fut (Result (Ended L) E)) (may_stand : Fut → L → Type 0) (may_serve : ℕ → L → Ended L → Type 0) (may_leave : ℕ → L → L → Type 0)
    (may_make : ℕ → Type 0) (listeners : ℕ) (identity : L → Identity) where
  abbrev entry : Live L Fut → Card × ℕ
  entry c = (card_of identity c, wait_count c.future)

  pub polled_due : (a m n b : Connections L Fut) (from : ℕ) (every : Bool) (news : List ℕ) → IsMoved a m → (every ≡ true → from ≡ 0) → All HasWaited (take from m.live.items) → NoneWaitsForAny news (take from m.live.items)
      → (p : PolledFrom g may_stand may_serve may_leave may_make listeners identity m n from) → take from n.live.items ≡ take from m.live.items → IsMoved n b
      → PolledDue g may_stand may_serve may_leave may_make listeners identity every news a b
  polled_due a m n b from every news before all waited unheard p front after = record {
    sound = moved_sound g may_stand may_serve may_leave may_make listeners n b after p.sound;
    polled = map entry (drop from m.live.items);
    rested = take from m.live.items;
    ended = p.ended;
    split = λ h. omega (
      arith,
      sum_by_mapped (λ (e : Card × ℕ). h e.0 e.1) entry (drop from m.live.items),
      sum_by-take-drop (as_it_is identity h) m.live.items from,
      sum_by-IsPermutation (as_it_is identity h) a.live.items m.live.items before.live,
    );
    once = λ h. omega (
      arith,
      sum_by_mapped (λ (e : Card × ℕ). h e.0 (risen e.1)) entry (drop from m.live.items),
      sum_by-take-drop (once_polled identity h) m.live.items from,
      p.once h,
      ap (sum_by (once_polled identity h)) front,
      ap (sum_by (as_it_is identity h)) front,
      sum_by-take-drop (as_it_is identity h) n.live.items from,
      sum_by-IsPermutation (as_it_is identity h) n.live.items b.live.items after.live,
    );
    waited = waited;
    unheard = all_at (IsUnheard news) (take from m.live.items) unheard;
    stayed = λ f. omega (arith, ap (sum_by f) front, sum_by-take-drop f n.live.items from, sum_by-IsPermutation f n.live.items b.live.items after.live);
    all = λ none. ap (λ k. take k m.live.items) (all none);
    told = λ h. let o = ap (λ q. sum_by (of_note identity h) q.items) after.owed in let q = ap (λ q. sum_by (of_note identity h) q.items) before.owed in omega (arith, p.told h, o, q);
    signals = λ f nothing. let o = ap (λ q. sum_by f q.items) after.owed in let q = ap (λ q. sum_by f q.items) before.owed in omega (arith, p.signals f nothing, o, q);
    parcels = after.parcels ∙ p.parcels ∙ before.parcels;
    notes = after.notes ∙ p.notes ∙ before.notes;
    queue = after.queue ∙ p.queue ∙ before.queue;
    strays = after.strays ∙ p.strays ∙ before.strays;
    stopped = after.stopped ∙ p.stopped ∙ before.stopped;
    forced = after.forced ∙ p.forced ∙ before.forced;
    told_ready = after.told_ready ∙ p.told_ready ∙ before.told_ready;
  }

abbrev whole_entry : {L Fut : Type 0} → (L → Identity) → Live L Fut → Card × ℕ
whole_entry identity c = (card_of identity c, wait_count c.future)

abbrev fresh_entry : Card → Card × ℕ
fresh_entry c = (c, 0)

-- where each was polled, none rested
pub due_of_all : {L Fut : Type 0} (identity : L → Identity) (news : List ℕ) (a b : Connections L Fut) → PollsLive identity a b → PollsDue identity news a b
due_of_all {L} {Fut} identity news a b polls = record {
  admitted = polls.admitted;
  polled = map (whole_entry identity) a.live.items ++ map fresh_entry polls.admitted;
  rested = [];
  ended = polls.ended;
  split = λ h. omega (arith, sum_by-append (λ (e : Card × ℕ). h e.0 e.1) (map (whole_entry identity) a.live.items) (map fresh_entry polls.admitted), sum_by_mapped (λ (e : Card × ℕ). h e.0 e.1) (whole_entry identity) a.live.items, sum_by_mapped (λ (e : Card × ℕ). h e.0 e.1) fresh_entry polls.admitted);
  once = λ h. omega (arith, polls.once h, sum_by-append (λ (e : Card × ℕ). h e.0 (risen e.1)) (map (whole_entry identity) a.live.items) (map fresh_entry polls.admitted), sum_by_mapped (λ (e : Card × ℕ). h e.0 (risen e.1)) (whole_entry identity) a.live.items, sum_by_mapped (λ (e : Card × ℕ). h e.0 (risen e.1)) fresh_entry polls.admitted);
  waited = All-nil HasWaited;
  unheard = All-nil (IsUnheard news);
  stayed = λ f. omega arith;
  came = polls.came;
  told = polls.told;
}
