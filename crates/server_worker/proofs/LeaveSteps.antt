-- What a worker has goes together, and is handed over.
use Rattle.std.proofs.Common.{◌≡◌, ℕ, ◌+◌, List, [], ◌∷◌, ◌++◌, length, sum_by, All, Contains, Result, refl, sym, ◌∙◌, ap, arith, subst, inl, inr, append_assoc}
use Rattle.std.specs.Prelude.{◌||◌}
use Rattle.std.specs.List.{list_any}
use Rattle.std.proofs.lemmas.List.{append-nil}
use Rattle.std.proofs.lemmas.List.Folds.{list_any-append}
use Rattle.std.proofs.lemmas.List.Sums.{sum_by_push, sum_by-append}
use Rattle.std.proofs.lemmas.List.Elements.{All-append, All-head, All-push}
use Rattle.futures.specs.declared.future.Future.{Ghosts as FutureOf}
use Rattle.rtrb.specs.Ring.{received}
use Rattle.service_core.specs.Link.{Identity}
use Rattle.service_core.specs.declared.ended.Ended.{Ended}
use Rattle.server_jobs.specs.Cards.{Card, of_waiting}
use Rattle.server_jobs.specs.declared.handed.Handed.{Handed}
use Rattle.server_jobs.specs.declared.parcel.Parcel.{Parcel}
use Rattle.server_jobs.specs.declared.parcel.Parcel.TheVariants.{Conn}
use Rattle.server_jobs.specs.declared.waiting.Waiting.{Waiting}
use Rattle.server_worker.specs.Holding.{of_live}
use Rattle.server_worker.specs.Leaving.{Gathers, HasStayed, Leaves, Runs, Unqueues}
use Rattle.server_worker.specs.Sound.{IsTold, Lives, Waits}
use Rattle.server_jobs.specs.Parcels.{is_force, is_stop}
use Rattle.server_worker.specs.declared.connections.Connections.{Connections}
use Rattle.server_worker.specs.declared.live.Live.{Live}
use Rattle.server_worker.proofs.Accounting.{accounts_trans}
use Rattle.server_worker.proofs.ServeSteps.{all_left, all_right}
use Rattle.server_worker.proofs.TakeSteps.{or_none, or_twice, told_onward}

pub same_card : {L Fut : Type 0} (identity : L → Identity) (h : Card → ℕ) (w : Waiting L) (c : Live L Fut)
    → w.serial ≡ c.serial → w.token ≡ c.token → w.place ≡ c.place → identity w.link ≡ identity c.given.value → of_waiting identity h w ≡ of_live identity h c
same_card identity h w c serial token place same = rw (serial, token, place, same)

as_came : {L : Type 0} (identity : L → Identity) (may_leave : ℕ → L → L → Type 0) (parcels : List (Parcel L)) (ws : List (Waiting L)) → All (Waits parcels) ws → All (HasStayed identity may_leave parcels) ws
as_came identity may_leave parcels ws all = λ i d inside. record { link = _; came = all i d inside; same = refl; stands = inl refl }

module _ {L Fut : Type 0} (identity : L → Identity) (may_leave : ℕ → L → L → Type 0) where
  -- a live one went to the strays
  pub gathers_live : (first a b : Connections L Fut) → Gathers identity may_leave first a → b.parcels ≡ a.parcels → b.notes ≡ a.notes → b.owed ≡ a.owed → b.queue ≡ a.queue
      → (w : Waiting L) (c : Live L Fut) → b.strays.items ≡ a.strays.items ++ w ∷ [] → a.live.items ≡ b.live.items ++ c ∷ []
      → w.serial ≡ c.serial → w.token ≡ c.token → w.place ≡ c.place → identity w.link ≡ identity c.given.value → may_leave c.token c.given.value w.link
      → Contains (received a.parcels) (Conn c.serial c.token c.place c.given.value) → Gathers identity may_leave first b
  gathers_live first a b so_far parcels notes owed queue w c strays live serial token place same leaves came = record {
    parcels = parcels ∙ so_far.parcels;
    notes = notes ∙ so_far.notes;
    owed = owed ∙ so_far.owed;
    once = λ h.
        let q = ap (λ q. sum_by (of_waiting identity h) q.items) queue in
        let s = ap (sum_by (of_waiting identity h)) strays in
        let t = sum_by_push (of_waiting identity h) a.strays.items w in
        let l = ap (sum_by (of_live identity h)) live in
        let m = sum_by_push (of_live identity h) b.live.items c in
        omega (arith, so_far.once h, q, s, t, l, m, same_card identity h w c serial token place same);
    stayed = rw strays (All-push (HasStayed identity may_leave (received first.parcels)) a.strays.items w so_far.stayed here);
  }
    where
      here : HasStayed identity may_leave (received first.parcels) w
      here = record {
        link = c.given.value;
        came = rw (serial, token, place) (subst (λ p. Contains (received p) (Conn c.serial c.token c.place c.given.value)) so_far.parcels came);
        same = same;
        stands = inr (rw token leaves);
      }

  -- those that wait, the strays among them, are as they came
  pub gathers_unqueued : (a b : Connections L Fut) → Unqueues a b → All (Waits (received a.parcels)) a.strays.items → All (Waits (received a.parcels)) a.queue.items → Gathers identity may_leave a b
  gathers_unqueued a b u strays queue = record {
    parcels = u.parcels;
    notes = u.notes;
    owed = u.owed;
    once = λ h.
        let l = ap (λ l. sum_by (of_live identity h) l.items) u.live in
        let w = ap (sum_by (of_waiting identity h)) u.waiting in
        let s = sum_by-append (of_waiting identity h) b.strays.items b.queue.items in
        let t = sum_by-append (of_waiting identity h) a.strays.items a.queue.items in
        omega (arith, l, w, s, t);
    stayed = as_came identity may_leave (received a.parcels) b.strays.items
        (all_left (Waits (received a.parcels)) b.strays.items b.queue.items (rw u.waiting (All-append (Waits (received a.parcels)) a.strays.items a.queue.items strays queue)));
  }

-- none went
pub unqueues_none : {L Fut : Type 0} {a : Connections L Fut} → Unqueues a a
unqueues_none = record { waiting = refl; live = refl; parcels = refl; notes = refl; owed = refl }

pub unqueues_trans : {L Fut : Type 0} {a b c : Connections L Fut} → Unqueues a b → Unqueues b c → Unqueues a c
unqueues_trans p q = record {
  waiting = q.waiting ∙ p.waiting;
  live = q.live ∙ p.live;
  parcels = q.parcels ∙ p.parcels;
  notes = q.notes ∙ p.notes;
  owed = q.owed ∙ p.owed;
}

-- each counts for one
counted : {L : Type 0} (identity : L → Identity) (ws : List (Waiting L)) → sum_by (of_waiting identity (λ c. 1)) ws ≡ length ws
counted identity [] = refl
counted identity (w ∷ ws) = omega (arith, sum_by-append (of_waiting identity (λ c. 1)) (w ∷ []) ws, counted identity ws)

counted_live : {L Fut : Type 0} (identity : L → Identity) (cs : List (Live L Fut)) → sum_by (of_live identity (λ c. 1)) cs ≡ length cs
counted_live identity [] = refl
counted_live identity (c ∷ cs) = omega (arith, sum_by-append (of_live identity (λ k. 1)) (c ∷ []) cs, counted_live identity cs)

-- as many are handed over as were held
pub all_leave : {L Fut F D : Type 0} (identity : L → Identity) (may_leave : ℕ → L → L → Type 0) (a : Connections L Fut) (out : Handed L F D) → Leaves identity may_leave a out
    → length out.rest.items ≡ length a.live.items + (length a.queue.items + length a.strays.items)
all_leave identity may_leave a out leaves =
    omega (arith, leaves.once (λ c. 1), counted identity out.rest.items, counted identity a.queue.items, counted identity a.strays.items, counted_live identity a.live.items)

pub gathered : {L Fut F D : Type 0} (identity : L → Identity) (may_leave : ℕ → L → L → Type 0) (a b : Connections L Fut) (out : Handed L F D) → Gathers identity may_leave a b → b.queue.items ≡ [] → b.live.items ≡ []
    → out.parcels ≡ b.parcels → out.notes ≡ b.notes → out.owed ≡ b.owed → out.rest ≡ b.strays → Leaves identity may_leave a out
gathered identity may_leave a b out g queue live parcels notes owed rest = record {
  parcels = parcels ∙ g.parcels;
  notes = notes ∙ g.notes;
  owed = ap (λ o. o.items) (owed ∙ g.owed);
  once = λ h.
      let q = ap (sum_by (of_waiting identity h)) queue in
      let l = ap (sum_by (of_live identity h)) live in
      let r = ap (λ o. sum_by (of_waiting identity h) o.items) rest in
      omega (arith, g.once h, q, l, r);
  stayed = rw rest g.stayed;
}

module _ {L Fut : Type 0} (identity : L → Identity) (may_serve : ℕ → L → Ended L → Type 0) (may_leave : ℕ → L → L → Type 0) (may_make : ℕ → Type 0) (listeners : ℕ) where
  pub runs_none : (a : Connections L Fut) → Runs identity may_serve may_leave may_make listeners a a
  runs_none a = record {
    accounts = record { parcels = ((refl, refl, refl, refl), refl); notes = ((refl, refl, refl, refl), refl); spares = λ free. free; once = λ h. refl };
    receives = record { more = []; came = sym (append-nil _); stopped = or_none a.stopped; forced = or_none a.forced };
    tells = record { more = []; appended = sym (append-nil _); told = λ i d inside. absurd (omega arith) };
  }

  pub runs_trans : (a b c : Connections L Fut) → Runs identity may_serve may_leave may_make listeners a b → Runs identity may_serve may_leave may_make listeners b c → Runs identity may_serve may_leave may_make listeners a c
  runs_trans a b c p q = record {
    accounts = accounts_trans p.accounts q.accounts;
    receives = record {
      more = p.receives.more ++ q.receives.more;
      came = q.receives.came ∙ ap (λ xs. xs ++ q.receives.more) p.receives.came ∙ append_assoc _ p.receives.more q.receives.more;
      stopped = q.receives.stopped ∙ ap (λ s. s || list_any is_stop q.receives.more) p.receives.stopped ∙ or_twice a.stopped (list_any is_stop p.receives.more) (list_any is_stop q.receives.more)
          ∙ ap (λ s. a.stopped || s) (sym (list_any-append is_stop p.receives.more q.receives.more));
      forced = q.receives.forced ∙ ap (λ s. s || list_any is_force q.receives.more) p.receives.forced ∙ or_twice a.forced (list_any is_force p.receives.more) (list_any is_force q.receives.more)
          ∙ ap (λ s. a.forced || s) (sym (list_any-append is_force p.receives.more q.receives.more));
    };
    tells = record {
      more = p.tells.more ++ q.tells.more;
      appended = q.tells.appended ∙ ap (λ xs. xs ++ q.tells.more) p.tells.appended ∙ append_assoc _ p.tells.more q.tells.more;
      told = All-append (IsTold may_serve may_leave may_make listeners (received c.parcels)) p.tells.more q.tells.more
          (λ i d inside. told_onward (received b.parcels) q.receives.more (received c.parcels) q.receives.came may_serve may_leave may_make listeners _ (p.tells.told i d inside)) q.tells.told;
    };
  }

module _ {X : Type 0} (P : X → Type 0) (now rest : List X) (x : X) where
  pub last_of : now ≡ rest ++ x ∷ [] → All P now → P x
  last_of is all = All-head P x [] (all_right P rest (x ∷ []) (subst (All P) is all))

  pub rest_of : now ≡ rest ++ x ∷ [] → All P now → All P rest
  rest_of is all = all_left P rest (x ∷ []) (subst (All P) is all)

pub lives_still : {L E Fut : Type 0} (g : FutureOf Fut (Result (Ended L) E)) (may_stand : Fut → L → Type 0) (may_serve : ℕ → L → Ended L → Type 0) (may_leave : ℕ → L → L → Type 0)
    (a b : Connections L Fut) → b.parcels ≡ a.parcels → b.live ≡ a.live → All (Lives g may_stand may_serve may_leave (received a.parcels)) a.live.items → All (Lives g may_stand may_serve may_leave (received b.parcels)) b.live.items
lives_still g may_stand may_serve may_leave a b parcels live all = rw (parcels, live) all
