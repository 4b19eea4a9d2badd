-- At the start nothing is carried.
use Rattle.std.proofs.Common.{◌≡◌, ◌∷◌, [], zero, suc, ℕ, ◌+◌, Bool, List, length, drop, replicate, All, Option, Some, None, slice_get, slice_index, slice_index_or, sum_by, refl, sym, ◌∙◌, ap, arith, subst}
use Rattle.std.specs.Option.{option_map, option_map_or}
use Rattle.std.proofs.lemmas.Bool.Decides.{nat_tests}
use Rattle.std.proofs.lemmas.List.{get_or-replicate, length-replicate}
use Rattle.std.proofs.lemmas.List.Sums.{sum_by-cons}
use Rattle.std.proofs.lemmas.List.Elements.{All-head, All-nil, All-tail}
use Rattle.std.specs.declared.alloc.Global.{Global}
use Rattle.rtrb.specs.declared.AnyItems.{AnyItems}
use Rattle.rtrb.specs.declared.consumer.Consumer.{Consumer}
use Rattle.rtrb.specs.declared.producer.Producer.{Producer}
use Rattle.rtrb.specs.Ring.{received, sent}
use Rattle.service_core.specs.Link.{Identity}
use Rattle.server_run.specs.Delivery.{left_at, once_below, rise}
use Rattle.server_jobs.specs.Cards.{Card, of_note, of_parcel}
use Rattle.server_jobs.specs.declared.note.Note.{Note}
use Rattle.server_jobs.specs.declared.parcel.Parcel.{Parcel}
use Rattle.server_acceptor.specs.Beginning.{IsNew}
use Rattle.server_acceptor.specs.Carrying.{Carries, IsLetGo, ParcelIsInPlace, came_back, each, has_place, has_serial, in_waiting, let_gone, put}
use Rattle.server_acceptor.specs.declared.acceptor.Acceptor.{Acceptor}

once_below-zero : (k : ℕ) → once_below 0 k ≡ 0
once_below-zero k = grind (arith, nat_tests)

all_none : {X : Type 0} (f : X → ℕ) (xs : List X) → All (λ x. f x ≡ 0) xs → sum_by f xs ≡ 0
all_none f [] all = refl
all_none f (x ∷ xs) all = omega (arith, sum_by-cons f x xs, All-head (λ x. f x ≡ 0) x xs all, all_none f xs (All-tail (λ x. f x ≡ 0) x xs all))

at_none : {X : Type 0} (f : X → ℕ) (xs : List X) → All (λ x. f x ≡ 0) xs → (w : ℕ) → option_map_or f (slice_get xs w) 0 ≡ 0
at_none f [] all w = refl
at_none f (x ∷ xs) all zero = All-head (λ x. f x ≡ 0) x xs all
at_none f (x ∷ xs) all (suc w) = at_none f xs (All-tail (λ x. f x ≡ 0) x xs all) w

zero_at : (n w : ℕ) → slice_index (replicate n 0) w ≡ 0
zero_at zero w = refl
zero_at (suc n) zero = refl
zero_at (suc n) (suc w) = zero_at n w

pub no_drop : {X : Type 0} (o : Option (List X)) → o ≡ option_map (drop 0) o
no_drop None = refl
no_drop (Some xs) = refl

module _ {Li L : Type 0} (given : Li → ℕ) (left : Li → Option (List L)) (identity : L → Identity) (none_left : Bool) (ls : List Li) (a : Acceptor L)
    (ps : List (Producer (Parcel L) Global AnyItems)) (ns : List (Consumer (Note L) Global AnyItems)) (listeners limit retry_limit timeout : ℕ) (new : IsNew a ps ns listeners limit retry_limit timeout)
    (unsent : All (λ p. sent p ≡ []) ps) (unreceived : All (λ c. received c ≡ []) ns) where
  parcels_none : (h : Card → ℕ) → All (λ p. sum_by (of_parcel identity h) (sent p) ≡ 0) a.parcels.items
  parcels_none h = subst (All (λ p. sum_by (of_parcel identity h) (sent p) ≡ 0)) (sym new.producers) (λ i d inside. ap (sum_by (of_parcel identity h)) (unsent i d inside))

  notes_none : (h : Card → ℕ) → All (λ c. sum_by (of_note identity h) (received c) ≡ 0) a.notes.items
  notes_none h = subst (All (λ c. sum_by (of_note identity h) (received c) ≡ 0)) (sym new.consumers) (λ i d inside. ap (sum_by (of_note identity h)) (unreceived i d inside))

  put_none : (h : Card → ℕ) → (put identity h a.parcels.items + in_waiting identity h a.waiting) + let_gone identity h [] ≡ 0
  put_none h =
      let p : put identity h a.parcels.items ≡ 0 = all_none (λ p. sum_by (of_parcel identity h) (sent p)) a.parcels.items (parcels_none h) in
      let w = ap (λ o. in_waiting identity h o) new.waiting in
      omega (arith, p, w)

  no_rise : (t : ℕ) → rise given ls ls t ≡ 0
  no_rise t = omega arith

  pub carries_start : Carries given left identity none_left ls ls a []
  carries_start = record {
    gone = [];
    let_go = All-nil (IsLetGo left ls none_left);
    count = put_none (λ c. 1) ∙ sym new.serial;
    serials = λ k. put_none (each (has_serial k)) ∙ sym (ap (λ n. once_below n k) new.serial ∙ once_below-zero k);
    places = λ t k. put_none (each (has_place t k)) ∙ sym (ap (λ n. once_below n k) (no_rise t) ∙ once_below-zero k);
    on_rings = subst (All (λ p. All (ParcelIsInPlace left ls) (sent p))) (sym new.producers) (λ i d inside. subst (All (ParcelIsInPlace left ls)) (sym (unsent i d inside)) (All-nil (ParcelIsInPlace left ls)));
    waits = rw new.waiting tt;
    remains = λ t. subst (λ n. left_at left ls t ≡ option_map (drop n) (left_at left ls t)) (sym (no_rise t)) (no_drop (left_at left ls t));
    rises = λ t. omega arith;
    next_places = λ t inside.
        let m = ap length new.places in
        let l = length-replicate {A = ℕ} listeners 0 in
        let e : slice_index_or a.places.items t 0 ≡ 0 = ap (λ xs. slice_index_or xs t 0) new.places ∙ get_or-replicate {A = ℕ} listeners t 0 0 (omega (arith, m, l)) in
        e ∙ sym (no_rise t);
    back = λ h. let n : came_back identity h a.notes.items ≡ 0 = all_none (λ c. sum_by (of_note identity h) (received c)) a.notes.items (notes_none h) in omega (arith, n);
    noted = λ i d inside. absurd (omega arith);
    out = λ w.
        let p = at_none (λ p. sum_by (of_parcel identity (λ c. 1)) (sent p)) a.parcels.items (parcels_none (λ c. 1)) w in
        let n = at_none (λ c. sum_by (of_note identity (λ c. 1)) (received c)) a.notes.items (notes_none (λ c. 1)) w in
        let o = ap (λ s. slice_index s.out w) new.core ∙ zero_at (length ps) w in
        omega (arith, p, n, o);
  }
