-- That what came from the listeners is carried on, step by step.
use Rattle.std.proofs.Common.{◌≡◌, ◌≢◌, ◌⊎◌, ℕ, zero, suc, ◌+◌, ◌-◌, ◌==◌, ◌&&◌, ◌<◌, Bool, true, false, cond, List, [], ◌∷◌, ◌++◌, length, map, drop, sum_by, All, Any, Contains, Option, IfSome, refl, sym, ap, ap₂, subst, ◌∙◌, arith, inl, inr, get_or-set_same, get_or-set_other}
use Rattle.std.specs.Prelude.{slice_set, slice_index, slice_index_or}
use Rattle.std.specs.Option.{option_map, option_map_or}
use Rattle.std.proofs.lemmas.Bool.{cases_eq}
use Rattle.std.proofs.lemmas.Bool.Decides.{nat_tests}
use Rattle.std.proofs.Math.ListN.{length-set}
use Rattle.std.proofs.lemmas.List.Sums.{sum_by-set, sum_by_push, sum_by-append}
use Rattle.std.proofs.lemmas.List.Elements.{All-nil, All-cons, All-head, All-tail, All-push, All-append, All-set}
use Rattle.rtrb.specs.Ring.{received, sent}
use Rattle.rtrb.specs.declared.producer.Producer.{Producer}
use Rattle.service_core.specs.Link.{Identity}
use Rattle.server_core.specs.declared.event.Event.{Event}
use Rattle.server_run.specs.Delivery.{given_at, left_at, once_below, rise}
use Rattle.server_run.specs.declared.entry.Entry.{Entry}
use Rattle.server_jobs.specs.Cards.{Card, of_entry, of_parcel}
use Rattle.server_acceptor.specs.Carrying.{Carries, IsInPlace, ParcelIsInPlace, came_back, each, has_place, has_serial, in_waiting, let_gone, put}
use Rattle.server_acceptor.proofs.Giving.{first_left, once_below-more}
use Rattle.server_acceptor.specs.AskingListeners.{AsksOnly, TakesUp}
use Rattle.server_acceptor.specs.Listening.{AsksAt, Gives, GivesNone}
use Rattle.server_acceptor.specs.Handing.{HandsBy}
use Rattle.server_acceptor.specs.Notes.{count_back}
use Rattle.server_acceptor.specs.Placing.{parcel_of, IsPlaced, KeepsSent, PutsAt, Stays, WasSent}
use Rattle.server_acceptor.specs.Rings.{count_put, ring_in}
use Rattle.server_acceptor.specs.declared.placed.Placed.{Placed}
use Rattle.server_acceptor.specs.declared.placed.Placed.TheVariants.{Sent, Waiting, Nothing}
use Rattle.server_acceptor.specs.declared.acceptor.Acceptor.{Acceptor}
use Rattle.server_jobs.specs.declared.note.Note.TheVariants.{Back}
use Rattle.server_jobs.specs.declared.parcel.Parcel.{Parcel}

-- ---- what was sent on the rings, seen as lists
sum_map : {X Y : Type 0} (f : Y → ℕ) (h : X → Y) (xs : List X) → sum_by (λ x. f (h x)) xs ≡ sum_by f (map h xs)
sum_map f h [] = refl
sum_map f h (x ∷ xs) = omega (arith, sum_by-append (λ y. f (h y)) (x ∷ []) xs, sum_by-append f (h x ∷ []) (map h xs), sum_map f h xs)

all_of_map : {X Y : Type 0} (P : Y → Type 0) (h : X → Y) (xs : List X) → All P (map h xs) → All (λ x. P (h x)) xs
all_of_map P h [] all = All-nil _
all_of_map P h (x ∷ xs) all = All-cons (λ y. P (h y)) x xs (All-head P (h x) (map h xs) all) (all_of_map P h xs (All-tail P (h x) (map h xs) all))

all_to_map : {X Y : Type 0} (P : Y → Type 0) (h : X → Y) (xs : List X) → All (λ x. P (h x)) xs → All P (map h xs)
all_to_map P h [] all = All-nil _
all_to_map P h (x ∷ xs) all = All-cons P (h x) (map h xs) (All-head (λ y. P (h y)) x xs all) (all_to_map P h xs (All-tail (λ y. P (h y)) x xs all))

length_mapped : {X Y : Type 0} (h : X → Y) (xs : List X) → length (map h xs) ≡ length xs
length_mapped h [] = refl
length_mapped h (x ∷ xs) = ap suc (length_mapped h xs)

module _ {L A P : Type 0} (identity : L → Identity) where
  put_as : (h : Card → ℕ) (ps : List (Producer (Parcel L) A P)) → put identity h ps ≡ sum_by (λ xs. sum_by (of_parcel identity h) xs) (map (λ p. sent p) ps)
  put_as h ps = sum_map (λ xs. sum_by (of_parcel identity h) xs) (λ p. sent p) ps

  pub put_kept : (h : Card → ℕ) (ps qs : List (Producer (Parcel L) A P)) → KeepsSent ps qs → put identity h qs ≡ put identity h ps
  put_kept h ps qs k = put_as h qs ∙ ap (sum_by (λ xs. sum_by (of_parcel identity h) xs)) k.sent_on ∙ sym (put_as h ps)

  pub put_more : (h : Card → ℕ) (ps qs : List (Producer (Parcel L) A P)) (w : ℕ) (item : Parcel L) → PutsAt ps qs w item → put identity h qs ≡ put identity h ps + of_parcel identity h item
  put_more h ps qs w item p = omega (
    arith,
    put_as h qs,
    put_as h ps,
    ap (sum_by (λ xs. sum_by (of_parcel identity h) xs)) p.sent_on,
    sum_by-set (λ xs. sum_by (of_parcel identity h) xs) (map (λ p. sent p) ps) w (slice_index_or (map (λ p. sent p) ps) w [] ++ item ∷ []) [] (omega (arith, p.inside, length_mapped (λ p. sent p) ps)),
    sum_by_push (of_parcel identity h) (slice_index_or (map (λ p. sent p) ps) w []) item,
  )

  count_as : (ps : List (Producer (Parcel L) A P)) (w : ℕ) → count_put identity ps w ≡ sum_by (of_parcel identity (λ c. 1)) (slice_index_or (map (λ p. sent p) ps) w [])
  count_as [] w = refl
  count_as (p ∷ ps) zero = refl
  count_as (p ∷ ps) (suc w) = count_as ps w

  pub count_kept : (ps qs : List (Producer (Parcel L) A P)) (w : ℕ) → KeepsSent ps qs → count_put identity qs w ≡ count_put identity ps w
  count_kept ps qs w k = count_as qs w ∙ ap (λ xs. sum_by (of_parcel identity (λ c. 1)) (slice_index_or xs w [])) k.sent_on ∙ sym (count_as ps w)

  pub count_sent : (ps qs : List (Producer (Parcel L) A P)) (w v : ℕ) (item : Parcel L) (before after : List ℕ) → PutsAt ps qs w item → of_parcel identity (λ c. 1) item ≡ 1 → w < length before
      → after ≡ slice_set before w (slice_index before w + 1) → count_put identity qs v + slice_index before v ≡ count_put identity ps v + slice_index after v
  count_sent ps qs w v item before after p one within is =
      let now = ap (λ xs. sum_by (of_parcel identity (λ c. 1)) (slice_index_or xs v [])) p.sent_on in
      elim (cases_eq v w) [
        | inl same ↦ rw same (omega (
          arith,
          count_as qs w,
          count_as ps w,
          one,
          ap (λ xs. sum_by (of_parcel identity (λ c. 1)) (slice_index_or xs w [])) p.sent_on,
          ap (sum_by (of_parcel identity (λ c. 1))) (get_or-set_same (map (λ p. sent p) ps) w (slice_index_or (map (λ p. sent p) ps) w [] ++ item ∷ []) [] (omega (arith, p.inside, length_mapped (λ p. sent p) ps))),
          sum_by_push (of_parcel identity (λ c. 1)) (slice_index_or (map (λ p. sent p) ps) w []) item,
          ap (λ xs. slice_index xs w) is,
          get_or-set_same before w (slice_index before w + 1) 0 within,
        ))
        | inr other ↦ omega (
          arith,
          count_as qs v,
          count_as ps v,
          now,
          ap (sum_by (of_parcel identity (λ c. 1))) (get_or-set_other (map (λ p. sent p) ps) w v (slice_index_or (map (λ p. sent p) ps) w [] ++ item ∷ []) [] other),
          ap (λ xs. slice_index xs v) is,
          get_or-set_other before w v (slice_index before w + 1) 0 other,
        )
      ]

  -- what weighs nothing does not count
  pub count_nothing : (ps qs : List (Producer (Parcel L) A P)) (w v : ℕ) (item : Parcel L) → PutsAt ps qs w item → of_parcel identity (λ c. 1) item ≡ 0 → count_put identity qs v ≡ count_put identity ps v
  count_nothing ps qs w v item p none =
      let now = ap (λ xs. sum_by (of_parcel identity (λ c. 1)) (slice_index_or xs v [])) p.sent_on in
      elim (cases_eq v w) [
        | inl same ↦ rw same (omega (
          arith,
          count_as qs w,
          count_as ps w,
          none,
          ap (λ xs. sum_by (of_parcel identity (λ c. 1)) (slice_index_or xs w [])) p.sent_on,
          ap (sum_by (of_parcel identity (λ c. 1))) (get_or-set_same (map (λ p. sent p) ps) w (slice_index_or (map (λ p. sent p) ps) w [] ++ item ∷ []) [] (omega (arith, p.inside, length_mapped (λ p. sent p) ps))),
          sum_by_push (of_parcel identity (λ c. 1)) (slice_index_or (map (λ p. sent p) ps) w []) item,
        ))
        | inr other ↦ omega (
          arith,
          count_as qs v,
          count_as ps v,
          now,
          ap (sum_by (of_parcel identity (λ c. 1))) (get_or-set_other (map (λ p. sent p) ps) w v (slice_index_or (map (λ p. sent p) ps) w [] ++ item ∷ []) [] other),
        )
      ]

module _ {L : Type 0} (Q : Parcel L → Type 0) where
  all_index : (xss : List (List (Parcel L))) (w : ℕ) → All (All Q) xss → All Q (slice_index_or xss w [])
  all_index [] w all = All-nil _
  all_index (xs ∷ xss) zero all = All-head (All Q) xs xss all
  all_index (xs ∷ xss) (suc w) all = all_index xss w (All-tail (All Q) xs xss all)

module _ {L A P : Type 0} (Q : Parcel L → Type 0) where
  pub all_kept : (ps qs : List (Producer (Parcel L) A P)) → KeepsSent ps qs → All (λ p. All Q (sent p)) ps → All (λ p. All Q (sent p)) qs
  all_kept ps qs k all = all_of_map (All Q) (λ p. sent p) qs (subst (All (All Q)) (sym k.sent_on) (all_to_map (All Q) (λ p. sent p) ps all))

  pub all_sent_on : (ps qs : List (Producer (Parcel L) A P)) (w : ℕ) (item : Parcel L) → PutsAt ps qs w item → Q item → All (λ p. All Q (sent p)) ps → All (λ p. All Q (sent p)) qs
  all_sent_on ps qs w item p q all =
      let before = all_to_map (All Q) (λ p. sent p) ps all in
      all_of_map (All Q) (λ p. sent p) qs (subst (All (All Q)) (sym p.sent_on)
      (All-set (All Q) (map (λ p. sent p) ps) w (slice_index_or (map (λ p. sent p) ps) w [] ++ item ∷ [])
      (All-push Q (slice_index_or (map (λ p. sent p) ps) w []) item (all_index Q (map (λ p. sent p) ps) w before) q) before))

module _ {Li L : Type 0} (given : Li → ℕ) (left : Li → Option (List L)) (identity : L → Identity) (none_left : Bool) (first now : List Li) where
  -- a connection went from where it waits to a worker
  sent_on : (a b : Acceptor L) (entries : List (Entry L)) (w : ℕ) → w < length a.core.out → Stays a b → WasSent a b w → Carries given left identity none_left first now a entries → Carries given left identity none_left first now b entries
  sent_on a b entries w within s p c =
      let weigh : (h : Card → ℕ) → (put identity h b.parcels.items + in_waiting identity h b.waiting) + let_gone identity h c.gone ≡ (put identity h a.parcels.items + in_waiting identity h a.waiting) + let_gone identity h c.gone =
      λ h. omega (arith, put_more identity h a.parcels.items b.parcels.items w (parcel_of p.placed) p.rings, ap (in_waiting identity h) p.was, ap (in_waiting identity h) p.waiting) in
      record {
        gone = c.gone;
        let_go = c.let_go;
        count = weigh (λ c. 1) ∙ c.count ∙ sym s.serial;
        serials = λ k. weigh (each (has_serial k)) ∙ c.serials k ∙ ap (λ n. once_below n k) (sym s.serial);
        places = λ t k. weigh (each (has_place t k)) ∙ c.places t k;
        on_rings = all_sent_on (ParcelIsInPlace left first) a.parcels.items b.parcels.items w (parcel_of p.placed) p.rings (rw p.was at c.waits) c.on_rings;
        waits = rw p.waiting tt;
        remains = c.remains;
        rises = c.rises;
        next_places = λ t below. ap (λ v. slice_index_or v.items t 0) s.places ∙ c.next_places t (subst (λ v. t < length v.items) s.places below);
        back = λ h. ap (λ v. came_back identity h v.items + let_gone identity h c.gone) s.notes ∙ c.back h;
        noted = subst (λ v. All (λ e. Any (λ r. Contains (received r) (Back e)) v.items ⊎ Contains c.gone e) entries) (sym s.notes) c.noted;
        out = λ v. omega (
          arith,
          c.out v,
          count_sent identity a.parcels.items b.parcels.items w v (parcel_of p.placed) a.core.out b.core.out p.rings refl within p.out,
          ap (λ n. count_back identity n.items v) s.notes,
        );
      }

  -- nothing moved
  kept_on : (a b : Acceptor L) (entries : List (Entry L)) → Stays a b → KeepsSent a.parcels.items b.parcels.items → b.waiting ≡ a.waiting → b.core.out ≡ a.core.out
      → Carries given left identity none_left first now a entries → Carries given left identity none_left first now b entries
  kept_on a b entries s k waiting out c =
      let weigh : (h : Card → ℕ) → (put identity h b.parcels.items + in_waiting identity h b.waiting) + let_gone identity h c.gone ≡ (put identity h a.parcels.items + in_waiting identity h a.waiting) + let_gone identity h c.gone =
      λ h. omega (arith, put_kept identity h a.parcels.items b.parcels.items k, ap (in_waiting identity h) waiting) in
      record {
        gone = c.gone;
        let_go = c.let_go;
        count = weigh (λ c. 1) ∙ c.count ∙ sym s.serial;
        serials = λ k. weigh (each (has_serial k)) ∙ c.serials k ∙ ap (λ n. once_below n k) (sym s.serial);
        places = λ t k. weigh (each (has_place t k)) ∙ c.places t k;
        on_rings = all_kept (ParcelIsInPlace left first) a.parcels.items b.parcels.items k c.on_rings;
        waits = subst (λ o. IfSome o (λ w. IsInPlace left first w.token w.place w.link)) (sym waiting) c.waits;
        remains = c.remains;
        rises = c.rises;
        next_places = λ t below. ap (λ v. slice_index_or v.items t 0) s.places ∙ c.next_places t (subst (λ v. t < length v.items) s.places below);
        back = λ h. ap (λ v. came_back identity h v.items + let_gone identity h c.gone) s.notes ∙ c.back h;
        noted = subst (λ v. All (λ e. Any (λ r. Contains (received r) (Back e)) v.items ⊎ Contains c.gone e) entries) (sym s.notes) c.noted;
        out = λ v. count_kept identity a.parcels.items b.parcels.items v k ∙ c.out v ∙ sym (ap₂ (λ n o. count_back identity n.items v + slice_index o v) s.notes out);
      }

  pub carries_placed : (a b : Acceptor L) (entries : List (Entry L)) (placed : Placed) → Stays a b → IsPlaced a b placed → Carries given left identity none_left first now a entries → Carries given left identity none_left first now b entries
  carries_placed a b entries (Sent w) s p c = sent_on a b entries w (omega (arith, p.rings.inside, a.workers.0)) s p c
  carries_placed a b entries Waiting s p c = kept_on a b entries s p.rings p.waiting p.out c
  carries_placed a b entries Nothing s p c = kept_on a b entries s (record { rings = ap (λ v. map ring_in v.items) p.parcels; sent_on = ap (λ v. map (λ q. sent q) v.items) p.parcels }) p.waiting (ap (λ u. u.out) p.core) c

  -- connections came back
  pub carries_handed : {D : Type 0} (taken : D → Option (List (Entry L))) (count served : D → ℕ) (a b : Acceptor L) (old new : D) {xs ys : List Event} (entries : List (Entry L))
      → (hands : HandsBy identity taken count served a b old new xs ys) → Carries given left identity none_left first now a entries → Carries given left identity none_left first now b (entries ++ hands.entries)
  carries_handed taken count served a b old new entries k c =
      let weigh : (h : Card → ℕ) → (put identity h b.parcels.items + in_waiting identity h b.waiting) + let_gone identity h c.gone ≡ (put identity h a.parcels.items + in_waiting identity h a.waiting) + let_gone identity h c.gone =
      λ h. ap₂ (λ v o. (put identity h v.items + in_waiting identity h o) + let_gone identity h c.gone) k.parcels k.waiting in
      record {
        gone = c.gone;
        let_go = c.let_go;
        count = weigh (λ c. 1) ∙ c.count ∙ sym k.serial;
        serials = λ i. weigh (each (has_serial i)) ∙ c.serials i ∙ ap (λ n. once_below n i) (sym k.serial);
        places = λ t i. weigh (each (has_place t i)) ∙ c.places t i;
        on_rings = subst (λ v. All (λ p. All (ParcelIsInPlace left first) (sent p)) v.items) (sym k.parcels) c.on_rings;
        waits = subst (λ o. IfSome o (λ w. IsInPlace left first w.token w.place w.link)) (sym k.waiting) c.waits;
        remains = c.remains;
        rises = c.rises;
        next_places = λ t below. ap (λ v. slice_index_or v.items t 0) k.places ∙ c.next_places t (subst (λ v. t < length v.items) k.places below);
        back = λ h. omega (arith, k.back h, c.back h, sum_by-append (of_entry identity h) entries k.entries);
        noted = All-append (λ e. Any (λ r. Contains (received r) (Back e)) b.notes.items ⊎ Contains c.gone e) entries k.entries (λ i d inside. still _ (c.noted i d inside)) (λ i d inside. inl (k.noted i d inside));
        out = λ v. ap (λ x. count_put identity x.items v) k.parcels ∙ c.out v ∙ sym (k.balance v);
      }
    where
      still : (e : Entry L) → Any (λ r. Contains (received r) (Back e)) a.notes.items ⊎ Contains c.gone e → Any (λ r. Contains (received r) (Back e)) b.notes.items ⊎ Contains c.gone e
      still e (inl any) = inl (k.kept e any)
      still e (inr gone) = inr gone

-- ---- asking a listener
same_rise : {Li : Type 0} (given : Li → ℕ) (first now then : List Li) (t : ℕ) → AsksAt now then t → given_at given then t ≡ given_at given now t → (v : ℕ) → given_at given then v ≡ given_at given now v
same_rise given first now then t a e v = elim (cases_eq v t) [
  | inl same ↦ rw same e
  | inr other ↦ ap (λ o. option_map_or given o 0) (a.others v other)
]

module _ {Li L : Type 0} (given : Li → ℕ) (left : Li → Option (List L)) (identity : L → Identity) (none_left : Bool) (first now then : List Li) (t : ℕ) where
  same_left : GivesNone given left now then t → (v : ℕ) → left_at left then v ≡ left_at left now v
  same_left n v = elim (cases_eq v t) [
    | inl same ↦ rw same n.left_same
    | inr other ↦ rw (n.asks.others v other) refl
  ]

  -- it gave none
  pub carries_none_given : (a b : Acceptor L) (entries : List (Entry L)) → GivesNone given left now then t → AsksOnly a b → b.waiting ≡ a.waiting → b.serial ≡ a.serial → b.places ≡ a.places
      → Carries given left identity none_left first now a entries → Carries given left identity none_left first then b entries
  carries_none_given a b entries n s waiting serial places c =
      let weigh : (h : Card → ℕ) → (put identity h b.parcels.items + in_waiting identity h b.waiting) + let_gone identity h c.gone ≡ (put identity h a.parcels.items + in_waiting identity h a.waiting) + let_gone identity h c.gone =
      λ h. ap₂ (λ v o. (put identity h v.items + in_waiting identity h o) + let_gone identity h c.gone) s.parcels waiting in
      let same : (v : ℕ) → given_at given then v ≡ given_at given now v = same_rise given first now then t n.asks n.given_same in
      let rises_same : (v : ℕ) → rise given first then v ≡ rise given first now v = λ v. ap (λ m. m - given_at given first v) (same v) in
      record {
        gone = c.gone;
        let_go = c.let_go;
        count = weigh (λ c. 1) ∙ c.count ∙ sym serial;
        serials = λ k. weigh (each (has_serial k)) ∙ c.serials k ∙ ap (λ m. once_below m k) (sym serial);
        places = λ v k. weigh (each (has_place v k)) ∙ c.places v k ∙ ap (λ m. once_below m k) (sym (rises_same v));
        on_rings = subst (λ v. All (λ p. All (ParcelIsInPlace left first) (sent p)) v.items) (sym s.parcels) c.on_rings;
        waits = subst (λ o. IfSome o (λ w. IsInPlace left first w.token w.place w.link)) (sym waiting) c.waits;
        remains = λ v. same_left n v ∙ c.remains v ∙ ap (λ m. option_map (drop m) (left_at left first v)) (sym (rises_same v));
        rises = λ v. omega (arith, same v, c.rises v);
        next_places = λ v below. ap (λ x. slice_index_or x.items v 0) places ∙ c.next_places v (subst (λ x. v < length x.items) places below) ∙ sym (rises_same v);
        back = λ h. ap (λ v. came_back identity h v.items + let_gone identity h c.gone) s.notes ∙ c.back h;
        noted = subst (λ v. All (λ e. Any (λ r. Contains (received r) (Back e)) v.items ⊎ Contains c.gone e) entries) (sym s.notes) c.noted;
        out = λ v. ap (λ x. count_put identity x.items v) s.parcels ∙ c.out v ∙ sym (ap₂ (λ n o. count_back identity n.items v + slice_index o v) s.notes s.out);
      }

  -- it gave a link, which waits
  pub carries_got : (a b : Acceptor L) (entries : List (Entry L)) (link : L) → Gives given left now then t link → AsksOnly a b → TakesUp a b t link
      → Carries given left identity none_left first now a entries → Carries given left identity none_left first then b entries
  carries_got a b entries link n s u c =
      let weigh : (h : Card → ℕ) → (put identity h b.parcels.items + in_waiting identity h b.waiting) + let_gone identity h c.gone ≡ ((put identity h a.parcels.items + in_waiting identity h a.waiting) + let_gone identity h c.gone) + h (record { serial = a.serial; token = t; place = slice_index_or a.places.items t 0; identity = identity link }) =
      λ h. omega (arith, ap (λ v. put identity h v.items) s.parcels, ap (in_waiting identity h) u.waiting, ap (in_waiting identity h) u.none) in
      let more : rise given first then t ≡ rise given first now t + 1 = omega (arith, n.given_more, c.rises t) in
      let place_is : slice_index_or a.places.items t 0 ≡ rise given first now t = c.next_places t u.inside in
      let other_rise : (v : ℕ) → v ≢ t → rise given first then v ≡ rise given first now v = λ v other. ap (λ o. option_map_or given o 0 - given_at given first v) (n.asks.others v other) in
      let found = first_left (left_at left first t) (left_at left then t) (left_at left now t) (rise given first now t) link (c.remains t) n.taken in
      record {
        gone = c.gone;
        let_go = c.let_go;
        count = omega (arith, weigh (λ c. 1), c.count, u.serial);
        serials = λ k. weigh (each (has_serial k)) ∙ ap (λ m. m + cond (a.serial == k) 1 0) (c.serials k) ∙ sym (once_below-more a.serial k) ∙ ap (λ m. once_below m k) (sym u.serial);
        places = λ v k. elim (cases_eq v t) [
          | inl same ↦ rw same (weigh (each (has_place t k)) ∙ ap₂ (λ m p. m + cond ((t == t) && (p == k)) 1 0) (c.places t k) place_is ∙ itself (rise given first now t) k ∙ ap (λ m. once_below m k) (sym more))
          | inr other ↦ weigh (each (has_place v k)) ∙ unlike ((put identity (each (has_place v k)) a.parcels.items + in_waiting identity (each (has_place v k)) a.waiting) + let_gone identity (each (has_place v k)) c.gone) v k (slice_index_or a.places.items t 0) other ∙ c.places v k ∙ ap (λ m. once_below m k) (sym (other_rise v other))
        ];
        on_rings = subst (λ v. All (λ p. All (ParcelIsInPlace left first) (sent p)) v.items) (sym s.parcels) c.on_rings;
        waits = subst (λ o. IfSome o (λ w. IsInPlace left first w.token w.place w.link)) (sym u.waiting) (subst (λ p. IsInPlace left first t p link) (sym place_is) found.0);
        remains = λ v. elim (cases_eq v t) [
          | inl same ↦ rw same (found.1 ∙ ap (λ m. option_map (drop m) (left_at left first t)) (sym more))
          | inr other ↦ rw (n.asks.others v other) (c.remains v)
        ];
        rises = λ v. elim (cases_eq v t) [
          | inl same ↦ rw same (omega (arith, c.rises t, n.given_more))
          | inr other ↦ omega (arith, c.rises v, ap (λ o. option_map_or given o 0) (n.asks.others v other))
        ];
        next_places = λ v below. elim (cases_eq v t) [
          | inl same ↦ rw same (ap (λ xs. slice_index_or xs t 0) u.places ∙ get_or-set_same a.places.items t (slice_index_or a.places.items t 0 + 1) 0 u.inside ∙ ap (λ m. m + 1) place_is ∙ sym more)
          | inr other ↦ ap (λ xs. slice_index_or xs v 0) u.places ∙ get_or-set_other a.places.items t v (slice_index_or a.places.items t 0 + 1) 0 other
              ∙ c.next_places v (omega (arith, below, ap (λ xs. length xs) u.places, length-set a.places.items t (slice_index_or a.places.items t 0 + 1))) ∙ sym (other_rise v other)
        ];
        back = λ h. ap (λ v. came_back identity h v.items + let_gone identity h c.gone) s.notes ∙ c.back h;
        noted = subst (λ v. All (λ e. Any (λ r. Contains (received r) (Back e)) v.items ⊎ Contains c.gone e) entries) (sym s.notes) c.noted;
        out = λ v. ap (λ x. count_put identity x.items v) s.parcels ∙ c.out v ∙ sym (ap₂ (λ n o. count_back identity n.items v + slice_index o v) s.notes s.out);
      }
    where
      itself : (n k : ℕ) → once_below n k + cond ((t == t) && (n == k)) 1 0 ≡ once_below (n + 1) k
      itself n k = let e : (t == t) ≡ true = grind (arith, nat_tests) in rw e (sym (once_below-more n k))

      unlike : (m v k p : ℕ) → v ≢ t → m + cond ((t == v) && (p == k)) 1 0 ≡ m
      unlike m v k p other = let e : (t == v) ≡ false = grind (arith, nat_tests) in rw e (omega arith)
