-- That stops on the rings carry no connection.
use Rattle.std.proofs.Common.{◌≡◌, ◌^◌, ◌<◌, ◌⊎◌, [], ℕ, ◌+◌, Bool, true, false, List, length, map, All, Any, Contains, Option, IfSome, refl, sym, ◌∙◌, ap, ap₂, arith, subst, inl, inr}
use Rattle.std.specs.Prelude.{◌&&◌, is_some, not, nat_lt, slice_get, slice_index, slice_index_or}
use Rattle.std.proofs.lemmas.Bool.{cases_eq}
use Rattle.std.proofs.lemmas.Bool.Decides.{nat_tests}
use Rattle.std.proofs.lemmas.List.{append-nil, get_or_default}
use Rattle.std.proofs.lemmas.List.Elements.{All-nil}
use Rattle.std.specs.declared.alloc.Global.{Global}
use Rattle.rtrb.specs.Ring.{received, sent}
use Rattle.rtrb.specs.declared.AnyItems.{AnyItems}
use Rattle.rtrb.specs.declared.producer.Producer.{Producer}
use Rattle.service_core.specs.Link.{Identity}
use Rattle.server_core.specs.Core.{Core, is_open}
use Rattle.std.specs.List.{list_all}
use Rattle.server_run.specs.Delivery.{once_below, rest_at}
use Rattle.server_run.specs.Listener.{Mark}
use Rattle.server_run.specs.declared.entry.Entry.{Entry}
use Rattle.server_acceptor.proofs.PutSteps.{puts_at, puts_kept}
use Rattle.server_acceptor.specs.Accepting.{Puts}
use Rattle.server_acceptor.proofs.Giving.{adds_none}
use Rattle.server_jobs.specs.Cards.{Card}
use Rattle.server_jobs.specs.declared.note.Note.TheVariants.{Back, Ready}
use Rattle.server_jobs.specs.declared.parcel.Parcel.{Parcel}
use Rattle.server_jobs.specs.declared.parcel.Parcel.TheVariants.{Stop}
use Rattle.server_acceptor.specs.Accepting.{Acts, Proceeds, marks_of, received_at}
use Rattle.server_acceptor.specs.Acceptors.{events_of}
use Rattle.server_acceptor.specs.Carrying.{Carries, IsInPlace, ParcelIsInPlace, came_back, each, has_place, has_serial, in_waiting, let_gone, put}
use Rattle.server_acceptor.specs.Notes.{count_back}
use Rattle.server_acceptor.specs.Placing.{KeepsSent, PutsAt}
use Rattle.server_acceptor.specs.Rings.{count_put, ring_in, ring_out}
use Rattle.server_acceptor.specs.Stopping.{StopsOnly}
use Rattle.server_acceptor.specs.declared.acceptor.Acceptor.{Acceptor}
use Rattle.server_acceptor.proofs.CarrySteps.{all_kept, all_sent_on, count_kept, count_nothing, put_kept, put_more}
use Rattle.server_acceptor.proofs.DoesSteps.{untouched_none}
use Rattle.server_acceptor.proofs.MarkSteps.{marked_none}

-- a stop went on a ring, or nothing
abbrev pub PutsStop : {L : Type 0} → List (Producer (Parcel L) Global AnyItems) → List (Producer (Parcel L) Global AnyItems) → Type 0
PutsStop ps qs = KeepsSent ps qs ⊎ ((w : ℕ) × (graceful : Bool) × PutsAt ps qs w (Stop graceful))

pub stops_none : {L : Type 0} (a : Acceptor L) → StopsOnly a a
stops_none a = record { core = refl; events = refl; notes = refl; ready = refl; waiting = refl; serial = refl; places = refl; failed = refl; first = refl; limit = refl; retry_limit = refl; shutdown_timeout = refl; lacks_room = refl; stop = refl }

pub stops_trans : {L : Type 0} (a b c : Acceptor L) → StopsOnly a b → StopsOnly b c → StopsOnly a c
stops_trans a b c p q = record {
  core = q.core ∙ p.core;
  events = q.events ∙ p.events;
  notes = q.notes ∙ p.notes;
  ready = q.ready ∙ p.ready;
  waiting = q.waiting ∙ p.waiting;
  serial = q.serial ∙ p.serial;
  places = q.places ∙ p.places;
  failed = q.failed ∙ p.failed;
  first = q.first ∙ p.first;
  limit = q.limit ∙ p.limit;
  retry_limit = q.retry_limit ∙ p.retry_limit;
  shutdown_timeout = q.shutdown_timeout ∙ p.shutdown_timeout;
  lacks_room = q.lacks_room ∙ p.lacks_room;
  stop = q.stop ∙ p.stop;
}

module _ {L : Type 0} (identity : L → Identity) (ps qs : List (Producer (Parcel L) Global AnyItems)) where
  put_same : (h : Card → ℕ) → PutsStop ps qs → put identity h qs ≡ put identity h ps
  put_same h (inl k) = put_kept identity h ps qs k
  put_same h (inr p) = omega (arith, put_more identity h ps qs p.0 (Stop p.1) p.2)

  count_same : (w : ℕ) → PutsStop ps qs → count_put identity qs w ≡ count_put identity ps w
  count_same w (inl k) = count_kept identity ps qs w k
  count_same w (inr p) = count_nothing identity ps qs p.0 w (Stop p.1) p.2 refl

module _ {Li L : Type 0} (given : Li → ℕ) (left : Li → Option (List L)) (identity : L → Identity) (none_left : Bool) (first now : List Li) where
  in_place : (ps qs : List (Producer (Parcel L) Global AnyItems)) → PutsStop ps qs → All (λ p. All (ParcelIsInPlace left first) (sent p)) ps → All (λ p. All (ParcelIsInPlace left first) (sent p)) qs
  in_place ps qs (inl k) all = all_kept (ParcelIsInPlace left first) ps qs k all
  in_place ps qs (inr p) all = all_sent_on (ParcelIsInPlace left first) ps qs p.0 (Stop p.1) p.2 tt all

  carries_stop : (a b : Acceptor L) (entries : List (Entry L)) → StopsOnly a b → PutsStop a.parcels.items b.parcels.items → Carries given left identity none_left first now a entries → Carries given left identity none_left first now b entries
  carries_stop a b entries s p c =
      let weigh : (h : Card → ℕ) → (put identity h b.parcels.items + in_waiting identity h b.waiting) + let_gone identity h c.gone ≡ (put identity h a.parcels.items + in_waiting identity h a.waiting) + let_gone identity h c.gone =
      λ h. omega (arith, put_same identity a.parcels.items b.parcels.items h p, ap (in_waiting identity h) s.waiting) in
      record {
        gone = c.gone;
        let_go = c.let_go;
        count = weigh (λ c. 1) ∙ c.count ∙ sym s.serial;
        serials = λ k. weigh (each (has_serial k)) ∙ c.serials k ∙ ap (λ n. once_below n k) (sym s.serial);
        places = λ t k. weigh (each (has_place t k)) ∙ c.places t k;
        on_rings = in_place a.parcels.items b.parcels.items p c.on_rings;
        waits = subst (λ o. IfSome o (λ w. IsInPlace left first w.token w.place w.link)) (sym s.waiting) c.waits;
        remains = c.remains;
        rises = c.rises;
        next_places = λ t below. ap (λ v. slice_index_or v.items t 0) s.places ∙ c.next_places t (subst (λ v. t < length v.items) s.places below);
        back = λ h. ap (λ v. came_back identity h v.items + let_gone identity h c.gone) s.notes ∙ c.back h;
        noted = subst (λ v. All (λ e. Any (λ r. Contains (received r) (Back e)) v.items ⊎ Contains c.gone e) entries) (sym s.notes) c.noted;
        out = λ v. count_same identity a.parcels.items b.parcels.items v p ∙ c.out v ∙ sym (ap₂ (λ n o. count_back identity n.items v + slice_index o.out v) s.notes s.core);
      }

puts_stop : {L : Type 0} (a b : Acceptor L) → PutsStop a.parcels.items b.parcels.items → (w : ℕ) → Puts a b w
puts_stop a b (inl k) w = puts_kept a b w k
puts_stop a b (inr p) w = puts_at a b w p.0 (Stop p.1) p.2

module _ {Li L D : Type 0} (given : Li → ℕ) (left : Li → Option (List L)) (rest : Li → Option (List Mark)) (identity : L → Identity) (ended : Li → Bool) (faults : Li → ℕ)
    (taken : D → Option (List (Entry L))) (count served : D → ℕ) where
  pub stop_acts : (ls : List Li) (a b : Acceptor L) (d : D) → (count d < 2 ^ 64) × (served d < 2 ^ 64) → StopsOnly a b → PutsStop a.parcels.items b.parcels.items → map ring_in b.parcels.items ≡ map ring_in a.parcels.items
      → Acts given left rest identity ended faults taken count served ls ls a b d d [] false
  stop_acts ls a b d fits s p rings = record {
    logged = record {
      allowed = tt;
      core = s.core;
      got = λ t. omega arith;
      failed = λ t some. absurd (omega (arith, some));
      marked = λ t. marked_none (rest_at rest ls t) (marks_of t []) refl;
      failures = λ t. ap (λ k. slice_index k.failures t) s.core;
      sent_on = λ w. omega (arith, count_same identity a.parcels.items b.parcels.items w p);
      back = λ w. omega (arith, ap (λ v. count_back identity v.items w) s.notes);
    };
    passes = record {
      more = [];
      adds = adds_none taken count served d fits;
      founded = All-nil _;
      carries = λ none_left is first entries carries. subst (λ es. Carries given left identity none_left first ls b es) (sym (append-nil entries)) (carries_stop given left identity none_left first ls a b entries s p carries);
    };
    awaits = record {
      stays_ready = λ r. ap (λ v. list_all (λ ready. ready) v.items) s.ready ∙ r;
      early = λ early. untouched_none given left rest identity ended faults taken count served ls d;
      noted = λ n w marked. subst (λ v. IfSome (slice_get v.items w) (λ c. Contains (received c) Ready)) (sym s.notes) (n w (ap (λ v. slice_index_or v.items w false) (sym s.ready) ∙ marked));
    };
    tells = record {
      ends = λ t before now. absurd (let e : false ≡ true = sym before ∙ ap (λ k. slice_index_or k.ended t false) (sym s.core) ∙ now in cc);
      stays = λ t is. (refl, ap (λ k. slice_index k.failures t) s.core, ap (λ k. slice_index_or k.ended t false) s.core ∙ is);
      marks = λ t has. inl has;
      rises = λ t. omega arith;
    };
    rings = record { parcels = rings; notes = ap (λ v. map ring_out v.items) s.notes };
    puts = λ w. puts_stop a b p w;
    receives = λ w. record { more = []; came = ap (λ v. received_at v.items w) s.notes ∙ sym (append-nil _) };
    as_many = refl;
    workers = ap (λ k. length k.out) s.core;
    listeners = ap (λ k. length k.ended) s.core;
    limit = s.retry_limit;
    max = s.limit;
    lacks = λ is. s.lacks_room ∙ is;
    stops = λ is. ap (λ k. is_some k.stopping) s.core ∙ is;
  }

  pub stop_proceeds : (ls : List Li) (a b : Acceptor L) (d : D) → (count d < 2 ^ 64) × (served d < 2 ^ 64) → StopsOnly a b → PutsStop a.parcels.items b.parcels.items → map ring_in b.parcels.items ≡ map ring_in a.parcels.items
      → Proceeds given left rest identity ended faults taken count served ls ls a b d d
  stop_proceeds ls a b d fits s p rings = record {
    more = [];
    appended = ap (λ v. v.items) s.events ∙ sym (append-nil (events_of a));
    does = record { acts = stop_acts ls a b d fits s p rings; of_use = tt };
  }

-- ---- which workers got their stop
pub got_more : (xs ys : List Bool) (n : ℕ) → ((v : ℕ) → v < n → slice_index_or xs v false ≡ true) → ((v : ℕ) → slice_index_or xs v false ≡ true → slice_index_or ys v false ≡ true)
    → slice_index_or ys n false ≡ true → (v : ℕ) → v < n + 1 → slice_index_or ys v false ≡ true
got_more xs ys n got others this v below = elim (cases_eq v n) [
  | inl same ↦ rw same this
  | inr other ↦ others v (got v (omega arith))
]

pub all_got : (xs : List Bool) (n : ℕ) → length xs ≡ n → ((v : ℕ) → v < n → slice_index_or xs v false ≡ true) → All (λ s. s ≡ true) xs
all_got xs n many got v d inside = get_or_default xs v d false inside ∙ got v (omega arith)

-- ---- a listener that may not end any more has ended
pub has_ended : (s : Core) (t : ℕ) → t < length s.ended → is_open s t ≡ false → slice_index_or s.ended t false ≡ true
has_ended s t inside closed = let e : nat_lt t (length s.ended) ≡ true = grind (arith, nat_tests) in
    get_or_default s.ended t false true inside ∙ by_cases (slice_index_or s.ended t true) (nat_lt t (length s.ended)) e closed
  where
    by_cases : (b c : Bool) → c ≡ true → (c && not b) ≡ false → b ≡ true
    by_cases true c is closed = refl
    by_cases false true is closed = sym closed
    by_cases false false is closed = is

pub all_below : (P : ℕ → Type 0) (n : ℕ) → ((u : ℕ) → u < n → P u) → P n → (u : ℕ) → u < n + 1 → P u
all_below P n below this u less = elim (cases_eq u n) [
  | inl same ↦ rw same this
  | inr other ↦ below u (omega arith)
]

and_false : (c : Bool) → (c && false) ≡ false
and_false true = refl
and_false false = refl

pub still_open : (s : Core) (t : ℕ) → is_open s t ≡ true → slice_index_or s.ended t false ≡ true → ⊥
still_open s t opened ended = by_cases (slice_index_or s.ended t true) refl (nat_lt t (length s.ended)) refl opened
  where
    by_cases : (b : Bool) → slice_index_or s.ended t true ≡ b → (c : Bool) → nat_lt t (length s.ended) ≡ c → (c && not b) ≡ true → ⊥
    by_cases true is c it opened = absurd (let e : false ≡ true = sym (and_false c) ∙ opened in cc)
    by_cases false is false it opened = absurd (let e : false ≡ true = opened in cc)
    by_cases false is true it opened =
        let inside : t < length s.ended = grind (arith, nat_tests) in
        let e : true ≡ false = sym ended ∙ get_or_default s.ended t false true inside ∙ is in
        absurd (cc)
