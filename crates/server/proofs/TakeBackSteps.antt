-- What was had by a worker that was joined is taken back, one connection after another.
use Rattle.std.proofs.Common.{◌≡◌, ◌≤◌, ◌<◌, ◌^◌, ◌++◌, ◌∷◌, [], ℕ, zero, suc, ◌+◌, ◌-◌, Bool, true, false, true≢false, List, All, Option, None, Some, IfSome, length, length-append, map, slice_get, slice_index, refl, inl, inr, sym, ◌∙◌, ap, arith, subst, append_assoc, get_or-set_same, get_or-set_other}
use Rattle.std.specs.Prelude.{◌||◌, is_some, slice_index_or, slice_set}
use Rattle.std.specs.List.{list_any}
use Rattle.std.proofs.lemmas.Bool.{cases_lt}
use Rattle.std.proofs.lemmas.List.{append-nil, nil_from_length}
use Rattle.std.proofs.lemmas.Grind.{flat_map-append}
use Rattle.std.proofs.lemmas.List.Elements.{All-cons, All-head, All-nil, All-tail}
use Rattle.std.specs.declared.alloc.Global.{Global}
use Rattle.rtrb.specs.Ring.{ConsumerLooked, IsPair, ProducerLooked, SameConsumer, SameProducer, known_free, known_items, producer_capacity, received, sent}
use Rattle.rtrb.specs.declared.AnyItems.{AnyItems}
use Rattle.rtrb.specs.declared.consumer.Consumer.{Consumer}
use Rattle.rtrb.specs.declared.producer.Producer.{Producer}
use Rattle.service_core.specs.Link.{Identity}
use Rattle.server_acceptor.proofs.DoesSteps.{acts_none, acts_trans}
use Rattle.server_acceptor.specs.Accepting.{received_at}
use Rattle.server_acceptor.specs.Acceptors.{core_of, notes_of as rings_back, out_of, parcels_of as rings_to, waiting_of}
use Rattle.server_acceptor.specs.Rings.{ring_in, ring_out}
use Rattle.server_acceptor.specs.Parting.{LeavesRest}
use Rattle.server_acceptor.specs.declared.acceptor.Acceptor.{Acceptor}
use Rattle.server_core.specs.Core.{Core, in_order}
use Rattle.server_jobs.specs.Returning.{entries_of, entry_of_note, entry_of_waiting, one_or_none}
use Rattle.server_jobs.specs.declared.handed.Handed.{Handed}
use Rattle.server_jobs.specs.declared.note.Note.{Note}
use Rattle.server_jobs.specs.declared.note.Note.TheVariants.{Back}
use Rattle.server_run.specs.Listener.{Mark}
use Rattle.server_run.specs.Outcome.{is_stopped}
use Rattle.server_run.specs.declared.entry.Entry.{Entry}
use Rattle.server_run.specs.declared.outcome.Outcome.{Outcome}
use Rattle.server_run.specs.declared.outcome.Outcome.TheVariants.{Memory}
use Rattle.server_jobs.specs.Parcels.{is_stop}
use Rattle.server_jobs.specs.declared.parcel.Parcel.{Parcel}
use Rattle.worker_job.specs.Jobs.{factory_of, listeners_of, notes_of, parcels_of}
use Rattle.worker_job.specs.declared.worker_job.WorkerJob.{WorkerJob}
use Rattle.server.proofs.Rows.{map_at}
use Rattle.server.specs.Replacing.{Goes, IsLeftHere, IsSuccessor, MayTakeBack, Recalls, TakesBack, all_back, backs, entry_left}

module _ {Li L D : Type 0} (given : Li → ℕ) (left : Li → Option (List L)) (rest : Li → Option (List Mark)) (identity : L → Identity) (ended : Li → Bool) (faults : Li → ℕ)
    (taken : D → Option (List (Entry L))) (count served : D → ℕ) where
  pub goes_none : (a : Acceptor L) (d : D) → (count d < 2 ^ 64) × (served d < 2 ^ 64) → Goes given left rest identity ended faults taken count served a a d d false
  goes_none a d fits ls = ([], acts_none given left rest identity ended faults taken count served ls a d fits)

  pub goes_trans : (a b c : Acceptor L) (x y z : D) (last : Bool) → Goes given left rest identity ended faults taken count served a b x y false → Goes given left rest identity ended faults taken count served b c y z last
      → Goes given left rest identity ended faults taken count served a c x z last
  goes_trans a b c x y z last p q ls = ((p ls).0 ++ (q ls).0, acts_trans given left rest identity ended faults taken count served ls ls ls a b c x y z (p ls).0 (q ls).0 last (p ls).1 (q ls).1)

pub leaves_none : {L : Type 0} (a : Acceptor L) → LeavesRest a a
leaves_none a = record {
  paused = refl;
  stopping = refl;
  stop = refl;
  shutdown_timeout = refl;
  places = refl;
  serial = refl;
  ready = refl;
  stopped = refl;
  forced = refl;
  failed = refl;
  first = refl;
  events = refl;
  sent = refl;
  listeners = refl;
  workers = refl;
  limit = refl;
  retry_limit = refl;
  lacks_room = refl;
}

pub leaves_trans : {L : Type 0} (a b c : Acceptor L) → LeavesRest a b → LeavesRest b c → LeavesRest a c
leaves_trans a b c p q = record {
  paused = q.paused ∙ p.paused;
  stopping = q.stopping ∙ p.stopping;
  stop = q.stop ∙ p.stop;
  shutdown_timeout = q.shutdown_timeout ∙ p.shutdown_timeout;
  places = q.places ∙ p.places;
  serial = q.serial ∙ p.serial;
  ready = q.ready ∙ p.ready;
  stopped = q.stopped ∙ p.stopped;
  forced = q.forced ∙ p.forced;
  failed = q.failed ∙ p.failed;
  first = q.first ∙ p.first;
  events = q.events ∙ p.events;
  sent = q.sent ∙ p.sent;
  listeners = q.listeners ∙ p.listeners;
  workers = q.workers ∙ p.workers;
  limit = q.limit ∙ p.limit;
  retry_limit = q.retry_limit ∙ p.retry_limit;
  lacks_room = q.lacks_room ∙ p.lacks_room;
}

-- what came back from each, as a list
pub received_as : {L A P : Type 0} (ns : List (Consumer (Note L) A P)) (v : ℕ) → received_at ns v ≡ slice_index_or (map (λ c. received c) ns) v []
received_as [] v = refl
received_as (n ∷ ns) zero = refl
received_as (n ∷ ns) (suc v) = received_as ns v

pub received_same : {L A P : Type 0} (ns ms : List (Consumer (Note L) A P)) (v : ℕ) → map (λ c. received c) ms ≡ map (λ c. received c) ns → received_at ms v ≡ received_at ns v
received_same ns ms v same = received_as ms v ∙ ap (λ xs. slice_index_or xs v []) same ∙ sym (received_as ns v)

module _ {L : Type 0} where
  pub takes_none : (a : Acceptor L) (w : ℕ) (p : Producer (Note L) Global AnyItems) (n : ℕ) → MayTakeBack a w p n → TakesBack a a w p p []
  takes_none a w p n may = record {
    same = ((refl, refl, refl, refl), refl);
    pair = may.pair;
    went = sym (append-nil (sent p));
    all = may.all;
    others = λ v other. refl;
    rings = (refl, refl);
    waiting = refl;
    order = refl;
    retired = refl;
    out = omega arith;
    out_others = λ v other. refl;
    rest = leaves_none a;
  }

  backs_append : (xs ys : List (Entry L)) → backs (xs ++ ys) ≡ backs xs ++ backs ys
  backs_append [] ys = refl
  backs_append (x ∷ xs) ys = ap (λ ns. Back x ∷ ns) (backs_append xs ys)

  pub takes_trans : (a b c : Acceptor L) (w : ℕ) (p q s : Producer (Note L) Global AnyItems) (xs ys : List (Entry L)) → TakesBack a b w p q xs → TakesBack b c w q s ys → TakesBack a c w p s (xs ++ ys)
  takes_trans a b c w p q s xs ys first then_these = record {
    same = ((then_these.same.0.0 ∙ first.same.0.0, then_these.same.0.1 ∙ first.same.0.1, then_these.same.0.2 ∙ first.same.0.2, then_these.same.0.3 ∙ first.same.0.3), then_these.same.1 ∙ first.same.1);
    pair = then_these.pair;
    went = then_these.went ∙ ap (λ ns. ns ++ backs ys) first.went ∙ append_assoc (sent p) (backs xs) (backs ys) ∙ ap (λ ns. sent p ++ ns) (sym (backs_append xs ys));
    all = then_these.all;
    others = λ v other. then_these.others v other ∙ first.others v other;
    rings = (then_these.rings.0 ∙ first.rings.0, then_these.rings.1 ∙ first.rings.1);
    waiting = then_these.waiting ∙ first.waiting;
    order = then_these.order ∙ first.order;
    retired = then_these.retired ∙ first.retired;
    out = let m = first.out in let n = then_these.out in omega (arith, m, n, length-append xs ys);
    out_others = λ v other. then_these.out_others v other ∙ first.out_others v other;
    rest = leaves_trans a b c first.rest then_these.rest;
  }

  -- as many may be taken back as are left
  pub may_after : (a b : Acceptor L) (w : ℕ) (p q : Producer (Note L) Global AnyItems) (n m : ℕ) (es : List (Entry L)) → MayTakeBack a w p n → TakesBack a b w p q es → length es + m ≤ n → MayTakeBack b w q m
  may_after a b w p q n m es may takes few = record {
    number = let i = may.number in let e = takes.rest.workers in omega (arith, i, e);
    pair = takes.pair;
    all = takes.all;
    place = subst (λ k. 0 < k) (sym takes.same.1) may.place;
    off = ap (λ order. in_order order w) takes.order ∙ may.off;
    enough = let e = may.enough in let o = takes.out in omega (arith, e, o, few);
  }

  pub may_fewer : (a : Acceptor L) (w : ℕ) (p : Producer (Note L) Global AnyItems) (n m : ℕ) → MayTakeBack a w p n → m ≤ n → MayTakeBack a w p m
  may_fewer a w p n m may few = record { number = may.number; pair = may.pair; all = may.all; place = may.place; off = may.off; enough = let e = may.enough in omega (arith, e, few) }

  -- one was taken back
  pub takes_one : (a b : Acceptor L) (w : ℕ) (p q : Producer (Note L) Global AnyItems) (entry : Entry L) → MayTakeBack a w p 1 → SameProducer p q → sent q ≡ sent p ++ Back entry ∷ []
      → map (λ c. received c) (rings_back b) ≡ slice_set (map (λ c. received c) (rings_back a)) w (sent q) → IfSome (slice_get (rings_back b) w) (λ c. IsPair q c) → received_at (rings_back b) w ≡ sent q
      → map ring_in (rings_to b) ≡ map ring_in (rings_to a) → map ring_out (rings_back b) ≡ map ring_out (rings_back a) → (core_of b).out ≡ slice_set (core_of a).out w (slice_index (core_of a).out w - 1) → (core_of b).order ≡ (core_of a).order → (core_of b).retired ≡ (core_of a).retired
      → waiting_of b ≡ waiting_of a → LeavesRest a b → TakesBack a b w p q (entry ∷ [])
  takes_one a b w p q entry may same went came pair all ins outs out order retired waiting rest = record {
    same = same;
    pair = pair;
    went = went;
    all = all;
    others = λ v other. received_as (rings_back b) v ∙ ap (λ xs. slice_index_or xs v []) came
        ∙ get_or-set_other (map (λ c. received c) (rings_back a)) w v (sent q) [] other ∙ sym (received_as (rings_back a) v);
    rings = (ins, outs);
    waiting = waiting;
    order = order;
    retired = retired;
    out =
        let e = ap (λ xs. slice_index xs w) out in
        let f : slice_index (slice_set (core_of a).out w (slice_index (core_of a).out w - 1)) w ≡ slice_index (core_of a).out w - 1 = get_or-set_same (core_of a).out w (slice_index (core_of a).out w - 1) 0 may.number in
        let g = may.enough in omega (arith, e, f, g);
    out_others = λ v other. ap (λ xs. slice_index xs v) out ∙ get_or-set_other (core_of a).out w v (slice_index (core_of a).out w - 1) 0 other;
    rest = rest;
  }

  -- what was founded before is so still
  pub founded_after : (a b : Acceptor L) (es : List (Entry L)) → LeavesRest a b → All (λ e. is_stopped e.outcome ≡ true → is_some (core_of a).stopping ≡ true) es → All (λ e. is_stopped e.outcome ≡ true → is_some (core_of b).stopping ≡ true) es
  founded_after a b es rest founded i d inside so = ap (λ o. is_some o) rest.stopping ∙ founded i d inside so

-- Of these the entries of those in front were taken back, and those of the ones that are left may be.
pub record TakenFrom {Li L D X : Type 0} (given : Li → ℕ) (left_of : Li → Option (List L)) (rest : Li → Option (List Mark)) (identity : L → Identity) (ended : Li → Bool) (faults : Li → ℕ)
    (taken : D → Option (List (Entry L))) (count served spare : D → ℕ) (entry_of : X → Option (Entry L)) (w : ℕ) (whole left : List X) (a b : Acceptor L) (p q : Producer (Note L) Global AnyItems) (old new : D) : Type 0 where
  pub went : List X
  pub is : whole ≡ went ++ left
  pub goes : Goes given left_of rest identity ended faults taken count served a b old new false
  pub takes : TakesBack a b w p q (entries_of entry_of went)
  pub may : MayTakeBack b w q (length (entries_of entry_of left))
  pub room : out_of b ≤ spare new

module _ {Li L D X : Type 0} (given : Li → ℕ) (left_of : Li → Option (List L)) (rest : Li → Option (List Mark)) (identity : L → Identity) (ended : Li → Bool) (faults : Li → ℕ)
    (taken : D → Option (List (Entry L))) (count served spare : D → ℕ) (entry_of : X → Option (Entry L)) (w : ℕ) (whole : List X) (a : Acceptor L) (p : Producer (Note L) Global AnyItems) (old : D) where
  abbrev From : List X → Acceptor L → Producer (Note L) Global AnyItems → D → Type 0
  From left b q new = TakenFrom given left_of rest identity ended faults taken count served spare entry_of w whole left a b p q old new

  both : (xs ys : List X) → entries_of entry_of (xs ++ ys) ≡ entries_of entry_of xs ++ entries_of entry_of ys
  both xs ys = flat_map-append (λ x. one_or_none (entry_of x)) xs ys

  pub taken_none : (count old < 2 ^ 64) × (served old < 2 ^ 64) → MayTakeBack a w p (length (entries_of entry_of whole)) → out_of a ≤ spare old → From whole a p old
  taken_none fits may room = record {
    went = [];
    is = refl;
    goes = goes_none given left_of rest identity ended faults taken count served a old fits;
    takes = takes_none a w p (length (entries_of entry_of whole)) may;
    may = may;
    room = room;
  }

  module _ (x : X) (left now : List X) (b : Acceptor L) (q : Producer (Note L) Global AnyItems) (mid : D) (is : now ≡ x ∷ left) (so_far : From now b q mid) where
    pub taken_may : MayTakeBack b w q (length (one_or_none (entry_of x)))
    taken_may = may_fewer b w q (length (entries_of entry_of now)) (length (one_or_none (entry_of x))) so_far.may
        (let e = ap (λ xs. length (entries_of entry_of xs)) is in let l = length-append (one_or_none (entry_of x)) (entries_of entry_of left) in omega (arith, e, l))

    pub taken_more : (c : Acceptor L) (s : Producer (Note L) Global AnyItems) (new : D) → Goes given left_of rest identity ended faults taken count served b c mid new false → TakesBack b c w q s (one_or_none (entry_of x)) → out_of c ≤ spare new → From left c s new
    taken_more c s new goes takes room = record {
      went = so_far.went ++ x ∷ [];
      is = so_far.is ∙ ap (λ xs. so_far.went ++ xs) is ∙ sym (append_assoc so_far.went (x ∷ []) left);
      goes = goes_trans given left_of rest identity ended faults taken count served a b c old mid new false so_far.goes goes;
      takes = subst (TakesBack a c w p s) (ap (λ es. entries_of entry_of so_far.went ++ es) (sym (append-nil (one_or_none (entry_of x)))) ∙ sym (both so_far.went (x ∷ [])))
          (takes_trans a b c w p q s (entries_of entry_of so_far.went) (one_or_none (entry_of x)) so_far.takes takes);
      may = may_after b c w q s (length (entries_of entry_of now)) (length (entries_of entry_of left)) (one_or_none (entry_of x)) so_far.may takes
          (let e = ap (λ xs. length (entries_of entry_of xs)) is in let l = length-append (one_or_none (entry_of x)) (entries_of entry_of left) in omega (arith, e, l));
      room = room;
    }

  pub taken_all : (left : List X) (b : Acceptor L) (q : Producer (Note L) Global AnyItems) (new : D) → left ≡ [] → From left b q new → TakesBack a b w p q (entries_of entry_of whole)
  taken_all left b q new none so_far = subst (λ xs. TakesBack a b w p q (entries_of entry_of xs)) (sym (so_far.is ∙ ap (λ xs. so_far.went ++ xs) none ∙ append-nil so_far.went)) so_far.takes

-- what is founded of those that are left
pub founded_left : {L X : Type 0} (entry_of : X → Option (Entry L)) (went left whole : List X) (P : Entry L → Type 0) → whole ≡ went ++ left → All P (entries_of entry_of whole) → All P (entries_of entry_of left)
founded_left entry_of went left whole P is all = behind (entries_of entry_of went) (entries_of entry_of left) (subst (All P) (ap (entries_of entry_of) is ∙ flat_map-append (λ x. one_or_none (entry_of x)) went left) all)
  where
    behind : (xs ys : List (Entry _)) → All P (xs ++ ys) → All P ys
    behind [] ys all = all
    behind (x ∷ xs) ys all = behind xs ys (All-tail P x (xs ++ ys) all)

pub founded_first : {L X : Type 0} (entry_of : X → Option (Entry L)) (x : X) (left now : List X) (P : Entry L → Type 0) → now ≡ x ∷ left → All P (entries_of entry_of now) → All P (one_or_none (entry_of x))
founded_first entry_of x left now P is all = front (one_or_none (entry_of x)) (entries_of entry_of left) (subst (λ xs. All P (entries_of entry_of xs)) is all)
  where
    front : (xs ys : List (Entry _)) → All P (xs ++ ys) → All P xs
    front [] ys all = All-nil P
    front (x ∷ xs) ys all = All-cons P x xs (All-head P x (xs ++ ys) all) (front xs ys (All-tail P x (xs ++ ys) all))

-- ---- all that a worker had
module _ {L F E : Type 0} (a : Acceptor L) (w : ℕ) (handed : Handed L F E) (may : (o : Outcome) → MayTakeBack a w handed.notes (length (all_back o w handed))) where
  pub may_owed : MayTakeBack a w handed.notes (length (entries_of entry_of_note handed.owed.items))
  may_owed = may_fewer a w handed.notes (length (all_back Memory w handed)) (length (entries_of entry_of_note handed.owed.items)) (may Memory)
      (let l = length-append (entries_of entry_of_note handed.owed.items) (entries_of (entry_of_waiting w) handed.rest.items ++ entries_of (entry_left Memory) (known_items handed.parcels)) in omega (arith, l))

  module _ (b : Acceptor L) (q : Producer (Note L) Global AnyItems) (owed : TakesBack a b w handed.notes q (entries_of entry_of_note handed.owed.items)) where
    pub may_rest : MayTakeBack b w q (length (entries_of (entry_of_waiting w) handed.rest.items))
    may_rest = may_after a b w handed.notes q (length (all_back Memory w handed)) (length (entries_of (entry_of_waiting w) handed.rest.items)) (entries_of entry_of_note handed.owed.items) (may Memory) owed
        (let l = length-append (entries_of entry_of_note handed.owed.items) (entries_of (entry_of_waiting w) handed.rest.items ++ entries_of (entry_left Memory) (known_items handed.parcels)) in
        let m = length-append (entries_of (entry_of_waiting w) handed.rest.items) (entries_of (entry_left Memory) (known_items handed.parcels)) in omega (arith, l, m))

    module _ (c : Acceptor L) (s : Producer (Note L) Global AnyItems) (rest : TakesBack b c w q s (entries_of (entry_of_waiting w) handed.rest.items)) (o : Outcome) where
      both_back : TakesBack a c w handed.notes s (entries_of entry_of_note handed.owed.items ++ entries_of (entry_of_waiting w) handed.rest.items)
      both_back = takes_trans a b c w handed.notes q s (entries_of entry_of_note handed.owed.items) (entries_of (entry_of_waiting w) handed.rest.items) owed rest

      pub may_left : MayTakeBack c w s (length (entries_of (entry_left o) (known_items handed.parcels)))
      may_left = may_after a c w handed.notes s (length (all_back o w handed)) (length (entries_of (entry_left o) (known_items handed.parcels))) (entries_of entry_of_note handed.owed.items ++ entries_of (entry_of_waiting w) handed.rest.items) (may o) both_back
          (let l = length-append (entries_of entry_of_note handed.owed.items) (entries_of (entry_of_waiting w) handed.rest.items ++ entries_of (entry_left o) (known_items handed.parcels)) in
          let m = length-append (entries_of (entry_of_waiting w) handed.rest.items) (entries_of (entry_left o) (known_items handed.parcels)) in
          let n = length-append (entries_of entry_of_note handed.owed.items) (entries_of (entry_of_waiting w) handed.rest.items) in omega (arith, l, m, n))

      abbrev pub recalled : (d : Acceptor L) (t : Producer (Note L) Global AnyItems) → IsLeftHere w o → TakesBack c d w s t (entries_of (entry_left o) (known_items handed.parcels)) → Recalls a d w handed
      recalled d t left takes = record {
        outcome = o;
        as_left = left;
        notes = t;
        takes = takes_trans a b d w handed.notes q t (entries_of entry_of_note handed.owed.items) (entries_of (entry_of_waiting w) handed.rest.items ++ entries_of (entry_left o) (known_items handed.parcels)) owed
            (takes_trans b c d w q s t (entries_of (entry_of_waiting w) handed.rest.items) (entries_of (entry_left o) (known_items handed.parcels)) rest takes);
      }

-- and then the rings were looked at
abbrev pub recalled_looked : {L F E : Type 0} (a b c : Acceptor L) (w : ℕ) (handed : Handed L F E) (q : Producer (Note L) Global AnyItems) (recalls : Recalls a b w handed) → ProducerLooked recalls.notes q → IfSome (slice_get (rings_back c) w) (λ x. IsPair q x)
    → map ring_in (rings_to c) ≡ map ring_in (rings_to b) → map ring_out (rings_back c) ≡ map ring_out (rings_back b) → map (λ x. received x) (rings_back c) ≡ map (λ x. received x) (rings_back b)
    → core_of c ≡ core_of b → waiting_of c ≡ waiting_of b → LeavesRest b c → Recalls a c w handed
recalled_looked a b c w handed q recalls looked pair ins outs came core waiting rest = record {
  outcome = recalls.outcome;
  as_left = recalls.as_left;
  notes = q;
  takes = record {
    same = ((looked.0.0.0 ∙ takes.same.0.0, looked.0.0.1 ∙ takes.same.0.1, looked.0.0.2 ∙ takes.same.0.2, looked.0.0.3 ∙ takes.same.0.3), looked.0.1 ∙ takes.same.1);
    pair = pair;
    went = looked.1 ∙ takes.went;
    all = received_same (rings_back b) (rings_back c) w came ∙ takes.all ∙ sym looked.1;
    others = λ v other. received_same (rings_back b) (rings_back c) v came ∙ takes.others v other;
    rings = (ins ∙ takes.rings.0, outs ∙ takes.rings.1);
    waiting = waiting ∙ takes.waiting;
    order = ap (λ (s : Core). s.order) core ∙ takes.order;
    retired = ap (λ (s : Core). s.retired) core ∙ takes.retired;
    out = ap (λ (s : Core). slice_index s.out w + length (all_back recalls.outcome w handed)) core ∙ takes.out;
    out_others = λ v other. ap (λ (s : Core). slice_index s.out v) core ∙ takes.out_others v other;
    rest = leaves_trans a b c takes.rest rest;
  };
}
  where
    takes : TakesBack a b w handed.notes recalls.notes (all_back recalls.outcome w handed)
    takes = recalls.takes

-- an iterator that has ended
pub ended_items : {X T : Type 0} (xs : List X) (len : ℕ) (o : Option T) → (0 < len → is_some o ≡ true) → o ≡ None → length xs ≡ len → xs ≡ []
ended_items xs len o some none ok = elim (cases_lt 0 len) [
  | inl more ↦ absurd (true≢false (sym (some more) ∙ ap (λ x. is_some x) none))
  | inr over ↦ nil_from_length xs (omega (arith, over, ok))
]

-- a stop among the parcels that were taken
pub stops_more : (before here rest whole : Bool) → (before || (here || rest)) ≡ whole → here ≡ true → (true || rest) ≡ whole
stops_more true here rest whole is so = is
stops_more false here rest whole is so = ap (λ b. b || rest) (sym so) ∙ is

pub stops_less : (before here rest whole : Bool) → (before || (here || rest)) ≡ whole → here ≡ false → (before || rest) ≡ whole
stops_less before here rest whole is so = ap (λ b. before || (b || rest)) (sym so) ∙ is

pub came_one : {X : Type 0} (r r2 known known2 : List X) (x : X) (whole : List X) → r2 ≡ r ++ x ∷ [] → known ≡ x ∷ known2 → r ++ known ≡ whole → r2 ++ known2 ≡ whole
came_one r r2 known known2 x whole received_now known_now is =
    ap (λ xs. xs ++ known2) received_now ∙ append_assoc r (x ∷ []) known2 ∙ ap (λ xs. r ++ xs) (sym known_now) ∙ is

pub same_consumer_trans : {X : Type 0} (a b c : Consumer X Global AnyItems) → SameConsumer a b → SameConsumer b c → SameConsumer a c
same_consumer_trans a b c p q = ((q.0.0 ∙ p.0.0, q.0.1 ∙ p.0.1, q.0.2 ∙ p.0.2, q.0.3 ∙ p.0.3), q.1 ∙ p.1)

pub none_from : {X : Type 0} (o : Option X) → is_some o ≡ false → o ≡ None
none_from None is = refl
none_from (Some x) is = absurd (true≢false is)

-- the other end of the ring to a worker is still there
pub pair_there : {L : Type 0} (a d : Acceptor L) (w : ℕ) (x y : Consumer (Parcel L) Global AnyItems) → map ring_in (rings_to d) ≡ map ring_in (rings_to a) → SameConsumer x y
    → IfSome (slice_get (rings_to a) w) (λ p. IsPair p x) → IfSome (slice_get (rings_to d) w) (λ p. IsPair p y)
pair_there {L = L} a d w x y ins same pair = by (slice_get (rings_to d) w) refl
  where
    at : (o : Option (Producer (Parcel L) Global AnyItems)) (p : Producer (Parcel L) Global AnyItems) → o ≡ Some p → IfSome o (λ p. IsPair p x) → IsPair p x
    at o p is has = rw is at has

    by : (o : Option (Producer (Parcel L) Global AnyItems)) → slice_get (rings_to d) w ≡ o → IfSome o (λ p. IsPair p y)
    by None is = tt
    by (Some q) is =
        let p = map_at ring_in (rings_to a) (rings_to d) w q ins is in
        let first = at (slice_get (rings_to a) w) p.0 p.1 pair in (
          same.0.0 ∙ first.0 ∙ sym (ap (λ r. r.0) p.2),
          same.0.1 ∙ first.1 ∙ sym (ap (λ r. r.1.0) p.2),
          same.0.2 ∙ first.2 ∙ sym (ap (λ r. r.1.1.0) p.2),
          same.0.3 ∙ first.3 ∙ sym (ap (λ r. r.1.1.1) p.2),
        )

-- a job over the ends that were looked at
pub succeeds : {L F E : Type 0} (a d e : Acceptor L) (w listeners : ℕ) (handed : Handed L F E) (recalls : Recalls a d w handed) (mid p : Consumer (Parcel L) Global AnyItems) (n : Producer (Note L) Global AnyItems) (job : WorkerJob L F)
    → 0 < producer_capacity handed.notes → SameConsumer handed.parcels mid → received mid ≡ received handed.parcels ++ known_items handed.parcels → ConsumerLooked mid p → ProducerLooked recalls.notes n
    → map (λ c. received c) (rings_back e) ≡ map (λ c. received c) (rings_back d) → IfSome (slice_get (rings_back e) w) (λ c. IsPair n c)
    → producer_capacity n + length (received_at (rings_back e) w) ≤ known_free n + length (sent n) → list_any is_stop (known_items handed.parcels) ≡ false
    → parcels_of job ≡ p → notes_of job ≡ n → factory_of job ≡ handed.factory → listeners_of job ≡ listeners → IsSuccessor e w handed listeners job
succeeds a d e w listeners handed recalls mid p n job place same came looked_in looked_out back pair free calm is_parcels is_notes is_factory is_many = record {
  parcels = subst (λ x. SameConsumer handed.parcels x) (sym is_parcels) (same_consumer_trans handed.parcels mid p same looked_in.0);
  came = ap (λ x. received x) is_parcels ∙ looked_in.1 ∙ came;
  notes = subst (λ x. SameProducer handed.notes x) (sym is_notes)
      ((looked_out.0.0.0 ∙ takes.same.0.0, looked_out.0.0.1 ∙ takes.same.0.1, looked_out.0.0.2 ∙ takes.same.0.2, looked_out.0.0.3 ∙ takes.same.0.3), looked_out.0.1 ∙ takes.same.1);
  pair = subst (λ x. IfSome (slice_get (rings_back e) w) (λ c. IsPair x c)) (sym is_notes) pair;
  all = all_now ∙ ap (λ x. sent x) (sym is_notes);
  place = subst (λ x. 0 < known_free x) (sym is_notes)
      (let l = ap length all_now in let k = looked_out.0.1 ∙ takes.same.1 in omega (arith, place, free, l, k));
  unstopped = calm;
  same_factory = is_factory;
  as_many = is_many;
}
  where
    takes : TakesBack a d w handed.notes recalls.notes (all_back recalls.outcome w handed)
    takes = recalls.takes

    all_now : received_at (rings_back e) w ≡ sent n
    all_now = received_same (rings_back d) (rings_back e) w back ∙ takes.all ∙ sym looked_out.1
