-- The workers that were tried in vain, while a connection is placed.
use Rattle.std.proofs.Common.{◌≡◌, ℕ, suc, ◌+◌, ◌*◌, ◌<◌, ◌≤◌, Bool, true, false, true≢false, cond, List, [], ◌∷◌, ◌++◌, length, map, set, Option, Some, None, refl, sym, ap, ap₂, subst, ◌∙◌, arith, append_assoc, append-nil, length-append, All}
use Rattle.std.specs.Prelude.{◌&&◌, ◌||◌, ◌==◌, not, find, nat_eq, is_some, slice_set, slice_index, slice_index_or}
use Rattle.std.specs.List.{IsDistinct}
use Rattle.std.specs.Option.{option_map}
use Rattle.std.specs.Ordering.{nat_cmp}
use Rattle.std.specs.FinSet as set
use Rattle.std.specs.FinSet.{contains-empty, contains-insert}
use Rattle.std.specs.Cmp.{nat_cmp_total, unsigned_tied, nat_eq_equiv}
use Rattle.std.proofs.lemmas.Bool.Decides.{nat_tests}
use Rattle.std.proofs.lemmas.List.Folds.{list_any-append}
use Rattle.std.proofs.lemmas.List.Elements.{All-head, All-tail}
use Rattle.std.proofs.lemmas.Map.Steps.{length-le_from_distinct_below}
use Rattle.server_core.specs.Numbers.{Numbers, with_mark}
use Rattle.server_core.specs.Core.{Core, first_free, in_order, is_worker, picked, round, behind, step}
use Rattle.server_core.specs.declared.event.Event.{Event}
use Rattle.server_core.specs.declared.event.Event.TheVariants.{RingFull, Notice, Sent}
use Rattle.server_core.proofs.Picks.{finds, in_round}
use Rattle.server_core.proofs.Orders.{or_true, true_or, and_left, and_right, not_true, distinct-push, flipped}
use Rattle.server_acceptor.specs.Logging.{Logs}
use Rattle.server_acceptor.specs.Placing.{parcel_of, refusals, HasNoPlace, KeepsSent, PutsAt, Refuses, Sends, Stays, StillWaits, WasSent}
use Rattle.server_acceptor.specs.declared.acceptor.Acceptor.{Acceptor}
use Rattle.server_jobs.specs.declared.waiting.Waiting.{Waiting}
use Rattle.rtrb.specs.declared.producer.Producer.{Producer}
use Rattle.rtrb.specs.Ring.{sent}
use Rattle.server_acceptor.proofs.LogSteps.{logs_none, logs_one, logs_trans}
use Rattle.server_acceptor.proofs.PlaceSteps.{free_again, full_then, may_offer, keeps_sent_trans}
use Rattle.server_acceptor.proofs.Rotating.{PassedLast, distinct_times, none_passed, passed_on, picked_first, times, times_round, times_some, tried_one, turned, untried, untried-le}

pub stays_none : {L : Type 0} (a : Acceptor L) → Stays a a
stays_none a = record { notes = refl; ready = refl; stopped = refl; forced = refl; stop = refl; serial = refl; places = refl; failed = refl; first = refl; limit = refl; retry_limit = refl; shutdown_timeout = refl; lacks_room = refl }

pub stays_trans : {L : Type 0} {a b c : Acceptor L} → Stays a b → Stays b c → Stays a c
stays_trans p q = record {
  notes = q.notes ∙ p.notes;
  ready = q.ready ∙ p.ready;
  stopped = q.stopped ∙ p.stopped;
  forced = q.forced ∙ p.forced;
  stop = q.stop ∙ p.stop;
  serial = q.serial ∙ p.serial;
  places = q.places ∙ p.places;
  failed = q.failed ∙ p.failed;
  first = q.first ∙ p.first;
  limit = q.limit ∙ p.limit;
  retry_limit = q.retry_limit ∙ p.retry_limit;
  shutdown_timeout = q.shutdown_timeout ∙ p.shutdown_timeout;
  lacks_room = q.lacks_room ∙ p.lacks_room;
}

-- from a to b the workers of that set were tried, and the ring of each refused
pub record Tried {L : Type 0} (a b : Acceptor L) (passed : Numbers) : Type 0 where
  pub full : List ℕ
  pub events : b.events.items ≡ a.events.items ++ refusals full
  pub once : IsDistinct nat_eq full
  pub no_place : (w : ℕ) → in_order full w ≡ true → HasNoPlace b.parcels.items w
  pub passes : (w : ℕ) → set.contains passed w ≡ in_order full w
  pub stays : Stays a b
  pub waiting : b.waiting ≡ a.waiting
  pub rings : KeepsSent a.parcels.items b.parcels.items
  pub logs : Logs a.core b.core a.events.items b.events.items
  pub core_waiting : b.core.waiting ≡ a.core.waiting
  pub order : b.core.order ≡ a.core.order
  pub out : b.core.out ≡ a.core.out
  pub free : (w : ℕ) → set.contains b.core.free w ≡ set.contains a.core.free w
  pub last : PassedLast (λ v. set.contains b.core.free v) (λ v. set.contains passed v) (round b.core.order b.core.next)
  pub in_turn : (v : ℕ) → times v b.core.order ≤ 1
  pub room : length b.events.items + 2 * untried (λ v. set.contains passed v) b.core.order ≤ length a.events.items + 2 * length a.core.out

empty_distinct : IsDistinct nat_eq []
unfolding IsDistinct
empty_distinct = tt

pub tried_none : {L : Type 0} (a : Acceptor L) (none : Numbers) → none ≡ set.empty → IsDistinct nat_eq a.core.order → length a.core.order ≤ length a.core.out → Tried a a none
tried_none a none is distinct fits =
    let empty : (w : ℕ) → set.contains none w ≡ false = λ w. ap (λ s. set.contains s w) is ∙ contains-empty nat_cmp w in
    record {
      full = [];
      events = sym (append-nil a.events.items);
      once = empty_distinct;
      no_place = λ w i. absurd (true≢false (sym i));
      passes = empty;
      stays = stays_none a;
      waiting = refl;
      rings = record { rings = refl; sent_on = refl };
      logs = logs_none;
      core_waiting = refl;
      order = refl;
      out = refl;
      free = λ w. refl;
      last = none_passed (λ v. set.contains a.core.free v) (λ v. set.contains none v) (round a.core.order a.core.next) empty
          (λ w. omega (arith, times_round a.core.order a.core.next w, distinct_times a.core.order distinct w));
      in_turn = distinct_times a.core.order distinct;
      room = omega (arith, untried-le (λ v. set.contains none v) a.core.order);
    }

refusals_push : (full : List ℕ) (w : ℕ) → refusals (full ++ w ∷ []) ≡ refusals full ++ (RingFull w ∷ Notice w ∷ [])
refusals_push [] w = refl
refusals_push (x ∷ full) w = ap (λ es. RingFull x ∷ Notice x ∷ es) (refusals_push full w)

or_push : (x y p q : Bool) → x ≡ y → p ≡ q → (x || p) ≡ (q || (y || false))
or_push true true p true e f = refl
or_push true true p false e f = refl
or_push false false p true e f = f
or_push false false p false e f = f
or_push true false p q e f = absurd (true≢false e)
or_push false true p q e f = absurd (true≢false (sym e))

now_passed : (passed then : Numbers) (w v : ℕ) → then ≡ with_mark passed w true → set.contains then v ≡ (nat_eq v w || set.contains passed v)
now_passed passed then w v is = ap (λ s. set.contains s v) is ∙ contains-insert nat_cmp_total passed w v ∙ ap (λ b. b || set.contains passed v) (unsigned_tied v w)

-- what is known of a worker that is picked
pub record IsPicked (s : Core) (passed : Numbers) (w : ℕ) : Type 0 where
  pub first : first_free s ≡ Some w
  pub free : set.contains s.free w ≡ true
  pub unpassed : set.contains passed w ≡ false
  pub in_turn : in_order s.order w ≡ true

picked_there : (p : ℕ → Bool) (xs : List ℕ) (w : ℕ) → find p xs ≡ Some w → in_order xs w ≡ true
picked_there p [] w e = cc
picked_there p (x ∷ xs) w e =
    elim (p x) as (λ b. cond b (Some x) (find p xs) ≡ Some w → in_order (x ∷ xs) w ≡ true) [
      | true ↦ λ f. let same : x ≡ w = cc in grind (arith, nat_tests)
      | false ↦ λ f. true_or (x == w) (in_order xs w) (picked_there p xs w f)
    ] e

pub is_picked : {L : Type 0} (a b : Acceptor L) (passed : Numbers) (w : ℕ) → Tried a b passed → picked b.core passed ≡ Some w → IsPicked b.core passed w
is_picked a b passed w t e =
    let passes = finds (λ v. set.contains b.core.free v && not (set.contains passed v)) (round b.core.order b.core.next) w e in
    let first = picked_first (λ v. set.contains b.core.free v) (λ v. set.contains passed v) (round b.core.order b.core.next) w t.last e in
    record {
      first = ap (find (λ v. set.contains b.core.free v)) t.last.parts ∙ first.first;
      free = and_left (set.contains b.core.free w) (not (set.contains passed w)) passes;
      unpassed = not_true (set.contains passed w) (and_right (set.contains b.core.free w) (not (set.contains passed w)) passes);
      in_turn = sym (in_round b.core.order b.core.next w) ∙ picked_there (λ v. set.contains b.core.free v && not (set.contains passed v)) (round b.core.order b.core.next) w e;
    }

refused_logs : {L : Type 0} (b c : Acceptor L) (w : ℕ) → Refuses b c w → first_free b.core ≡ Some w → in_order b.core.order w ≡ true → w < length b.core.out → is_some b.core.waiting ≡ true
    → Logs b.core c.core b.events.items c.events.items
refused_logs b c w r first there below waits =
    let number : is_worker (step b.core (RingFull w)) w ≡ true = grind (arith, nat_tests) in
    logs_trans {b = step b.core (RingFull w)} {ys = b.events.items ++ RingFull w ∷ []}
    (logs_one b.core (step b.core (RingFull w)) b.events.items (b.events.items ++ RingFull w ∷ []) (RingFull w) (may_offer b.core w waits below first) tt refl refl)
    (logs_one (step b.core (RingFull w)) c.core (b.events.items ++ RingFull w ∷ []) c.events.items (Notice w) number (there, full_then b.core w) r.core
    (r.events ∙ sym (append_assoc b.events.items (RingFull w ∷ []) (Notice w ∷ []))))

pub tried_more : {L : Type 0} (a b c : Acceptor L) (passed then : Numbers) (w : ℕ) → Tried a b passed → picked b.core passed ≡ Some w → w < length b.core.out → is_some b.core.waiting ≡ true
    → Refuses b c w → then ≡ with_mark passed w true → Tried a c then
tried_more a b c passed then w t e below waits r is =
    let p = is_picked a b passed w t e in
    let order : c.core.order ≡ b.core.order = ap (λ (s : Core). s.order) r.core in
    let next : c.core.next ≡ behind b.core.order w = ap (λ (s : Core). s.next) r.core in
    let frees : (v : ℕ) → set.contains c.core.free v ≡ set.contains b.core.free v = λ v. ap (λ (s : Core). set.contains s.free v) r.core ∙ free_again b.core w p.in_turn p.free v in
    let passes : (v : ℕ) → set.contains then v ≡ (nat_eq v w || set.contains passed v) = λ v. now_passed passed then w v is in
    let fewer = tried_one (λ v. set.contains passed v) (λ v. set.contains then v) w b.core.order p.unpassed passes in
    record {
      full = t.full ++ w ∷ [];
      events = r.events ∙ ap (λ es. es ++ (RingFull w ∷ Notice w ∷ [])) t.events ∙ append_assoc a.events.items (refusals t.full) (RingFull w ∷ Notice w ∷ [])
          ∙ ap (λ es. a.events.items ++ es) (sym (refusals_push t.full w));
      once = distinct-push t.full w (sym (t.passes w) ∙ p.unpassed) t.once;
      no_place = λ v i.
          elim (in_order t.full v) as (λ b. in_order t.full v ≡ b → HasNoPlace c.parcels.items v) [
            | true ↦ λ there. r.others v (t.no_place v there)
            | false ↦ λ out.
                let here : ((w == v) || false) ≡ true = or_true (in_order t.full v) ((w == v) || false) (sym (list_any-append (λ x. x == v) t.full (w ∷ [])) ∙ i) out in
                let same : w ≡ v = grind (arith, nat_tests) in
                subst (λ u. HasNoPlace c.parcels.items u) same r.no_place
          ] refl;
      passes = λ v. passes v ∙ or_push (nat_eq v w) (w == v) (set.contains passed v) (in_order t.full v) (nat_eq_equiv.symm v w) (t.passes v) ∙ sym (list_any-append (λ x. x == v) t.full (w ∷ []));
      stays = stays_trans t.stays r.stays;
      waiting = r.waiting ∙ t.waiting;
      rings = keeps_sent_trans _ _ _ t.rings r.rings;
      logs = logs_trans t.logs (refused_logs b c w r p.first p.in_turn below waits);
      core_waiting = ap (λ (s : Core). s.waiting) r.core ∙ t.core_waiting;
      order = order ∙ t.order;
      out = ap (λ (s : Core). s.out) r.core ∙ t.out;
      free = λ v. frees v ∙ t.free v;
      last = passed_on (λ v. set.contains b.core.free v) (λ v. set.contains c.core.free v) (λ v. set.contains passed v) (λ v. set.contains then v)
          (round b.core.order b.core.next) (round c.core.order c.core.next) w t.last e frees passes
          (ap₂ round order next ∙ turned b.core.order b.core.next w t.in_turn p.in_turn);
      in_turn = λ v. omega (arith, ap (times v) order, t.in_turn v);
      room = omega (
        arith,
        fewer,
        times_some w b.core.order p.in_turn,
        ap (untried (λ v. set.contains then v)) order,
        ap (λ (es : List Event). length es) r.events,
        length-append b.events.items (RingFull w ∷ Notice w ∷ []),
        t.room,
      );
    }

pub fewer_left : {L : Type 0} (a b c : Acceptor L) (passed then : Numbers) (w : ℕ) → Tried a b passed → picked b.core passed ≡ Some w → Refuses b c w → then ≡ with_mark passed w true
    → untried (λ v. set.contains then v) c.core.order < untried (λ v. set.contains passed v) b.core.order
fewer_left a b c passed then w t e r is =
    let p = is_picked a b passed w t e in
    let order : c.core.order ≡ b.core.order = ap (λ (s : Core). s.order) r.core in
    let fewer = tried_one (λ v. set.contains passed v) (λ v. set.contains then v) w b.core.order p.unpassed (λ v. now_passed passed then w v is) in
    omega (arith, fewer, times_some w b.core.order p.in_turn, ap (untried (λ v. set.contains then v)) order)

-- there is room for two events more
pub room_left : {L : Type 0} (a b : Acceptor L) (passed : Numbers) (w : ℕ) → Tried a b passed → picked b.core passed ≡ Some w → length b.events.items + 2 ≤ length a.events.items + 2 * length a.core.out
room_left a b passed w t e =
    let p = is_picked a b passed w t e in
    let fewer = tried_one (λ v. set.contains passed v) (λ v. nat_eq v w || set.contains passed v) w b.core.order p.unpassed (λ v. refl) in
    omega (arith, fewer, times_some w b.core.order p.in_turn, t.room)

module _ {T A P : Type 0} where
  length_map : {Y : Type 0} (f : Producer T A P → Y) (xs : List (Producer T A P)) → length (map f xs) ≡ length xs
  length_map f [] = refl
  length_map f (x ∷ xs) = ap suc (length_map f xs)

  puts_after : (ps qs rs : List (Producer T A P)) (w : ℕ) (item : T) → KeepsSent ps qs → PutsAt qs rs w item → PutsAt ps rs w item
  puts_after ps qs rs w item k p = record {
    rings = p.rings ∙ k.rings;
    inside = omega (arith, p.inside, length_map (λ r. sent r) ps, length_map (λ r. sent r) qs, ap (λ xs. length xs) k.sent_on);
    sent_on = p.sent_on ∙ ap (λ (xs : List (List T)). slice_set xs w (slice_index_or xs w [] ++ item ∷ [])) k.sent_on;
  }

pub was_sent : {L : Type 0} (a b c : Acceptor L) (passed : Numbers) (w : ℕ) → Tried a b passed → picked b.core passed ≡ Some w → Sends b c w → WasSent a c w
was_sent a b c passed w t e s =
    let p = is_picked a b passed w t e in
    let took : in_order t.full w ≡ false = sym (t.passes w) ∙ p.unpassed in
    record {
      full = t.full;
      remains = s.remains;
      refused = record {
        events = s.events ∙ ap (λ es. es ++ (Sent w s.remains ∷ [])) t.events ∙ append_assoc a.events.items (refusals t.full) (Sent w s.remains ∷ []);
        once = t.once;
        no_place = λ v i. s.others v (λ same. absurd (true≢false (sym (ap (in_order t.full) (sym same) ∙ i) ∙ took))) (t.no_place v i);
      };
      took = took;
      free = sym (t.free w) ∙ p.free;
      waiting = s.waiting;
      placed = s.placed;
      was = sym t.waiting ∙ s.was;
      rings = puts_after _ _ _ w (parcel_of s.placed) t.rings s.rings;
      out = ap (λ (u : Core). u.out) s.core ∙ ap (λ xs. slice_set xs w (slice_index xs w + 1)) t.out;
    }

pub sent_logs : {L : Type 0} (a b c : Acceptor L) (passed : Numbers) (w : ℕ) → Tried a b passed → picked b.core passed ≡ Some w → w < length b.core.out → is_some b.core.waiting ≡ true → Sends b c w
    → Logs a.core c.core a.events.items c.events.items
sent_logs a b c passed w t e below waits s =
    let p = is_picked a b passed w t e in
    logs_trans t.logs (logs_one b.core c.core b.events.items c.events.items (Sent w s.remains) (may_offer b.core w waits below p.first) tt s.core s.events)

pub still_waits : {L : Type 0} (a b : Acceptor L) (passed : Numbers) → Tried a b passed → is_some a.waiting ≡ true
    → ((w : ℕ) → set.contains b.core.free w ≡ true → set.contains passed w ≡ true) → StillWaits a b
still_waits a b passed t waits all = record {
  full = t.full;
  refused = record { events = t.events ∙ ap (λ es. a.events.items ++ es) (sym (append-nil (refusals t.full))); once = t.once; no_place = t.no_place };
  all = λ w free. sym (t.passes w) ∙ all w free;
  free = t.free;
  waits = waits;
  waiting = t.waiting;
  rings = t.rings;
  out = t.out;
}

pub waits_too : {L : Type 0} (o : Option ℕ) (w : Option (Waiting L)) → o ≡ option_map (λ (x : Waiting L). x.token) w → is_some o ≡ is_some w
waits_too o None e = ap is_some e
waits_too o (Some x) e = ap is_some e

all_number : (n : ℕ) (xs : List ℕ) → All (λ w. w < n) xs → (w : ℕ) → in_order xs w ≡ true → w < n
all_number n [] all w i = absurd (true≢false (sym i))
all_number n (x ∷ xs) all w i =
    elim (x == w) as (λ b. (x == w) ≡ b → w < n) [
      | true ↦ λ same. let is : x ≡ w = grind (arith, nat_tests) in subst (λ v. v < n) is (All-head (λ v. v < n) x xs all)
      | false ↦ λ other. all_number n xs (All-tail (λ v. v < n) x xs all) w (or_true (x == w) (in_order xs w) i other)
    ] refl

-- distinct workers are no more than there are
pub turns_fit : (n : ℕ) (order : List ℕ) → All (λ w. w < n) order → IsDistinct nat_eq order → length order ≤ n
turns_fit n order all distinct = length-le_from_distinct_below order n distinct (λ q i. all_number n order all q (sym (flipped order q) ∙ i))
