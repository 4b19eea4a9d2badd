-- What the acceptor did where it put the connection that waits on a ring, or tried to.
use Rattle.std.proofs.Common.{◌≡◌, ◌≢◌, ◌^◌, ◌<◌, ◌≤◌, ◌⊎◌, ◌++◌, ◌∷◌, [], ℕ, ◌+◌, Bool, true, false, true≢false, cond, List, length, map, Contains, Option, Some, None, IfSome, refl, sym, ◌∙◌, ap, arith, subst, inl, inr, append-nil, length-append, get_or-set_same, get_or-set_other}
use Rattle.std.specs.Prelude.{◌==◌, count_by, is_some, nat_eq, slice_get, slice_index, slice_index_or, sum}
use Rattle.std.specs.List.{list_all, IsDistinct}
use Rattle.std.specs.Option.{option_map}
use Rattle.std.proofs.Math.ListN.{length-set}
use Rattle.std.proofs.lemmas.Bool.{cases_eq}
use Rattle.std.proofs.lemmas.Bool.Decides.{nat_tests}
use Rattle.std.proofs.lemmas.List.{append_cancel_left}
use Rattle.std.proofs.lemmas.List.Sums.{sum_by-append}
use Rattle.std.proofs.lemmas.List.Elements.{All-nil, Contains-append_left, Contains-append_right, Contains-push}
use Rattle.rtrb.specs.Ring.{known_items, received}
use Rattle.service_core.specs.Link.{Identity}
use Rattle.server_core.specs.Core.{Core, held, in_order, step}
use Rattle.server_core.specs.Runs.{after_all}
use Rattle.server_core.specs.declared.event.Event.{Event}
use Rattle.server_core.specs.declared.event.Event.TheVariants.{Notice, RingFull, Sent as SentTo}
use Rattle.server_core.proofs.Orders.{or_true}
use Rattle.server_run.specs.Delivery.{rest_at}
use Rattle.server_run.specs.Listener.{Mark}
use Rattle.server_run.specs.declared.entry.Entry.{Entry}
use Rattle.server_acceptor.proofs.PutSteps.{puts_at, puts_kept}
use Rattle.server_acceptor.specs.Accepting.{Puts}
use Rattle.server_acceptor.specs.Sending.{sent_to}
use Rattle.server_acceptor.proofs.Giving.{adds_none}
use Rattle.server_jobs.specs.declared.note.Note.TheVariants.{Ready}
use Rattle.server_jobs.specs.declared.waiting.Waiting.{Waiting as IsWaiting}
use Rattle.server_acceptor.specs.Accepting.{AsksFrom, Does, HasTaken, HasTold, IsRefused, IsShort, LeavesStops, Proceeds, is_back, is_command, is_failed, is_got, is_sent, marks_of, once_more, received_at, refused, refused_by}
use Rattle.server_acceptor.specs.Acceptors.{events_of, out_of}
use Rattle.server_acceptor.specs.Carrying.{Carries}
use Rattle.server_acceptor.specs.Handing.{Hands}
use Rattle.server_acceptor.specs.Logging.{Logs}
use Rattle.server_acceptor.specs.Notes.{AreLeft, count_back}
use Rattle.server_acceptor.specs.Placing.{parcel_of, refusals, IsPlaced, Stays}
use Rattle.server_acceptor.specs.Rings.{count_put, ring_in, ring_out}
use Rattle.server_acceptor.specs.declared.placed.Placed.{Placed}
use Rattle.server_acceptor.specs.declared.placed.Placed.TheVariants.{Sent, Waiting, Nothing}
use Rattle.server_acceptor.specs.declared.acceptor.Acceptor.{Acceptor}
use Rattle.server_acceptor.proofs.CarrySteps.{carries_placed, count_kept, count_sent}
use Rattle.server_acceptor.proofs.DoesSteps.{untouched_none}
use Rattle.server_acceptor.proofs.HandsDoes.{none_failed, tells_same}
use Rattle.server_acceptor.proofs.LeaveSteps.{leaves_handed, leaves_trans}
use Rattle.server_acceptor.proofs.Sendings.{forced_kept, forced_put, stopped_kept, stopped_put}
use Rattle.server_acceptor.specs.Sending.{IsForced, IsStopped}
use Rattle.server_acceptor.proofs.LogSteps.{after_append, stops_later}
use Rattle.server_acceptor.proofs.MarkSteps.{marked_none, marks_without, row_none}
use Rattle.server_acceptor.proofs.NoteSteps.{refused_append, short_still}
use Rattle.server_acceptor.proofs.PlaceSteps.{sum_higher}
use Rattle.server_acceptor.proofs.Rotating.{distinct_times, times, times_none}

-- ---- the events of rings that refused
-- they count for none but themselves
count_refusals : (test : Event → Bool) → ((w : ℕ) → test (RingFull w) ≡ false) → ((w : ℕ) → test (Notice w) ≡ false) → (full : List ℕ) (rest : List Event) → count_by test (refusals full ++ rest) ≡ count_by test rest
count_refusals test ring notice [] rest = refl
count_refusals test ring notice (w ∷ full) rest =
    omega (arith, sum_by-append (λ x. cond (test x) 1 0) (RingFull w ∷ Notice w ∷ []) (refusals full ++ rest), ap {B = ℕ} (λ b. cond b 1 0) (ring w), ap {B = ℕ} (λ b. cond b 1 0) (notice w), count_refusals test ring notice full rest)

-- the listeners stay
ended_refusals : (full : List ℕ) (s : Core) → (after_all s (refusals full)).ended ≡ s.ended
ended_refusals [] s = refl
ended_refusals (w ∷ full) s = ended_refusals full (step (step s (RingFull w)) (Notice w))

failures_refusals : (full : List ℕ) (s : Core) → (after_all s (refusals full)).failures ≡ s.failures
failures_refusals [] s = refl
failures_refusals (w ∷ full) s = failures_refusals full (step (step s (RingFull w)) (Notice w))

stopping_refusals : (full : List ℕ) (s : Core) → (after_all s (refusals full)).stopping ≡ s.stopping
stopping_refusals [] s = refl
stopping_refusals (w ∷ full) s = stopping_refusals full (step (step s (RingFull w)) (Notice w))

paused_refusals : (full : List ℕ) (s : Core) → (after_all s (refusals full)).paused ≡ s.paused
paused_refusals [] s = refl
paused_refusals (w ∷ full) s = paused_refusals full (step (step s (RingFull w)) (Notice w))

-- each of them refused
contains_refusals : (full : List ℕ) (w : ℕ) → in_order full w ≡ true → Contains (refusals full) (RingFull w)
contains_refusals [] w has = absurd (true≢false (sym has))
contains_refusals (x ∷ full) w has = elim (x == w) as (λ b. (x == w) ≡ b → Contains (refusals (x ∷ full)) (RingFull w)) [
  | true ↦ λ here.
      let same : x ≡ w = grind (arith, nat_tests) in
      subst (λ v. Contains (refusals (x ∷ full)) (RingFull v)) same (Contains-append_left (RingFull x ∷ []) (Notice x ∷ refusals full) (RingFull x) (Contains-push [] (RingFull x)))
  | false ↦ λ other. Contains-append_right (RingFull x ∷ Notice x ∷ []) (refusals full) (RingFull w) (contains_refusals full w (or_true (x == w) (in_order full w) has other))
] refl

-- none of them refused twice
refused_all : (earlier full : List ℕ) → ((v : ℕ) → times v earlier + times v full ≤ 1) → (all : List ℕ) × (refused (Some earlier) (refusals full) ≡ Some all)
refused_all earlier [] once = (earlier, refl)
refused_all earlier (w ∷ full) once =
    let itself : (w == w) ≡ true = grind (arith, nat_tests) in
    let first : in_order earlier w ≡ false = times_none w earlier (omega (arith, once w, ap {B = ℕ} (λ b. cond b 1 0) itself)) in
    let rest = refused_all (w ∷ earlier) full (λ v. omega (arith, once v)) in
    (rest.0, ap (λ b. refused (refused_by (once_more b earlier w) (Notice w)) (refusals full)) first ∙ rest.1)

refused_once : (full : List ℕ) → IsDistinct nat_eq full → (all : List ℕ) × (refused (Some []) (refusals full) ≡ Some all)
refused_once full distinct = refused_all [] full (λ v. omega (arith, distinct_times full distinct v))

-- ---- the events of a placing, as the core follows them
record Placing {L : Type 0} (identity : L → Identity) (a b : Acceptor L) (events : List Event) : Type 0 where
  got : (t : ℕ) → count_by (is_got t) events ≡ 0
  failed : (t : ℕ) → count_by (is_failed t) events ≡ 0
  back : (w : ℕ) → count_by (is_back w) events ≡ 0
  sent_on : (w : ℕ) → count_put identity b.parcels.items w ≡ count_put identity a.parcels.items w + count_by (is_sent w) events
  commands : count_by is_command events ≡ 0
  paused : b.core.paused ≡ a.core.paused
  forced : (w : ℕ) → IsForced b.parcels.items w → IsForced a.parcels.items w
  stopped : (w : ℕ) → IsStopped b.parcels.items w → IsStopped a.parcels.items w
  over : b.core.ended ≡ a.core.ended
  failures : b.core.failures ≡ a.core.failures
  stopping : b.core.stopping ≡ a.core.stopping
  workers : length b.core.out ≡ length a.core.out
  rings : map ring_in b.parcels.items ≡ map ring_in a.parcels.items

module _ {L : Type 0} (identity : L → Identity) (a b : Acceptor L) where
  -- what is added to the events is known
  added : (logs : Logs a.core b.core a.events.items b.events.items) (xs : List Event) → b.events.items ≡ a.events.items ++ xs → logs.more ≡ xs
  added logs xs is = append_cancel_left a.events.items logs.more xs (sym logs.appended ∙ is)

  over_after : (logs : Logs a.core b.core a.events.items b.events.items) (full : List ℕ) (rest : List Event) → b.events.items ≡ a.events.items ++ (refusals full ++ rest)
      → ((s : Core) → (after_all s rest).ended ≡ s.ended) → b.core.ended ≡ a.core.ended
  over_after logs full rest is same = ap (λ (s : Core). s.ended) (logs.core ∙ ap (after_all a.core) (added logs (refusals full ++ rest) is) ∙ after_append a.core (refusals full) rest)
      ∙ same (after_all a.core (refusals full)) ∙ ended_refusals full a.core

  failures_after : (logs : Logs a.core b.core a.events.items b.events.items) (full : List ℕ) (rest : List Event) → b.events.items ≡ a.events.items ++ (refusals full ++ rest)
      → ((s : Core) → (after_all s rest).failures ≡ s.failures) → b.core.failures ≡ a.core.failures
  failures_after logs full rest is same = ap (λ (s : Core). s.failures) (logs.core ∙ ap (after_all a.core) (added logs (refusals full ++ rest) is) ∙ after_append a.core (refusals full) rest)
      ∙ same (after_all a.core (refusals full)) ∙ failures_refusals full a.core

  stopping_after : (logs : Logs a.core b.core a.events.items b.events.items) (full : List ℕ) (rest : List Event) → b.events.items ≡ a.events.items ++ (refusals full ++ rest)
      → ((s : Core) → (after_all s rest).stopping ≡ s.stopping) → b.core.stopping ≡ a.core.stopping
  stopping_after logs full rest is same = ap (λ (s : Core). s.stopping) (logs.core ∙ ap (after_all a.core) (added logs (refusals full ++ rest) is) ∙ after_append a.core (refusals full) rest)
      ∙ same (after_all a.core (refusals full)) ∙ stopping_refusals full a.core

  paused_after : (logs : Logs a.core b.core a.events.items b.events.items) (full : List ℕ) (rest : List Event) → b.events.items ≡ a.events.items ++ (refusals full ++ rest)
      → ((s : Core) → (after_all s rest).paused ≡ s.paused) → b.core.paused ≡ a.core.paused
  paused_after logs full rest is same = ap (λ (s : Core). s.paused) (logs.core ∙ ap (after_all a.core) (added logs (refusals full ++ rest) is) ∙ after_append a.core (refusals full) rest)
      ∙ same (after_all a.core (refusals full)) ∙ paused_refusals full a.core

  placing : (logs : Logs a.core b.core a.events.items b.events.items) (placed : Placed) → IsPlaced a b placed → Placing identity a b logs.more
  placing logs (Sent w) p =
      let xs : logs.more ≡ refusals p.full ++ SentTo w p.remains ∷ [] = added logs (refusals p.full ++ SentTo w p.remains ∷ []) p.refused.events in
      let within : w < length a.core.out = omega (arith, p.rings.inside, a.workers.0) in
      record {
        got = λ t. ap (count_by (is_got t)) xs ∙ count_refusals (is_got t) (λ v. refl) (λ v. refl) p.full (SentTo w p.remains ∷ []);
        failed = λ t. ap (count_by (is_failed t)) xs ∙ count_refusals (is_failed t) (λ v. refl) (λ v. refl) p.full (SentTo w p.remains ∷ []);
        back = λ v. ap (count_by (is_back v)) xs ∙ count_refusals (is_back v) (λ u. refl) (λ u. refl) p.full (SentTo w p.remains ∷ []);
        sent_on = λ v.
            let count = count_sent identity a.parcels.items b.parcels.items w v (parcel_of p.placed) a.core.out b.core.out p.rings refl within p.out in
            let more = ap (count_by (is_sent v)) xs ∙ count_refusals (is_sent v) (λ u. refl) (λ u. refl) p.full (SentTo w p.remains ∷ []) in
            elim (cases_eq v w) [
              | inl same ↦
                  let here : nat_eq w v ≡ true = grind (arith, nat_tests) in
                  omega (
                    arith,
                    count,
                    more,
                    ap {B = ℕ} (λ b. cond b 1 0) here,
                    ap (λ u. slice_index a.core.out u) same,
                    ap (λ u. slice_index b.core.out u) same,
                    ap (λ os. slice_index os w) p.out,
                    get_or-set_same a.core.out w (slice_index a.core.out w + 1) 0 within,
                  )
              | inr differ ↦
                  let elsewhere : nat_eq w v ≡ false = grind (arith, nat_tests) in
                  omega (arith, count, more, ap {B = ℕ} (λ b. cond b 1 0) elsewhere, ap (λ os. slice_index os v) p.out, get_or-set_other a.core.out w v (slice_index a.core.out w + 1) 0 differ)
            ];
        over = over_after logs p.full (SentTo w p.remains ∷ []) p.refused.events (λ s. refl);
        failures = failures_after logs p.full (SentTo w p.remains ∷ []) p.refused.events (λ s. refl);
        stopping = stopping_after logs p.full (SentTo w p.remains ∷ []) p.refused.events (λ s. refl);
        paused = paused_after logs p.full (SentTo w p.remains ∷ []) p.refused.events (λ s. refl);
        commands = ap (count_by is_command) xs ∙ count_refusals is_command (λ v. refl) (λ v. refl) p.full (SentTo w p.remains ∷ []);
        forced = λ v is. forced_put a.parcels.items b.parcels.items w v (parcel_of p.placed) refl p.rings is;
        stopped = λ v is. stopped_put a.parcels.items b.parcels.items w v (parcel_of p.placed) refl p.rings is;
        workers = ap (λ os. length os) p.out ∙ length-set a.core.out w (slice_index a.core.out w + 1);
        rings = p.rings.rings;
      }
  placing logs Waiting p =
      let xs : logs.more ≡ refusals p.full ++ [] = added logs (refusals p.full ++ []) p.refused.events in
      record {
        got = λ t. ap (count_by (is_got t)) xs ∙ count_refusals (is_got t) (λ v. refl) (λ v. refl) p.full [];
        failed = λ t. ap (count_by (is_failed t)) xs ∙ count_refusals (is_failed t) (λ v. refl) (λ v. refl) p.full [];
        back = λ v. ap (count_by (is_back v)) xs ∙ count_refusals (is_back v) (λ u. refl) (λ u. refl) p.full [];
        sent_on = λ v. omega (arith, count_kept identity a.parcels.items b.parcels.items v p.rings, ap (count_by (is_sent v)) xs, count_refusals (is_sent v) (λ u. refl) (λ u. refl) p.full []);
        over = over_after logs p.full [] p.refused.events (λ s. refl);
        failures = failures_after logs p.full [] p.refused.events (λ s. refl);
        stopping = stopping_after logs p.full [] p.refused.events (λ s. refl);
        paused = paused_after logs p.full [] p.refused.events (λ s. refl);
        commands = ap (count_by is_command) xs ∙ count_refusals is_command (λ v. refl) (λ v. refl) p.full [];
        forced = λ v is. forced_kept a.parcels.items b.parcels.items p.rings v is;
        stopped = λ v is. stopped_kept a.parcels.items b.parcels.items p.rings v is;
        workers = ap (λ os. length os) p.out;
        rings = p.rings.rings;
      }
  placing logs Nothing p =
      let xs : logs.more ≡ [] = added logs [] (ap (λ v. v.items) p.events ∙ sym (append-nil a.events.items)) in
      record {
        got = λ t. ap (count_by (is_got t)) xs;
        failed = λ t. ap (count_by (is_failed t)) xs;
        back = λ v. ap (count_by (is_back v)) xs;
        sent_on = λ v. omega (arith, ap (λ ps. count_put identity ps.items v) p.parcels, ap (count_by (is_sent v)) xs);
        over = ap (λ (s : Core). s.ended) p.core;
        failures = ap (λ (s : Core). s.failures) p.core;
        stopping = ap (λ (s : Core). s.stopping) p.core;
        paused = ap (λ (s : Core). s.paused) p.core;
        commands = ap (count_by is_command) xs;
        forced = λ v is. subst (λ ps. IsForced ps.items v) p.parcels is;
        stopped = λ v is. subst (λ ps. IsStopped ps.items v) p.parcels is;
        workers = ap (λ (s : Core). length s.out) p.core;
        rings = ap (λ ps. map ring_in ps.items) p.parcels;
      }

puts_placed : {L : Type 0} (a b : Acceptor L) (w : ℕ) (placed : Placed) → IsPlaced a b placed → Puts a b w
puts_placed a b w (Sent v) p = puts_at a b w v (parcel_of p.placed) p.rings
puts_placed a b w Waiting p = puts_kept a b w p.rings
puts_placed a b w Nothing p = record { more = []; went = ap (λ v. sent_to v.items w) p.parcels ∙ sym (append-nil _) }

module _ {Li L D : Type 0} (given : Li → ℕ) (left : Li → Option (List L)) (rest : Li → Option (List Mark)) (identity : L → Identity) (ended : Li → Bool) (faults : Li → ℕ)
    (taken : D → Option (List (Entry L))) (count served : D → ℕ) (ls : List Li) (a b : Acceptor L) (d : D) (placed : Placed) where
  pub placed_does : (count d < 2 ^ 64) × (served d < 2 ^ 64) → (logs : Logs a.core b.core a.events.items b.events.items) → Stays a b → IsPlaced a b placed
      → Does given left rest identity ended faults taken count served ls ls a b d d logs.more
  placed_does fits logs s p =
      let k = placing identity a b logs placed p in
      record {
        acts = record {
          logged = record {
            allowed = logs.allowed;
            core = logs.core;
            got = λ t. omega (arith, k.got t);
            failed = λ t some. absurd (omega (arith, some, k.failed t));
            marked = λ t. marked_none (rest_at rest ls t) (marks_of t logs.more) (marks_without t logs.more (k.got t) (k.failed t));
            failures = λ t. row_none (slice_index a.core.failures t) (slice_index b.core.failures t) (marks_of t logs.more) (marks_without t logs.more (k.got t) (k.failed t)) (ap (λ xs. slice_index xs t) k.failures);
            sent_on = k.sent_on;
            back = λ w. omega (arith, k.back w, ap (λ v. count_back identity v.items w) s.notes);
          };
          passes = record {
            more = [];
            adds = adds_none taken count served d fits;
            founded = All-nil _;
            carries = λ none_left is first entries carries. subst (λ es. Carries given left identity none_left first ls b es) (sym (append-nil entries)) (carries_placed given left identity none_left first ls a b entries placed s p carries);
          };
          awaits = record {
            stays_ready = λ all. ap (λ v. list_all (λ r. r) v.items) s.ready ∙ all;
            early = λ less. untouched_none given left rest identity ended faults taken count served ls d;
            noted = λ told w on. subst (λ v. IfSome (slice_get v.items w) (λ c. Contains (received c) Ready)) (sym s.notes) (told w (ap (λ v. slice_index_or v.items w false) (sym s.ready) ∙ on));
          };
          tells = tells_same ended faults a.retry_limit ls a.core b.core k.over k.failures;
          rings = record { parcels = k.rings; notes = ap (λ v. map ring_out v.items) s.notes };
          puts = λ w. puts_placed a b w placed p;
          receives = λ w. record { more = []; came = ap (λ v. received_at v.items w) s.notes ∙ sym (append-nil (received_at a.notes.items w)) };
          as_many = refl;
          workers = k.workers;
          listeners = ap (λ xs. length xs) k.over;
          limit = s.retry_limit;
          max = s.limit;
          lacks = λ is. s.lacks_room ∙ is;
          stops = stops_later a.core b.core logs.more logs.core;
        };
        of_use = logs.of_use;
      }

  pub placed_proceeds : (count d < 2 ^ 64) × (served d < 2 ^ 64) → Logs a.core b.core a.events.items b.events.items → Stays a b → IsPlaced a b placed
      → Proceeds given left rest identity ended faults taken count served ls ls a b d d
  placed_proceeds fits logs s p = record { more = logs.more; appended = logs.appended; does = placed_does fits logs s p }

module _ {L : Type 0} (identity : L → Identity) (a b : Acceptor L) (logs : Logs a.core b.core a.events.items b.events.items) (placed : Placed) (p : IsPlaced a b placed) where
  -- the listeners stay
  pub placed_over : b.core.ended ≡ a.core.ended
  placed_over = (placing identity a b logs placed p).over

  pub placed_failures : b.core.failures ≡ a.core.failures
  placed_failures = (placing identity a b logs placed p).failures

  pub placed_stopping : b.core.stopping ≡ a.core.stopping
  placed_stopping = (placing identity a b logs placed p).stopping

  pub placed_workers : length b.core.out ≡ length a.core.out
  placed_workers = (placing identity a b logs placed p).workers

  -- no listener failed
  pub placed_failed : (t : ℕ) → count_by (is_failed t) (events_of b) ≡ count_by (is_failed t) (events_of a)
  placed_failed t = omega (arith, ap (count_by (is_failed t)) logs.appended, sum_by-append (λ e. cond (is_failed t e) 1 0) a.events.items logs.more, (placing identity a b logs placed p).failed t)

  -- no command came, and no stop went out
  pub placed_leaves : Stays a b → LeavesStops a b
  placed_leaves s =
      let k = placing identity a b logs placed p in
      record {
        commands = omega (arith, ap (count_by is_command) logs.appended, sum_by-append (λ e. cond (is_command e) 1 0) a.events.items logs.more, k.commands);
        paused = k.paused;
        stopping = k.stopping;
        stop = s.stop;
        timeout = s.shutdown_timeout;
        forced = k.forced;
        stopped = k.stopped;
      }

  -- room for events gets no more
  pub placed_short : IsShort a → IsShort b
  placed_short short = omega (arith, short, placed_workers, ap (λ es. length es) logs.appended, length-append a.events.items logs.more)

module _ {L : Type 0} (a b : Acceptor L) where
  -- as many are at workers, or wait
  pub placed_out : (placed : Placed) → IsPlaced a b placed → out_of b ≡ out_of a
  placed_out (Sent w) p =
      let within : w < length a.core.out = omega (arith, p.rings.inside, a.workers.0) in
      omega (arith, ap sum p.out, sum_higher a.core.out w within, ap held a.waits, ap held b.waits, ap (λ o. held (option_map (λ (x : IsWaiting L). x.token) o)) p.was, ap (λ o. held (option_map (λ (x : IsWaiting L). x.token) o)) p.waiting)
  placed_out Waiting p = omega (arith, ap sum p.out, ap held a.waits, ap held b.waits, ap (λ o. held (option_map (λ (x : IsWaiting L). x.token) o)) p.waiting)
  placed_out Nothing p = ap (λ (s : Core). sum s.out + held s.waiting) p.core

  -- what is known of a worker stays where as many are out at it
  pub told_kept : (v : ℕ) → b.notes ≡ a.notes → b.core.stopping ≡ a.core.stopping → slice_index b.core.out v ≡ slice_index a.core.out v → HasTold a v → HasTold b v
  told_kept v notes stopping out told = subst (λ n. IfSome (slice_get n.items v) (λ c. AreLeft (slice_index b.core.out v) b.core.stopping (known_items c))) (sym notes)
      (subst (λ o. IfSome (slice_get a.notes.items v) (λ c. AreLeft (slice_index b.core.out v) o (known_items c))) (sym stopping)
      (subst (λ k. IfSome (slice_get a.notes.items v) (λ c. AreLeft k a.core.stopping (known_items c))) (sym out) told))

  pub told_others : (w v : ℕ) → b.notes ≡ a.notes → b.core.stopping ≡ a.core.stopping → IsPlaced a b (Sent w) → v ≢ w → HasTold a v → HasTold b v
  told_others w v notes stopping p differ told = told_kept v notes stopping (ap (λ os. slice_index os v) p.out ∙ get_or-set_other a.core.out w v (slice_index a.core.out w + 1) 0 differ) told

  -- no ring refused since it was sent
  pub refused_sent : (w : ℕ) → IsPlaced a b (Sent w) → refused (Some []) (events_of a) ≡ Some [] → refused (Some []) (events_of b) ≡ Some []
  refused_sent w p none =
      let e = refused_once p.full p.refused.once in
      ap (refused (Some [])) p.refused.events ∙ refused_append (Some []) a.events.items (refusals p.full ++ SentTo w p.remains ∷ [])
      ∙ ap (λ o. refused o (refusals p.full ++ SentTo w p.remains ∷ [])) none ∙ refused_append (Some []) (refusals p.full) (SentTo w p.remains ∷ [])
      ∙ ap (λ o. refused o (SentTo w p.remains ∷ [])) e.1

  -- none refused twice where it waits still
  pub refused_waits : IsPlaced a b Waiting → refused (Some []) (events_of a) ≡ Some [] → is_some (refused (Some []) (events_of b)) ≡ true
  refused_waits p none =
      let e = refused_once p.full p.refused.once in
      ap is_some (ap (refused (Some [])) p.refused.events ∙ refused_append (Some []) a.events.items (refusals p.full ++ [])
      ∙ ap (λ o. refused o (refusals p.full ++ [])) none ∙ refused_append (Some []) (refusals p.full) []
      ∙ e.1)

  -- each free worker refused it
  pub refused_by_all : IsPlaced a b Waiting → IsRefused b
  refused_by_all p w free = subst (λ es. Contains es (RingFull w)) (sym p.refused.events)
      (Contains-append_right a.events.items (refusals p.full ++ []) (RingFull w) (Contains-append_left (refusals p.full) [] (RingFull w) (contains_refusals p.full w (p.all w free))))

-- ---- and what came back from the worker that it was sent to
pub hands_failed : {L D : Type 0} (identity : L → Identity) (taken : D → Option (List (Entry L))) (count served : D → ℕ) (a b : Acceptor L) (d e : D) → Hands identity taken count served a b d e
    → (t : ℕ) → count_by (is_failed t) (events_of b) ≡ count_by (is_failed t) (events_of a)
hands_failed identity taken count served a b d e h t = omega (arith, ap (count_by (is_failed t)) h.logs.appended, sum_by-append (λ x. cond (is_failed t x) 1 0) a.events.items h.logs.more, none_failed h.logs.more t h.returns)

-- no listener is asked
pub none_asked : {Li L : Type 0} (ls : List Li) (a b : Acceptor L) → LeavesStops a b → b.first ≡ a.first → b.failed ≡ a.failed → b.core.ended ≡ a.core.ended
    → ((t : ℕ) → count_by (is_failed t) (events_of b) ≡ count_by (is_failed t) (events_of a)) → AsksFrom ls ls a b 0 0
none_asked ls a b leaves first failed over count = record {
  leaves = leaves;
  first = first;
  listeners = λ t out. refl;
  failed = λ t out. ap (λ v. slice_index_or v.items t None) failed;
  ended = λ t out. ap (λ xs. slice_index_or xs t true) over;
  others = λ t out. count t;
  once = λ t. omega (arith, count t);
}

module _ {L : Type 0} (identity : L → Identity) (a b : Acceptor L) (logs : Logs a.core b.core a.events.items b.events.items) where
  pub has_taken_waits : Stays a b → IsPlaced a b Waiting → HasTaken a → HasTaken b
  has_taken_waits s p told w = elim (told w) [
    | inl has ↦ inl (told_kept a b w s.notes (placed_stopping identity a b logs Waiting p) (ap (λ os. slice_index os w) p.out) has)
    | inr short ↦ inr (placed_short identity a b logs Waiting p short)
  ]

  pub has_taken_sent : {D : Type 0} (taken : D → Option (List (Entry L))) (count served : D → ℕ) (c : Acceptor L) (d e : D) (w : ℕ) → Stays a b → IsPlaced a b (Sent w) → Hands identity taken count served b c d e
      → ((v : ℕ) → v ≢ w → HasTold b v → HasTold c v) → HasTold c w ⊎ IsShort c → HasTaken a → HasTaken c
  has_taken_sent taken count served c d e w s p h others this told v = elim (cases_eq v w) [
    | inl same ↦ rw same this
    | inr differ ↦ elim (told v) [
      | inl has ↦ inl (others v differ (told_others a b w v s.notes (placed_stopping identity a b logs (Sent w) p) p differ has))
      | inr short ↦ inr (short_still identity taken count served b c d e h (placed_short identity a b logs (Sent w) p short))
    ]
  ]

  pub asked_none : {Li D : Type 0} (ls : List Li) (taken : D → Option (List (Entry L))) (count served : D → ℕ) (c : Acceptor L) (d e : D) (w : ℕ) → Stays a b → IsPlaced a b (Sent w) → Hands identity taken count served b c d e
      → AsksFrom ls ls a c 0 0
  asked_none ls taken count served c d e w s p h = none_asked ls a c (leaves_trans a b c (placed_leaves identity a b logs (Sent w) p s) (leaves_handed identity taken count served b c d e h)) (h.first ∙ s.first) (h.failed ∙ s.failed) (h.ended ∙ placed_over identity a b logs (Sent w) p)
      (λ t. hands_failed identity taken count served b c d e h t ∙ placed_failed identity a b logs (Sent w) p t)
