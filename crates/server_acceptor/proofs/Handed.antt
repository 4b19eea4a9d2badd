-- What is handed on where a note was taken, or a ring was looked at.
use Rattle.std.proofs.Common.{◌≡◌, ◌^◌, ◌<◌, ◌++◌, ◌∷◌, [], ℕ, ◌+◌, ◌-◌, Bool, true, false, cond, List, length, map, get_or, set, Any, Contains, Option, refl, sym, ◌∙◌, ap, ap₂, arith, subst}
use Rattle.std.specs.Prelude.{count_by, is_some, nat_eq, slice_index, slice_index_or, slice_set}
use Rattle.std.specs.List.{list_all}
use Rattle.std.specs.declared.alloc.Global.{Global}
use Rattle.std.proofs.lemmas.List.{append-nil}
use Rattle.std.proofs.lemmas.List.Elements.{All-cons, All-nil}
use Rattle.rtrb.specs.Ring.{received, SameConsumer}
use Rattle.rtrb.specs.declared.AnyItems.{AnyItems}
use Rattle.rtrb.specs.declared.consumer.Consumer.{Consumer}
use Rattle.service_core.specs.Link.{Identity}
use Rattle.server_core.specs.Core.{Core}
use Rattle.server_core.specs.declared.event.Event.{Event}
use Rattle.server_run.specs.Done.{Adds}
use Rattle.server_run.specs.Listener.{Mark}
use Rattle.server_run.specs.Outcome.{is_stopped}
use Rattle.server_run.specs.declared.entry.Entry.{Entry}
use Rattle.server_jobs.specs.Cards.{of_note}
use Rattle.server_jobs.specs.declared.note.Note.{Note}
use Rattle.server_jobs.specs.declared.note.Note.TheVariants.{Back, Ready}
use Rattle.server_acceptor.specs.Accepting.{Acts, is_back}
use Rattle.server_acceptor.specs.Carrying.{came_back}
use Rattle.server_acceptor.specs.Handing.{AllReturn, Hands, HandsBy}
use Rattle.server_acceptor.specs.Logging.{Logs}
use Rattle.server_acceptor.specs.Notes.{count_back}
use Rattle.server_acceptor.specs.Rings.{ring_out}
use Rattle.server_acceptor.specs.declared.acceptor.Acceptor.{Acceptor}
use Rattle.server_acceptor.proofs.Giving.{adds_none}
use Rattle.server_acceptor.proofs.HandsDoes.{hands_acts}
use Rattle.server_acceptor.proofs.HandSteps.{balance_then, came_then, kept_then, noted_then, rings_then}
use Rattle.server_acceptor.proofs.NoteSteps.{looked_balance, looked_came, looked_kept, looked_rings}
use Rattle.server_acceptor.proofs.Taking.{backs_more, count_as_none, count_as_one, has_still, received_more}

-- what stays where the ends of the rings back and the core alone change
pub record KeepsElse {L : Type 0} (a b : Acceptor L) : Type 0 where
  pub parcels : b.parcels ≡ a.parcels
  pub waiting : b.waiting ≡ a.waiting
  pub ready : b.ready ≡ a.ready
  pub stopped : b.stopped ≡ a.stopped
  pub forced : b.forced ≡ a.forced
  pub stop : b.stop ≡ a.stop
  pub serial : b.serial ≡ a.serial
  pub places : b.places ≡ a.places
  pub failed : b.failed ≡ a.failed
  pub first : b.first ≡ a.first
  pub limit : b.limit ≡ a.limit
  pub retry_limit : b.retry_limit ≡ a.retry_limit
  pub shutdown_timeout : b.shutdown_timeout ≡ a.shutdown_timeout
  pub lacks_room : b.lacks_room ≡ a.lacks_room

-- what stays of the core where connections come back
pub record KeepsCore (s t : Core) : Type 0 where
  pub ended : t.ended ≡ s.ended
  pub failures : t.failures ≡ s.failures
  pub waiting : t.waiting ≡ s.waiting
  pub order : t.order ≡ s.order
  pub paused : t.paused ≡ s.paused
  pub stopping : t.stopping ≡ s.stopping

module _ {L D : Type 0} (identity : L → Identity) (taken : D → Option (List (Entry L))) (count served : D → ℕ) (a b : Acceptor L) (w : ℕ) (p q : Consumer (Note L) Global AnyItems)
    (now : b.notes.items ≡ set a.notes.items w q) (inside : w < length a.notes.items) (is : p ≡ get_or a.notes.items w p) (ring : SameConsumer p q) (keeps : KeepsElse a b) where
  -- the ring back of a worker was looked at
  pub hands_looked : (d : D) → (count d < 2 ^ 64) × (served d < 2 ^ 64) → received q ≡ received p → b.core ≡ a.core → b.events ≡ a.events → Hands identity taken count served a b d d
  hands_looked d fits same core events =
      let came = same ∙ sym (append-nil (received p)) in
      let s = keeps in
      record {
        entries = [];
        adds = adds_none taken count served d fits;
        rings = ap (map ring_out) now ∙ looked_rings a.notes.items w p q inside is same ring;
        back = λ h. ap (came_back identity h) now ∙ looked_came a.notes.items w p q inside is same identity h;
        noted = All-nil _;
        founded = All-nil _;
        kept = λ e any. subst (λ ns. Any (λ c. Contains (received c) (Back e)) ns) (sym now) (looked_kept a.notes.items w p q inside is same (Back e) any);
        balance = λ v. ap₂ (λ ns (k : Core). count_back identity ns v + slice_index k.out v) now core ∙ looked_balance a.notes.items w p q inside is same identity a.core.out v;
        ended = ap (λ (k : Core). k.ended) core;
        core_waiting = ap (λ (k : Core). k.waiting) core;
        order = ap (λ (k : Core). k.order) core;
        paused = ap (λ (k : Core). k.paused) core;
        stopping = ap (λ (k : Core). k.stopping) core;
        parcels = s.parcels;
        waiting = s.waiting;
        stopped = s.stopped;
        forced = s.forced;
        stop = s.stop;
        shutdown_timeout = s.shutdown_timeout;
        serial = s.serial;
        places = s.places;
        failed = s.failed;
        limit = s.limit;
        retry_limit = s.retry_limit;
        lacks_room = s.lacks_room;
        first = s.first;
        failures = ap (λ (k : Core). k.failures) core;
        logs = record { more = []; appended = ap (λ v. v.items) events ∙ sym (append-nil a.events.items); allowed = tt; of_use = tt; core = core };
        returns = tt;
        backs = λ v. backs_more b.notes.items a.notes.items w p q [] now inside is came identity v ∙ count_as_none _ _ 0 refl;
        ready = λ all. ap (λ v. list_all (λ r. r) v.items) s.ready ∙ all;
        marks = λ told v on. has_still b.notes.items a.notes.items w p q [] now inside is came Ready v (told v (ap (λ r. slice_index_or r.items v false) (sym s.ready) ∙ on));
        early = λ none. refl;
        receives = λ v. let e = received_more b.notes.items a.notes.items w p q [] now inside is came v in record { more = e.0; came = e.1 };
      }

  -- a connection was taken from it
  module _ (note : Note L) (entry : Entry L) (more : received q ≡ received p ++ note ∷ []) (note_is : note ≡ Back entry) where
    pub handed_back : {xs ys : List Event} (d e : D) → Adds taken count served d e (entry ∷ []) → (is_stopped entry.outcome ≡ true → is_some b.core.stopping ≡ true)
        → w < length a.core.out → 0 < slice_index a.core.out w → b.core.out ≡ slice_set a.core.out w (slice_index a.core.out w - 1) → KeepsCore a.core b.core → 0 < b.serial
        → (logs : Logs a.core b.core xs ys) → AllReturn logs.more → ((v : ℕ) → count_by (is_back v) logs.more ≡ cond (nat_eq w v) 1 0)
        → HandsBy identity taken count served a b d e xs ys
    handed_back d e adds founded number some out core given logs returns backs =
        let s = keeps in
        let ns = b.notes.items in
        let ps = a.notes.items in
        record {
          entries = entry ∷ [];
          adds = adds;
          rings = rings_then ns ps w p q note entry now inside is more note_is ring;
          back = λ h. came_then ns ps w p q note entry now inside is more note_is identity h;
          noted = noted_then ns ps w p q note entry now inside is more note_is;
          founded = All-cons (λ (x : Entry L). is_stopped x.outcome ≡ true → is_some b.core.stopping ≡ true) entry [] founded (All-nil _);
          kept = kept_then ns ps w p q note entry now inside is more note_is;
          balance = balance_then ns ps w p q note entry now inside is more note_is identity a.core.out b.core.out number some out;
          ended = core.ended;
          core_waiting = core.waiting;
          order = core.order;
          paused = core.paused;
          stopping = core.stopping;
          parcels = s.parcels;
          waiting = s.waiting;
          stopped = s.stopped;
          forced = s.forced;
          stop = s.stop;
          shutdown_timeout = s.shutdown_timeout;
          serial = s.serial;
          places = s.places;
          failed = s.failed;
          limit = s.limit;
          retry_limit = s.retry_limit;
          lacks_room = s.lacks_room;
          first = s.first;
          failures = core.failures;
          logs = logs;
          returns = returns;
          backs = λ v. backs_more ns ps w p q (note ∷ []) now inside is more identity v ∙ count_as_one _ _ _ _ (ap (of_note identity (λ x. 1)) note_is) (backs v);
          ready = λ all. ap (λ v. list_all (λ r. r) v.items) s.ready ∙ all;
          marks = λ told v on. has_still ns ps w p q (note ∷ []) now inside is more Ready v (told v (ap (λ r. slice_index_or r.items v false) (sym s.ready) ∙ on));
          early = λ none. absurd (omega (arith, given, s.serial, none));
          receives = λ v. let r = received_more ns ps w p q (note ∷ []) now inside is more v in record { more = r.0; came = r.1 };
        }

module _ {Li L D : Type 0} (given : Li → ℕ) (left : Li → Option (List L)) (rest : Li → Option (List Mark)) (identity : L → Identity) (ended : Li → Bool) (faults : Li → ℕ)
    (taken : D → Option (List (Entry L))) (count served : D → ℕ) where
  -- to look is no event
  pub looked_acts : (ls : List Li) (a b : Acceptor L) (w : ℕ) (p q : Consumer (Note L) Global AnyItems) → b.notes.items ≡ set a.notes.items w q → w < length a.notes.items → p ≡ get_or a.notes.items w p
      → SameConsumer p q → KeepsElse a b → (d : D) → (count d < 2 ^ 64) × (served d < 2 ^ 64) → received q ≡ received p → b.core ≡ a.core → b.events ≡ a.events
      → Acts given left rest identity ended faults taken count served ls ls a b d d [] false
  unfolding hands_looked
  looked_acts ls a b w p q now inside is ring keeps d fits same core events =
      hands_acts given left rest identity ended faults taken count served ls a b d d fits (hands_looked identity taken count served a b w p q now inside is ring keeps d fits same core events)
