-- What commands make of the core and the acceptor.
use Rattle.std.proofs.Common.{◌≡◌, ◌^◌, ◌<◌, ◌≤◌, ◌++◌, ◌∷◌, [], ℕ, suc, ◌+◌, Bool, true, false, cond, List, length, Option, Some, None, refl, sym, ◌∙◌, ap, ap₂, arith, subst, inl, inr, append_assoc, append-nil, length-append}
use Rattle.std.specs.Prelude.{count_by, is_some, sum}
use Rattle.std.specs.Option.{option_map}
use Rattle.std.proofs.lemmas.List.Sums.{sum_by-append}
use Rattle.service_core.specs.Link.{Identity}
use Rattle.server_core.specs.Core.{Core, IsKept, held, step, first_of}
use Rattle.server_core.specs.Runs.{AllAllowed, after_all}
use Rattle.server_core.specs.declared.command.Command.{Command}
use Rattle.server_core.specs.declared.command.Command.TheVariants.{Pause, Resume, Stop}
use Rattle.server_core.specs.declared.event.Event.{Event}
use Rattle.server_core.specs.declared.event.Event.TheVariants.{Command as CommandOf}
use Rattle.server_run.specs.Listener.{Mark}
use Rattle.server_run.specs.declared.entry.Entry.{Entry}
use Rattle.server_run.specs.declared.outcome.Outcome.TheVariants.{Stopped}
use Rattle.server_jobs.specs.declared.waiting.Waiting.{Waiting}
use Rattle.server_acceptor.specs.Accepting.{Does, Proceeds, is_back, is_command, is_failed, is_got, is_sent, refused}
use Rattle.server_acceptor.specs.Acceptors.{events_of}
use Rattle.server_acceptor.specs.Commanding.{KeepsBeside, KeepsStop, LetsGo, Obeys, events_for, first_stop, goes_at, gone_of, stop_behind, waits_behind}
use Rattle.server_acceptor.specs.Logging.{AllOfUse}
use Rattle.server_acceptor.specs.declared.acceptor.Acceptor.{Acceptor}
use Rattle.server_acceptor.specs.declared.stop.Stop.{Stop as FirstStop}
use Rattle.server_acceptor.proofs.Giving.{adds_none}
use Rattle.server_acceptor.proofs.CoreSteps.{moves_acts}
use Rattle.server_acceptor.proofs.LogSteps.{after_append, stops_later}
use Rattle.server_acceptor.proofs.NoteSteps.{adds_trans}

-- ---- the core
pub one_out : (s : Core) (c : Command) → (step s (CommandOf c)).out ≡ s.out
one_out s Pause = refl
one_out s Resume = refl
one_out s (Stop graceful) = refl

pub one_ended : (s : Core) (c : Command) → (step s (CommandOf c)).ended ≡ s.ended
one_ended s Pause = refl
one_ended s Resume = refl
one_ended s (Stop graceful) = refl

pub one_failures : (s : Core) (c : Command) → (step s (CommandOf c)).failures ≡ s.failures
one_failures s Pause = refl
one_failures s Resume = refl
one_failures s (Stop graceful) = refl

pub one_order : (s : Core) (c : Command) → (step s (CommandOf c)).order ≡ s.order
one_order s Pause = refl
one_order s Resume = refl
one_order s (Stop graceful) = refl

pub one_free : (s : Core) (c : Command) → (step s (CommandOf c)).free ≡ s.free
one_free s Pause = refl
one_free s Resume = refl
one_free s (Stop graceful) = refl

pub one_given : (s : Core) (c : Command) → (step s (CommandOf c)).given ≡ s.given
one_given s Pause = refl
one_given s Resume = refl
one_given s (Stop graceful) = refl

pub one_waiting : (s : Core) (c : Command) → (step s (CommandOf c)).waiting ≡ waits_behind c s.waiting
one_waiting s Pause = refl
one_waiting s Resume = refl
one_waiting s (Stop graceful) = refl

all_out : (s : Core) (cs : List Command) → (after_all s (events_for cs)).out ≡ s.out
all_out s [] = refl
all_out s (c ∷ cs) = all_out (step s (CommandOf c)) cs ∙ one_out s c

all_ended : (s : Core) (cs : List Command) → (after_all s (events_for cs)).ended ≡ s.ended
all_ended s [] = refl
all_ended s (c ∷ cs) = all_ended (step s (CommandOf c)) cs ∙ one_ended s c

all_failures : (s : Core) (cs : List Command) → (after_all s (events_for cs)).failures ≡ s.failures
all_failures s [] = refl
all_failures s (c ∷ cs) = all_failures (step s (CommandOf c)) cs ∙ one_failures s c

all_allowed : (s : Core) (cs : List Command) → AllAllowed s (events_for cs)
all_allowed s [] = tt
all_allowed s (c ∷ cs) = (refl, all_allowed (step s (CommandOf c)) cs)

all_of_use : (s : Core) (cs : List Command) → AllOfUse s (events_for cs)
all_of_use s [] = tt
all_of_use s (c ∷ cs) = (tt, all_of_use (step s (CommandOf c)) cs)

-- ---- their events
pub count_none : (test : Event → Bool) → ((c : Command) → test (CommandOf c) ≡ false) → (cs : List Command) → count_by test (events_for cs) ≡ 0
count_none test none [] = refl
count_none test none (c ∷ cs) = omega (arith, sum_by-append (λ x. cond (test x) 1 0) (CommandOf c ∷ []) (events_for cs), ap {B = ℕ} (λ b. cond b 1 0) (none c), count_none test none cs)

pub count_all : (cs : List Command) → count_by is_command (events_for cs) ≡ length cs
count_all [] = refl
count_all (c ∷ cs) = omega (arith, sum_by-append (λ x. cond (is_command x) 1 0) (CommandOf c ∷ []) (events_for cs), count_all cs)

pub events_append : (cs ds : List Command) → events_for (cs ++ ds) ≡ events_for cs ++ events_for ds
events_append [] ds = refl
events_append (c ∷ cs) ds = ap (λ es. CommandOf c ∷ es) (events_append cs ds)

pub refused_commands : (full : List ℕ) (cs : List Command) → refused (Some full) (events_for cs) ≡ Some full
refused_commands full [] = refl
refused_commands full (c ∷ cs) = refused_commands full cs

length_events : (cs : List Command) → length (events_for cs) ≡ length cs
length_events [] = refl
length_events (c ∷ cs) = ap suc (length_events cs)

-- ---- the kept stop
pub keeps_stop_none : (stop : Option FirstStop) (now : ℕ) → KeepsStop stop stop now
keeps_stop_none None now = tt
keeps_stop_none (Some first) now = refl

pub keeps_stop_trans : (a b c : Option FirstStop) (now : ℕ) → KeepsStop a b now → KeepsStop b c now → KeepsStop a c now
keeps_stop_trans None None c now p q = q
keeps_stop_trans None (Some first) None now p q = tt
keeps_stop_trans None (Some first) (Some other) now p q = let same : other ≡ first = cc in ap (λ (s : FirstStop). s.since) same ∙ p
keeps_stop_trans (Some first) b c now p q = subst (λ o. KeepsStop o c now) p q

first_kept : (stop : Option FirstStop) (graceful : Bool) (now : ℕ) → KeepsStop stop (first_stop stop graceful now) now
first_kept None graceful now = refl
first_kept (Some first) graceful now = refl

pub behind_kept : (stop : Option FirstStop) (c : Command) (now : ℕ) → KeepsStop stop (stop_behind stop c now) now
behind_kept stop Pause now = keeps_stop_none stop now
behind_kept stop Resume now = keeps_stop_none stop now
behind_kept stop (Stop graceful) now = first_kept stop graceful now

abbrev pub Agree : Option Bool → Option FirstStop → Type 0
Agree stopping stop = stopping ≡ option_map (λ (s : FirstStop). s.graceful) stop

first_agrees : (stopping : Option Bool) (stop : Option FirstStop) (graceful : Bool) (now : ℕ) → Agree stopping stop → Agree (first_of stopping graceful) (first_stop stop graceful now)
first_agrees stopping None graceful now agrees = ap (λ o. first_of o graceful) agrees
first_agrees stopping (Some first) graceful now agrees = ap (λ o. first_of o graceful) agrees

pub behind_agrees : (s : Core) (stop : Option FirstStop) (c : Command) (now : ℕ) → Agree s.stopping stop → Agree (step s (CommandOf c)).stopping (stop_behind stop c now)
behind_agrees s stop Pause now agrees = agrees
behind_agrees s stop Resume now agrees = agrees
behind_agrees s stop (Stop graceful) now agrees = first_agrees s.stopping stop graceful now agrees

-- ---- what waits
behind_waits_some : {L : Type 0} (c : Command) (waiting : Option (Waiting L)) → waits_behind c (option_map (λ (w : Waiting L). w.token) waiting) ≡ option_map (λ (w : Waiting L). w.token) (waits_behind c waiting)
behind_waits_some Pause waiting = refl
behind_waits_some Resume waiting = refl
behind_waits_some (Stop graceful) waiting = refl

pub behind_waits : {L : Type 0} (s : Core) (c : Command) (waiting : Option (Waiting L)) → s.waiting ≡ option_map (λ (w : Waiting L). w.token) waiting
    → (step s (CommandOf c)).waiting ≡ option_map (λ (w : Waiting L). w.token) (waits_behind c waiting)
behind_waits s c waiting is = one_waiting s c ∙ ap (waits_behind c) is ∙ behind_waits_some c waiting

-- what is let go was counted as waiting
pub gone_counted : {L : Type 0} (c : Command) (waiting : Option (Waiting L)) → length (gone_of (Stopped false) (goes_at c waiting)) + held (option_map (λ (w : Waiting L). w.token) (waits_behind c waiting)) ≡ held (option_map (λ (w : Waiting L). w.token) waiting)
gone_counted Pause waiting = omega arith
gone_counted Resume waiting = omega arith
gone_counted (Stop graceful) None = omega arith
gone_counted (Stop graceful) (Some w) = omega arith

pub gone_few : {L : Type 0} (s : Core) (c : Command) (waiting : Option (Waiting L)) (spare : ℕ) → s.waiting ≡ option_map (λ (w : Waiting L). w.token) waiting → sum s.out + held s.waiting ≤ spare
    → length (gone_of (Stopped false) (goes_at c waiting)) ≤ spare
gone_few s c waiting spare is fits = omega (arith, fits, ap held is, gone_counted c waiting)

pub gone_spare : {L : Type 0} (s t : Core) (c : Command) (waiting : Option (Waiting L)) (spare left : ℕ) → s.waiting ≡ option_map (λ (w : Waiting L). w.token) waiting → t ≡ step s (CommandOf c)
    → sum s.out + held s.waiting ≤ spare → left + length (gone_of (Stopped false) (goes_at c waiting)) ≡ spare → sum t.out + held t.waiting ≤ left
gone_spare s t c waiting spare left is now fits rest =
    omega (arith, fits, rest, ap held is, gone_counted c waiting, ap (λ (u : Core). held u.waiting) now, ap held (behind_waits s c waiting is), ap (λ (u : Core). sum u.out) now, ap (λ xs. sum xs) (one_out s c))

-- nothing is let go where nothing was given
goes_none : {L : Type 0} (c : Command) (waiting : Option (Waiting L)) → waiting ≡ None → gone_of (Stopped false) (goes_at c waiting) ≡ []
goes_none Pause waiting is = refl
goes_none Resume waiting is = refl
goes_none (Stop graceful) waiting is = ap (λ o. gone_of (Stopped false) o) is

pub held_none : {L : Type 0} (waiting : Option (Waiting L)) → held (option_map (λ (w : Waiting L). w.token) waiting) ≡ 0 → waiting ≡ None
held_none None none = refl
held_none (Some w) none = absurd (omega (arith, none))

pub none_gone : {L : Type 0} (s : Core) (c : Command) (waiting : Option (Waiting L)) → IsKept s → s.waiting ≡ option_map (λ (w : Waiting L). w.token) waiting → s.given ≡ 0 → gone_of (Stopped false) (goes_at c waiting) ≡ []
none_gone s c waiting k is none = goes_none c waiting (held_none waiting (omega (arith, none, k.balance, ap (λ o. held o) is)))

pub goes : {L : Type 0} (a b : Acceptor L) (c : Command) → b.waiting ≡ waits_behind c a.waiting → b.core ≡ step a.core (CommandOf c) → LetsGo a b (gone_of (Stopped false) (goes_at c a.waiting))
goes a b Pause waiting core = inl (waiting, refl)
goes a b Resume waiting core = inl (waiting, refl)
goes a b (Stop graceful) waiting core = inr (waiting, refl, ap (λ (s : Core). is_some s.stopping) core ∙ some a.core.stopping)
  where
    some : (stopping : Option Bool) → is_some (first_of stopping graceful) ≡ true
    some None = refl
    some (Some first) = refl

-- ---- one command behind the other
module _ {L : Type 0} where
  pub beside_none : (a : Acceptor L) → KeepsBeside a a
  beside_none a = record { parcels = refl; notes = refl; ready = refl; stopped = refl; forced = refl; serial = refl; places = refl; failed = refl; first = refl; limit = refl; retry_limit = refl; shutdown_timeout = refl; lacks_room = refl }

  beside_trans : (a b c : Acceptor L) → KeepsBeside a b → KeepsBeside b c → KeepsBeside a c
  beside_trans a b c p q = record {
    parcels = q.parcels ∙ p.parcels;
    notes = q.notes ∙ p.notes;
    ready = q.ready ∙ p.ready;
    stopped = q.stopped ∙ p.stopped;
    forced = q.forced ∙ p.forced;
    serial = q.serial ∙ p.serial;
    places = q.places ∙ p.places;
    failed = q.failed ∙ p.failed;
    first = q.first ∙ p.first;
    limit = q.limit ∙ p.limit;
    retry_limit = q.retry_limit ∙ p.retry_limit;
    shutdown_timeout = q.shutdown_timeout ∙ p.shutdown_timeout;
    lacks_room = q.lacks_room ∙ p.lacks_room;
  }

  lets_trans : (a b c : Acceptor L) (xs ys : List (Entry L)) → (is_some b.core.stopping ≡ true → is_some c.core.stopping ≡ true) → LetsGo a b xs → LetsGo b c ys → LetsGo a c (xs ++ ys)
  lets_trans a b c xs ys stops (inl p) (inl q) = inl (q.0 ∙ p.0, ap₂ (λ u v. u ++ v) p.1 q.1)
  lets_trans a b c xs ys stops (inl p) (inr q) = inr (q.0, ap₂ (λ u v. u ++ v) p.1 (q.1 ∙ ap (λ o. gone_of (Stopped false) o) p.0), q.2)
  lets_trans a b c xs ys stops (inr p) (inl q) = inr (q.0 ∙ p.0, ap₂ (λ u v. u ++ v) p.1 q.1 ∙ append-nil (gone_of (Stopped false) a.waiting), stops p.2)
  lets_trans a b c xs ys stops (inr p) (inr q) = inr (q.0, ap₂ (λ u v. u ++ v) p.1 (q.1 ∙ ap (λ o. gone_of (Stopped false) o) p.0) ∙ append-nil (gone_of (Stopped false) a.waiting), q.2)

  module _ {D : Type 0} (taken : D → Option (List (Entry L))) (count served : D → ℕ) where
    pub obeys_none : (a : Acceptor L) (d : D) (now : ℕ) → (count d < 2 ^ 64) × (served d < 2 ^ 64) → Obeys taken count served a a d d [] now
    obeys_none a d now fits = record {
      gone = [];
      adds = adds_none taken count served d fits;
      lets_go = inl (refl, refl);
      early = λ none. refl;
      core = refl;
      events = sym (append-nil a.events.items);
      stop = keeps_stop_none a.stop now;
      beside = beside_none a;
    }

    pub obeys_trans : (a b c : Acceptor L) (d e f : D) (cs ds : List Command) (now : ℕ) → Obeys taken count served a b d e cs now → Obeys taken count served b c e f ds now → Obeys taken count served a c d f (cs ++ ds) now
    obeys_trans a b c d e f cs ds now p q = record {
      gone = p.gone ++ q.gone;
      adds = adds_trans taken count served d e f p.gone q.gone p.adds q.adds;
      lets_go = lets_trans a b c p.gone q.gone (stops_later b.core c.core (events_for ds) q.core) p.lets_go q.lets_go;
      early = λ none. ap₂ (λ xs ys. xs ++ ys) (p.early none) (q.early (p.beside.serial ∙ none));
      core = q.core ∙ ap (λ s. after_all s (events_for ds)) p.core ∙ sym (after_append a.core (events_for cs) (events_for ds)) ∙ ap (after_all a.core) (sym (events_append cs ds));
      events = q.events ∙ ap (λ es. es ++ events_for ds) p.events ∙ append_assoc a.events.items (events_for cs) (events_for ds) ∙ ap (λ es. a.events.items ++ es) (sym (events_append cs ds));
      stop = keeps_stop_trans a.stop b.stop c.stop now p.stop q.stop;
      beside = beside_trans a b c p.beside q.beside;
    }

    pub obeys_length : (a b : Acceptor L) (d e : D) (cs : List Command) (now : ℕ) → Obeys taken count served a b d e cs now → length (events_of b) ≡ length (events_of a) + length cs
    obeys_length a b d e cs now o = omega (arith, ap (λ es. length es) o.events, length-append a.events.items (events_for cs), length_events cs)

    pub obeys_workers : (a b : Acceptor L) (d e : D) (cs : List Command) (now : ℕ) → Obeys taken count served a b d e cs now → length b.core.out ≡ length a.core.out
    obeys_workers a b d e cs now o = ap (λ (s : Core). length s.out) o.core ∙ ap (λ xs. length xs) (all_out a.core cs)

module _ {Li L D : Type 0} (given : Li → ℕ) (left : Li → Option (List L)) (rest : Li → Option (List Mark)) (identity : L → Identity) (ended : Li → Bool) (faults : Li → ℕ)
    (taken : D → Option (List (Entry L))) (count served : D → ℕ) (ls : List Li) (a b : Acceptor L) (d e : D) (cs : List Command) (now : ℕ) where
  obeys_does : (count d < 2 ^ 64) × (served d < 2 ^ 64) → Obeys taken count served a b d e cs now → Does given left rest identity ended faults taken count served ls ls a b d e (events_for cs)
  obeys_does fits o = record {
    acts = moves_acts given left rest identity ended faults taken count served (Stopped false) (is_some b.core.stopping ≡ true) ls a b d e (events_for cs) false fits (λ stopping _. stopping) (λ _ _ _. inl refl) (record {
      gone = o.gone;
      adds = o.adds;
      lets_go = o.lets_go;
      early = o.early;
      allowed = all_allowed a.core cs;
      core = o.core;
      out = ap (λ (k : Core). k.out) o.core ∙ all_out a.core cs;
      ended = ap (λ (k : Core). k.ended) o.core ∙ all_ended a.core cs;
      failures = ap (λ (k : Core). k.failures) o.core ∙ all_failures a.core cs;
      got = λ t. count_none (is_got t) (λ c. refl) cs;
      failed = λ t. count_none (is_failed t) (λ c. refl) cs;
      sent_on = λ w. count_none (is_sent w) (λ c. refl) cs;
      back = λ w. count_none (is_back w) (λ c. refl) cs;
      beside = o.beside;
    });
    of_use = all_of_use a.core cs;
  }

  pub obeys_proceeds : (count d < 2 ^ 64) × (served d < 2 ^ 64) → Obeys taken count served a b d e cs now → Proceeds given left rest identity ended faults taken count served ls ls a b d e
  obeys_proceeds fits o = record { more = events_for cs; appended = o.events; does = obeys_does fits o }
