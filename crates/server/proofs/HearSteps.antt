-- Commands of many turns, and what they come to.
use Rattle.std.proofs.Common.{◌≡◌, ◌≤◌, ◌<◌, ◌++◌, ◌∷◌, [], ℕ, zero, suc, map, ◌+◌, ◌*◌, Bool, true, false, cond, List, Option, None, Some, IfSome, refl, sym, ◌∙◌, ap, arith, subst, append_assoc, inl, inr}
use Rattle.std.specs.Prelude.{◌⊎◌, Err, IfOk, IsSomeAnd, Ok, OnErr, Result, count_by}
use Rattle.std.specs.FinSet as set
use Rattle.std.specs.Option.{option_map}
use Rattle.std.proofs.lemmas.List.{append-nil}
use Rattle.std.proofs.lemmas.List.Sums.{sum_by-cons}
use Rattle.server_acceptor.proofs.LogSteps.{after_append}
use Rattle.server_acceptor.proofs.Sendings.{stop_of_force}
use Rattle.server_acceptor.specs.Accepting.{is_command}
use Rattle.server_acceptor.specs.Acceptors.{core_of, events_of, parcels_of, shutdown_timeout_of, stop_of}
use Rattle.server_acceptor.specs.Commanding.{AddsOwn, ComeFrom, IsPausedOnly, KeepsStop, TakesCommands, events_for, stops_behind}
use Rattle.server_acceptor.specs.Parting.{LeavesRest}
use Rattle.server_acceptor.specs.Sending.{IsForced}
use Rattle.server_jobs.specs.Parcels.{is_force}
use Rattle.server_jobs.specs.declared.parcel.Parcel.{Parcel}
use Rattle.rtrb.specs.Ring.{sent}
use Rattle.rtrb.specs.declared.AnyItems.{AnyItems}
use Rattle.rtrb.specs.declared.producer.Producer.{Producer}
use Rattle.std.specs.declared.alloc.Global.{Global}
use Rattle.server_acceptor.specs.Stopping.{IsDue}
use Rattle.server_acceptor.specs.declared.acceptor.Acceptor.{Acceptor}
use Rattle.server_acceptor.specs.declared.stop.Stop.{Stop as FirstStop}
use Rattle.server_core.specs.Core.{Core, all_retired, first_of, let_go, step}
use Rattle.server_core.specs.Runs.{after_all}
use Rattle.server_core.specs.declared.command.Command.{Command}
use Rattle.server_core.specs.declared.command.Command.TheVariants.{Pause, Resume, Stop}
use Rattle.server_core.specs.declared.event.Event.{Event}
use Rattle.server_core.specs.declared.event.Event.TheVariants as event
use Rattle.server_run.specs.Report.{is_stop}
use Rattle.server_run.specs.declared.report.End.{End}
use Rattle.server_run.specs.declared.report.Report.{Report}
use Rattle.server_run.specs.declared.report.End.TheVariants.{Drained, Stopped, NoWorkers, Memory}
use Rattle.server.specs.Accepting.{Ends, Hears}
use Rattle.server.specs.Stopping.{AddedOwn, Commanded, EndsBy, Gave, InTime, IsTold, IsUntold, paused_from, stop_from}

-- ---- lists of commands, one behind the other
stop_append : (first : Option Bool) (xs ys : List Command) → stop_from first (xs ++ ys) ≡ stop_from (stop_from first xs) ys
stop_append first [] ys = refl
stop_append first (Pause ∷ xs) ys = stop_append first xs ys
stop_append first (Resume ∷ xs) ys = stop_append first xs ys
stop_append first (Stop graceful ∷ xs) ys = stop_append (first_of first graceful) xs ys

paused_append : (paused : Bool) (xs ys : List Command) → paused_from paused (xs ++ ys) ≡ paused_from (paused_from paused xs) ys
paused_append paused [] ys = refl
paused_append paused (Pause ∷ xs) ys = paused_append true xs ys
paused_append paused (Resume ∷ xs) ys = paused_append false xs ys
paused_append paused (Stop graceful ∷ xs) ys = paused_append paused xs ys

stops_append : (xs ys : List Command) (stops : ℕ) → stops_behind (xs ++ ys) stops ≡ stops_behind ys (stops_behind xs stops)
stops_append [] ys stops = refl
stops_append (Pause ∷ xs) ys stops = stops_append xs ys stops
stops_append (Resume ∷ xs) ys stops = stops_append xs ys stops
stops_append (Stop graceful ∷ xs) ys stops = stops_append xs ys _

given_append : (given mid after : Option (List Command)) (xs ys : List Command) → mid ≡ option_map (λ l. l ++ xs) given → after ≡ option_map (λ l. l ++ ys) mid → after ≡ option_map (λ l. l ++ (xs ++ ys)) given
given_append None mid after xs ys first then_these = then_these ∙ ap (option_map (λ l. l ++ ys)) first
given_append (Some l) mid after xs ys first then_these = then_these ∙ ap (option_map (λ l. l ++ ys)) first ∙ ap Some (append_assoc l xs ys)

given_none : (given : Option (List Command)) → given ≡ option_map (λ l. l ++ []) given
given_none None = refl
given_none (Some l) = ap Some (sym (append-nil l))

-- ---- what events make of the core
-- commands
told_core : (s : Core) (commands : List Command) → ((after_all s (events_for commands)).paused ≡ paused_from s.paused commands) × ((after_all s (events_for commands)).stopping ≡ stop_from s.stopping commands)
told_core s [] = (refl, refl)
told_core s (Pause ∷ commands) = told_core (step s (event.Command Pause)) commands
told_core s (Resume ∷ commands) = told_core (step s (event.Command Resume)) commands
told_core s (Stop graceful ∷ commands) = told_core (step s (event.Command (Stop graceful))) commands

let_go_same : (b : Bool) (s : Core) → ((cond b (let_go s) s).paused ≡ s.paused) × ((cond b (let_go s) s).stopping ≡ s.stopping)
let_go_same true s = (refl, refl)
let_go_same false s = (refl, refl)

-- one event that is no command
other_core : (s : Core) (e : Event) → is_command e ≡ false → ((step s e).paused ≡ s.paused) × ((step s e).stopping ≡ s.stopping)
other_core s (event.Command command) plain = absurd (cc)
other_core s (event.Notice w) plain = (refl, refl)
other_core s (event.Back w) plain = (refl, refl)
other_core s (event.Got t) plain = (refl, refl)
other_core s (event.Sent w remains) plain = (refl, refl)
other_core s (event.RingFull w) plain = (refl, refl)
other_core s (event.Faulted w) plain = (refl, refl)
other_core s (event.Replaced w) plain = (refl, refl)
other_core s (event.Retired w) plain = let_go_same (all_retired (record s { retired = set.insert s.retired w })) (record s { retired = set.insert s.retired w })
other_core s (event.ListenerFailed t) plain = (refl, refl)
other_core s (event.ListenerEnded t) plain = (refl, refl)

no_command : (e : Event) (es : List Event) → count_by is_command (e ∷ es) ≡ 0 → (is_command e ≡ false) × (count_by is_command es ≡ 0)
no_command e es none = by_test (is_command e) refl
  where
    by_test : (b : Bool) → is_command e ≡ b → (is_command e ≡ false) × (count_by is_command es ≡ 0)
    by_test true is = absurd (let more = sum_by-cons (λ (x : Event). cond (is_command x) 1 0) e es in let one = ap {B = ℕ} (λ (x : Bool). cond x 1 0) is in omega (arith, more, one, none))
    by_test false is = (is, (let more = sum_by-cons (λ (x : Event). cond (is_command x) 1 0) e es in omega (arith, more, none)))

others_core : (s : Core) (es : List Event) → count_by is_command es ≡ 0 → ((after_all s es).paused ≡ s.paused) × ((after_all s es).stopping ≡ s.stopping)
others_core s [] none = (refl, refl)
others_core s (e ∷ es) none =
    let this = no_command e es none in
    let here = other_core s e this.0 in
    let rest = others_core (step s e) es this.1 in
    (rest.0 ∙ here.0, rest.1 ∙ here.1)

-- commands, and others behind them
turn_core : (s : Core) (commands : List Command) (rest events : List Event) (after : Core) → events ≡ events_for commands ++ rest → count_by is_command rest ≡ 0 → after ≡ after_all s events
    → (after.paused ≡ paused_from s.paused commands) × (after.stopping ≡ stop_from s.stopping commands)
turn_core s commands rest events after first only is =
    let whole = is ∙ ap (after_all s) first ∙ after_append s (events_for commands) rest in
    let others = others_core (after_all s (events_for commands)) rest only in
    let told = told_core s commands in
    (ap (λ (c : Core). c.paused) whole ∙ others.0 ∙ told.0, ap (λ (c : Core). c.stopping) whole ∙ others.1 ∙ told.1)

-- the first stop stays
first_stays : (graceful : Bool) (commands : List Command) → stop_from (Some graceful) commands ≡ Some graceful
first_stays graceful [] = refl
first_stays graceful (Pause ∷ commands) = first_stays graceful commands
first_stays graceful (Resume ∷ commands) = first_stays graceful commands
first_stays graceful (Stop other ∷ commands) = first_stays graceful commands

-- ---- one turn more
module _ {Co : Type 0} (given : Co → Option (List Command)) (stops idles : Co → ℕ) (ended : Co → Bool) (before mid after : Co) (s t : Core) (events : List Event)
    (so_far : Commanded given stops ended before mid s) (takes : TakesCommands given stops idles ended s mid after events) (core : t ≡ after_all s events) where
  come : ComeFrom given stops idles ended s mid after takes.commands
  come = takes.come

  now : (t.paused ≡ paused_from s.paused takes.commands) × (t.stopping ≡ stop_from s.stopping takes.commands)
  now = turn_core s takes.commands takes.rest events t takes.first takes.only core

  abbrev all : List Command
  all = so_far.came ++ come.came

  all_given : given after ≡ option_map (λ l. l ++ all) (given before)
  all_given = given_append (given before) (given mid) (given after) so_far.came come.came so_far.given_more come.given_more

  all_stops : stops after ≡ stops_behind all (stops before)
  all_stops = come.stops_more ∙ ap (stops_behind come.came) so_far.stops_more ∙ sym (stops_append so_far.came come.came (stops before))

  -- the core behind what came, before the acceptor's own
  middle : ((after_all s (events_for come.came)).paused ≡ paused_from false all) × ((after_all s (events_for come.came)).stopping ≡ stop_from s.stopping come.came)
  middle =
      let told = told_core s come.came in
      (told.0 ∙ ap (λ p. paused_from p come.came) so_far.paused ∙ sym (paused_append false so_far.came come.came), told.1)

  -- no stop of its own before
  module _ (none : so_far.own ≡ []) where
    stop_before : s.stopping ≡ stop_from None so_far.came
    stop_before = so_far.stopping ∙ ap (λ o. stop_from None (so_far.came ++ o)) none ∙ ap (stop_from None) (append-nil so_far.came)

    stop_middle : (after_all s (events_for come.came)).stopping ≡ stop_from None all
    stop_middle = middle.1 ∙ ap (λ f. stop_from f come.came) stop_before ∙ sym (stop_append None so_far.came come.came)

    with_none : come.own ≡ [] → AddsOwn (after_all s (events_for come.came)) (ended after) [] → Commanded given stops ended before after t
    with_none is adds = record {
      came = all;
      own = [];
      given_more = all_given;
      stops_more = all_stops;
      added = tt;
      goes_on = λ over paused going. adds over (middle.0 ∙ sym paused_now ∙ paused, stop_middle ∙ sym stopping_now ∙ going);
      paused = paused_now;
      stopping = stopping_now ∙ ap (stop_from None) (sym (append-nil all));
    }
      where
        commands : takes.commands ≡ come.came
        commands = come.all ∙ ap (λ o. come.came ++ o) is ∙ append-nil come.came

        paused_now : t.paused ≡ paused_from false all
        paused_now = now.0 ∙ ap (paused_from s.paused) commands ∙ ap (λ p. paused_from p come.came) so_far.paused ∙ sym (paused_append false so_far.came come.came)

        stopping_now : t.stopping ≡ stop_from None all
        stopping_now = now.1 ∙ ap (stop_from s.stopping) commands ∙ ap (λ f. stop_from f come.came) stop_before ∙ sym (stop_append None so_far.came come.came)

    with_own : (ended after ≡ true) → IsPausedOnly (after_all s (events_for come.came)) → come.own ≡ Stop true ∷ [] → Commanded given stops ended before after t
    with_own over paused_only is = record {
      came = all;
      own = Stop true ∷ [];
      given_more = all_given;
      stops_more = all_stops;
      added = (refl, refl, over, sym stop_middle ∙ paused_only.1, sym middle.0 ∙ paused_only.0);
      goes_on = λ _ _ going. absurd (let some : Some true ≡ None = sym stopped ∙ going in cc);
      paused = now.0 ∙ ap (paused_from s.paused) commands ∙ paused_append s.paused come.came (Stop true ∷ []) ∙ ap (λ p. paused_from p come.came) so_far.paused ∙ sym (paused_append false so_far.came come.came);
      stopping = stopped ∙ sym (stop_append None all (Stop true ∷ []) ∙ ap (λ f. stop_from f (Stop true ∷ [])) (sym stop_middle ∙ paused_only.1));
    }
      where
        commands : takes.commands ≡ come.came ++ Stop true ∷ []
        commands = come.all ∙ ap (λ o. come.came ++ o) is

        stopped : t.stopping ≡ Some true
        stopped = now.1 ∙ ap (stop_from s.stopping) commands ∙ stop_append s.stopping come.came (Stop true ∷ []) ∙ ap (λ f. stop_from f (Stop true ∷ [])) (sym middle.1 ∙ paused_only.1)

    by_own : (own : List Command) → come.own ≡ own → AddsOwn (after_all s (events_for come.came)) (ended after) own → Commanded given stops ended before after t
    by_own [] is adds = with_none is adds
    by_own (command ∷ own) is adds = with_own adds.0 adds.1 (is ∙ ap (λ c. c ∷ own) adds.2 ∙ ap (λ o. Stop true ∷ o) adds.3)

  -- after a stop of its own nothing more comes
  module _ (is : so_far.own ≡ Stop true ∷ []) (over : ended mid ≡ true) (unstopped : stop_from None so_far.came ≡ None) (paused : paused_from false so_far.came ≡ true) where
    was_stopped : s.stopping ≡ Some true
    was_stopped = so_far.stopping ∙ ap (λ o. stop_from None (so_far.came ++ o)) is ∙ stop_append None so_far.came (Stop true ∷ []) ∙ ap (λ f. stop_from f (Stop true ∷ [])) unstopped

    none_came : come.came ≡ []
    none_came = (come.over over).0

    no_own : (own : List Command) → come.own ≡ own → AddsOwn (after_all s (events_for come.came)) (ended after) own → come.own ≡ []
    no_own [] same adds = same
    no_own (command ∷ own) same adds = absurd (let some : Some true ≡ None = sym was_stopped ∙ sym (ap (λ (c : List Command). (after_all s (events_for c)).stopping) none_came) ∙ adds.1.1 in cc)

    commands : takes.commands ≡ []
    commands = come.all ∙ ap (λ c. c ++ come.own) none_came ∙ no_own come.own refl come.adds

    all_same : all ≡ so_far.came
    all_same = ap (λ c. so_far.came ++ c) none_came ∙ append-nil so_far.came

    stays : Commanded given stops ended before after t
    stays = record {
      came = all;
      own = Stop true ∷ [];
      given_more = all_given;
      stops_more = all_stops;
      added = (refl, refl, (come.over over).1, ap (stop_from None) all_same ∙ unstopped, ap (paused_from false) all_same ∙ paused);
      goes_on = λ _ _ going. absurd (let some : Some true ≡ None = sym (now.1 ∙ ap (stop_from s.stopping) commands ∙ was_stopped) ∙ going in cc);
      paused = now.0 ∙ ap (paused_from s.paused) commands ∙ so_far.paused ∙ sym (ap (paused_from false) all_same);
      stopping = now.1 ∙ ap (stop_from s.stopping) commands ∙ so_far.stopping ∙ ap (λ o. stop_from None (so_far.came ++ o)) is ∙ sym (ap (λ c. stop_from None (c ++ Stop true ∷ [])) all_same);
    }

  pub commanded_more : Commanded given stops ended before after t
  commanded_more = by_before so_far.own refl so_far.added
    where
      by_before : (own : List Command) → so_far.own ≡ own → AddedOwn so_far.came (ended mid) own → Commanded given stops ended before after t
      by_before [] none added = by_own none come.own refl come.adds
      by_before (command ∷ own) is added = stays (is ∙ ap (λ c. c ∷ own) added.0 ∙ ap (λ o. Stop true ∷ o) added.1) added.2 added.3 added.4

-- none came yet
pub commanded_none : {Co : Type 0} (given : Co → Option (List Command)) (stops : Co → ℕ) (ended : Co → Bool) (source : Co) (s : Core) → s.paused ≡ false → s.stopping ≡ None → Commanded given stops ended source source s
commanded_none given stops ended source s unpaused unstopped = record {
  came = [];
  own = [];
  given_more = given_none (given source);
  stops_more = refl;
  added = tt;
  goes_on = λ _ paused _. absurd (let no : true ≡ false = sym paused ∙ unpaused in cc);
  paused = unpaused;
  stopping = unstopped;
}

-- ---- the clock
due_later : (stop : Option FirstStop) (timeout now then_now : ℕ) → now ≤ then_now → IsSomeAnd stop (λ s. (s.graceful ≡ false) ⊎ (s.since + 1000 * timeout ≤ now)) → IsSomeAnd stop (λ s. (s.graceful ≡ false) ⊎ (s.since + 1000 * timeout ≤ then_now))
due_later None timeout now then_now onward due = absurd due
due_later (Some s) timeout now then_now onward (inl forced) = inl forced
due_later (Some s) timeout now then_now onward (inr late) = inr (omega (arith, onward, late))

some_kept : (first then_stop : Option FirstStop) (now : ℕ) (P : FirstStop → Type 0) → KeepsStop first then_stop now → IsSomeAnd first P → IsSomeAnd then_stop P
some_kept None then_stop now P keeps some = absurd some
some_kept (Some s) then_stop now P keeps some = subst (λ (o : Option FirstStop). IsSomeAnd o P) (sym keeps) some

since_kept : (first then_stop : Option FirstStop) (start now : ℕ) → start ≤ now → KeepsStop first then_stop now → IfSome first (λ s. start ≤ s.since) → IfSome then_stop (λ s. start ≤ s.since)
since_kept None None start now onward keeps since = tt
since_kept None (Some s) start now onward keeps since = omega (arith, onward, keeps)
since_kept (Some s) then_stop start now onward keeps since = subst (λ (o : Option FirstStop). IfSome o (λ s. start ≤ s.since)) (sym keeps) since

pub in_time_more : {L : Type 0} (b c : Acceptor L) (timeout start now then_now : ℕ) → now ≤ then_now → shutdown_timeout_of c ≡ shutdown_timeout_of b → KeepsStop (stop_of b) (stop_of c) then_now
    → ((w : ℕ) → IsForced (parcels_of c) w → IsForced (parcels_of b) w ⊎ IsDue c then_now) → InTime b timeout start now → InTime c timeout start then_now
in_time_more b c timeout start now then_now onward same keeps forces so_far = record {
  same_timeout = same ∙ so_far.same_timeout;
  since = since_kept (stop_of b) (stop_of c) start then_now (let o = so_far.onward in omega (arith, o, onward)) keeps so_far.since;
  forced = λ w is. elim (forces w is) [
    | inl before ↦ subst (λ n. IsSomeAnd (stop_of c) (λ s. (s.graceful ≡ false) ⊎ (s.since + 1000 * n ≤ then_now))) (sym same)
        (some_kept (stop_of b) (stop_of c) then_now (λ s. (s.graceful ≡ false) ⊎ (s.since + 1000 * shutdown_timeout_of b ≤ then_now)) keeps
        (due_later (stop_of b) (shutdown_timeout_of b) now then_now onward (so_far.forced w before)))
    | inr due ↦ due
  ];
  onward = let o = so_far.onward in omega (arith, o, onward);
}

pub in_time_none : {L : Type 0} (a : Acceptor L) (start : ℕ) → IsUntold a → InTime a (shutdown_timeout_of a) start start
in_time_none a start untold = record {
  same_timeout = refl;
  since = subst (λ (o : Option FirstStop). IfSome o (λ s. start ≤ s.since)) (sym untold.no_stop) tt;
  forced = λ w is. absurd (untold.none_sent w (stop_of_force (parcels_of a) w is));
  onward = omega arith;
}

-- ---- how the run ends
module _ {Co L : Type 0} (given : Co → Option (List Command)) (stops : Co → ℕ) (ended : Co → Bool) (before after : Co) (a : Acceptor L) (end : End)
    (may_fault : Type 0) (told : Commanded given stops ended before after (core_of a)) (finishes : Ends may_fault a end) where
  -- it ends as stopped as the core says
  as_core : (stop : Option Bool) (e : End) → Ends may_fault a e → (core_of a).stopping ≡ stop → EndsBy stop false false e
  as_core None Drained f is = refl
  as_core None (Stopped graceful) f is = absurd (let some : Some graceful ≡ None = sym f.0 ∙ is in cc)
  as_core None NoWorkers f is = refl
  as_core None Memory f is = refl
  as_core (Some graceful) Drained f is = absurd (let some : Some graceful ≡ None = sym is ∙ f.4 in cc)
  as_core (Some graceful) (Stopped g) f is = (let both : Some g ≡ Some graceful = sym f.0 ∙ is in let same : g ≡ graceful = cc in ap Stopped same)
  as_core (Some graceful) NoWorkers f is = absurd (let some : Some graceful ≡ None = sym is ∙ f.2 in cc)
  as_core (Some graceful) Memory f is = absurd (let some : Some graceful ≡ None = sym is ∙ f.4 in cc)

  -- where no stop of its own was added
  without : told.own ≡ [] → EndsBy (stop_from None told.came) (ended after) (paused_from false told.came) end
  without none = by_stop (stop_from None told.came) (ended after) (paused_from false told.came) refl refl refl
    where
      stopping : (core_of a).stopping ≡ stop_from None told.came
      stopping = told.stopping ∙ ap (λ o. stop_from None (told.came ++ o)) none ∙ ap (stop_from None) (append-nil told.came)

      by_stop : (stop : Option Bool) (over paused : Bool) → stop_from None told.came ≡ stop → ended after ≡ over → paused_from false told.came ≡ paused → EndsBy stop over paused end
      by_stop (Some graceful) over paused is o p = as_core (Some graceful) end finishes (stopping ∙ is)
      by_stop None true true is o p = absurd (told.goes_on o (told.paused ∙ p) (stopping ∙ is))
      by_stop None true false is o p = as_core None end finishes (stopping ∙ is)
      by_stop None false paused is o p = as_core None end finishes (stopping ∙ is)

  with_own_stop : told.own ≡ Stop true ∷ [] → ended after ≡ true → stop_from None told.came ≡ None → paused_from false told.came ≡ true → EndsBy (stop_from None told.came) (ended after) (paused_from false told.came) end
  with_own_stop is over none paused =
      subst (λ s. EndsBy s (ended after) (paused_from false told.came) end) (sym none)
      (subst (λ o. EndsBy None o (paused_from false told.came) end) (sym over)
      (subst (λ p. EndsBy None true p end) (sym paused)
      (as_core (Some true) end finishes (told.stopping ∙ ap (λ o. stop_from None (told.came ++ o)) is ∙ stop_append None told.came (Stop true ∷ []) ∙ ap (λ f. stop_from f (Stop true ∷ [])) none))))

  pub is_told : IsTold given stops ended before after end
  is_told = record { came = told.came; given_more = told.given_more; stops_more = told.stops_more; ends = by_own told.own refl told.added }
    where
      by_own : (own : List Command) → told.own ≡ own → AddedOwn told.came (ended after) own → EndsBy (stop_from None told.came) (ended after) (paused_from false told.came) end
      by_own [] none added = without none
      by_own (command ∷ own) is added = with_own_stop (is ∙ ap (λ c. c ∷ own) added.0 ∙ ap (λ o. Stop true ∷ o) added.1) added.2 added.3 added.4

-- ---- both
pub hears_none : {Co L : Type 0} (given : Co → Option (List Command)) (stops : Co → ℕ) (ended : Co → Bool) (source : Co) (a : Acceptor L) (start : ℕ) → IsUntold a
    → Hears given stops ended a source source (shutdown_timeout_of a) start start
hears_none given stops ended source a start untold = record {
  commanded = commanded_none given stops ended source (core_of a) untold.unpaused untold.unstopped;
  in_time = in_time_none a start untold;
}

pub hears_more : {Co L : Type 0} (given : Co → Option (List Command)) (stops idles : Co → ℕ) (ended : Co → Bool) (before mid after : Co) (b c : Acceptor L) (timeout start now : ℕ) {then_now : ℕ}
    → Hears given stops ended b before mid timeout start now → TakesCommands given stops idles ended (core_of b) mid after (events_of c) → core_of c ≡ after_all (core_of b) (events_of c)
    → now ≤ then_now → shutdown_timeout_of c ≡ shutdown_timeout_of b → KeepsStop (stop_of b) (stop_of c) then_now
    → ((w : ℕ) → IsForced (parcels_of c) w → IsForced (parcels_of b) w ⊎ IsDue c then_now) → Hears given stops ended c before after timeout start then_now
hears_more given stops idles ended before mid after b c timeout start now {then_now} so_far takes core onward same keeps forces = record {
  commanded = commanded_more given stops idles ended before mid after (core_of b) (core_of c) (events_of c) so_far.commanded takes core;
  in_time = in_time_more b c timeout start now then_now onward same keeps forces so_far.in_time;
}

-- ---- a source that gave nothing
some_same : {X : Type 0} (x y : X) → Some x ≡ Some y → x ≡ y
some_same x y same = cc

unpaused_end : (over : Bool) (end : End) → EndsBy None over false end → is_stop end ≡ false
unpaused_end true end by = by
unpaused_end false end by = by

pub told_nothing : {Co : Type 0} (given : Co → Option (List Command)) (stops : Co → ℕ) (ended : Co → Bool) (before after : Co) (end : End) → IsTold given stops ended before after end
    → given before ≡ Some [] → given after ≡ Some [] → is_stop end ≡ false
told_nothing given stops ended before after end told first last =
    let none : [] ≡ told.came = some_same [] told.came (sym last ∙ told.given_more ∙ ap (option_map (λ l. l ++ told.came)) first) in
    unpaused_end (ended after) end (subst (λ came. EndsBy (stop_from None came) (ended after) (paused_from false came) end) (sym none) told.ends)

-- what settles the commands changes nothing of this
told_settled : {Co : Type 0} (given : Co → Option (List Command)) (stops : Co → ℕ) (ended : Co → Bool) (before mid after : Co) (end : End) → IsTold given stops ended before mid end
    → given after ≡ given mid → stops after ≡ stops mid → ended after ≡ ended mid → IsTold given stops ended before after end
told_settled given stops ended before mid after end told same_given same_stops same_ended = record {
  came = told.came;
  given_more = same_given ∙ told.given_more;
  stops_more = same_stops ∙ told.stops_more;
  ends = subst (λ over. EndsBy (stop_from None told.came) over (paused_from false told.came) end) (sym same_ended) told.ends;
}

pub answer_settled : {Co E : Type 0} (given : Co → Option (List Command)) (stops : Co → ℕ) (ended : Co → Bool) (before mid after : Co) (answer : Result Report E)
    → IfOk answer (λ report. IsTold given stops ended before mid report.end) → given after ≡ given mid → stops after ≡ stops mid → ended after ≡ ended mid
    → IfOk answer (λ report. IsTold given stops ended before after report.end)
answer_settled given stops ended before mid after (Ok report) told same_given same_stops same_ended = told_settled given stops ended before mid after report.end told same_given same_stops same_ended
answer_settled given stops ended before mid after (Err error) told same_given same_stops same_ended = tt

-- ---- what came before an error
pub gave_none : {Co : Type 0} (given : Co → Option (List Command)) (stops : Co → ℕ) (source : Co) → Gave given stops source source
gave_none given stops source = record { came = []; given_more = given_none (given source); stops_more = refl }

pub gave_on : {Co R E : Type 0} (given : Co → Option (List Command)) (stops : Co → ℕ) (source : Co) (answer : Result R E) → OnErr answer (Gave given stops source source)
gave_on given stops source (Ok value) = tt
gave_on given stops source (Err error) = gave_none given stops source

pub gave : {Co : Type 0} (given : Co → Option (List Command)) (stops : Co → ℕ) (ended : Co → Bool) (before after : Co) (s : Core) → Commanded given stops ended before after s → Gave given stops before after
gave given stops ended before after s so_far = record { came = so_far.came; given_more = so_far.given_more; stops_more = so_far.stops_more }

pub gave_settled : {Co R E : Type 0} (given : Co → Option (List Command)) (stops : Co → ℕ) (before mid after : Co) (answer : Result R E)
    → OnErr answer (Gave given stops before mid) → given after ≡ given mid → stops after ≡ stops mid → OnErr answer (Gave given stops before after)
gave_settled given stops before mid after (Ok report) heard same_given same_stops = tt
gave_settled given stops before mid after (Err error) heard same_given same_stops = record { came = heard.came; given_more = same_given ∙ heard.given_more; stops_more = same_stops ∙ heard.stops_more }

-- between two turns nothing is heard
pub hears_leaves : {Co L : Type 0} (given : Co → Option (List Command)) (stops : Co → ℕ) (ended : Co → Bool) (before after : Co) (b c : Acceptor L) (timeout start now : ℕ) → Hears given stops ended b before after timeout start now
    → LeavesRest b c → Hears given stops ended c before after timeout start now
hears_leaves {L = L} given stops ended before after b c timeout start now so_far rest = record {
  commanded = record {
    came = so_far.commanded.came;
    own = so_far.commanded.own;
    given_more = so_far.commanded.given_more;
    stops_more = so_far.commanded.stops_more;
    added = so_far.commanded.added;
    goes_on = λ over paused unstopped. so_far.commanded.goes_on over (sym rest.paused ∙ paused) (sym rest.stopping ∙ unstopped);
    paused = rest.paused ∙ so_far.commanded.paused;
    stopping = rest.stopping ∙ so_far.commanded.stopping;
  };
  in_time = record {
    same_timeout = rest.shutdown_timeout ∙ so_far.in_time.same_timeout;
    since = subst (λ (o : Option FirstStop). IfSome o (λ s. start ≤ s.since)) (sym rest.stop) so_far.in_time.since;
    forced = λ w is. due (so_far.in_time.forced w (forced_as (parcels_of b) (parcels_of c) w rest.sent is));
    onward = so_far.in_time.onward;
  };
}
  where
    due : IsDue b now → IsDue c now
    due is = subst (λ n. IsSomeAnd (stop_of c) (λ s. (s.graceful ≡ false) ⊎ (s.since + 1000 * n ≤ now))) (sym rest.shutdown_timeout)
        (subst (λ (o : Option FirstStop). IsSomeAnd o (λ s. (s.graceful ≡ false) ⊎ (s.since + 1000 * shutdown_timeout_of b ≤ now))) (sym rest.stop) is)

    forced_as : (ps qs : List (Producer (Parcel L) Global AnyItems)) (w : ℕ) → map (λ p. sent p) qs ≡ map (λ p. sent p) ps → IsForced qs w → IsForced ps w
    forced_as [] [] w same is = is
    forced_as [] (q ∷ qs) w same is = absurd (cc)
    forced_as (p ∷ ps) [] w same is = absurd (cc)
    forced_as (p ∷ ps) (q ∷ qs) zero same is = let here : sent q ≡ sent p = cc in subst (λ (items : List (Parcel L)). 0 < count_by is_force items) here is
    forced_as (p ∷ ps) (q ∷ qs) (suc w) same is = let later : map (λ p. sent p) qs ≡ map (λ p. sent p) ps = cc in forced_as ps qs w later is
