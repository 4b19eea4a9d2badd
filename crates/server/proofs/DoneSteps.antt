-- That no more comes where nothing is left to do.
use Rattle.std.proofs.Common.{◌≡◌, ◌≤◌, ◌<◌, ◌∷◌, [], ℕ, zero, suc, ◌+◌, Bool, true, false, cond, List, Option, None, Some, length, map, refl, sym, ◌∙◌, ap, arith, subst, inl, inr}
use Rattle.std.specs.Prelude.{◌⊎◌, count_by, is_some, slice_index_or}
use Rattle.std.specs.FinSet as set
use Rattle.std.specs.Option.{option_map, option_map_or}
use Rattle.std.proofs.lemmas.Bool.{cases_lt}
use Rattle.std.proofs.lemmas.List.Sums.{sum_by-cons}
use Rattle.std.proofs.lemmas.Option.{slice_get_past}
use Rattle.std.specs.declared.alloc.Global.{Global}
use Rattle.rtrb.specs.Ring.{sent}
use Rattle.rtrb.specs.declared.AnyItems.{AnyItems}
use Rattle.rtrb.specs.declared.producer.Producer.{Producer}
use Rattle.service_core.specs.Link.{Identity}
use Rattle.server_core.specs.Core.{Core, all_retired, held, let_go, step}
use Rattle.server_core.specs.Runs.{after_all}
use Rattle.server_core.specs.declared.command.Command.TheVariants.{Pause, Resume, Stop}
use Rattle.server_core.specs.declared.event.Event.{Event}
use Rattle.server_core.specs.declared.event.Event.TheVariants.{Command, Notice, Back, Got, Sent, RingFull, Faulted, Replaced, Retired, ListenerFailed, ListenerEnded}
use Rattle.server_acceptor.specs.Accepting.{Acts, IsClosing, IsDone, IsOver, is_got}
use Rattle.server_acceptor.specs.Acceptors.{core_of, lacks_room_of, listeners_of, parcels_of, waiting_of}
use Rattle.server_acceptor.specs.Parting.{LeavesRest}
use Rattle.server_acceptor.specs.Sending.{IsStopped, sent_to}
use Rattle.server_acceptor.specs.declared.acceptor.Acceptor.{Acceptor}
use Rattle.server_jobs.specs.Parcels.{is_stop}
use Rattle.server_jobs.specs.declared.parcel.Parcel.{Parcel}
use Rattle.server_jobs.specs.declared.waiting.Waiting.{Waiting}
use Rattle.server_run.specs.Delivery.{given_at}
use Rattle.server_run.specs.Listener.{Mark}
use Rattle.server_run.specs.declared.entry.Entry.{Entry}
use Rattle.server.proofs.CoreSteps.{same_is}

retired_counts : (s : Core) (b : Bool) → ((cond b (let_go s) s).given ≡ s.given) × (s.done ≤ (cond b (let_go s) s).done)
retired_counts s true = (refl, omega arith)
retired_counts s false = (refl, omega arith)

-- an event that takes no connection of a listener leaves the count of those that came, and less is not done
counts_step : (s : Core) (e : Event) → ((t : ℕ) → is_got t e ≡ false) → ((step s e).given ≡ s.given) × (s.done ≤ (step s e).done)
counts_step s (Command Pause) none = (refl, omega arith)
counts_step s (Command Resume) none = (refl, omega arith)
counts_step s (Command (Stop graceful)) none = (refl, omega arith)
counts_step s (Notice w) none = (refl, omega arith)
counts_step s (Back w) none = (refl, omega arith)
counts_step s (Got t) none = absurd (let is : true ≡ false = sym (same_is t) ∙ none t in cc)
counts_step s (Sent w remains) none = (refl, omega arith)
counts_step s (RingFull w) none = (refl, omega arith)
counts_step s (Faulted w) none = (refl, omega arith)
counts_step s (Replaced w) none = (refl, omega arith)
counts_step s (Retired w) none = retired_counts (record s { retired = set.insert s.retired w }) (all_retired (record s { retired = set.insert s.retired w }))
counts_step s (ListenerFailed t) none = (refl, omega arith)
counts_step s (ListenerEnded t) none = (refl, omega arith)

not_counted : (b : Bool) (n : ℕ) → ◌≡◌ {A = ℕ} (cond b 1 0 + n) 0 → b ≡ false
not_counted true n none = absurd (omega (arith, none))
not_counted false n none = refl

counts_all : (s : Core) (es : List Event) → ((t : ℕ) → count_by (is_got t) es ≡ 0) → ((after_all s es).given ≡ s.given) × (s.done ≤ (after_all s es).done)
counts_all s [] none = (refl, omega arith)
counts_all s (e ∷ es) none =
    let here = counts_step s e (λ t. not_counted (is_got t e) (count_by (is_got t) es) (sym (sum_by-cons (λ (x : Event). cond (is_got t x) 1 0) e es) ∙ none t)) in
    let rest = counts_all (step s e) es (λ t. let more = sum_by-cons (λ (x : Event). cond (is_got t x) 1 0) e es in let all = none t in omega (arith, more, all)) in
    (rest.0 ∙ here.0, (let a = here.1 in let b = rest.1 in omega (arith, a, b)))

none_held : {L : Type 0} (waiting : Option (Waiting L)) → held (option_map (λ (w : Waiting L). w.token) waiting) ≡ 0 → waiting ≡ None
none_held None none = refl
none_held (Some w) none = absurd (omega (arith, none))

module _ {Li L D : Type 0} (given : Li → ℕ) (left : Li → Option (List L)) (rest : Li → Option (List Mark)) (identity : L → Identity) (ended : Li → Bool) (faults : Li → ℕ)
    (taken : D → Option (List (Entry L))) (count served : D → ℕ) (before after : List Li) (a b : Acceptor L) (old new : D) (events : List Event) (last : Bool)
    (acts : Acts given left rest identity ended faults taken count served before after a b old new events last)
    (as_many : length before ≡ listeners_of a) (short : lacks_room_of a ≡ true → after ≡ before) where
  none_got : IsOver a → (t : ℕ) → count_by (is_got t) events ≡ 0
  none_got (inl lacks) t = let got = acts.logged.got t in let same = ap (λ ls. given_at given ls t) (short lacks) in omega (arith, got, same)
  none_got (inr all) t = elim (cases_lt t (listeners_of a)) [
    | inl inside ↦ (let got = acts.logged.got t in let same = ap (λ o. option_map_or given o 0) (acts.tells.stays t (all t inside)).0 in omega (arith, got, same))
    | inr past ↦ (
        let got = acts.logged.got t in
        let first = ap (λ o. option_map_or given o 0) (slice_get_past before t (omega (arith, past, as_many))) in
        let then_these = ap (λ o. option_map_or given o 0) (slice_get_past after t (let m = acts.as_many in omega (arith, past, as_many, m))) in
        omega (arith, got, first, then_these))
  ]

  over : IsOver a → IsOver b
  over (inl lacks) = inl (acts.lacks lacks)
  over (inr all) = inr (λ t inside. (acts.tells.stays t (all t (let m = acts.listeners in omega (arith, inside, m)))).2)

  pub done_stays : IsDone a → IsDone b
  done_stays done =
      let all = counts_all (core_of a) events (none_got done.0) in
      let came : (core_of b).given ≡ (core_of a).given = ap (λ (s : Core). s.given) acts.logged.core ∙ all.0 in
      let more : (core_of a).done ≤ (core_of b).done = subst (λ (s : Core). (core_of a).done ≤ s.done) (sym acts.logged.core) all.1 in
      let was = a.kept.balance in
      let is = b.kept.balance in
      let none : held (core_of a).waiting ≡ 0 = ap held (a.waits ∙ ap (option_map (λ (w : Waiting L). w.token)) done.1) in
      let out = done.2 in (
        over done.0,
        none_held (waiting_of b) (sym (ap held b.waits) ∙ (omega (arith, came, more, was, is, none, out))),
        omega (arith, came, more, was, is, none, out),
      )

  closing_stays : IsClosing a → IsClosing b
  closing_stays (inl stopping) = inl (acts.stops stopping)
  closing_stays (inr done) = inr (done_stays done)

  -- a stop goes out only after one came, or where nothing is left to do
  pub closes_on : ((w : ℕ) → IsStopped (parcels_of b) w → IsStopped (parcels_of a) w ⊎ IsClosing b) → ((w : ℕ) → IsStopped (parcels_of a) w → IsClosing a) → (w : ℕ) → IsStopped (parcels_of b) w → IsClosing b
  closes_on turn so_far w is = by_turn (turn w is)
    where
      by_turn : IsStopped (parcels_of a) w ⊎ IsClosing b → IsClosing b
      by_turn (inl before) = closing_stays (so_far w before)
      by_turn (inr now) = now

-- where something is left to do, and a stop went out, one came
pub stopped_by_one : {L : Type 0} (a : Acceptor L) (w : ℕ) → ((w : ℕ) → IsStopped (parcels_of a) w → IsClosing a) → (IsDone a → ⊥) → IsStopped (parcels_of a) w → is_some (core_of a).stopping ≡ true
stopped_by_one a w closes undone is = by_closing (closes w is)
  where
    by_closing : IsClosing a → is_some (core_of a).stopping ≡ true
    by_closing (inl stopping) = stopping
    by_closing (inr done) = absurd (undone done)

sent_read : {L : Type 0} (ps : List (Producer (Parcel L) Global AnyItems)) (w : ℕ) → sent_to ps w ≡ slice_index_or (map (λ p. sent p) ps) w []
sent_read [] w = refl
sent_read (p ∷ ps) zero = refl
sent_read (p ∷ ps) (suc w) = sent_read ps w

-- where a worker was given up or came anew meanwhile
pub closes_leaves : {L : Type 0} (a b : Acceptor L) → LeavesRest a b → ((w : ℕ) → IsStopped (parcels_of a) w → IsClosing a) → (IsDone a → ⊥) → (w : ℕ) → IsStopped (parcels_of b) w → IsClosing b
closes_leaves a b rest closes undone w is = inl (ap (λ o. is_some o) rest.stopping ∙ stopped_by_one a w closes undone
    (subst (λ ps. 0 < count_by is_stop ps) (sent_read (parcels_of b) w ∙ ap (λ xs. slice_index_or xs w []) rest.sent ∙ sym (sent_read (parcels_of a) w)) is))

-- no stop had come where none has come
pub unstopped_before : (first then_this : Option Bool) → (is_some first ≡ true → is_some then_this ≡ true) → then_this ≡ None → first ≡ None
unstopped_before None then_this stays none = refl
unstopped_before (Some graceful) None stays none = let is : false ≡ true = stays refl in absurd (cc)
unstopped_before (Some graceful) (Some other) stays none = absurd (cc)
