-- What holds of each event holds of every list of events.
use Rattle.std.proofs.Common.{◌≡◌, ℕ, Bool, true, false, true≢false, List, [], ◌∷◌, ◌++◌, Option, Some, None, length, length-set, refl, sym, ◌∙◌}
use Rattle.std.specs.Prelude.{◌||◌, ◌&&◌, not, is_some, is_none, nat_lt, ◌^◌, cond}
use Rattle.std.specs.List.{list_any}
use Rattle.server_core.specs.Core.{Core, IsKept, allowed, step, first_of, in_order, is_worker, is_open}
use Rattle.server_core.specs.Runs.{AllAllowed, after_all, is_resume}
use Rattle.server_core.specs.declared.command.Command.TheVariants.{Pause, Resume, Stop}
use Rattle.server_core.specs.declared.event.Event.{Event}
use Rattle.server_core.specs.declared.event.Event.TheVariants.{Command, Notice, Back, Got, Sent, RingFull, Faulted, Replaced, Retired, ListenerFailed, ListenerEnded}
use Rattle.server_core.proofs.Orders.{and_left, and_right, not_true}
use Rattle.server_core.proofs.Kept.{kept_paused, kept_stop, kept_notice, kept_back, kept_got, kept_sent, kept_ring_full, kept_faulted, kept_replaced, kept_retired, kept_failed, kept_ended}

pub keeps : (s : Core) (e : Event) → IsKept s → allowed s e ≡ true → IsKept (step s e)
keeps s (Command Pause) h a = kept_paused s true h
keeps s (Command Resume) h a = kept_paused s false h
keeps s (Command (Stop graceful)) h a = kept_stop s graceful h
keeps s (Notice w) h a = kept_notice s w h
keeps s (Back w) h a = kept_back s w h a
keeps s (Got t) h a = kept_got s t h a
keeps s (Sent w remains) h a = kept_sent s w remains h a
keeps s (RingFull w) h a = kept_ring_full s w h
keeps s (Faulted w) h a = kept_faulted s w h (and_right (is_worker s w) (in_order s.order w) a)
keeps s (Replaced w) h a = kept_replaced s w h a
keeps s (Retired w) h a = kept_retired s w h
keeps s (ListenerFailed t) h a = kept_failed s t h
keeps s (ListenerEnded t) h a = kept_ended s t h

pub keeps_all : (s : Core) (es : List Event) → IsKept s → AllAllowed s es → IsKept (after_all s es)
keeps_all s [] h a = h
keeps_all s (e ∷ es) h a = keeps_all (step s e) es (keeps s e h a.0) a.1

-- ---- a stop stays
stopped_by : (o : Option Bool) (graceful : Bool) → is_some (first_of o graceful) ≡ true
stopped_by None graceful = refl
stopped_by (Some first) graceful = refl

cond_field : {X : Type 0} (f : Core → X) (v : X) (b : Bool) (s t : Core) → f s ≡ v → f t ≡ v → f (cond b s t) ≡ v
cond_field f v true s t e g = e
cond_field f v false s t e g = g

stays_stopped : (s : Core) (e : Event) → is_some s.stopping ≡ true → is_some (step s e).stopping ≡ true
stays_stopped s (Command Pause) h = h
stays_stopped s (Command Resume) h = h
stays_stopped s (Command (Stop graceful)) h = stopped_by s.stopping graceful
stays_stopped s (Notice w) h = h
stays_stopped s (Back w) h = h
stays_stopped s (Got t) h = h
stays_stopped s (Sent w remains) h = h
stays_stopped s (RingFull w) h = h
stays_stopped s (Faulted w) h = h
stays_stopped s (Replaced w) h = h
stays_stopped s (Retired w) h = cond_field (λ c. is_some c.stopping) true _ _ _ h h
stays_stopped s (ListenerFailed t) h = h
stays_stopped s (ListenerEnded t) h = h

-- what Got finds
takes : (s : Core) (t : ℕ) → allowed s (Got t) ≡ true → (is_none s.waiting && not s.paused && is_none s.stopping) ≡ true
takes s t a = and_left (is_none s.waiting && not s.paused && is_none s.stopping) (nat_lt s.given (2 ^ 60)) (and_right (is_open s t) (is_none s.waiting && not s.paused && is_none s.stopping && nat_lt s.given (2 ^ 60)) a)

none_some : (o : Option Bool) → is_none o ≡ true → is_some o ≡ true → ⊥
none_some None e f = true≢false (sym f)
none_some (Some x) e f = true≢false (sym e)

none_when_stopped : (s : Core) (between after : List Event) (t : ℕ) → is_some s.stopping ≡ true → AllAllowed s (between ++ Got t ∷ after) → ⊥
none_when_stopped s [] after t h a = none_some s.stopping (and_right (is_none s.waiting && not s.paused) (is_none s.stopping) (takes s t a.0)) h
none_when_stopped s (e ∷ between) after t h a = none_when_stopped (step s e) between after t (stays_stopped s e h) a.1

pub none_after_stop : (s : Core) (before between after : List Event) (graceful : Bool) (t : ℕ) → AllAllowed s (before ++ Command (Stop graceful) ∷ (between ++ Got t ∷ after)) → ⊥
none_after_stop s [] between after graceful t a = none_when_stopped (step s (Command (Stop graceful))) between after t (stopped_by s.stopping graceful) a.1
none_after_stop s (e ∷ before) between after graceful t a = none_after_stop (step s e) before between after graceful t a.1

-- ---- a pause stays until the next resume
stays_paused : (s : Core) (e : Event) → is_resume e ≡ false → s.paused ≡ true → (step s e).paused ≡ true
stays_paused s (Command Pause) r h = refl
stays_paused s (Command Resume) r h = absurd (true≢false r)
stays_paused s (Command (Stop graceful)) r h = h
stays_paused s (Notice w) r h = h
stays_paused s (Back w) r h = h
stays_paused s (Got t) r h = h
stays_paused s (Sent w remains) r h = h
stays_paused s (RingFull w) r h = h
stays_paused s (Faulted w) r h = h
stays_paused s (Replaced w) r h = h
stays_paused s (Retired w) r h = cond_field (λ c. c.paused) true _ _ _ h h
stays_paused s (ListenerFailed t) r h = h
stays_paused s (ListenerEnded t) r h = h

neither : (a b : Bool) → (a || b) ≡ false → (a ≡ false) × (b ≡ false)
neither true b e = absurd (true≢false e)
neither false b e = (refl, e)

none_when_paused : (s : Core) (between after : List Event) (t : ℕ) → list_any is_resume between ≡ false → s.paused ≡ true → AllAllowed s (between ++ Got t ∷ after) → ⊥
none_when_paused s [] after t r h a =
    true≢false (sym h ∙ not_true s.paused (and_right (is_none s.waiting) (not s.paused) (and_left (is_none s.waiting && not s.paused) (is_none s.stopping) (takes s t a.0))))
none_when_paused s (e ∷ between) after t r h a =
    let apart = neither (is_resume e) (list_any is_resume between) r in
    none_when_paused (step s e) between after t apart.1 (stays_paused s e apart.0 h) a.1

pub none_after_pause : (s : Core) (before between after : List Event) (t : ℕ) → list_any is_resume between ≡ false → AllAllowed s (before ++ Command Pause ∷ (between ++ Got t ∷ after)) → ⊥
none_after_pause s [] between after t r a = none_when_paused (step s (Command Pause)) between after t r refl a.1
none_after_pause s (e ∷ before) between after t r a = none_after_pause (step s e) before between after t r a.1

-- ---- as many workers and listeners
pub same_workers : (s : Core) (e : Event) → length (step s e).out ≡ length s.out
same_workers s (Command Pause) = refl
same_workers s (Command Resume) = refl
same_workers s (Command (Stop graceful)) = refl
same_workers s (Notice w) = refl
same_workers s (Back w) = length-set s.out w _
same_workers s (Got t) = refl
same_workers s (Sent w remains) = length-set s.out w _
same_workers s (RingFull w) = refl
same_workers s (Faulted w) = refl
same_workers s (Replaced w) = refl
same_workers s (Retired w) = cond_field (λ c. length c.out) (length s.out) _ _ _ refl refl
same_workers s (ListenerFailed t) = refl
same_workers s (ListenerEnded t) = refl

pub same_listeners : (s : Core) (e : Event) → length (step s e).ended ≡ length s.ended
same_listeners s (Command Pause) = refl
same_listeners s (Command Resume) = refl
same_listeners s (Command (Stop graceful)) = refl
same_listeners s (Notice w) = refl
same_listeners s (Back w) = refl
same_listeners s (Got t) = refl
same_listeners s (Sent w remains) = refl
same_listeners s (RingFull w) = refl
same_listeners s (Faulted w) = refl
same_listeners s (Replaced w) = refl
same_listeners s (Retired w) = cond_field (λ c. length c.ended) (length s.ended) _ _ _ refl refl
same_listeners s (ListenerFailed t) = refl
same_listeners s (ListenerEnded t) = length-set s.ended t true
