-- Events, one behind the other.
use Rattle.std.proofs.Common.{◌≡◌, ◌++◌, ◌∷◌, [], Bool, List, Option, Some, None, true, false, cond, refl, sym, ◌∙◌, ap, append_assoc, subst}
use Rattle.std.specs.Prelude.{is_some}
use Rattle.std.specs.FinSet as set
use Rattle.std.proofs.lemmas.List.{append-nil}
use Rattle.server_core.specs.Core.{Core, all_retired, allowed, first_of, let_go, step}
use Rattle.server_core.specs.Runs.{AllAllowed, after_all}
use Rattle.server_core.specs.declared.command.Command.TheVariants.{Pause, Resume, Stop}
use Rattle.server_core.specs.declared.event.Event.{Event}
use Rattle.server_core.specs.declared.event.Event.TheVariants.{Command, Notice, Back, Got, Sent, RingFull, Faulted, Replaced, Retired, ListenerFailed, ListenerEnded}
use Rattle.server_acceptor.specs.Logging.{AllOfUse, IsOfUse, Logs}

pub after_append : (s : Core) (xs ys : List Event) → after_all s (xs ++ ys) ≡ after_all (after_all s xs) ys
after_append s [] ys = refl
after_append s (x ∷ xs) ys = after_append (step s x) xs ys

pub allowed_append : (s : Core) (xs ys : List Event) → AllAllowed s xs → AllAllowed (after_all s xs) ys → AllAllowed s (xs ++ ys)
allowed_append s [] ys first then_these = then_these
allowed_append s (x ∷ xs) ys first then_these = (first.0, allowed_append (step s x) xs ys first.1 then_these)

pub of_use_append : (s : Core) (xs ys : List Event) → AllOfUse s xs → AllOfUse (after_all s xs) ys → AllOfUse s (xs ++ ys)
of_use_append s [] ys first then_these = then_these
of_use_append s (x ∷ xs) ys first then_these = (first.0, of_use_append (step s x) xs ys first.1 then_these)

abbrev pub logs_none : {s : Core} {events : List Event} → Logs s s events events
logs_none {s} {events} = record { more = []; appended = sym (append-nil events); allowed = tt; of_use = tt; core = refl }

abbrev pub logs_one : (s t : Core) (events after : List Event) (event : Event) → allowed s event ≡ true → IsOfUse s event → t ≡ step s event → after ≡ events ++ event ∷ [] → Logs s t events after
logs_one s t events after event may use_of is appended = record { more = event ∷ []; appended = appended; allowed = (may, tt); of_use = (use_of, tt); core = is }

abbrev pub logs_trans : {a b c : Core} {xs ys zs : List Event} → Logs a b xs ys → Logs b c ys zs → Logs a c xs zs
logs_trans {a} {b} {c} {xs} {ys} {zs} p q = record {
  more = p.more ++ q.more;
  appended = q.appended ∙ ap (λ es. es ++ q.more) p.appended ∙ append_assoc xs p.more q.more;
  allowed = allowed_append a p.more q.more p.allowed (subst (λ s. AllAllowed s q.more) p.core q.allowed);
  of_use = of_use_append a p.more q.more p.of_use (subst (λ s. AllOfUse s q.more) p.core q.of_use);
  core = q.core ∙ ap (λ s. after_all s q.more) p.core ∙ sym (after_append a p.more q.more);
}

-- ---- a stop is for ever
first_some : (stopping : Option Bool) (graceful : Bool) → is_some (first_of stopping graceful) ≡ true
first_some None graceful = refl
first_some (Some first) graceful = refl

let_go_stopping : (b : Bool) (s : Core) → (cond b (let_go s) s).stopping ≡ s.stopping
let_go_stopping true s = refl
let_go_stopping false s = refl

stops_step : (s : Core) (e : Event) → is_some s.stopping ≡ true → is_some (step s e).stopping ≡ true
stops_step s (Command Pause) is = is
stops_step s (Command Resume) is = is
stops_step s (Command (Stop graceful)) is = first_some s.stopping graceful
stops_step s (Notice w) is = is
stops_step s (Back w) is = is
stops_step s (Got t) is = is
stops_step s (Sent w remains) is = is
stops_step s (RingFull w) is = is
stops_step s (Faulted w) is = is
stops_step s (Replaced w) is = is
stops_step s (Retired w) is = ap (λ o. is_some o) (let_go_stopping (all_retired (record s { retired = set.insert s.retired w })) (record s { retired = set.insert s.retired w })) ∙ is
stops_step s (ListenerFailed t) is = is
stops_step s (ListenerEnded t) is = is

stops_all : (s : Core) (es : List Event) → is_some s.stopping ≡ true → is_some (after_all s es).stopping ≡ true
stops_all s [] is = is
stops_all s (e ∷ es) is = stops_all (step s e) es (stops_step s e is)

pub stops_later : (s t : Core) (es : List Event) → t ≡ after_all s es → is_some s.stopping ≡ true → is_some t.stopping ≡ true
stops_later s t es is stops = ap (λ (u : Core). is_some u.stopping) is ∙ stops_all s es stops
