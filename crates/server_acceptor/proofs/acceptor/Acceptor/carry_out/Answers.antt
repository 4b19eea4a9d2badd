use Rattle.std.proofs.Common.{◌≡◌, ◌⊎◌, [], Bool, true, false, Option, Some, None, inl, inr, refl, sym, ◌∙◌, ap, subst}
use Rattle.std.specs.Prelude.{is_some}
use Rattle.server_core.specs.Core.{Core, first_of, step}
use Rattle.server_core.specs.declared.command.Command.{Command}
use Rattle.server_core.specs.declared.command.Command.TheVariants.{Pause, Resume, Stop}
use Rattle.server_core.specs.declared.event.Event.TheVariants.{Command as CommandOf}
use Rattle.server_run.specs.Done.{Adds}
use Rattle.server_run.specs.declared.outcome.Outcome.TheVariants.{Stopped}
use Rattle.server_jobs.specs.declared.waiting.Waiting.{Waiting}
use Rattle.server_acceptor.specs.Commanding.{KeepsStop, goes_at, gone_of, waits_behind}
use Rattle.server_acceptor.proofs.CommandSteps.{behind_kept, none_gone}
use Rattle.server_acceptor.proofs.acceptor.Acceptor.carry_out.Goals as goal

stops_then : (stopping : Option Bool) (graceful : Bool) → is_some (first_of stopping graceful) ≡ true
stops_then None graceful = refl
stops_then (Some first) graceful = refl

goes_so : {L : Type 0} (s t : Core) (before after : Option (Waiting L)) (command : Command) → after ≡ waits_behind command before → t ≡ step s (CommandOf command)
    → ((after ≡ before) × (gone_of (Stopped false) (goes_at command before) ≡ [])) ⊎ ((after ≡ None) × (gone_of (Stopped false) (goes_at command before) ≡ gone_of (Stopped false) before) × (is_some t.stopping ≡ true))
goes_so s t before after Pause waits is = inl (waits, refl)
goes_so s t before after Resume waits is = inl (waits, refl)
goes_so s t before after (Stop graceful) waits is = inr (waits, refl, ap (λ (u : Core). is_some u.stopping) is ∙ stops_then s.stopping graceful)

pub returns-clause-obeys : goal.returns-clause-obeys
returns-clause-obeys g c =
    let a = c.args.self.now in
    let w = c.take.ensures.value in
    let e = c.split-waiting.ensures in
    record {
      gone = gone_of (Stopped false) (goes_at c.args.command a.waiting);
      adds = subst (λ o. Adds g.Do.Done.taken g.Do.Done.count g.Do.Done.served c.args.done.now c.hand_on.new.done (gone_of (Stopped false) o)) (ap (λ p. p.1) e ∙ ap (λ o. goes_at c.args.command o) w) c.hand_on.ensures.adds;
      lets_go = goes_so a.core c.log.new.core a.waiting c.split-waiting.result.0 c.args.command (ap (λ p. p.0) e ∙ ap (λ o. waits_behind c.args.command o) w) c.log.ensures.core;
      early = λ none. none_gone a.core c.args.command a.waiting a.kept a.waits (sym a.counted ∙ none);
      core = c.log.ensures.core;
      events = c.log.ensures.events;
      stop = subst (λ o. KeepsStop a.stop o c.args.now) (sym c.first_stop-self.ensures) (behind_kept a.stop c.args.command c.args.now);
      beside = record { parcels = refl; notes = refl; ready = refl; stopped = refl; forced = refl; serial = refl; places = refl; failed = refl; first = refl; limit = refl; retry_limit = refl; shutdown_timeout = refl; lacks_room = refl };
    }
