use Rattle.std.proofs.Common.{◌<◌, ◌++◌, ◌∷◌, [], Some, None, inl, inr, length, refl, sym, ◌∙◌, ap, append_assoc, arith, get_or-set_other, get_or-set_same}
use Rattle.std.specs.Prelude.{slice_index}
use Rattle.server_core.specs.Core.{Core, is_open, step}
use Rattle.server_core.specs.declared.event.Event.TheVariants.{ListenerEnded, ListenerFailed}
use Rattle.server_acceptor.proofs.AskSteps.{opened_below}
use Rattle.server_acceptor.proofs.LogSteps.{logs_one, logs_trans}
use Rattle.server_acceptor.proofs.acceptor.Acceptor.fail.Goals as goal

pub returns-then-failures-self-clause-logs : goal.returns-then-failures-self-clause-logs
returns-then-failures-self-clause-logs g c =
    let s = c.args.self.now.core in
    let xs = c.args.self.now.events.items in
    logs_trans (logs_one s c.log.new.core xs c.log.new.events.items (ListenerFailed c.args.t) c.requires.opened tt c.log.ensures.core c.log.ensures.events)
    (logs_one c.log.new.core c.log-then-failures-self.new.core c.log.new.events.items c.log-then-failures-self.new.events.items (ListenerEnded c.args.t)
    (ap (λ u. is_open u c.args.t) c.log.ensures.core ∙ c.requires.opened) tt c.log-then-failures-self.ensures.core c.log-then-failures-self.ensures.events)

pub returns-then-failures-self-clause-fails : goal.returns-then-failures-self-clause-fails
returns-then-failures-self-clause-fails g c =
    let inside : c.args.t < length c.args.self.now.failed.items = omega (arith, opened_below c.args.self.now.core c.args.t c.requires.opened, c.args.self.now.listeners.1) in
    record {
      failed = get_or-set_same c.args.self.now.failed.items c.args.t (Some c.args.now) None inside;
      events = inr (
        c.log-then-failures-self.ensures.events ∙ ap (λ es. es ++ ListenerEnded c.args.t ∷ []) c.log.ensures.events ∙ append_assoc c.args.self.now.events.items (ListenerFailed c.args.t ∷ []) (ListenerEnded c.args.t ∷ []),
        ap (λ (u : Core). slice_index u.failures c.args.t) c.log-then-failures-self.ensures.core ∙ sym c.failures.ensures ∙ c.if-failures-self.true,
      );
    }

pub returns-then-failures-self-clause-failed : goal.returns-then-failures-self-clause-failed
returns-then-failures-self-clause-failed g c v other = get_or-set_other c.args.self.now.failed.items c.args.t v (Some c.args.now) None other

pub returns-then-failures-self-clause-asks : goal.returns-then-failures-self-clause-asks
returns-then-failures-self-clause-asks g c =
    let is = c.log-then-failures-self.ensures.core ∙ ap (λ s. step s (ListenerEnded c.args.t)) c.log.ensures.core in
    record {
      parcels = refl;
      notes = refl;
      ready = refl;
      stopped = refl;
      forced = refl;
      stop = refl;
      shutdown_timeout = refl;
      first = refl;
      limit = refl;
      retry_limit = refl;
      lacks_room = refl;
      out = ap (λ (u : Core). u.out) is;
      order = ap (λ (u : Core). u.order) is;
      free = ap (λ (u : Core). u.free) is;
      paused = ap (λ (u : Core). u.paused) is;
      stopping = ap (λ (u : Core). u.stopping) is;
    }

pub returns-then-failures-self-clause-same : goal.returns-then-failures-self-clause-same
returns-then-failures-self-clause-same g c = record { waiting = refl; serial = refl; places = refl }

pub returns-else-failures-self-clause-logs : goal.returns-else-failures-self-clause-logs
returns-else-failures-self-clause-logs g c = logs_one c.args.self.now.core c.log.new.core c.args.self.now.events.items c.log.new.events.items (ListenerFailed c.args.t) c.requires.opened tt c.log.ensures.core c.log.ensures.events

pub returns-else-failures-self-clause-fails : goal.returns-else-failures-self-clause-fails
returns-else-failures-self-clause-fails g c =
    let inside : c.args.t < length c.args.self.now.failed.items = omega (arith, opened_below c.args.self.now.core c.args.t c.requires.opened, c.args.self.now.listeners.1) in
    record { failed = get_or-set_same c.args.self.now.failed.items c.args.t (Some c.args.now) None inside; events = inl c.log.ensures.events }

pub returns-else-failures-self-clause-failed : goal.returns-else-failures-self-clause-failed
returns-else-failures-self-clause-failed g c v other = get_or-set_other c.args.self.now.failed.items c.args.t v (Some c.args.now) None other

pub returns-else-failures-self-clause-asks : goal.returns-else-failures-self-clause-asks
returns-else-failures-self-clause-asks g c =
    let is = c.log.ensures.core in
    record {
      parcels = refl;
      notes = refl;
      ready = refl;
      stopped = refl;
      forced = refl;
      stop = refl;
      shutdown_timeout = refl;
      first = refl;
      limit = refl;
      retry_limit = refl;
      lacks_room = refl;
      out = ap (λ (u : Core). u.out) is;
      order = ap (λ (u : Core). u.order) is;
      free = ap (λ (u : Core). u.free) is;
      paused = ap (λ (u : Core). u.paused) is;
      stopping = ap (λ (u : Core). u.stopping) is;
    }

pub returns-else-failures-self-clause-same : goal.returns-else-failures-self-clause-same
returns-else-failures-self-clause-same g c = record { waiting = refl; serial = refl; places = refl }
