-- That no command came and no stop went out, step by step.
use Rattle.std.proofs.Common.{ℕ, cond, List, Option, refl, ap, subst, ◌∙◌, arith}
use Rattle.std.specs.Prelude.{count_by}
use Rattle.std.proofs.lemmas.List.Sums.{sum_by-append}
use Rattle.service_core.specs.Link.{Identity}
use Rattle.server_core.specs.Core.{Core}
use Rattle.server_run.specs.declared.entry.Entry.{Entry}
use Rattle.server_acceptor.specs.Accepting.{LeavesStops, is_command}
use Rattle.server_acceptor.specs.Asking.{MakesRoom}
use Rattle.server_acceptor.specs.Handing.{Hands}
use Rattle.server_acceptor.specs.Sending.{IsForced, IsStopped}
use Rattle.server_acceptor.specs.declared.acceptor.Acceptor.{Acceptor}
use Rattle.server_acceptor.proofs.HandsDoes.{count_returns}

module _ {L : Type 0} where
  pub leaves_none : (a : Acceptor L) → LeavesStops a a
  leaves_none a = record { commands = refl; paused = refl; stopping = refl; stop = refl; timeout = refl; forced = λ w is. is; stopped = λ w is. is }

  pub leaves_trans : (a b c : Acceptor L) → LeavesStops a b → LeavesStops b c → LeavesStops a c
  leaves_trans a b c p q = record {
    commands = q.commands ∙ p.commands;
    paused = q.paused ∙ p.paused;
    stopping = q.stopping ∙ p.stopping;
    stop = q.stop ∙ p.stop;
    timeout = q.timeout ∙ p.timeout;
    forced = λ w is. p.forced w (q.forced w is);
    stopped = λ w is. p.stopped w (q.stopped w is);
  }

  pub leaves_room : (a b : Acceptor L) → MakesRoom a b → LeavesStops a b
  leaves_room a b s = record {
    commands = ap (λ v. count_by is_command v.items) s.events;
    paused = ap (λ (k : Core). k.paused) s.core;
    stopping = ap (λ (k : Core). k.stopping) s.core;
    stop = s.stop;
    timeout = s.shutdown_timeout;
    forced = λ w is. subst (λ v. IsForced v.items w) s.parcels is;
    stopped = λ w is. subst (λ v. IsStopped v.items w) s.parcels is;
  }

  pub leaves_handed : {D : Type 0} (identity : L → Identity) (taken : D → Option (List (Entry L))) (count served : D → ℕ) (a b : Acceptor L) (d e : D) → Hands identity taken count served a b d e → LeavesStops a b
  leaves_handed identity taken count served a b d e h = record {
    commands = omega (arith, ap (count_by is_command) h.logs.appended, sum_by-append (λ x. cond (is_command x) 1 0) a.events.items h.logs.more, count_returns is_command (λ w. refl) (λ w. refl) h.logs.more h.returns);
    paused = h.paused;
    stopping = h.stopping;
    stop = h.stop;
    timeout = h.shutdown_timeout;
    forced = λ w is. subst (λ v. IsForced v.items w) h.parcels is;
    stopped = λ w is. subst (λ v. IsStopped v.items w) h.parcels is;
  }
