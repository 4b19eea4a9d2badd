use Rattle.std.proofs.Common.{[], true≢false, sym, ◌∙◌, ap, rules}
use Rattle.std.specs.Prelude.{is_some}
use Rattle.server_acceptor.proofs.CommandSteps.{obeys_none}
use Rattle.server_acceptor.proofs.acceptor.Acceptor.take_end.Goals as goal

pub returns-then-not-paused-clause-takes : goal.returns-then-not-paused-clause-takes
returns-then-not-paused-clause-takes g c = record {
  own = [];
  adds = λ _ is. absurd (true≢false (sym is.0 ∙ search rules));
  obeys = obeys_none g.Do.Done.taken g.Do.Done.count g.Do.Done.served c.args.self.now c.args.done.now c.args.now (g.met.Do.Done.small c.args.done.now);
}

pub returns-then-stopping-clause-takes : goal.returns-then-stopping-clause-takes
returns-then-stopping-clause-takes g c = record {
  own = [];
  adds = λ _ is. absurd (true≢false (sym (search rules) ∙ ap (λ o. is_some o) is.1));
  obeys = obeys_none g.Do.Done.taken g.Do.Done.count g.Do.Done.served c.args.self.now c.args.done.now c.args.now (g.met.Do.Done.small c.args.done.now);
}
