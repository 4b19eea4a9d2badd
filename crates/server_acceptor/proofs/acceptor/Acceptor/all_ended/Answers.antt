use Rattle.std.proofs.Common.{◌≡◌, rules, slice_index_or, true, false}
use Rattle.server_acceptor.proofs.StopSteps.{all_below, has_ended, still_open}
use Rattle.server_acceptor.proofs.acceptor.Acceptor.all_ended.Goals as goal

pub loop-t-preserved : goal.loop-t-preserved
loop-t-preserved g c = all_below (λ u. slice_index_or c.args.self.now.core.ended u false ≡ true) _ c.loop-t.invariant (has_ended c.args.self.now.core _ (search rules) (search rules))

pub returns-then-allows-clause-no : goal.returns-then-allows-clause-no
returns-then-allows-clause-no g c = λ _ all. still_open c.args.self.now.core c.loop-t.t (search rules) (all c.loop-t.t (search rules))
