use Rattle.std.proofs.Common.{refl}
use Rattle.http1_dispatcher.proofs.GoingSteps.{read_turns}
use Rattle.http1_dispatcher.proofs.inner_dispatcher.InnerDispatcher.read.Goals as goal

pub returns-clause-turns : goal.returns-clause-turns
returns-clause-turns g c =
    read_turns _ _ _ _ _ _ _ c.args.self.now.exchange (record c.args.self.now.exchange { reader = c.fill.new.reader }) _ _ c.fill.result
    c.requires.quiet refl refl c.fill.ensures.same c.fill.ensures.answer c.fill.ensures.armed c.requires.going
