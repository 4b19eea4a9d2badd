use Rattle.server_commands.proofs.Owing.{settled}
use Rattle.server_commands.proofs.handle_commands.HandleCommandsCommands.settled.Goals as goal

pub returns-clause-settled : goal.returns-clause-settled
returns-clause-settled g c = settled c.settle.new.self.raisers.items c.settle.ensures.raised
