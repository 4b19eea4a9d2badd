use Rattle.std.proofs.Common.{rules}
use Rattle.server_commands.proofs.ScriptSteps.{given_none, given_one, gives, waits}
use Rattle.server_commands.proofs.script_commands.ScriptCommandsCommands.next.Goals as goal

pub returns-in-Some-Give-clause-step : goal.returns-in-Some-Give-clause-step
returns-in-Some-Give-clause-step c = gives c.args.self.now.place c.args.self.now.steps.items c.in-Some-Give.command (search rules)

pub returns-in-Some-NotYet-clause-step : goal.returns-in-Some-NotYet-clause-step
returns-in-Some-NotYet-clause-step c = waits c.args.self.now.place c.args.self.now.steps.items (search rules)

pub returns-in-Some-Give-clause-given : goal.returns-in-Some-Give-clause-given
returns-in-Some-Give-clause-given c = given_one c.args.self.now.place c.args.self.now.steps.items c.in-Some-Give.command (search rules)

pub returns-in-Some-NotYet-clause-given : goal.returns-in-Some-NotYet-clause-given
returns-in-Some-NotYet-clause-given c = given_none c.args.self.now.place c.args.self.now.steps.items (search rules)
