use Rattle.server_program.proofs.program.script_of.Goals as goal

pub returns-else-is_empty-clause-unserved : goal.returns-else-is_empty-clause-unserved
returns-else-is_empty-clause-unserved c = tt
