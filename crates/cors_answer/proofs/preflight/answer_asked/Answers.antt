use Rattle.std.proofs.Common.{rules}
use Rattle.cors_answer.proofs.preflight.answer_asked.Goals as goal

pub returns-in-Err : goal.returns-in-Err
returns-in-Err g c = search rules
