use Rattle.std.proofs.Common.{rules}
use Rattle.cors_answer.proofs.cors.Cors.keep_error.Goals as goal

pub returns : goal.returns
returns g c = search rules
