use Rattle.cors_sets.proofs.TokenSteps.{same_test}
use Rattle.cors_sets.proofs.token.is_token.Goals as goal

pub returns : goal.returns
returns c = same_test c.args.bytes.now c.is_token.result c.is_token.ensures
