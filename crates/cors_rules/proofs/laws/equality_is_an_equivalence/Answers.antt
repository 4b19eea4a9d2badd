use Rattle.cors_rules.specs.Equality.{policy_equiv}
use Rattle.cors_rules.proofs.laws.equality_is_an_equivalence.Goals as goal

pub returns : goal.returns
returns g c = policy_equiv
