use Rattle.std.proofs.Common.{rules}
use Rattle.cors_policy.proofs.policy.Policy.writes_wildcard.Goals as goal

pub returns-then-is_all : goal.returns-then-is_all
returns-then-is_all g c = search rules
