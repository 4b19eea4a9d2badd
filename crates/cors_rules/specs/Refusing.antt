-- Which policies are refused.
use Rattle.std.specs.Prelude.{Bool, ◌&&◌, Option, Some, None, if◌then◌else◌}
use Rattle.cors_rules.specs.declared.config_error.ConfigError.{ConfigError}
use Rattle.cors_rules.specs.declared.config_error.ConfigError.TheVariants.{IllegalCombination}
use Rattle.cors_rules.specs.Allowed.{is_all}
use Rattle.cors_rules.specs.Policy.{Policy, Builder}

-- credentials for all origins by a wildcard
abbrev pub is_illegal : {G : Type 0} → Policy G → Bool
is_illegal policy = policy.credentials && (policy.wildcard && is_all policy.origins)

-- the kept error, or the illegal combination
abbrev pub error_or_illegal : {G : Type 0} → Policy G → Option ConfigError → Option ConfigError
error_or_illegal policy (Some error) = Some error
error_or_illegal policy None = if is_illegal policy then Some IllegalCombination else None

-- why the builder's policy is refused, if it is
abbrev pub config_error : {G : Type 0} → Builder G → Option ConfigError
config_error builder = error_or_illegal builder.policy builder.error
