-- Which policies a transform refuses.
use Rattle.std.specs.Prelude.{◌≡◌, Some}
use Rattle.cors_rules.specs.Policy.{Builder}
use Rattle.cors_rules.specs.Refusing.{config_error}
use Rattle.cors_answer.specs.declared.init_error.CorsInitError.{CorsInitError}
use Rattle.cors_answer.specs.declared.init_error.CorsInitError.TheVariants.{Config, Memory}

-- the builder's own error; memory may run out of itself
abbrev pub Refuses : {G : Type 0} → Builder G → CorsInitError → Type 0
Refuses builder (Config error) = config_error builder ≡ Some error
Refuses builder Memory = Unit {0}
