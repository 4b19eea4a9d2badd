-- The rules that a script's policy may have beside its origins.
use Rattle.std.specs.Prelude.{true, is_some, nat_eq, codes}
use Rattle.std.specs.List.{ends_with}
use Rattle.http1_grammar.specs.Headers.{get}
use Rattle.cors_rules.specs.Origins.{Rules}
use Rattle.script.specs.declared.policy.script_rule.ScriptRule.{ScriptRule}
use Rattle.script.specs.declared.policy.script_rule.ScriptRule.TheVariants.{Always, Dnt, RustLang}

-- whether the rule allows the origin of a request with the head
abbrev pub script_rules : Rules ScriptRule
script_rules Always origin head = true
script_rules Dnt origin head = is_some (get head.headers (codes "dnt"))
script_rules RustLang origin head = ends_with nat_eq origin (codes ".rust-lang.org")
