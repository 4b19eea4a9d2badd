-- Which origins the rules allow.
use Rattle.std.specs.Prelude.{ℕ, Bool, List, codes, bytes_eq, nat_eq}
use Rattle.std.specs.List.{ends_with}
use Rattle.http1_grammar.specs.Head.{Head}
use Rattle.cors_plain.specs.declared.rule.Rule.{Rule}
use Rattle.cors_plain.specs.declared.rule.Rule.TheVariants.{UnderExample, OfPosts}

abbrev pub allowed_by : Rule → List ℕ → Head → Bool
allowed_by UnderExample origin head = ends_with nat_eq origin (codes ".example.org")
allowed_by OfPosts origin head = bytes_eq head.method (codes "POST")
