use Rattle.std.proofs.Common.{◌≡◌, take, fold}
use Rattle.http1_grammar.specs.Headers.{Header}
use Rattle.cors_rules.specs.Sets.{Texts, with}
use Rattle.cors_policy.proofs.name_list.add_names.Given as goal

abbrev pub invariant-loop-name : goal.invariant-loop-name
invariant-loop-name l =
    l.names.items ≡ fold (λ (names : Texts) (header : Header). with names header.0) l.fn.names.items (take l.name-index l.name-items)
