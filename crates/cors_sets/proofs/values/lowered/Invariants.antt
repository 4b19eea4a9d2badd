use Rattle.std.proofs.Common.{◌≡◌, take}
use Rattle.http_header.specs.Token.{lowercase}
use Rattle.cors_sets.proofs.values.lowered.Given as goal

abbrev pub invariant-loop-b : goal.invariant-loop-b
invariant-loop-b l = l.text ≡ lowercase (take l.b-index l.name)
