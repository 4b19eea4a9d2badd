-- The limits where none are given.
use Rattle.std.specs.Prelude.{◌≡◌}
use Rattle.http1_grammar.specs.Limits.{Limits}

pub record IsDefault (limits : Limits) : Type 0 where
  pub head : limits.head ≡ 32768
  pub body : limits.body ≡ 1048576
