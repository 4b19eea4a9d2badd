-- Words on listeners with a limit.
use Rattle.std.specs.Prelude.{ℕ}
use Rattle.server_bind.specs.declared.limited.Limited.{Limited}

-- the listener behind it
abbrev pub behind : {Li : Type 0} → Limited Li → Li
behind limited = limited.listener

-- how many connections more it gives at the most
abbrev pub remaining_of : {Li : Type 0} → Limited Li → ℕ
remaining_of limited = limited.remaining
