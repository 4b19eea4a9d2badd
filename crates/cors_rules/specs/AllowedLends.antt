-- What a set of everything or some ends as, where what is allowed is lent.
use Rattle.std.specs.Prelude.{Option}
use Rattle.std.specs.Borrow.{LendsIf, Fml, RattleType, MutBor}
use Rattle.cors_rules.specs.contracts.all_or_some.AllOrSome.{the_row}
use Rattle.cors_rules.specs.declared.all_or_some.AllOrSome.{AllOrSome}
use Rattle.cors_rules.specs.declared.all_or_some.AllOrSome.TheVariants as allowed

-- once the borrow ends, it allows what was last written through it, and everything is still everything
abbrev pub lends_some : (T : RattleType) → MutBor (AllOrSome T.Denot) → Option (MutBor T.Denot) → Fml
lends_some T s r = LendsIf (the_row T) T s r allowed.Some s.now
