use Rattle.std.proofs.Common.{◌≡◌, ◌≤◌, drop}
use Rattle.script.specs.Numbers.{decimal_from}
use Rattle.script.proofs.text.decimal.number_to.Given as goal

abbrev pub invariant-loop-digit : goal.invariant-loop-digit
invariant-loop-digit l = record {
  whole : decimal_from 0 l.text ≡ decimal_from l.value (drop l.digit-index l.text);
  small : l.value ≤ l.most;
}
