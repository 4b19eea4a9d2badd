use Rattle.std.proofs.Common.{◌≡◌, length, All}
use Rattle.http1_grammar.specs.Headers.{get_all}
use Rattle.http1_plain.specs.Spanned.{headers_at, IsSpanOf}
use Rattle.http1_plain.proofs.values_of.next_value.Given as goal

-- only headers of other names were passed over
abbrev pub invariant-loop-span : goal.invariant-loop-span
invariant-loop-span l = record {
  left : get_all (headers_at l.text l.rest) l.name ≡ get_all (headers_at l.text l.spans) l.name;
  spans : All (IsSpanOf l.text) l.rest;
}

abbrev pub decreases-loop-span : goal.decreases-loop-span
decreases-loop-span l = length l.rest
