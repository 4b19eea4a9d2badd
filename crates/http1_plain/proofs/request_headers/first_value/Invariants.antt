use Rattle.std.proofs.Common.{◌≡◌, drop}
use Rattle.http1_grammar.specs.Headers.{get}
use Rattle.http1_plain.specs.Spanned.{headers_at}
use Rattle.http1_plain.proofs.request_headers.first_value.Given as goal

-- only headers of other names were passed over
abbrev pub invariant-loop-span : goal.invariant-loop-span
invariant-loop-span l = get (headers_at l.text (drop l.span-index l.spans)) l.name ≡ get (headers_at l.text l.spans) l.name
