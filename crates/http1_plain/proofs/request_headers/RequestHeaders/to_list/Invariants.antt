use Rattle.std.proofs.Common.{◌≡◌, take}
use Rattle.http1_plain.specs.Spanned.{headers_at}
use Rattle.http1_plain.proofs.request_headers.RequestHeaders.to_list.Given as goal

abbrev pub invariant-loop-span : goal.invariant-loop-span
invariant-loop-span l = l.list ≡ headers_at l.text (take l.span-index l.span-items)
