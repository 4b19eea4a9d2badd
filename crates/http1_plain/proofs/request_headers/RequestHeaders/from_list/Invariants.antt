use Rattle.std.proofs.Common.{◌≡◌, take}
use Rattle.http1_plain.proofs.request_headers.RequestHeaders.from_list.Given as goal

abbrev pub invariant-loop-name : goal.invariant-loop-name
invariant-loop-name l = l.headers ≡ take l.name-index l.name-items
