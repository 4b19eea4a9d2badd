use Rattle.std.proofs.Common.{◌≡◌, take}
use Rattle.std.specs.List.{list_all}
use Rattle.http_header.specs.Token.{is_visible_or_blank}
use Rattle.http1_plain.proofs.field_value.are_visible.Given as goal

abbrev pub invariant-loop-b : goal.invariant-loop-b
invariant-loop-b l = l.visible ≡ list_all is_visible_or_blank (take l.b-index l.bytes)
