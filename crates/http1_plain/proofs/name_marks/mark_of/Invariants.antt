use Rattle.std.proofs.Common.{◌≡◌, ◌<◌, take}
use Rattle.http1_plain.specs.Marks.{mark_of}
use Rattle.http1_plain.proofs.name_marks.mark_of.Given as goal

abbrev pub invariant-loop-b : goal.invariant-loop-b
invariant-loop-b l = (l.mark ≡ mark_of (take l.b-index l.name)) × (l.mark < 1024)
