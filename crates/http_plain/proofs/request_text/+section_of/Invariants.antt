use Rattle.std.proofs.Common.{length}
use Rattle.http_plain.proofs.request_text.+section_of.Given as goal

abbrev pub decreases-section_of : goal.decreases-section_of
decreases-section_of l = length l.lines.now
