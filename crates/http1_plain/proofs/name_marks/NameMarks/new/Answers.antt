use Rattle.std.proofs.Common.{refl}
use Rattle.http1_plain.proofs.MarkSteps.{no_mark}
use Rattle.http1_plain.proofs.name_marks.NameMarks.new.Goals as goal

pub returns : goal.returns
returns c = no_mark _ refl
