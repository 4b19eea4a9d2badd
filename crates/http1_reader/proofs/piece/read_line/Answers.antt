use Rattle.http1_reader.proofs.PieceSteps.{line_long, line_open, line_bad, line_large, line_last, line_sized}
use Rattle.http1_reader.proofs.piece.read_line.Goals as goal

pub returns-then-left-ge-MOST_OF_LINE : goal.returns-then-left-ge-MOST_OF_LINE
returns-then-left-ge-MOST_OF_LINE c =
    line_long c.args.room c.args.left.now c.min.result c.min.ensures c.in_default.ensures.value c.if-left-ge-MOST_OF_LINE.true

pub returns-else-left-ge-MOST_OF_LINE : goal.returns-else-left-ge-MOST_OF_LINE
returns-else-left-ge-MOST_OF_LINE c =
    line_open c.args.room c.args.left.now c.min.result c.min.ensures c.in_default.ensures.value c.if-left-ge-MOST_OF_LINE.false

pub returns-in-Bad : goal.returns-in-Bad
returns-in-Bad c =
    line_bad c.args.room c.args.left.now c.min.result c.min.ensures c.in-Some.at c.in-Some.ensures.within c.in-Some.ensures.value c.in-Bad.ensures

pub returns-in-TooLarge : goal.returns-in-TooLarge
returns-in-TooLarge c =
    line_large c.args.room c.args.left.now c.min.result c.min.ensures c.in-Some.at c.in-Some.ensures.within c.in-Some.ensures.value c.in-TooLarge.ensures

pub returns-in-Last : goal.returns-in-Last
returns-in-Last c =
    line_last c.args.room c.args.left.now c.min.result c.min.ensures c.in-Some.at c.in-Some.ensures.within c.in-Some.ensures.value c.in-Last.ensures

pub returns-in-Sized : goal.returns-in-Sized
returns-in-Sized c =
    line_sized c.args.room c.args.left.now c.min.result c.min.ensures c.in-Some.at c.in-Sized.size c.in-Some.ensures.within c.in-Some.ensures.value
    c.in-Sized.ensures
