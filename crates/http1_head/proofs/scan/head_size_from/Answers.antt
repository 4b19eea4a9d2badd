use Rattle.std.proofs.Common.{◌+◌, arith}
use Rattle.http1_head.proofs.ScanSteps.{feeds_before, scan_begun, scan_on, scan_skip, scan_open, scan_ends, scan_head, scan_none}
use Rattle.http1_head.proofs.scan.head_size_from.Goals as goal

pub returns-then-end-bytes-clause-value : goal.returns-then-end-bytes-clause-value
returns-then-end-bytes-clause-value c =
    scan_none c.args.bytes.now c.line_feed-end.result (feeds_before c.args.bytes.now c.args.from + c.loop-at.lines) (omega arith)
    (scan_skip c.args.bytes.now c.loop-at.at c.line_feed-end.result (feeds_before c.args.bytes.now c.args.from + c.loop-at.lines) c.line_feed-end.ensures.from c.line_feed-end.ensures.within
    c.line_feed-end.ensures.before c.loop-at.invariant.scanned)

pub returns-in-Some-clause-value : goal.returns-in-Some-clause-value
returns-in-Some-clause-value c =
    scan_head c.args.bytes.now c.line_feed-end.result c.in-Some.len (feeds_before c.args.bytes.now c.args.from + c.loop-at.lines) (omega arith) (c.line_feed-end.ensures.here (omega arith)) c.in-Some.ensures.value
    (scan_skip c.args.bytes.now c.loop-at.at c.line_feed-end.result (feeds_before c.args.bytes.now c.args.from + c.loop-at.lines) c.line_feed-end.ensures.from c.line_feed-end.ensures.within
    c.line_feed-end.ensures.before c.loop-at.invariant.scanned)

pub returns-in-Some-clause-lines : goal.returns-in-Some-clause-lines
returns-in-Some-clause-lines c =
    let ends = scan_ends c.args.bytes.now c.line_feed-end.result c.in-Some.len (feeds_before c.args.bytes.now c.args.from + c.loop-at.lines) (omega arith)
    (c.line_feed-end.ensures.here (omega arith)) c.in-Some.ensures.value
    (scan_skip c.args.bytes.now c.loop-at.at c.line_feed-end.result (feeds_before c.args.bytes.now c.args.from + c.loop-at.lines) c.line_feed-end.ensures.from c.line_feed-end.ensures.within
    c.line_feed-end.ensures.before c.loop-at.invariant.scanned) in
    omega (arith, ends, c.count_lines.ensures)

pub loop-at-preserved : goal.loop-at-preserved
loop-at-preserved c = record {
  within = omega arith;
  scanned = scan_on c.args.bytes.now (c.line_feed-end.result + 1) (feeds_before c.args.bytes.now c.args.from) c.loop-at.lines
      (scan_open c.args.bytes.now c.line_feed-end.result (feeds_before c.args.bytes.now c.args.from + c.loop-at.lines) (omega arith) (c.line_feed-end.ensures.here (omega arith))
      c.in_default.ensures.value
      (scan_skip c.args.bytes.now c.loop-at.at c.line_feed-end.result (feeds_before c.args.bytes.now c.args.from + c.loop-at.lines) c.line_feed-end.ensures.from
      c.line_feed-end.ensures.within c.line_feed-end.ensures.before c.loop-at.invariant.scanned));
}

pub loop-at-init : goal.loop-at-init
loop-at-init c = record { within = c.requires.within; scanned = scan_begun c.args.bytes.now c.args.from c.requires.passed }

pub returns-clause-value : goal.returns-clause-value
returns-clause-value c = scan_none c.args.bytes.now c.loop-at.at (feeds_before c.args.bytes.now c.args.from + c.loop-at.lines) (omega arith) c.loop-at.invariant.scanned
