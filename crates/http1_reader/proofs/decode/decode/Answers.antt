use Rattle.std.proofs.Common.{subst}
use Rattle.http1_head.proofs.ScanSteps.{from}
use Rattle.http1_reader.specs.Decoding.{Turned}
use Rattle.http1_reader.proofs.DecodeSteps.{going_on}
use Rattle.http1_reader.proofs.decode.decode.Goals as goal

pub loop-used-preserved : goal.loop-used-preserved
loop-used-preserved c =
    going_on c.args.limits c.args.bytes.now c.args.decoded.now c.loop-used.decoded c.loop-used.at c.loop-used.next c.loop-used.invariant _ c.in-On.used
    (subst (Turned c.args.limits (from c.loop-used.at c.args.bytes.now) c.loop-used.decoded c.take_turn.new.decoded) c.in-On.is c.in_ok-used.ensures.ok)
