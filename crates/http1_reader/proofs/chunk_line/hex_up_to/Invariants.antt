use Rattle.std.proofs.Common.{◌≤◌}
use Rattle.http1_reader.proofs.ChunkLineSteps.{HexFrom}
use Rattle.http1_reader.proofs.chunk_line.hex_up_to.Given as goal

abbrev pub invariant-loop-digit : goal.invariant-loop-digit
invariant-loop-digit l = record { below : l.number ≤ l.most; value : HexFrom l.digits l.digit-index l.number }
