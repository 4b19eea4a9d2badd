use Rattle.std.proofs.Common.{◌<◌, ◌^◌}
use Rattle.http_plain.proofs.ChunkSteps.{HexFrom}
use Rattle.http_plain.proofs.chunk_line.hex_number.Given as goal

abbrev pub invariant-loop-digit : goal.invariant-loop-digit
invariant-loop-digit l = record { below : l.number < 16 ^ l.digit-index; value : HexFrom l.digits l.digit-index l.number }
