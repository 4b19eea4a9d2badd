use Rattle.http_plain.proofs.ChunkSteps.{CountsFrom}
use Rattle.http_plain.proofs.chunk_line.hex_len.Given as goal

abbrev pub invariant-loop-at : goal.invariant-loop-at
invariant-loop-at l = CountsFrom l.text l.at
