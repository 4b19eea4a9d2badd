-- Which sizes are measured.
use Rattle.std.specs.Prelude.{◌≤◌}
use Rattle.bench_accept.specs.declared.size.Size.{Size}

-- some workers, as many as an acceptor may have, and some of them stay free
pub record IsSound (size : Size) : Type 0 where
  pub some : 1 ≤ size.free
  pub free : size.free ≤ size.workers
  pub most : size.workers ≤ 512
