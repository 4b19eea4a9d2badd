use Rattle.std.proofs.Common.{◌≡◌, ◌<◌, ℕ, true, false}
use Rattle.std.specs.Prelude.{slice_index_or}
use Rattle.server_acceptor.proofs.acceptor.Acceptor.all_ended.Given as goal

abbrev pub invariant-loop-t : goal.invariant-loop-t
invariant-loop-t g l = (u : ℕ) → u < l.t → slice_index_or l.self.core.ended u false ≡ true
