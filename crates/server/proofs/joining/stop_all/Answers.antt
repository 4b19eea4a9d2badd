use Rattle.std.proofs.Common.{ap, ◌∙◌}
use Rattle.std.proofs.Math.Seq.{map-set_same}
use Rattle.server_acceptor.specs.Rings.{ring_in}
use Rattle.server_acceptor.proofs.PlaceSteps.{same_ring}
use Rattle.server.proofs.joining.stop_all.Goals as goal

pub loop-w-preserved : goal.loop-w-preserved
loop-w-preserved g c =
    map-set_same ring_in _ c.loop-w.w c.push.new.self c.index_mut.result.now (same_ring c.index_mut.result.now c.push.new.self c.push.ensures.ring ∙ ap ring_in c.index_mut.ensures.value) ∙ c.loop-w.invariant
