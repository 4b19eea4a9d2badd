-- One more flag is raised.
use Rattle.std.proofs.Common.{◌≡◌, ◌<◌, ◌∙◌, length, arith}
use Rattle.std.proofs.Math.Seq.{map-set_same}
use Rattle.std.proofs.lemmas.List.Elements.{AllWithin-more_set}
use Rattle.server_commands.specs.Replies.{asked_by, knows_of, raises_of}
use Rattle.server_commands.proofs.owed.raise_all.Goals as goal

pub loop-raiser-preserved : goal.loop-raiser-preserved
loop-raiser-preserved c =
    let len = c.loop-raiser.auto.raisers in
    let tested = c.loop-raiser-test.true in
    let inside : c.loop-raiser.raiser-index < length c.loop-raiser.raisers = omega (arith, len, tested) in
    record {
      raised = AllWithin-more_set c.loop-raiser.raisers c.loop-raiser.raiser-index c.raise.new.self inside (λ raiser. knows_of raiser ≡ 1) c.loop-raiser.invariant.raised c.raise.ensures.raised;
      same = map-set_same raises_of c.loop-raiser.raisers c.loop-raiser.raiser-index c.raise.new.self c.raiser-item.result c.raise.ensures.same ∙ c.loop-raiser.invariant.same;
      commands = map-set_same asked_by c.loop-raiser.raisers c.loop-raiser.raiser-index c.raise.new.self c.raiser-item.result c.raise.ensures.command ∙ c.loop-raiser.invariant.commands;
    }
