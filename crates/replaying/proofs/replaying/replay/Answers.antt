use Rattle.script.specs.Plan.{plan}
use Rattle.replaying.proofs.Replays.{reported}
use Rattle.replaying.proofs.replaying.replay.Goals as goal

pub returns-clause-report : goal.returns-clause-report
returns-clause-report g c = reported (plan c.args.script) c.in_ok-run.run'.done.entries.items c.in_ok-run.run'.report _ c.in_ok-run.ensures.runs (rw c.entries.ensures at c.in_ok-report_text.ensures)
