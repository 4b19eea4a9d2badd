use Rattle.std.proofs.Common.{refl, ap, ◌+◌, arith, length}
use Rattle.server_run.specs.declared.listener_step.ListenerStep.TheVariants.{NotYet, Skip as Skips, Fail}
use Rattle.script.specs.declared.coming.Coming.TheVariants.{Connection, Late, Skip, Failure}
use Rattle.script.proofs.Offered.{all_answered, all_fresh, given_more, passed_more}
use Rattle.script.proofs.steps.steps_of.Goals as goal
use Rattle.script.proofs.steps.steps_of.Goals.{in-Connection+in-Some, in-Late, in-Skip, in-Failure}

pub loop-coming-preserved : goal.loop-coming-preserved
loop-coming-preserved c =
    let so_far = c.loop-coming.invariant in
    elim c.match-coming.branch [
      | in-Connection+in-Some w ↦ record {
        gone = rw (w.steps-is, w.name-is, w.rest-is, w.push_reserved.ensures.items)
            (given_more _ _ _ _ _ _ _ so_far.gone Connection Connection c.loop-coming-test.true w.in-Connection.is refl w.in-Some.connection w.into_link.result _ w.in-Some.ensures.items
            (record {
              identity = w.into_link.ensures.identity;
              taken = w.into_link.ensures.taken;
              written = w.into_link.ensures.written;
              reads = w.into_link.ensures.reads;
              writes = w.into_link.ensures.writes;
              start = w.into_link.ensures.start;
            }));
        named = let first = ap length w.in-Some.ensures.items in rw (w.name-is, w.rest-is) (omega (arith, first, so_far.named));
        as_many = rw (w.steps-is, w.push_reserved.ensures.len) (ap (λ n. n + 1) so_far.as_many);
        room = rw (w.steps-is, w.push_reserved.ensures.capacity) so_far.room;
      }
      | in-Late w ↦ record {
        gone = rw (w.steps-is, w.name-is, w.rest-is, w.push_reserved-in-Late.ensures.items)
            (passed_more _ _ _ _ _ _ _ so_far.gone Connection Late c.loop-coming-test.true w.in-Late.is NotYet refl refl refl);
        named = rw (w.name-is, w.rest-is) so_far.named;
        as_many = rw (w.steps-is, w.push_reserved-in-Late.ensures.len) (ap (λ n. n + 1) so_far.as_many);
        room = rw (w.steps-is, w.push_reserved-in-Late.ensures.capacity) so_far.room;
      }
      | in-Skip w ↦ record {
        gone = rw (w.steps-is, w.name-is, w.rest-is, w.push_reserved-in-Skip.ensures.items)
            (passed_more _ _ _ _ _ _ _ so_far.gone Connection Skip c.loop-coming-test.true w.in-Skip.is Skips refl refl refl);
        named = rw (w.name-is, w.rest-is) so_far.named;
        as_many = rw (w.steps-is, w.push_reserved-in-Skip.ensures.len) (ap (λ n. n + 1) so_far.as_many);
        room = rw (w.steps-is, w.push_reserved-in-Skip.ensures.capacity) so_far.room;
      }
      | in-Failure w ↦ record {
        gone = rw (w.steps-is, w.name-is, w.rest-is, w.push_reserved-in-Failure.ensures.items)
            (passed_more _ _ _ _ _ _ _ so_far.gone Connection Failure c.loop-coming-test.true w.in-Failure.is Fail refl refl refl);
        named = rw (w.name-is, w.rest-is) so_far.named;
        as_many = rw (w.steps-is, w.push_reserved-in-Failure.ensures.len) (ap (λ n. n + 1) so_far.as_many);
        room = rw (w.steps-is, w.push_reserved-in-Failure.ensures.capacity) so_far.room;
      }
    ]

pub returns-clause-fresh : goal.returns-clause-fresh
returns-clause-fresh c = all_fresh _ _ _ _ _ _ _ c.loop-coming.invariant.gone c.loop-coming-test.false

pub returns-clause-answers : goal.returns-clause-answers
returns-clause-answers c = all_answered _ _ _ _ _ _ _ c.loop-coming.invariant.gone c.loop-coming-test.false
