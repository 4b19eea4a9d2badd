use Rattle.handlers.proofs.Ways.{echoed_more, steps_more}
use Rattle.handlers.proofs.echo.go_on.Goals as goal

pub returns-in-Pending-read_more-clause-polled : goal.returns-in-Pending-read_more-clause-polled
returns-in-Pending-read_more-clause-polled g c =
    let first = rw c.in-Ready-On.field-0-is at c.in-Ready-On.ensures.turns in
    steps_more g.L.Link _ _ _ _ _ _ first c.in-Pending-read_more.ensures.turns

pub returns-in-Ready-Out-read_more-clause-polled : goal.returns-in-Ready-Out-read_more-clause-polled
returns-in-Ready-Out-read_more-clause-polled g c =
    let first = rw c.in-Ready-On.field-0-is at c.in-Ready-On.ensures.turns in
    echoed_more g.L.Link _ _ _ _ _ first (rw c.in-Ready-Out-read_more.field-0-is at c.in-Ready-Out-read_more.ensures.turns)

pub returns-in-Pending-write_back-clause-polled : goal.returns-in-Pending-write_back-clause-polled
returns-in-Pending-write_back-clause-polled g c =
    let first = rw c.in-Ready-On.field-0-is at c.in-Ready-On.ensures.turns in
    let second = rw c.in-Ready-On-read_more.field-0-is at c.in-Ready-On-read_more.ensures.turns in
    steps_more g.L.Link _ _ _ _ _ _ (steps_more g.L.Link _ _ _ _ _ _ first second) c.in-Pending-write_back.ensures.turns

pub returns-in-Ready-Out-write_back-clause-polled : goal.returns-in-Ready-Out-write_back-clause-polled
returns-in-Ready-Out-write_back-clause-polled g c =
    let first = rw c.in-Ready-On.field-0-is at c.in-Ready-On.ensures.turns in
    let second = rw c.in-Ready-On-read_more.field-0-is at c.in-Ready-On-read_more.ensures.turns in
    echoed_more g.L.Link _ _ _ _ _ (steps_more g.L.Link _ _ _ _ _ _ first second) (rw c.in-Ready-Out-write_back.field-0-is at c.in-Ready-Out-write_back.ensures.turns)

pub returns-in-Ready-On-write_back-clause-polled : goal.returns-in-Ready-On-write_back-clause-polled
returns-in-Ready-On-write_back-clause-polled g c =
    let first = rw c.in-Ready-On.field-0-is at c.in-Ready-On.ensures.turns in
    let second = rw c.in-Ready-On-read_more.field-0-is at c.in-Ready-On-read_more.ensures.turns in
    rw c.yield_now.ensures.pending (steps_more g.L.Link _ _ _ _ _ _ (steps_more g.L.Link _ _ _ _ _ _ first second) (rw c.in-Ready-On-write_back.field-0-is at c.in-Ready-On-write_back.ensures.turns))
