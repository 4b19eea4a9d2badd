use Rattle.std.proofs.Common.{refl, sym, ap, subst, None, ◌≤◌}
use Rattle.server_acceptor.proofs.CarrySteps.{carries_got, carries_none_given}
use Rattle.std.specs.Prelude.{slice_index_or}
use Rattle.server_run.specs.Delivery.{given_at}
use Rattle.server_acceptor.proofs.LogSteps.{logs_none}
use Rattle.server_acceptor.proofs.acceptor.Acceptor.ask.Goals as goal

pub returns-in-Got-clause-carries : goal.returns-in-Got-clause-carries
returns-in-Got-clause-carries g c none_left first entries carries = carries_got _ _ _ none_left first _ _ c.args.t _ _ entries c.in-Got.link c.in-Got.ensures.answer c.take_up.ensures.asks c.take_up.ensures.takes carries

pub returns-in-NotYet-clause-carries : goal.returns-in-NotYet-clause-carries
returns-in-NotYet-clause-carries g c none_left first entries carries = carries_none_given _ _ _ none_left first _ _ c.args.t _ _ entries c.in-NotYet.ensures.answer.0 (record { parcels = refl; notes = refl; ready = refl; stopped = refl; forced = refl; stop = refl; shutdown_timeout = refl; first = refl; limit = refl; retry_limit = refl; lacks_room = refl; out = refl; order = refl; free = refl; paused = refl; stopping = refl }) refl refl refl carries

pub returns-in-Skipped-clause-carries : goal.returns-in-Skipped-clause-carries
returns-in-Skipped-clause-carries g c none_left first entries carries = carries_none_given _ _ _ none_left first _ _ c.args.t _ _ entries c.in-Skipped.ensures.answer.0 (record { parcels = refl; notes = refl; ready = refl; stopped = refl; forced = refl; stop = refl; shutdown_timeout = refl; first = refl; limit = refl; retry_limit = refl; lacks_room = refl; out = refl; order = refl; free = refl; paused = refl; stopping = refl }) refl refl refl carries

pub returns-in-Failed-clause-carries : goal.returns-in-Failed-clause-carries
returns-in-Failed-clause-carries g c none_left first entries carries = carries_none_given _ _ _ none_left first _ _ c.args.t _ _ entries c.in-Failed.ensures.answer.0 c.fail.ensures.asks c.fail.ensures.same.waiting c.fail.ensures.same.serial c.fail.ensures.same.places carries

pub returns-in-Ended-clause-carries : goal.returns-in-Ended-clause-carries
returns-in-Ended-clause-carries g c none_left first entries carries = carries_none_given _ _ _ none_left first _ _ c.args.t _ _ entries c.in-Ended.ensures.answer.0 c.end.ensures.asks c.end.ensures.same.waiting c.end.ensures.same.serial c.end.ensures.same.places carries

pub returns-in-Got-clause-faults : goal.returns-in-Got-clause-faults
returns-in-Got-clause-faults g c = c.accept_at.ensures.faults

pub returns-in-Got-clause-counts : goal.returns-in-Got-clause-counts
returns-in-Got-clause-counts g c = c.accept_at.ensures.counts

pub returns-in-Got-clause-marked : goal.returns-in-Got-clause-marked
returns-in-Got-clause-marked g c = c.in-Got.ensures.marked

pub returns-in-Got-clause-listeners : goal.returns-in-Got-clause-listeners
returns-in-Got-clause-listeners g c = c.in-Got.ensures.answer.asks

pub returns-in-Got-clause-logs : goal.returns-in-Got-clause-logs
returns-in-Got-clause-logs g c = c.take_up.ensures.logs

pub returns-in-Got-clause-asks : goal.returns-in-Got-clause-asks
returns-in-Got-clause-asks g c = c.take_up.ensures.asks

pub returns-in-Got-clause-failed : goal.returns-in-Got-clause-failed
returns-in-Got-clause-failed g c = λ v other. ap (λ xs. slice_index_or xs.items v None) c.take_up.ensures.failed

pub returns-in-Got-clause-leaves : goal.returns-in-Got-clause-leaves
returns-in-Got-clause-leaves g c = (c.in-Got.link, c.take_up.ensures.takes)

pub returns-in-Got-clause-asked : goal.returns-in-Got-clause-asked
returns-in-Got-clause-asked g c = (c.take_up.ensures.takes.events, c.in-Got.ensures.answer.given_more)

pub returns-in-NotYet-clause-faults : goal.returns-in-NotYet-clause-faults
returns-in-NotYet-clause-faults g c = c.accept_at.ensures.faults

pub returns-in-NotYet-clause-counts : goal.returns-in-NotYet-clause-counts
returns-in-NotYet-clause-counts g c = c.accept_at.ensures.counts

pub returns-in-NotYet-clause-marked : goal.returns-in-NotYet-clause-marked
returns-in-NotYet-clause-marked g c = c.in-NotYet.ensures.marked

pub returns-in-NotYet-clause-listeners : goal.returns-in-NotYet-clause-listeners
returns-in-NotYet-clause-listeners g c = c.in-NotYet.ensures.answer.0.asks

pub returns-in-NotYet-clause-given : goal.returns-in-NotYet-clause-given
returns-in-NotYet-clause-given g c = subst (λ n. slice_index_or c.args.self.now.places.items c.args.t 0 ≤ n) (sym c.in-NotYet.ensures.answer.0.given_same) c.requires.given

pub returns-in-NotYet-clause-logs : goal.returns-in-NotYet-clause-logs
returns-in-NotYet-clause-logs g c = logs_none

pub returns-in-NotYet-clause-asks : goal.returns-in-NotYet-clause-asks
returns-in-NotYet-clause-asks g c = record { parcels = refl; notes = refl; ready = refl; stopped = refl; forced = refl; stop = refl; shutdown_timeout = refl; first = refl; limit = refl; retry_limit = refl; lacks_room = refl; out = refl; order = refl; free = refl; paused = refl; stopping = refl }

pub returns-in-NotYet-clause-failed : goal.returns-in-NotYet-clause-failed
returns-in-NotYet-clause-failed g c = λ v other. refl

pub returns-in-NotYet-clause-leaves : goal.returns-in-NotYet-clause-leaves
returns-in-NotYet-clause-leaves g c = record { waiting = refl; serial = refl; places = refl }

pub returns-in-NotYet-clause-asked : goal.returns-in-NotYet-clause-asked
returns-in-NotYet-clause-asked g c = (refl, c.in-NotYet.ensures.answer.0.given_same, c.in-NotYet.ensures.answer.1)

pub returns-in-Skipped-clause-faults : goal.returns-in-Skipped-clause-faults
returns-in-Skipped-clause-faults g c = c.accept_at.ensures.faults

pub returns-in-Skipped-clause-counts : goal.returns-in-Skipped-clause-counts
returns-in-Skipped-clause-counts g c = c.accept_at.ensures.counts

pub returns-in-Skipped-clause-marked : goal.returns-in-Skipped-clause-marked
returns-in-Skipped-clause-marked g c = c.in-Skipped.ensures.marked

pub returns-in-Skipped-clause-listeners : goal.returns-in-Skipped-clause-listeners
returns-in-Skipped-clause-listeners g c = c.in-Skipped.ensures.answer.0.asks

pub returns-in-Skipped-clause-given : goal.returns-in-Skipped-clause-given
returns-in-Skipped-clause-given g c = subst (λ n. slice_index_or c.args.self.now.places.items c.args.t 0 ≤ n) (sym c.in-Skipped.ensures.answer.0.given_same) c.requires.given

pub returns-in-Skipped-clause-logs : goal.returns-in-Skipped-clause-logs
returns-in-Skipped-clause-logs g c = logs_none

pub returns-in-Skipped-clause-asks : goal.returns-in-Skipped-clause-asks
returns-in-Skipped-clause-asks g c = record { parcels = refl; notes = refl; ready = refl; stopped = refl; forced = refl; stop = refl; shutdown_timeout = refl; first = refl; limit = refl; retry_limit = refl; lacks_room = refl; out = refl; order = refl; free = refl; paused = refl; stopping = refl }

pub returns-in-Skipped-clause-failed : goal.returns-in-Skipped-clause-failed
returns-in-Skipped-clause-failed g c = λ v other. refl

pub returns-in-Skipped-clause-leaves : goal.returns-in-Skipped-clause-leaves
returns-in-Skipped-clause-leaves g c = record { waiting = refl; serial = refl; places = refl }

pub returns-in-Skipped-clause-asked : goal.returns-in-Skipped-clause-asked
returns-in-Skipped-clause-asked g c = (refl, c.in-Skipped.ensures.answer.0.given_same, c.in-Skipped.ensures.answer.1)

pub returns-in-Failed-clause-faults : goal.returns-in-Failed-clause-faults
returns-in-Failed-clause-faults g c = c.accept_at.ensures.faults

pub returns-in-Failed-clause-counts : goal.returns-in-Failed-clause-counts
returns-in-Failed-clause-counts g c = c.accept_at.ensures.counts

pub returns-in-Failed-clause-marked : goal.returns-in-Failed-clause-marked
returns-in-Failed-clause-marked g c = c.in-Failed.ensures.marked

pub returns-in-Failed-clause-listeners : goal.returns-in-Failed-clause-listeners
returns-in-Failed-clause-listeners g c = c.in-Failed.ensures.answer.0.asks

pub returns-in-Failed-clause-logs : goal.returns-in-Failed-clause-logs
returns-in-Failed-clause-logs g c = c.fail.ensures.logs

pub returns-in-Failed-clause-asks : goal.returns-in-Failed-clause-asks
returns-in-Failed-clause-asks g c = c.fail.ensures.asks

pub returns-in-Failed-clause-failed : goal.returns-in-Failed-clause-failed
returns-in-Failed-clause-failed g c = c.fail.ensures.failed

pub returns-in-Failed-clause-leaves : goal.returns-in-Failed-clause-leaves
returns-in-Failed-clause-leaves g c = c.fail.ensures.same

pub returns-in-Failed-clause-asked : goal.returns-in-Failed-clause-asked
returns-in-Failed-clause-asked g c = (c.fail.ensures.fails, c.in-Failed.ensures.answer.0.given_same, c.in-Failed.ensures.answer.1)

pub returns-in-Failed-clause-given : goal.returns-in-Failed-clause-given
returns-in-Failed-clause-given g c = subst (λ v. slice_index_or v.items c.args.t 0 ≤ given_at g.Li.Listener.given c.accept_at.new.listeners.items c.args.t) (sym c.fail.ensures.same.places) (subst (λ n. slice_index_or c.args.self.now.places.items c.args.t 0 ≤ n) (sym c.in-Failed.ensures.answer.0.given_same) c.requires.given)

pub returns-in-Ended-clause-faults : goal.returns-in-Ended-clause-faults
returns-in-Ended-clause-faults g c = c.accept_at.ensures.faults

pub returns-in-Ended-clause-counts : goal.returns-in-Ended-clause-counts
returns-in-Ended-clause-counts g c = c.accept_at.ensures.counts

pub returns-in-Ended-clause-marked : goal.returns-in-Ended-clause-marked
returns-in-Ended-clause-marked g c = c.in-Ended.ensures.marked

pub returns-in-Ended-clause-listeners : goal.returns-in-Ended-clause-listeners
returns-in-Ended-clause-listeners g c = c.in-Ended.ensures.answer.0.asks

pub returns-in-Ended-clause-logs : goal.returns-in-Ended-clause-logs
returns-in-Ended-clause-logs g c = c.end.ensures.logs

pub returns-in-Ended-clause-asks : goal.returns-in-Ended-clause-asks
returns-in-Ended-clause-asks g c = c.end.ensures.asks

pub returns-in-Ended-clause-failed : goal.returns-in-Ended-clause-failed
returns-in-Ended-clause-failed g c = λ v other. ap (λ xs. slice_index_or xs.items v None) c.end.ensures.failed

pub returns-in-Ended-clause-leaves : goal.returns-in-Ended-clause-leaves
returns-in-Ended-clause-leaves g c = c.end.ensures.same

pub returns-in-Ended-clause-asked : goal.returns-in-Ended-clause-asked
returns-in-Ended-clause-asked g c = (c.end.ensures.events, c.in-Ended.ensures.answer.0.given_same, c.in-Ended.ensures.answer.1)

pub returns-in-Ended-clause-given : goal.returns-in-Ended-clause-given
returns-in-Ended-clause-given g c = subst (λ v. slice_index_or v.items c.args.t 0 ≤ given_at g.Li.Listener.given c.accept_at.new.listeners.items c.args.t) (sym c.end.ensures.same.places) (subst (λ n. slice_index_or c.args.self.now.places.items c.args.t 0 ≤ n) (sym c.in-Ended.ensures.answer.0.given_same) c.requires.given)

pub returns-in-Failed-clause-counted : goal.returns-in-Failed-clause-counted
returns-in-Failed-clause-counted g c = λ _. c.fail.ensures.counted

pub returns-in-Ended-clause-ended_only : goal.returns-in-Ended-clause-ended_only
returns-in-Ended-clause-ended_only g c = λ _. refl
