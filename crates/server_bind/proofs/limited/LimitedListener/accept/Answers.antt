use Rattle.std.proofs.Common.{◌^◌}
use Rattle.server_bind.proofs.Limiting.{failed_marked, given_more, got, got_marked}
use Rattle.server_bind.proofs.limited.LimitedListener.accept.Goals as goal

pub returns-in-Got-clause-link : goal.returns-in-Got-clause-link
returns-in-Got-clause-link g c = (
  got c.args.self.now.ended c.args.self.now.remaining c.in-Got.link _ _ c.if-self.false c.if-self-eq0.false c.in-Got.ensures.link.0,
  given_more c.args.self.now.remaining (2 ^ 48) c.if-self-eq0.false c.args.self.now.few,
)

pub returns-in-Got-clause-marked : goal.returns-in-Got-clause-marked
returns-in-Got-clause-marked g c = got_marked c.args.self.now.remaining _ _ c.if-self-eq0.false c.in-Got.ensures.marked

pub returns-in-Failed-clause-marked : goal.returns-in-Failed-clause-marked
returns-in-Failed-clause-marked g c = failed_marked c.args.self.now.remaining _ _ c.if-self-eq0.false c.in-Failed.ensures.marked
