use Rattle.std.proofs.Common.{arith, refl, sym, true≢false, inl, inr}
use Rattle.server_acceptor.proofs.RoomSteps.{few_given}
use Rattle.server_acceptor.proofs.acceptor.Acceptor.has_room.Goals as goal

pub overflow_add-self : goal.overflow_add-self
overflow_add-self g c = omega (arith, c.args.self.now.out_counted, c.args.self.now.fits, few_given c.args.self.now)

pub returns-then-is_short-clause-makes : goal.returns-then-is_short-clause-makes
returns-then-is_short-clause-makes g c = record { core = refl; events = refl; parcels = refl; notes = refl; ready = refl; waiting = refl; serial = refl; places = refl; failed = refl; first = refl; limit = refl; retry_limit = refl; forced = refl; stop = refl; shutdown_timeout = refl; lacks = λ is. is }

pub returns-then-is_short-clause-keeps : goal.returns-then-is_short-clause-keeps
returns-then-is_short-clause-keeps g c = record { list = refl; number = refl; number_served = refl }

pub returns-then-is_short-clause-may : goal.returns-then-is_short-clause-may
returns-then-is_short-clause-may g c = c.requires.may

pub returns-then-is_short-clause-spare : goal.returns-then-is_short-clause-spare
returns-then-is_short-clause-spare g c = c.requires.spare

pub returns-then-is_short-clause-room : goal.returns-then-is_short-clause-room
returns-then-is_short-clause-room g c = λ is. absurd (true≢false (sym is))

pub returns-then-is_short-clause-events : goal.returns-then-is_short-clause-events
returns-then-is_short-clause-events g c = λ is. absurd (true≢false (sym is))

pub returns-then-is_short-clause-halted : goal.returns-then-is_short-clause-halted
returns-then-is_short-clause-halted g c = λ _. record { cause = inl (c.is_short.ensures.yes c.if-is_short.true); told = c.requires.may.told }

pub returns-then-is_err-clause-makes : goal.returns-then-is_err-clause-makes
returns-then-is_err-clause-makes g c = record { core = refl; events = refl; parcels = refl; notes = refl; ready = refl; waiting = refl; serial = refl; places = refl; failed = refl; first = refl; limit = refl; retry_limit = refl; forced = refl; stop = refl; shutdown_timeout = refl; lacks = λ _. refl }

pub returns-then-is_err-clause-may : goal.returns-then-is_err-clause-may
returns-then-is_err-clause-may g c = record { none = c.requires.may.none; unrefused = c.requires.may.unrefused; told = c.requires.may.told }

pub returns-then-is_err-clause-room : goal.returns-then-is_err-clause-room
returns-then-is_err-clause-room g c = λ is. absurd (true≢false (sym is))

pub returns-then-is_err-clause-events : goal.returns-then-is_err-clause-events
returns-then-is_err-clause-events g c = λ is. absurd (true≢false (sym is))

pub returns-then-is_err-clause-halted : goal.returns-then-is_err-clause-halted
returns-then-is_err-clause-halted g c = λ _. record { cause = inr (inr (c.requires.may.none, refl)); told = c.requires.may.told }

pub returns-clause-makes : goal.returns-clause-makes
returns-clause-makes g c = record { core = refl; events = refl; parcels = refl; notes = refl; ready = refl; waiting = refl; serial = refl; places = refl; failed = refl; first = refl; limit = refl; retry_limit = refl; forced = refl; stop = refl; shutdown_timeout = refl; lacks = λ is. is }

pub returns-clause-may : goal.returns-clause-may
returns-clause-may g c = c.requires.may

pub returns-clause-halted : goal.returns-clause-halted
returns-clause-halted g c = λ is. absurd (true≢false is)
