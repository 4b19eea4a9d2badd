use Rattle.std.proofs.Common.{ap, arith, rules, length}
use Rattle.server_acceptor.proofs.Trying.{fewer_left, is_picked, room_left, sent_logs, tried_more, tried_none, was_sent}
use Rattle.server_acceptor.proofs.acceptor.Acceptor.place.Goals as goal

pub loop-w-init : goal.loop-w-init
loop-w-init g c = tried_none _ _ (search rules) c.turns-turns.ensures.distinct (omega (arith, c.turns-turns.ensures.value, c.turns-turns.ensures.fits))

pub offer-requires-clause-first : goal.offer-requires-clause-first
offer-requires-clause-first g c = (is_picked _ _ _ c.in-Some.w c.loop-w.invariant (search rules)).first

pub offer-requires-clause-free : goal.offer-requires-clause-free
offer-requires-clause-free g c = (is_picked _ _ _ c.in-Some.w c.loop-w.invariant (search rules)).free

pub offer-requires-clause-in_turn : goal.offer-requires-clause-in_turn
offer-requires-clause-in_turn g c = (is_picked _ _ _ c.in-Some.w c.loop-w.invariant (search rules)).in_turn

pub offer-requires-clause-room : goal.offer-requires-clause-room
offer-requires-clause-room g c =
    let left = room_left _ _ _ c.in-Some.w c.loop-w.invariant (search rules) in
    omega (arith, left, c.requires, ap (λ xs. length xs) c.loop-w.invariant.out)

pub returns-then-offer-clause-logs : goal.returns-then-offer-clause-logs
returns-then-offer-clause-logs g c = sent_logs _ _ c.offer.new.self _ c.in-Some.w c.loop-w.invariant (search rules) (search rules) (search rules) (c.if-offer.ensures.sent (search rules))

pub returns-then-offer-clause-placed : goal.returns-then-offer-clause-placed
returns-then-offer-clause-placed g c = was_sent _ _ c.offer.new.self _ c.in-Some.w c.loop-w.invariant (search rules) (c.if-offer.ensures.sent (search rules))

pub loop-w-smaller : goal.loop-w-smaller
loop-w-smaller g c = fewer_left _ _ c.offer.new.self _ _ c.in-Some.w c.loop-w.invariant (search rules) (search rules) c.set_available.ensures

pub loop-w-preserved : goal.loop-w-preserved
loop-w-preserved g c = tried_more _ _ c.offer.new.self _ _ c.in-Some.w c.loop-w.invariant (search rules) (search rules) (search rules) (search rules) c.set_available.ensures
