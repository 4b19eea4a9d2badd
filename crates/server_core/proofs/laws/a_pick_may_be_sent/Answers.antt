use Rattle.server_core.proofs.Picks.{picked_free, may_place_picked}
use Rattle.server_core.proofs.laws.a_pick_may_be_sent.Goals as goal

pub returns-clause-first : goal.returns-clause-first
returns-clause-first c = picked_free

pub returns-clause-sent : goal.returns-clause-sent
returns-clause-sent c = λ core worker remains. may_place_picked core worker

pub returns-clause-ring_full : goal.returns-clause-ring_full
returns-clause-ring_full c = may_place_picked
