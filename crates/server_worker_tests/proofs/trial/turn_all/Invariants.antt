use Rattle.server_worker_tests.proofs.trial.turn_all.Given as goal

abbrev pub invariant-loop-turn : goal.invariant-loop-turn
invariant-loop-turn g l = g.S.Station.goes_on l.station
