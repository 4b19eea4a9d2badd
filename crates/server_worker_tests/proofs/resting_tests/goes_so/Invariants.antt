use Rattle.server_worker_tests.proofs.resting_tests.goes_so.Given as goal

abbrev pub invariant-loop-turn : goal.invariant-loop-turn
invariant-loop-turn g l = g.S.Station.goes_on l.station
