use Rattle.server_worker_tests.proofs.clerk.turn_on.Given as goal

abbrev pub invariant-loop : goal.invariant-loop
invariant-loop g l = g.S.Station.goes_on l.station
