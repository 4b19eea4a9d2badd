use Rattle.http_service_tests.proofs.making.comes_of.Given as goal

abbrev pub invariant-loop : goal.invariant-loop
invariant-loop g l = g.F.Future.can_poll l.making
