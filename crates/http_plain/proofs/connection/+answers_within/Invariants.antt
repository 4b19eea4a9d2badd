use Rattle.http_plain.proofs.connection.+answers_within.Given as goal

abbrev pub decreases-answers_within : goal.decreases-answers_within
decreases-answers_within l = l.count
