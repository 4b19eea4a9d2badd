use Rattle.service_combine.proofs.LawLemmas.{and_then-alike}
use Rattle.service_combine.proofs.ReadyLemmas.{ready-alike}
use Rattle.service_combine.proofs.laws.and_then_associative.Goals as goal

pub returns-clause-answers : goal.returns-clause-answers
returns-clause-answers g c q =
    and_then-alike _ _ _ _ _ _ _ (c.requires.first.answers q) c.requires.second.answers c.requires.third.answers

pub returns-clause-readiness : goal.returns-clause-readiness
returns-clause-readiness g c =
    ready-alike _ _ _ _ _ _ c.requires.first.readiness c.requires.second.readiness c.requires.third.readiness
