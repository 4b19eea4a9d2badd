use Rattle.service_combine.proofs.LawLemmas.{map-alike}
use Rattle.service_combine.proofs.laws.map_composes.Goals as goal

pub returns-clause-answers : goal.returns-clause-answers
returns-clause-answers g c q = map-alike _ _ _ _ _ c.requires.composition _ (c.requires.part.answers q)

pub returns-clause-readiness : goal.returns-clause-readiness
returns-clause-readiness g c = (c.requires.part.readiness.1, c.requires.part.readiness.0)
