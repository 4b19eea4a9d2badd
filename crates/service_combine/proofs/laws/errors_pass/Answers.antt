use Rattle.std.proofs.Common.{inl, inr, refl, Err}
use Rattle.service_combine.proofs.LawLemmas.{errs-and_then, errs-then}
use Rattle.service_combine.proofs.laws.errors_pass.Goals as goal

pub returns-clause-and_then : goal.returns-clause-and_then
returns-clause-and_then g c q only = errs-and_then _ only _ _

pub returns-clause-and_then_may : goal.returns-clause-and_then_may
returns-clause-and_then_may g c q e may = inl (record { value = Err e; comes = may; holds = inr (e, refl, refl) })

pub returns-clause-then : goal.returns-clause-then
returns-clause-then g c q only = errs-then _ only _ _

pub returns-clause-then_may : goal.returns-clause-then_may
returns-clause-then_may g c q e may r second = inl (record { value = Err e; comes = may; holds = second })
