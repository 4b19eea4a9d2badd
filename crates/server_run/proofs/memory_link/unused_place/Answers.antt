use Rattle.std.proofs.Common.{◌≡◌, ◌∙◌, sym, refl, subst, false, Option, IfSome}
use Rattle.std.proofs.lemmas.Option.{slice_get_past}
use Rattle.server_run.specs.declared.read_step.ReadStep.{ReadStep}
use Rattle.server_run.specs.Steps.{is_used_up}
use Rattle.server_run.proofs.Steps.{passed, step_read}
use Rattle.server_run.proofs.memory_link.unused_place.Goals as goal

pub loop-current-preserved : goal.loop-current-preserved
loop-current-preserved c =
    let found = c.in-Some.ensures.lookup in
    let so_far = c.loop-current.invariant in
    let next = passed _ _ _ _ _ _ so_far.place so_far.before so_far.passes (step_read _ _ _ _ _ refl found.3.0 found.1 refl) (sym c.is_used_up.ensures ∙ c.if-not-is_used_up.false) in
    record { place = next.0; before = next.1; passes = next.2 }

pub returns-clause-unused : goal.returns-clause-unused
returns-clause-unused c = subst (λ (found : Option ReadStep). IfSome found (λ current. is_used_up current c.loop-current.offset ≡ false)) (sym (slice_get_past _ _ c.in_default.ensures.lookup.3)) tt
