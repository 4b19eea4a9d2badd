use Rattle.std.proofs.Common.{inl}
use Rattle.service_combine.proofs.SameLemmas.{Through-comes}
use Rattle.service_combine.proofs.then.ThenServiceService.call.Goals as goal

pub returns-in-Ok : goal.returns-in-Ok
returns-in-Ok g c =
    let begun = rw (c.deref.ensures, c.in-Ok.ensures) at c.call.ensures in
    let first = g.met.A.Service.begun_gives _ _ _ begun in
    rw (c.new.ensures.future, c.in-Ok.ensures)
    ((first.0, c.requires.1), λ r m. inl (Through-comes first.1 m))
