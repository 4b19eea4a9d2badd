use Rattle.std.proofs.Common.{inl}
use Rattle.service_combine.proofs.SameLemmas.{Through-comes}
use Rattle.service_combine.proofs.map.MapService.call.Goals as goal

pub returns-in-Ok : goal.returns-in-Ok
returns-in-Ok g c =
    let first = g.met.A.Service.begun_gives _ _ _ c.call.ensures in
    rw (c.new.ensures.future, c.in-Ok.ensures)
    ((first.0, c.requires.1), λ r m. inl (Through-comes first.1 m))
