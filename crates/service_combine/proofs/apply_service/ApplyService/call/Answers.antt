use Rattle.std.proofs.Common.{refl}
use Rattle.service_combine.specs.Applying.{Answers}
use Rattle.service_combine.proofs.apply_service.ApplyService.call.Goals as goal

pub returns : goal.returns
returns g c =
    let answers : Answers _ c.args.self.now.service _ _ = record { lent = _; is = refl; answered = rw c.deref.ensures at c.call.ensures } in
    (answers, c.requires.1.pollable _ _ answers)
