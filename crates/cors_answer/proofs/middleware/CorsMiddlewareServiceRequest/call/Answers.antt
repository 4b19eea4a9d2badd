use Rattle.std.proofs.Common.{refl}
use Rattle.cors_answer.proofs.Calls.{memory_given, answer_given, inner_given}
use Rattle.cors_answer.proofs.middleware.CorsMiddlewareServiceRequest.call.Goals as goal

pub returns-in-Err : goal.returns-in-Err
returns-in-Err g c = rw c.at_once.ensures (refl, memory_given _ _ _ _)

pub returns-in-Ok-Answered : goal.returns-in-Ok-Answered
returns-in-Ok-Answered g c =
    let is = rw (c.in-Ok-Answered.field-0-is, c.deref.ensures) at c.in-Ok-Answered.ensures in
    rw c.at_once-in-Ok-Answered.ensures (refl, answer_given _ _ _ _ _ is)

pub returns-in-Ok : goal.returns-in-Ok
returns-in-Ok g c =
    let is = rw (c.in-Ok-HandedOn.field-0-is, c.deref.ensures) at c.in-Ok-HandedOn.ensures in
    let begun = g.met.S.Service.begun_gives _ _ _ c.call.ensures in
    rw c.new.ensures.future (begun.0, inner_given _ _ _ _ _ is _ c.in-Ok.ensures _ begun.1)

pub returns-in-Err-try_clone : goal.returns-in-Err-try_clone
returns-in-Err-try_clone g c = rw c.at_once-in-Err-try_clone.ensures (refl, memory_given _ _ _ _)
