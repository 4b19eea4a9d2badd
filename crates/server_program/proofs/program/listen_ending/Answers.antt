use Rattle.std.proofs.Common.{refl}
use Rattle.listening.specs.declared.listen_error.ListenError.TheVariants as error
use Rattle.server_program.proofs.Saying.{err_is_other, ok_is_other, says_cannot_listen, says_no_memory, says_summed, says_unstarted}
use Rattle.server_program.proofs.program.listen_ending.Goals as goal

pub returns-in-Ok : goal.returns-in-Ok
returns-in-Ok g c = λ told.
    says_summed told told refl _ _ _ _ _ _ _ (c.in-Ok.ensures.bound (λ is. ok_is_other _ _ refl is)) c.in-Ok.heard c.in-Ok.ensures.started c.in-Ok.ensures.listened c.short_summary_text.result
    c.short_summary_text.ensures c.or_memory.ensures.made c.or_memory.ensures.memory

pub returns-in-Err-Refused : goal.returns-in-Err-Refused
returns-in-Err-Refused g c = λ told. says_cannot_listen told told refl _ _ _ _ _ _ _ (rw c.in-Err-Refused.field-0-is at c.in-Err-Refused.ensures.unheard) c.ending.ensures

pub returns-in-Err-NoWorker : goal.returns-in-Err-NoWorker
returns-in-Err-NoWorker g c = λ told.
    says_unstarted told told refl _ _ _ _ _ _ _ (c.in-Err-NoWorker.ensures.bound (λ is. err_is_other _ error.NoWorker _ (λ same. cc) c.in-Err-NoWorker.field-0-is refl is)) (rw c.in-Err-NoWorker.field-0-is at c.in-Err-NoWorker.ensures.unheard)
    c.ending-in-Err-NoWorker.ensures

pub returns-in-Err-Memory : goal.returns-in-Err-Memory
returns-in-Err-Memory g c = λ told.
    says_no_memory told told refl _ _ _ _ _ _ _ (c.in-Err-Memory.ensures.bound (λ is. err_is_other _ error.Memory _ (λ same. cc) c.in-Err-Memory.field-0-is refl is)) c.ending-in-Err-Memory.ensures
