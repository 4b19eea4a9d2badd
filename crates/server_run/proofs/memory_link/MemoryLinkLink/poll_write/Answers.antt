use Rattle.std.proofs.Common.{arith, refl}
use Rattle.server_run.proofs.memory_link.MemoryLinkLink.poll_write.Goals as goal

pub returns-in-Ok-clause-identity : goal.returns-in-Ok-clause-identity
returns-in-Ok-clause-identity c = refl

pub returns-in-Ok-clause-taken : goal.returns-in-Ok-clause-taken
returns-in-Ok-clause-taken c = refl

pub returns-in-Ok-clause-read_faults : goal.returns-in-Ok-clause-read_faults
returns-in-Ok-clause-read_faults c = refl

pub returns-in-Ok-clause-read_waits : goal.returns-in-Ok-clause-read_waits
returns-in-Ok-clause-read_waits c = refl

pub returns-in-Ok-clause-same_writes : goal.returns-in-Ok-clause-same_writes
returns-in-Ok-clause-same_writes c = refl

pub returns-in-Ok-clause-same_reads : goal.returns-in-Ok-clause-same_reads
returns-in-Ok-clause-same_reads c = refl

pub returns-in-Ok-clause-same_step : goal.returns-in-Ok-clause-same_step
returns-in-Ok-clause-same_step c = refl

pub returns-in-Ok-clause-same_offset : goal.returns-in-Ok-clause-same_offset
returns-in-Ok-clause-same_offset c = refl

pub returns-in-Ok-clause-write_waits : goal.returns-in-Ok-clause-write_waits
returns-in-Ok-clause-write_waits c = refl

pub returns-in-Ok-clause-armed : goal.returns-in-Ok-clause-armed
returns-in-Ok-clause-armed c = tt

pub returns-in-Ok-clause-kept : goal.returns-in-Ok-clause-kept
returns-in-Ok-clause-kept c = λ fact h. h

pub returns-in-Ok-clause-write_faults : goal.returns-in-Ok-clause-write_faults
returns-in-Ok-clause-write_faults c = refl

pub returns-in-Err-clause-identity : goal.returns-in-Err-clause-identity
returns-in-Err-clause-identity c = refl

pub returns-in-Err-clause-taken : goal.returns-in-Err-clause-taken
returns-in-Err-clause-taken c = refl

pub returns-in-Err-clause-read_faults : goal.returns-in-Err-clause-read_faults
returns-in-Err-clause-read_faults c = refl

pub returns-in-Err-clause-read_waits : goal.returns-in-Err-clause-read_waits
returns-in-Err-clause-read_waits c = refl

pub returns-in-Err-clause-same_writes : goal.returns-in-Err-clause-same_writes
returns-in-Err-clause-same_writes c = refl

pub returns-in-Err-clause-same_reads : goal.returns-in-Err-clause-same_reads
returns-in-Err-clause-same_reads c = refl

pub returns-in-Err-clause-same_step : goal.returns-in-Err-clause-same_step
returns-in-Err-clause-same_step c = refl

pub returns-in-Err-clause-same_offset : goal.returns-in-Err-clause-same_offset
returns-in-Err-clause-same_offset c = refl

pub returns-in-Err-clause-write_waits : goal.returns-in-Err-clause-write_waits
returns-in-Err-clause-write_waits c = refl

pub returns-in-Err-clause-armed : goal.returns-in-Err-clause-armed
returns-in-Err-clause-armed c = tt

pub returns-in-Err-clause-kept : goal.returns-in-Err-clause-kept
returns-in-Err-clause-kept c = λ fact h. h

pub returns-in-Err-clause-write_faults : goal.returns-in-Err-clause-write_faults
returns-in-Err-clause-write_faults c = refl

pub returns-in-Some-NotYet-clause-identity : goal.returns-in-Some-NotYet-clause-identity
returns-in-Some-NotYet-clause-identity c = refl

pub returns-in-Some-NotYet-clause-taken : goal.returns-in-Some-NotYet-clause-taken
returns-in-Some-NotYet-clause-taken c = refl

pub returns-in-Some-NotYet-clause-read_faults : goal.returns-in-Some-NotYet-clause-read_faults
returns-in-Some-NotYet-clause-read_faults c = refl

pub returns-in-Some-NotYet-clause-read_waits : goal.returns-in-Some-NotYet-clause-read_waits
returns-in-Some-NotYet-clause-read_waits c = refl

pub returns-in-Some-NotYet-clause-same_writes : goal.returns-in-Some-NotYet-clause-same_writes
returns-in-Some-NotYet-clause-same_writes c = refl

pub returns-in-Some-NotYet-clause-same_reads : goal.returns-in-Some-NotYet-clause-same_reads
returns-in-Some-NotYet-clause-same_reads c = refl

pub returns-in-Some-NotYet-clause-same_step : goal.returns-in-Some-NotYet-clause-same_step
returns-in-Some-NotYet-clause-same_step c = refl

pub returns-in-Some-NotYet-clause-same_offset : goal.returns-in-Some-NotYet-clause-same_offset
returns-in-Some-NotYet-clause-same_offset c = refl

pub returns-in-Some-NotYet-clause-write_faults : goal.returns-in-Some-NotYet-clause-write_faults
returns-in-Some-NotYet-clause-write_faults c = rw c.yield_now.ensures.pending

pub returns-in-Some-NotYet-clause-write_waits : goal.returns-in-Some-NotYet-clause-write_waits
returns-in-Some-NotYet-clause-write_waits c = rw c.yield_now.ensures.pending (omega arith)

pub returns-in-Some-NotYet-clause-answer : goal.returns-in-Some-NotYet-clause-answer
returns-in-Some-NotYet-clause-answer c = rw c.yield_now.ensures.pending

pub returns-in-Some-NotYet-clause-armed : goal.returns-in-Some-NotYet-clause-armed
returns-in-Some-NotYet-clause-armed c = rw c.yield_now.ensures.pending c.yield_now.ensures.armed

pub returns-in-Some-NotYet-clause-kept : goal.returns-in-Some-NotYet-clause-kept
returns-in-Some-NotYet-clause-kept c = c.yield_now.ensures.kept

pub returns-in-Some-Fail-clause-identity : goal.returns-in-Some-Fail-clause-identity
returns-in-Some-Fail-clause-identity c = refl

pub returns-in-Some-Fail-clause-taken : goal.returns-in-Some-Fail-clause-taken
returns-in-Some-Fail-clause-taken c = refl

pub returns-in-Some-Fail-clause-read_faults : goal.returns-in-Some-Fail-clause-read_faults
returns-in-Some-Fail-clause-read_faults c = refl

pub returns-in-Some-Fail-clause-read_waits : goal.returns-in-Some-Fail-clause-read_waits
returns-in-Some-Fail-clause-read_waits c = refl

pub returns-in-Some-Fail-clause-same_writes : goal.returns-in-Some-Fail-clause-same_writes
returns-in-Some-Fail-clause-same_writes c = refl

pub returns-in-Some-Fail-clause-same_reads : goal.returns-in-Some-Fail-clause-same_reads
returns-in-Some-Fail-clause-same_reads c = refl

pub returns-in-Some-Fail-clause-same_step : goal.returns-in-Some-Fail-clause-same_step
returns-in-Some-Fail-clause-same_step c = refl

pub returns-in-Some-Fail-clause-same_offset : goal.returns-in-Some-Fail-clause-same_offset
returns-in-Some-Fail-clause-same_offset c = refl

pub returns-in-Some-Fail-clause-write_waits : goal.returns-in-Some-Fail-clause-write_waits
returns-in-Some-Fail-clause-write_waits c = refl

pub returns-in-Some-Fail-clause-armed : goal.returns-in-Some-Fail-clause-armed
returns-in-Some-Fail-clause-armed c = tt

pub returns-in-Some-Fail-clause-kept : goal.returns-in-Some-Fail-clause-kept
returns-in-Some-Fail-clause-kept c = λ fact h. h

pub returns-in-Some-Fail-clause-write_faults : goal.returns-in-Some-Fail-clause-write_faults
returns-in-Some-Fail-clause-write_faults c = omega arith

pub returns-in-Some-Fail-clause-answer : goal.returns-in-Some-Fail-clause-answer
returns-in-Some-Fail-clause-answer c = refl

pub returns-in-Ok-push_all-clause-identity : goal.returns-in-Ok-push_all-clause-identity
returns-in-Ok-push_all-clause-identity c = refl

pub returns-in-Ok-push_all-clause-taken : goal.returns-in-Ok-push_all-clause-taken
returns-in-Ok-push_all-clause-taken c = refl

pub returns-in-Ok-push_all-clause-read_faults : goal.returns-in-Ok-push_all-clause-read_faults
returns-in-Ok-push_all-clause-read_faults c = refl

pub returns-in-Ok-push_all-clause-read_waits : goal.returns-in-Ok-push_all-clause-read_waits
returns-in-Ok-push_all-clause-read_waits c = refl

pub returns-in-Ok-push_all-clause-same_writes : goal.returns-in-Ok-push_all-clause-same_writes
returns-in-Ok-push_all-clause-same_writes c = refl

pub returns-in-Ok-push_all-clause-same_reads : goal.returns-in-Ok-push_all-clause-same_reads
returns-in-Ok-push_all-clause-same_reads c = refl

pub returns-in-Ok-push_all-clause-same_step : goal.returns-in-Ok-push_all-clause-same_step
returns-in-Ok-push_all-clause-same_step c = refl

pub returns-in-Ok-push_all-clause-same_offset : goal.returns-in-Ok-push_all-clause-same_offset
returns-in-Ok-push_all-clause-same_offset c = refl

pub returns-in-Ok-push_all-clause-write_waits : goal.returns-in-Ok-push_all-clause-write_waits
returns-in-Ok-push_all-clause-write_waits c = refl

pub returns-in-Ok-push_all-clause-armed : goal.returns-in-Ok-push_all-clause-armed
returns-in-Ok-push_all-clause-armed c = tt

pub returns-in-Ok-push_all-clause-kept : goal.returns-in-Ok-push_all-clause-kept
returns-in-Ok-push_all-clause-kept c = λ fact h. h

pub returns-in-Ok-push_all-clause-write_faults : goal.returns-in-Ok-push_all-clause-write_faults
returns-in-Ok-push_all-clause-write_faults c = refl

pub returns-in-Err-push_all-clause-identity : goal.returns-in-Err-push_all-clause-identity
returns-in-Err-push_all-clause-identity c = refl

pub returns-in-Err-push_all-clause-taken : goal.returns-in-Err-push_all-clause-taken
returns-in-Err-push_all-clause-taken c = refl

pub returns-in-Err-push_all-clause-read_faults : goal.returns-in-Err-push_all-clause-read_faults
returns-in-Err-push_all-clause-read_faults c = refl

pub returns-in-Err-push_all-clause-read_waits : goal.returns-in-Err-push_all-clause-read_waits
returns-in-Err-push_all-clause-read_waits c = refl

pub returns-in-Err-push_all-clause-same_writes : goal.returns-in-Err-push_all-clause-same_writes
returns-in-Err-push_all-clause-same_writes c = refl

pub returns-in-Err-push_all-clause-same_reads : goal.returns-in-Err-push_all-clause-same_reads
returns-in-Err-push_all-clause-same_reads c = refl

pub returns-in-Err-push_all-clause-same_step : goal.returns-in-Err-push_all-clause-same_step
returns-in-Err-push_all-clause-same_step c = refl

pub returns-in-Err-push_all-clause-same_offset : goal.returns-in-Err-push_all-clause-same_offset
returns-in-Err-push_all-clause-same_offset c = refl

pub returns-in-Err-push_all-clause-write_waits : goal.returns-in-Err-push_all-clause-write_waits
returns-in-Err-push_all-clause-write_waits c = refl

pub returns-in-Err-push_all-clause-armed : goal.returns-in-Err-push_all-clause-armed
returns-in-Err-push_all-clause-armed c = tt

pub returns-in-Err-push_all-clause-kept : goal.returns-in-Err-push_all-clause-kept
returns-in-Err-push_all-clause-kept c = λ fact h. h

pub returns-in-Err-push_all-clause-write_faults : goal.returns-in-Err-push_all-clause-write_faults
returns-in-Err-push_all-clause-write_faults c = refl
