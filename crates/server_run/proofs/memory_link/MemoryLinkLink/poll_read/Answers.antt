use Rattle.std.proofs.Common.{◌≡◌, ◌≤◌, ◌+◌, ◌-◌, sym, ap, subst, List, length, take, drop, min, Some, slice_get, refl, arith, ℕ}
use Rattle.std.proofs.lemmas.Option.{slice_get_past}
use Rattle.server_run.specs.declared.read_step.ReadStep.TheVariants.{Give, NotYet, Fail, Never}
use Rattle.std.proofs.Math.Nat.{le_trans}
use Rattle.server_run.specs.Steps.{given_by, is_read_fail}
use Rattle.server_run.proofs.Fails.{counted_more, counted_onward}
use Rattle.server_run.proofs.Steps.{goes_by, reads_more, reads_none, reads_some, step_read}
use Rattle.server_run.proofs.memory_link.MemoryLinkLink.poll_read.Goals as goal

pub returns-in-Some-Give-clause-answer : goal.returns-in-Some-Give-clause-answer
returns-in-Some-Give-clause-answer c =
    let link = c.pass_used.new.self in
    let found = c.in-Some-Give.ensures.lookup in
    let current : slice_get link.reads.items link.step ≡ Some (Give c.in-Some-Give.bytes) = step_read _ _ _ _ _ c.deref.ensures.value found.3.0 found.1 c.in-Some-Give.field-0-is in
    let n_is : c.min-n.result ≡ min (length (take (length c.in-Some-Give.bytes - link.offset) (drop link.offset c.in-Some-Give.bytes))) (length c.args.buf.now) =
    subst (λ (bytes : List ℕ). c.min-n.result ≡ min (length (take (length bytes - link.offset) (drop link.offset bytes))) (length c.args.buf.now)) c.as_bytes.ensures c.min-n.ensures in
    let copied : c.copy_from_slice.new.self ≡ take c.min-n.result (take (length c.in-Some-Give.bytes - link.offset) (drop link.offset c.in-Some-Give.bytes)) =
    subst (λ (bytes : List ℕ). c.copy_from_slice.new.self ≡ take c.min-n.result (take (length bytes - link.offset) (drop link.offset bytes))) c.as_bytes.ensures c.copy_from_slice.ensures.after in
    reads_more _ _ _ _ _ _ _ _ _ (ap (λ reads. given_by reads.items) c.pass_used.ensures.reads) link.place current c.pass_used.ensures.unused link.few
    (sym c.pass_used.ensures.taken) c.requires n_is copied

pub returns-in-None-clause-answer : goal.returns-in-None-clause-answer
returns-in-None-clause-answer c =
    let link = c.pass_used.new.self in
    let past : length link.reads.items ≤ link.step = let n = ap length c.deref.ensures.value in let p = c.in-None.ensures.lookup.3 in omega arith in
    reads_none _ _ _ _ _ _ (ap (λ reads. given_by reads.items) c.pass_used.ensures.reads) link.place past link.few (sym c.pass_used.ensures.taken)

pub returns-in-Some-Give-clause-steps : goal.returns-in-Some-Give-clause-steps
returns-in-Some-Give-clause-steps c =
    let found = c.in-Some-Give.ensures.lookup in
    let current : slice_get c.pass_used.new.self.reads.items c.pass_used.new.self.step ≡ Some (Give c.in-Some-Give.bytes) = step_read _ _ _ _ _ c.deref.ensures.value found.3.0 found.1 c.in-Some-Give.field-0-is in
    let link = c.pass_used.new.self in
    let n_is : c.min-n.result ≡ min (length (take (length c.in-Some-Give.bytes - link.offset) (drop link.offset c.in-Some-Give.bytes))) (length c.args.buf.now) =
    subst (λ (bytes : List ℕ). c.min-n.result ≡ min (length (take (length bytes - link.offset) (drop link.offset bytes))) (length c.args.buf.now)) c.as_bytes.ensures c.min-n.ensures in
    goes_by _ _ _ _ _ _ _ (ap (λ reads. reads.items) c.pass_used.ensures.reads) c.pass_used.ensures.passes current ((c.min-n.result, refl, reads_some _ _ _ _ _ _ c.pass_used.new.self.place current c.pass_used.ensures.unused c.requires n_is), refl)

pub returns-in-Some-NotYet-clause-steps : goal.returns-in-Some-NotYet-clause-steps
returns-in-Some-NotYet-clause-steps c =
    let found = c.in-Some-NotYet.ensures.lookup in
    let current : slice_get c.pass_used.new.self.reads.items c.pass_used.new.self.step ≡ Some NotYet = step_read _ _ _ _ _ c.deref.ensures.value found.3.0 found.1 c.in-Some-NotYet.field-0-is in
    goes_by _ _ _ _ _ _ _ (ap (λ reads. reads.items) c.pass_used.ensures.reads) c.pass_used.ensures.passes current (c.yield_now.ensures.pending, refl)

pub returns-in-Some-Fail-clause-steps : goal.returns-in-Some-Fail-clause-steps
returns-in-Some-Fail-clause-steps c =
    let found = c.in-Some-Fail.ensures.lookup in
    let current : slice_get c.pass_used.new.self.reads.items c.pass_used.new.self.step ≡ Some Fail = step_read _ _ _ _ _ c.deref.ensures.value found.3.0 found.1 c.in-Some-Fail.field-0-is in
    goes_by _ _ _ _ _ _ _ (ap (λ reads. reads.items) c.pass_used.ensures.reads) c.pass_used.ensures.passes current (refl, refl)

pub returns-in-Some-Never-clause-steps : goal.returns-in-Some-Never-clause-steps
returns-in-Some-Never-clause-steps c =
    let found = c.in-Some-Never.ensures.lookup in
    let current : slice_get c.pass_used.new.self.reads.items c.pass_used.new.self.step ≡ Some Never = step_read _ _ _ _ _ c.deref.ensures.value found.3.0 found.1 c.in-Some-Never.field-0-is in
    goes_by _ _ _ _ _ _ _ (ap (λ reads. reads.items) c.pass_used.ensures.reads) c.pass_used.ensures.passes current (c.yield_now-in-Some-Never.ensures.pending, refl)

pub returns-in-None-clause-steps : goal.returns-in-None-clause-steps
returns-in-None-clause-steps c =
    let past : length c.pass_used.new.self.reads.items ≤ c.pass_used.new.self.step = let n = ap length c.deref.ensures.value in let p = c.in-None.ensures.lookup.3 in omega arith in
    goes_by _ _ _ _ _ _ _ (ap (λ reads. reads.items) c.pass_used.ensures.reads) c.pass_used.ensures.passes (slice_get_past _ _ past) (refl, refl)

pub invariant_of-self-in-Some-NotYet-clause-failed_reads : goal.invariant_of-self-in-Some-NotYet-clause-failed_reads
invariant_of-self-in-Some-NotYet-clause-failed_reads c =
    let link = c.pass_used.new.self in
    le_trans link.failed_reads (counted_onward is_read_fail link.reads.items link.step (link.step + 1) (omega arith))

pub invariant_of-self-in-Some-Fail-clause-failed_reads : goal.invariant_of-self-in-Some-Fail-clause-failed_reads
invariant_of-self-in-Some-Fail-clause-failed_reads c =
    let link = c.pass_used.new.self in
    let found = c.in-Some-Fail.ensures.lookup in
    let current : slice_get link.reads.items link.step ≡ Some Fail = step_read _ _ _ _ _ c.deref.ensures.value found.3.0 found.1 c.in-Some-Fail.field-0-is in
    let more = counted_more is_read_fail link.reads.items link.step Fail current refl in
    omega (arith, link.failed_reads, more, c.saturating_add-self-in-Some-Fail.ensures)

pub returns-in-Some-Give-clause-identity : goal.returns-in-Some-Give-clause-identity
returns-in-Some-Give-clause-identity c = c.pass_used.ensures.identity

pub returns-in-Some-Give-clause-written : goal.returns-in-Some-Give-clause-written
returns-in-Some-Give-clause-written c = c.pass_used.ensures.written

pub returns-in-Some-Give-clause-write_faults : goal.returns-in-Some-Give-clause-write_faults
returns-in-Some-Give-clause-write_faults c = c.pass_used.ensures.write_faults

pub returns-in-Some-Give-clause-write_waits : goal.returns-in-Some-Give-clause-write_waits
returns-in-Some-Give-clause-write_waits c = c.pass_used.ensures.write_waits

pub returns-in-Some-Give-clause-same_reads : goal.returns-in-Some-Give-clause-same_reads
returns-in-Some-Give-clause-same_reads c = c.pass_used.ensures.reads

pub returns-in-Some-Give-clause-same_writes : goal.returns-in-Some-Give-clause-same_writes
returns-in-Some-Give-clause-same_writes c = c.pass_used.ensures.writes

pub returns-in-Some-Give-clause-same_write_step : goal.returns-in-Some-Give-clause-same_write_step
returns-in-Some-Give-clause-same_write_step c = c.pass_used.ensures.write_step

pub returns-in-Some-Give-clause-armed : goal.returns-in-Some-Give-clause-armed
returns-in-Some-Give-clause-armed c = tt

pub returns-in-Some-Give-clause-kept : goal.returns-in-Some-Give-clause-kept
returns-in-Some-Give-clause-kept c = λ fact h. h

pub returns-in-Some-Give-clause-read_faults : goal.returns-in-Some-Give-clause-read_faults
returns-in-Some-Give-clause-read_faults c = c.pass_used.ensures.read_faults

pub returns-in-Some-Give-clause-read_waits : goal.returns-in-Some-Give-clause-read_waits
returns-in-Some-Give-clause-read_waits c = c.pass_used.ensures.read_waits

pub returns-in-Some-NotYet-clause-identity : goal.returns-in-Some-NotYet-clause-identity
returns-in-Some-NotYet-clause-identity c = c.pass_used.ensures.identity

pub returns-in-Some-NotYet-clause-written : goal.returns-in-Some-NotYet-clause-written
returns-in-Some-NotYet-clause-written c = c.pass_used.ensures.written

pub returns-in-Some-NotYet-clause-write_faults : goal.returns-in-Some-NotYet-clause-write_faults
returns-in-Some-NotYet-clause-write_faults c = c.pass_used.ensures.write_faults

pub returns-in-Some-NotYet-clause-write_waits : goal.returns-in-Some-NotYet-clause-write_waits
returns-in-Some-NotYet-clause-write_waits c = c.pass_used.ensures.write_waits

pub returns-in-Some-NotYet-clause-same_reads : goal.returns-in-Some-NotYet-clause-same_reads
returns-in-Some-NotYet-clause-same_reads c = c.pass_used.ensures.reads

pub returns-in-Some-NotYet-clause-same_writes : goal.returns-in-Some-NotYet-clause-same_writes
returns-in-Some-NotYet-clause-same_writes c = c.pass_used.ensures.writes

pub returns-in-Some-NotYet-clause-same_write_step : goal.returns-in-Some-NotYet-clause-same_write_step
returns-in-Some-NotYet-clause-same_write_step c = c.pass_used.ensures.write_step

pub returns-in-Some-NotYet-clause-armed : goal.returns-in-Some-NotYet-clause-armed
returns-in-Some-NotYet-clause-armed c = rw c.yield_now.ensures.pending c.yield_now.ensures.armed

pub returns-in-Some-NotYet-clause-kept : goal.returns-in-Some-NotYet-clause-kept
returns-in-Some-NotYet-clause-kept c = c.yield_now.ensures.kept

pub returns-in-Some-NotYet-clause-read_faults : goal.returns-in-Some-NotYet-clause-read_faults
returns-in-Some-NotYet-clause-read_faults c = rw c.yield_now.ensures.pending c.pass_used.ensures.read_faults

pub returns-in-Some-NotYet-clause-read_waits : goal.returns-in-Some-NotYet-clause-read_waits
returns-in-Some-NotYet-clause-read_waits c = rw c.yield_now.ensures.pending (omega arith)

pub returns-in-Some-Fail-clause-identity : goal.returns-in-Some-Fail-clause-identity
returns-in-Some-Fail-clause-identity c = c.pass_used.ensures.identity

pub returns-in-Some-Fail-clause-written : goal.returns-in-Some-Fail-clause-written
returns-in-Some-Fail-clause-written c = c.pass_used.ensures.written

pub returns-in-Some-Fail-clause-write_faults : goal.returns-in-Some-Fail-clause-write_faults
returns-in-Some-Fail-clause-write_faults c = c.pass_used.ensures.write_faults

pub returns-in-Some-Fail-clause-write_waits : goal.returns-in-Some-Fail-clause-write_waits
returns-in-Some-Fail-clause-write_waits c = c.pass_used.ensures.write_waits

pub returns-in-Some-Fail-clause-same_reads : goal.returns-in-Some-Fail-clause-same_reads
returns-in-Some-Fail-clause-same_reads c = c.pass_used.ensures.reads

pub returns-in-Some-Fail-clause-same_writes : goal.returns-in-Some-Fail-clause-same_writes
returns-in-Some-Fail-clause-same_writes c = c.pass_used.ensures.writes

pub returns-in-Some-Fail-clause-same_write_step : goal.returns-in-Some-Fail-clause-same_write_step
returns-in-Some-Fail-clause-same_write_step c = c.pass_used.ensures.write_step

pub returns-in-Some-Fail-clause-armed : goal.returns-in-Some-Fail-clause-armed
returns-in-Some-Fail-clause-armed c = tt

pub returns-in-Some-Fail-clause-kept : goal.returns-in-Some-Fail-clause-kept
returns-in-Some-Fail-clause-kept c = λ fact h. h

pub returns-in-Some-Fail-clause-read_faults : goal.returns-in-Some-Fail-clause-read_faults
returns-in-Some-Fail-clause-read_faults c = omega arith

pub returns-in-Some-Fail-clause-read_waits : goal.returns-in-Some-Fail-clause-read_waits
returns-in-Some-Fail-clause-read_waits c = c.pass_used.ensures.read_waits

pub returns-in-Some-Never-clause-identity : goal.returns-in-Some-Never-clause-identity
returns-in-Some-Never-clause-identity c = c.pass_used.ensures.identity

pub returns-in-Some-Never-clause-written : goal.returns-in-Some-Never-clause-written
returns-in-Some-Never-clause-written c = c.pass_used.ensures.written

pub returns-in-Some-Never-clause-write_faults : goal.returns-in-Some-Never-clause-write_faults
returns-in-Some-Never-clause-write_faults c = c.pass_used.ensures.write_faults

pub returns-in-Some-Never-clause-write_waits : goal.returns-in-Some-Never-clause-write_waits
returns-in-Some-Never-clause-write_waits c = c.pass_used.ensures.write_waits

pub returns-in-Some-Never-clause-same_reads : goal.returns-in-Some-Never-clause-same_reads
returns-in-Some-Never-clause-same_reads c = c.pass_used.ensures.reads

pub returns-in-Some-Never-clause-same_writes : goal.returns-in-Some-Never-clause-same_writes
returns-in-Some-Never-clause-same_writes c = c.pass_used.ensures.writes

pub returns-in-Some-Never-clause-same_write_step : goal.returns-in-Some-Never-clause-same_write_step
returns-in-Some-Never-clause-same_write_step c = c.pass_used.ensures.write_step

pub returns-in-Some-Never-clause-armed : goal.returns-in-Some-Never-clause-armed
returns-in-Some-Never-clause-armed c = rw c.yield_now-in-Some-Never.ensures.pending c.yield_now-in-Some-Never.ensures.armed

pub returns-in-Some-Never-clause-kept : goal.returns-in-Some-Never-clause-kept
returns-in-Some-Never-clause-kept c = c.yield_now-in-Some-Never.ensures.kept

pub returns-in-Some-Never-clause-read_faults : goal.returns-in-Some-Never-clause-read_faults
returns-in-Some-Never-clause-read_faults c = rw c.yield_now-in-Some-Never.ensures.pending c.pass_used.ensures.read_faults

pub returns-in-Some-Never-clause-read_waits : goal.returns-in-Some-Never-clause-read_waits
returns-in-Some-Never-clause-read_waits c = rw c.yield_now-in-Some-Never.ensures.pending (omega arith)

pub returns-in-None-clause-identity : goal.returns-in-None-clause-identity
returns-in-None-clause-identity c = c.pass_used.ensures.identity

pub returns-in-None-clause-written : goal.returns-in-None-clause-written
returns-in-None-clause-written c = c.pass_used.ensures.written

pub returns-in-None-clause-write_faults : goal.returns-in-None-clause-write_faults
returns-in-None-clause-write_faults c = c.pass_used.ensures.write_faults

pub returns-in-None-clause-write_waits : goal.returns-in-None-clause-write_waits
returns-in-None-clause-write_waits c = c.pass_used.ensures.write_waits

pub returns-in-None-clause-same_reads : goal.returns-in-None-clause-same_reads
returns-in-None-clause-same_reads c = c.pass_used.ensures.reads

pub returns-in-None-clause-same_writes : goal.returns-in-None-clause-same_writes
returns-in-None-clause-same_writes c = c.pass_used.ensures.writes

pub returns-in-None-clause-same_write_step : goal.returns-in-None-clause-same_write_step
returns-in-None-clause-same_write_step c = c.pass_used.ensures.write_step

pub returns-in-None-clause-armed : goal.returns-in-None-clause-armed
returns-in-None-clause-armed c = tt

pub returns-in-None-clause-kept : goal.returns-in-None-clause-kept
returns-in-None-clause-kept c = λ fact h. h

pub returns-in-None-clause-read_faults : goal.returns-in-None-clause-read_faults
returns-in-None-clause-read_faults c = c.pass_used.ensures.read_faults

pub returns-in-None-clause-read_waits : goal.returns-in-None-clause-read_waits
returns-in-None-clause-read_waits c = c.pass_used.ensures.read_waits
