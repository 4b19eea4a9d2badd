-- Words on jobs, and on what they wait with.
use Rattle.std.specs.Prelude.{ℕ}
use Rattle.server_jobs.specs.declared.running.Running.{Running}
use Rattle.server_jobs.specs.declared.seat.Seat.{Seat}
use Rattle.server_jobs.specs.declared.step_clock.StepClock.{StepClock}
use Rattle.server_jobs.specs.declared.waiter.Waiter.{Waiter}

-- the job that was started, as it began
abbrev pub job_of : {J O : Type 0} → Running J O → J
job_of running = running.handle.promise.job.value

-- the number of its seat
abbrev pub number_of : {J O : Type 0} → Running J O → ℕ
number_of running = running.number

abbrev pub number_of_seat : Seat → ℕ
number_of_seat seat = seat.number

abbrev pub number_of_waiter : {Ho : Type 0} → Waiter Ho → ℕ
number_of_waiter waiter = number_of_seat waiter.seat

-- the host that a waiter lends
abbrev pub host_of : {Ho : Type 0} → Waiter Ho → Ho
host_of waiter = waiter.host

-- by how much the clock goes on at each call
abbrev pub step_of : StepClock → ℕ
step_of clock = clock.step
