use Rattle.http1_reader.specs.Readers.{reading_of}
use Rattle.http1_reader.proofs.ReaderSteps.{step_sound, step_tells, step_holds}
use Rattle.http1_reader.proofs.reader_state.ReaderState.next.Goals as goal

pub returns-clause-sound : goal.returns-clause-sound
returns-clause-sound c = step_sound c.args.self.now c.take_step.new.self c.in_ok-step.step c.requires c.take_step.ensures.stands c.in_ok-step.ensures.step

pub returns-clause-status : goal.returns-clause-status
returns-clause-status c =
    step_tells (reading_of c.args.self.now) (reading_of c.take_step.new.self) c.in_ok-step.step c.requires.refuses c.in_ok-step.ensures.step

pub returns-clause-bound : goal.returns-clause-bound
returns-clause-bound c =
    step_holds (reading_of c.args.self.now) (reading_of c.take_step.new.self) c.in_ok-step.step c.requires.fits c.in_ok-step.ensures.step
