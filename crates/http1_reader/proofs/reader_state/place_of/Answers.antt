use Rattle.http1_reader.proofs.DecodeSteps.{none_passed}
use Rattle.http1_reader.proofs.reader_state.place_of.Goals as goal

pub returns-in-Chunked-clause-begun : goal.returns-in-Chunked-clause-begun
returns-in-Chunked-clause-begun c = λ limits unread data'. none_passed unread
