use Rattle.std.proofs.Common.{ℕ, List, length, drop, sym, ap, subst, ◌∙◌, ◌+◌}
use Rattle.http1_head.specs.Steps.{step_of, IsWithin, FramesBody}
use Rattle.http1_head.proofs.ScanSteps.{from}
use Rattle.http1_head.proofs.NextSteps.{begins}
use Rattle.http1_reader.specs.Readers.{stage_of}
use Rattle.http1_reader.proofs.ReaderSteps.{waits, refused_step, gives_head, inside}
use Rattle.http1_reader.proofs.reader_state.ReaderState.next_head.Goals as goal

pub head_at_front-requires-clause-begins : goal.head_at_front-requires-clause-begins
head_at_front-requires-clause-begins c =
    begins (from c.args.self.now.start c.as_bytes.result.now) c.empty_lines-skipped.result c.empty_lines-skipped.ensures.rest

pub returns-in-Nothing-clause-step : goal.returns-in-Nothing-clause-step
returns-in-Nothing-clause-step c =
    waits c.args.self.now c.as_bytes.result.now c.empty_lines-skipped.result c.as_bytes.ensures c.empty_lines-skipped.ensures.rest
    c.args.self.now.decoded c.args.seen c.requires.place
    (ap (step_of (from c.empty_lines-skipped.result (from c.args.self.now.start c.as_bytes.result.now))) (sym c.in-Nothing.is) ∙ c.in_ok-head_at_front.ensures.step)

pub returns-in-Refused-clause-step : goal.returns-in-Refused-clause-step
returns-in-Refused-clause-step c =
    refused_step c.args.self.now c.as_bytes.result.now c.empty_lines-skipped.result c.as_bytes.ensures c.empty_lines-skipped.ensures.rest
    c.args.seen c.in-Refused.status c.requires.place
    (ap (step_of (from c.empty_lines-skipped.result (from c.args.self.now.start c.as_bytes.result.now))) (sym c.in-Refused.is) ∙ c.in_ok-head_at_front.ensures.step)

pub returns-in-Found-clause-step : goal.returns-in-Found-clause-step
returns-in-Found-clause-step c =
    let text : List ℕ = from c.empty_lines-skipped.result (from c.args.self.now.start c.as_bytes.result.now) in
    let step = ap (step_of text) (sym c.in-Found.is) ∙ c.in_ok-head_at_front.ensures.step in
    let framed = subst FramesBody c.in-Found.is c.in_ok-head_at_front.ensures.framed in
    gives_head c.args.self.now c.as_bytes.result.now c.empty_lines-skipped.result c.as_bytes.ensures c.empty_lines-skipped.ensures.rest
    c.args.seen c.in-Found.used c.in-Found.head c.truncate.new.self c.place_of-self.result c.requires.place step
    (ap (λ (d : List ℕ). stage_of d c.place_of-self.result) c.truncate.ensures ∙ c.place_of-self.ensures.stage ∙ framed)

pub returns-in-Found-clause-stands : goal.returns-in-Found-clause-stands
returns-in-Found-clause-stands c =
    let text : List ℕ = from c.empty_lines-skipped.result (from c.args.self.now.start c.as_bytes.result.now) in
    let unread : List ℕ = drop (c.args.self.now.start + (c.empty_lines-skipped.result + c.in-Found.used)) c.args.self.now.bytes in record {
      within = inside c.args.self.now c.as_bytes.result.now c.empty_lines-skipped.result c.as_bytes.ensures c.empty_lines-skipped.ensures.rest
          c.in-Found.used c.requires.stands.within c.empty_lines-skipped.ensures.within
          (subst (IsWithin (length text)) c.in-Found.is c.in_ok-head_at_front.ensures.within);
      known = c.place_of-self.ensures.begun c.args.self.now.limits unread _;
    }
