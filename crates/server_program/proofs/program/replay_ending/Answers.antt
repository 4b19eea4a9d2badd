use Rattle.server_program.proofs.Saying.{says_refusal, says_report, says_unread}
use Rattle.server_program.proofs.program.replay_ending.Goals as goal

pub returns-in-Ok-report_of : goal.returns-in-Ok-report_of
returns-in-Ok-report_of g c = says_report _ _ _ _ _ _ _ _ _ c.as_bytes.ensures _ c.in-Ok.ensures.asked c.in-Ok-report_of.ensures.served c.made.ensures.status c.made.ensures.text

pub returns-in-Ok : goal.returns-in-Ok
returns-in-Ok g c = says_refusal _ _ _ _ _ _ _ _ _ c.as_bytes.ensures _ c.in-Ok.ensures.asked c.in-Err-report_of.ensures.unserved c.ending.ensures

pub returns : goal.returns
returns g c = says_unread _ _ _ _ _ _ _ _ c.in-Err.ensures.unread c.ending-in-Err.ensures
