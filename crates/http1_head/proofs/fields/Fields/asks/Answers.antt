use Rattle.std.proofs.Common.{sym, ap, ◌∙◌}
use Rattle.http1_plain.specs.Views.{minor_version}
use Rattle.http1_head.proofs.FieldSteps.{asked_old, asked_new}
use Rattle.http1_head.proofs.fields.Fields.asks.Goals as goal

pub returns-in-Http10 : goal.returns-in-Http10
returns-in-Http10 c = λ head said version. rw c.ends_old.ensures (asked_old head c.args.self.now said (sym version ∙ ap minor_version c.in-Http10.is))

pub returns-in-Http11 : goal.returns-in-Http11
returns-in-Http11 c = λ head said version. asked_new head c.args.self.now said (sym version ∙ ap minor_version c.in-Http11.is)
