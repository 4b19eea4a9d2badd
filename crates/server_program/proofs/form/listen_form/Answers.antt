use Rattle.std.proofs.Common.{◌∙◌, ap, sym}
use Rattle.std.specs.Option.{option_map}
use Rattle.server_program.specs.declared.form.Form.TheVariants.{Listen}
use Rattle.server_program.proofs.Formed.{no_text_form, text_form}
use Rattle.server_program.proofs.form.listen_form.Goals as goal

pub returns-in-Some-clause-form : goal.returns-in-Some-clause-form
returns-in-Some-clause-form c = ap (option_map Listen) (sym c.in-Some.is ∙ c.number_in.ensures.value) ∙ sym (text_form c.args.addr.now c.args.limit.now c.in-Ok.ensures.cases.1)

pub returns-in-None-clause-form : goal.returns-in-None-clause-form
returns-in-None-clause-form c = ap (option_map Listen) (sym c.in-None.is ∙ c.number_in.ensures.value) ∙ sym (text_form c.args.addr.now c.args.limit.now c.in-Ok.ensures.cases.1)

pub returns-in-Err-clause-form : goal.returns-in-Err-clause-form
returns-in-Err-clause-form c = sym (no_text_form c.args.addr.now c.args.limit.now c.in-Err.ensures.cases.0)
