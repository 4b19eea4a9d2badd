use Rattle.std.proofs.Common.{[], sym, ap, ◌∙◌, Some, option_map}
use Rattle.http1_grammar.specs.Head.{head_of}
use Rattle.http1_head.proofs.HeadSteps.{head_found, head_shorter, head_refused}
use Rattle.http1_head.proofs.head.read_by.Goals as goal

pub returns-in_ok-head_at-in-Ok-Complete : goal.returns-in_ok-head_at-in-Ok-Complete
returns-in_ok-head_at-in-Ok-Complete c =
    let found = rw c.in-Ok-Complete.field-0-is at c.in-Ok-Complete.ensures.complete in
    let text = head_found c.args.text.now c.in-Ok-Complete.found.len found.0 c.if-found-text.true c.requires.begins found.1.reads in
    ap (λ head. Some head) (c.in_ok-head_at-in-Ok-Complete.ensures found.0 found.1) ∙ sym (ap (option_map head_of) text)

pub returns-else-found-text : goal.returns-else-found-text
returns-else-found-text c =
    let found = rw c.in-Ok-Complete.field-0-is at c.in-Ok-Complete.ensures.complete in
    let within = rw c.in-Ok-Complete.field-0-is at c.in-Ok-Complete.ensures.within in
    sym (ap (option_map head_of) (head_shorter c.args.text.now c.in-Ok-Complete.found.len found.0 within.section.len_fits c.if-found-text.false found.1.reads))

pub returns-in-Ok-Partial : goal.returns-in-Ok-Partial
returns-in-Ok-Partial c =
    let none = rw c.in-Ok-Partial.field-0-is at c.in-Ok-Partial.ensures.found in
    sym (ap (option_map head_of) (head_refused c.args.text.now _ c.requires.few_lines (λ h r l. none h [] r l)))

pub returns-in-Err : goal.returns-in-Err
returns-in-Err c =
    sym (ap (option_map head_of) (head_refused c.args.text.now _ c.requires.few_lines (λ h r l. c.in-Err.ensures.found h [] r l)))
