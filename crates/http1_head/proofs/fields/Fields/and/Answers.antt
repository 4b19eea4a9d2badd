use Rattle.std.proofs.Common.{sym}
use Rattle.http1_grammar.specs.Headers.{Header}
use Rattle.http_header.specs.Token.{lowercase}
use Rattle.http1_head.proofs.FieldSteps.{says_coding, says_length, says_options, says_expectation, says_nothing}
use Rattle.http1_head.proofs.fields.Fields.and.Goals as goal

pub returns-then-is_name : goal.returns-then-is_name
returns-then-is_name c = λ headers said.
    let header : Header = (lowercase c.args.name.now, c.args.value.now) in
    says_coding headers c.args.self header said c.and-fields.result (sym c.if-is_name.ensures) (c.and-fields.ensures _ said.coding)

pub returns-then-is_name-2 : goal.returns-then-is_name-2
returns-then-is_name-2 c = λ headers said.
    let header : Header = (lowercase c.args.name.now, c.args.value.now) in
    says_length headers c.args.self header said c.and-fields-then-is_name-2.result (sym c.if-is_name-2.ensures)
    (c.and-fields-then-is_name-2.ensures _ said.length)

pub returns-then-is_name-3 : goal.returns-then-is_name-3
returns-then-is_name-3 c = λ headers said.
    let header : Header = (lowercase c.args.name.now, c.args.value.now) in
    says_options headers c.args.self header said c.and-fields-then-is_name-3.result (sym c.if-is_name-3.ensures)
    (c.and-fields-then-is_name-3.ensures _ said.options)

pub returns-then-is_name-4 : goal.returns-then-is_name-4
returns-then-is_name-4 c = λ headers said.
    let header : Header = (lowercase c.args.name.now, c.args.value.now) in
    says_expectation headers c.args.self header said c.has_expectation.result (sym c.if-is_name-4.ensures) c.has_expectation.ensures

pub returns-else-is_name-4 : goal.returns-else-is_name-4
returns-else-is_name-4 c = λ headers said.
    let header : Header = (lowercase c.args.name.now, c.args.value.now) in
    says_nothing headers c.args.self header said (sym c.if-is_name.ensures) (sym c.if-is_name-2.ensures) (sym c.if-is_name-3.ensures)
    (sym c.if-is_name-4.ensures)
