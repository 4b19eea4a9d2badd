use Rattle.std.proofs.Common.{ap, ◌∙◌, ◌++◌, ◌∷◌, [], rules}
use Rattle.server_commands.proofs.handle_commands.HandleCommandsCommands.next.Goals as goal

pub returns-clause-owes : goal.returns-clause-owes
returns-clause-owes g c = record {
  raiser = c.in-Some.field-0.raiser;
  last = c.push_reserved.ensures.last ∙ ap (λ kept. kept ++ c.in-Some.field-0.raiser ∷ []) c.in-Some.ensures.left;
  asked = search rules;
  unraised = search rules;
}
