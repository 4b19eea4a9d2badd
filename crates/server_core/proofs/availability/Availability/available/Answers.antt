use Rattle.std.proofs.Common.{sym, ◌∙◌}
use Rattle.server_core.proofs.Marks.{empty_view, view_of_none}
use Rattle.server_core.proofs.availability.Availability.available.Goals as goal

pub returns : goal.returns
returns c = (
  (λ none. sym c.self.view_is ∙ empty_view c.self.inside.words (sym c.any_word.ensures.value ∙ none)),
  (λ empty. c.any_word.ensures.value ∙ view_of_none c.self.inside.words c.self.told c.any_word.ensures.fits (c.self.view_is ∙ empty)),
)
