use Rattle.std.proofs.Common.{rules}
use Rattle.std.specs.Prelude.{◌==◌}
use Rattle.std.proofs.lemmas.Iterator.Search.{any_from_yields_List}
use Rattle.std.proofs.lemmas.Iterator.Splits.{YieldsList-from_slice_split}
use Rattle.script.specs.PolicyText.{is_empty}
use Rattle.script.proofs.policy.policy_text.lacks_a_word.Goals as goal

pub returns : goal.returns
returns c =
    any_from_yields_List is_empty _ _ c.any.result c.any.ensures.ran
    (YieldsList-from_slice_split _ (λ b. b == 32) c.args.text.now c.split.ensures.rest c.split.ensures.done c.split.ensures.closure
    (search rules))
    (search rules)
