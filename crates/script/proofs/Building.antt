-- The lines of a policy, one after the other.
use Rattle.std.proofs.Common.{◌≡◌, ◌<◌, ◌+◌, ℕ, List, [], ◌∷◌, ◌++◌, length, drop, get_or, refl, sym, ◌∙◌, ap}
use Rattle.std.proofs.lemmas.List.{at_drop_more}
use Rattle.cors_rules.specs.Policy.{Builder}
use Rattle.script.specs.PolicyText.{and_line, and_lines}
use Rattle.script.specs.declared.policy.policy_line.PolicyLine.{PolicyLine}
use Rattle.script.specs.declared.policy.script_rule.ScriptRule.{ScriptRule}

-- one line more goes last
pub one_line_more : (old : Builder ScriptRule) (lines : List PolicyLine) (line : PolicyLine) → and_lines old (lines ++ line ∷ []) ≡ and_line (and_lines old lines) line
one_line_more old [] line = refl
one_line_more old (first ∷ lines) line = one_line_more (and_line old first) lines line

-- the line at a place
pub line_at : (old : Builder ScriptRule) (lines : List PolicyLine) (i : ℕ) (line : PolicyLine) → i < length lines → line ≡ get_or lines i line
    → and_lines old (drop i lines) ≡ and_lines (and_line old line) (drop (i + 1) lines)
line_at old lines i line within is = at_drop_more (and_lines old) lines i line within ∙ ap (λ (l : PolicyLine). and_lines (and_line old l) (drop (i + 1) lines)) (sym is)
