use Rattle.std.proofs.Common.{◌≡◌, ℕ, List, Option, None, rules, sym, ◌∙◌, ap}
use Rattle.std.specs.Option.{option_map, option_or}
use Rattle.std.proofs.lemmas.Result.{err_from_is_err_and}
use Rattle.script.specs.PolicyText.{policy_line}
use Rattle.script.specs.Script.{place_line, setting_line, told_by}
use Rattle.script.specs.declared.line.Line.TheVariants.{Setting, Policy, Place}
use Rattle.script.specs.declared.place.place_line.PlaceLine.{PlaceLine}
use Rattle.script.specs.declared.policy.policy_line.PolicyLine.{PolicyLine}
use Rattle.script.specs.declared.setting.setting_line.SettingLine.{SettingLine}
use Rattle.script.proofs.line.told_by.Goals as goal

-- neither a setting nor a place
policy_told : (line : List ℕ) (place : Option PlaceLine) (policy : Option PolicyLine) → None ≡ setting_line line → place ≡ None → place ≡ place_line line → policy ≡ policy_line line
    → option_map Policy policy ≡ told_by line
policy_told line place policy no_setting no_place place_is policy_is =
    ap (option_map Policy) policy_is
    ∙ ap (λ (s : Option SettingLine). option_or (option_map Setting s) (option_map Policy (policy_line line))) no_setting
    ∙ ap (λ (p : Option PlaceLine). option_or (option_map Setting (setting_line line)) (option_or (option_map Place p) (option_map Policy (policy_line line)))) (sym no_place ∙ place_is)

pub returns-in_err-said : goal.returns-in_err-said
returns-in_err-said c = let p = err_from_is_err_and c.from_residual.result c.from_residual.ensures.1 in rw p.1 tt

pub returns-in_err-read_policy_line : goal.returns-in_err-read_policy_line
returns-in_err-read_policy_line c =
    let p = err_from_is_err_and c.from_residual-in_err-read_policy_line.result c.from_residual-in_err-read_policy_line.ensures.1 in
    rw p.1 tt

pub returns : goal.returns
returns c =
    let mapped : c.map.result ≡ option_map Policy c.in_ok-read_policy_line.field-0 = search rules in
    mapped ∙ policy_told c.args.line.now c.in_ok-said.field-0 _ c.in_default.ensures c.in_default-2.is c.in_ok-said.ensures c.in_ok-read_policy_line.ensures
