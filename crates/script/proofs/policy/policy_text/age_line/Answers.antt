use Rattle.std.proofs.Common.{◌≡◌, true, false, nat_eq, ℕ, List, drop, codes, sym, ◌∙◌, ap}
use Rattle.std.specs.List.{starts_with}
use Rattle.std.specs.Str.{bytes_eq}
use Rattle.std.proofs.lemmas.List.{take_rest}
use Rattle.script.specs.PolicyText.{age_line, seconds_line}
use Rattle.script.proofs.policy.policy_text.age_line.Goals as goal

age_is : (line : List ℕ) → bytes_eq line (codes "max-age none") ≡ false → starts_with nat_eq line (codes "max-age ") ≡ true
    → seconds_line (drop 8 line) ≡ age_line line
age_is line some starts = rw (some, starts)

pub returns-then-starts_with : goal.returns-then-starts_with
returns-then-starts_with c =
    c.seconds_line.ensures ∙ ap seconds_line (take_rest c.args.line.now 8)
    ∙ age_is c.args.line.now (rw c.as_slice.ensures at (sym c.eq.ensures ∙ c.if-eq.false))
    (rw c.as_slice-2.ensures at (sym c.starts_with.ensures.value ∙ c.if-starts_with.true))
