-- The policy lines of a script, and what each changes.
use Rattle.std.specs.Prelude.{ℕ, ◌==◌, ◌-◌, ◌^◌, nat_eq, Bool, true, false, if◌then◌else◌, List, [], ◌∷◌, length, drop, Option, Some, None, codes}
use Rattle.std.specs.List.{list_any, slice_split, starts_with}
use Rattle.std.specs.Option.{option_map, option_or}
use Rattle.std.specs.Str.{bytes_eq}
use Rattle.cors_rules.specs.declared.all_or_some.AllOrSome.TheVariants as allowed
use Rattle.cors_rules.specs.Building.{and_all_exposed, and_header, and_headers, and_methods, and_origin, and_rule, nine_methods, permissive, set_policy}
use Rattle.cors_rules.specs.Policy.{Builder}
use Rattle.script.specs.Numbers.{number_to}
use Rattle.script.specs.declared.policy.policy_line.PolicyLine.{PolicyLine}
use Rattle.script.specs.declared.policy.policy_line.PolicyLine.TheVariants.{Permissive, AnyOrigin, Origin, Rule, AnyMethod, Methods, AnyHeader, Header, Headers, ExposeAny, Expose, MaxAge, Wildcard, Credentials, NoVary, NoPreflight, Block}
use Rattle.script.specs.declared.policy.script_rule.ScriptRule.{ScriptRule}
use Rattle.script.specs.declared.policy.script_rule.ScriptRule.TheVariants.{Always, Dnt, RustLang}

-- the text behind the first word of a line, which isn't empty
abbrev pub some_text : List ℕ → Option (List ℕ)
some_text text = if length text == 0 then None else Some text

abbrev pub is_empty : List ℕ → Bool
is_empty text = length text == 0

-- the words of a text, with one space between two
abbrev pub words : List ℕ → List (List ℕ)
words text = slice_split (λ b. b == 32) text

-- a text of words, of which none is missing
abbrev pub some_words : List ℕ → Option (List ℕ)
some_words text = if list_any is_empty (words text) then None else Some text

-- ---- the forms of a line

-- one name or origin, which is the rest of the line
abbrev pub text_line : List ℕ → Option PolicyLine
text_line line =
    if starts_with nat_eq line (codes "origin ") then option_map Origin (some_text (drop 7 line))
    else if starts_with nat_eq line (codes "header ") then option_map Header (some_text (drop 7 line))
    else None

-- one or more names of response headers
abbrev pub exposed_line : List ℕ → Option PolicyLine
exposed_line line =
    if starts_with nat_eq line (codes "expose ") then option_map Expose (some_words (drop 7 line)) else None

-- one or more names of headers
abbrev pub names_line : List ℕ → Option PolicyLine
names_line line =
    if starts_with nat_eq line (codes "headers ") then option_map Headers (some_words (drop 8 line)) else exposed_line line

-- one or more words
abbrev pub words_line : List ℕ → Option PolicyLine
words_line line =
    if starts_with nat_eq line (codes "methods ") then option_map Methods (some_words (drop 8 line)) else names_line line

-- a rule
abbrev pub rule_line : List ℕ → Option PolicyLine
rule_line line =
    if bytes_eq line (codes "rule always") then Some (Rule Always)
    else if bytes_eq line (codes "rule dnt") then Some (Rule Dnt)
    else if bytes_eq line (codes "rule rust-lang") then Some (Rule RustLang)
    else None

-- a number of seconds below 2 ^ 64
abbrev pub seconds_line : List ℕ → Option PolicyLine
seconds_line text = option_map (λ (seconds : ℕ). MaxAge (Some seconds)) (number_to (2 ^ 64 - 1) text)

-- such a number, or none
abbrev pub age_line : List ℕ → Option PolicyLine
age_line line =
    if bytes_eq line (codes "max-age none") then Some (MaxAge None)
    else if starts_with nat_eq line (codes "max-age ") then seconds_line (drop 8 line)
    else None

-- everything is allowed
abbrev pub all_line : List ℕ → Option PolicyLine
all_line line =
    if bytes_eq line (codes "permissive") then Some Permissive
    else if bytes_eq line (codes "any-origin") then Some AnyOrigin
    else if bytes_eq line (codes "any-method") then Some AnyMethod
    else if bytes_eq line (codes "any-header") then Some AnyHeader
    else if bytes_eq line (codes "expose-any") then Some ExposeAny
    else None

-- a flag
abbrev pub flag_line : List ℕ → Option PolicyLine
flag_line line =
    if bytes_eq line (codes "wildcard") then Some Wildcard
    else if bytes_eq line (codes "credentials") then Some Credentials
    else if bytes_eq line (codes "no-vary") then Some NoVary
    else if bytes_eq line (codes "no-preflight") then Some NoPreflight
    else if bytes_eq line (codes "block") then Some Block
    else None

-- what a policy line says, or none where it isn't one
abbrev pub policy_line : List ℕ → Option PolicyLine
policy_line line =
    option_or (text_line line) (option_or (words_line line) (option_or (rule_line line)
    (option_or (age_line line) (option_or (all_line line) (flag_line line)))))

-- ---- what it changes

unfoldable pub and_line : Builder ScriptRule → PolicyLine → Builder ScriptRule
and_line old Permissive = permissive
and_line old AnyOrigin = set_policy old (record old.policy { origins = allowed.All })
and_line old (Origin text) = and_origin old text
and_line old (Rule rule) = and_rule old rule
and_line old AnyMethod = set_policy old (record old.policy { methods = nine_methods })
and_line old (Methods text) = and_methods old (words text)
and_line old AnyHeader = set_policy old (record old.policy { headers = allowed.All })
and_line old (Header name) = and_header old name
and_line old (Headers text) = and_headers old (words text)
and_line old ExposeAny = set_policy old (record old.policy { exposed = allowed.All })
and_line old (Expose text) = and_all_exposed old (words text)
and_line old (MaxAge seconds) = set_policy old (record old.policy { max_age = seconds })
and_line old Wildcard = set_policy old (record old.policy { wildcard = true })
and_line old Credentials = set_policy old (record old.policy { credentials = true })
and_line old NoVary = set_policy old (record old.policy { vary = false })
and_line old NoPreflight = set_policy old (record old.policy { preflight = false })
and_line old Block = set_policy old (record old.policy { block = true })

-- what the lines change, in order
abbrev pub and_lines : Builder ScriptRule → List PolicyLine → Builder ScriptRule
and_lines old [] = old
and_lines old (line ∷ lines) = and_lines (and_line old line) lines

-- the line starts from everything, so none may stand before it
abbrev pub is_permissive : PolicyLine → Bool
is_permissive Permissive = true
is_permissive AnyOrigin = false
is_permissive (Origin text) = false
is_permissive (Rule rule) = false
is_permissive AnyMethod = false
is_permissive (Methods text) = false
is_permissive AnyHeader = false
is_permissive (Header name) = false
is_permissive (Headers text) = false
is_permissive ExposeAny = false
is_permissive (Expose text) = false
is_permissive (MaxAge seconds) = false
is_permissive Wildcard = false
is_permissive Credentials = false
is_permissive NoVary = false
is_permissive NoPreflight = false
is_permissive Block = false
