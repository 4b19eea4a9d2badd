-- The bytes of a line are text.
use Rattle.std.proofs.Common.{◌≡◌, ◌<◌, ℕ, true, IsUtf8, List, length, ◌-◌, take, drop, arith, sym, ◌∙◌, ap, take-append-drop}
use Rattle.std.specs.List.{list_all}
use Rattle.std.proofs.lemmas.Bool.{and_parts}
use Rattle.std.proofs.lemmas.Bool.Decides.{nat_tests}
use Rattle.std.proofs.lemmas.List.Elements.{All-weaker}
use Rattle.std.proofs.lemmas.List.{take_rest}
use Rattle.std.proofs.lemmas.List.Folds.{list_all-append}
use Rattle.std.proofs.lemmas.List.Sums.{AllPass-from_list_all}
use Rattle.std.proofs.lemmas.Str.{IsUtf8-from_ascii}
use Rattle.std.proofs.lemmas.Str.Ascii.{IsAscii-from_all}
use Rattle.script.specs.Plain.{is_plain}

plain_is_ascii : (b : ℕ) → is_plain b ≡ true → b < 128
plain_is_ascii b h = grind (arith, nat_tests)

pub plain_is_text : (bytes : List ℕ) → list_all is_plain bytes ≡ true → IsUtf8 bytes
plain_is_text bytes h =
    IsUtf8-from_ascii bytes (IsAscii-from_all bytes
    (All-weaker (λ (b : ℕ). is_plain b ≡ true) (λ (b : ℕ). b < 128) plain_is_ascii bytes (AllPass-from_list_all is_plain bytes h)))

-- so are those behind the first n
pub plain_behind : (n : ℕ) (line : List ℕ) → list_all is_plain line ≡ true → list_all is_plain (drop n line) ≡ true
plain_behind n line h =
    (and_parts (list_all is_plain (take n line)) (list_all is_plain (drop n line))
    (sym (list_all-append is_plain (take n line) (drop n line)) ∙ ap (list_all is_plain) (take-append-drop n line) ∙ h)).1

-- as a slice's range gives them
pub plain_rest : (n : ℕ) (line : List ℕ) → list_all is_plain line ≡ true → list_all is_plain (take (length line - n) (drop n line)) ≡ true
plain_rest n line h = rw take_rest (plain_behind n line h)
