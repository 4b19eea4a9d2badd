-- The lines of one text or of words, by the word that they begin with.
use Rattle.std.proofs.Common.{◌≡◌, true, false, nat_eq, ℕ, List, drop, codes, None}
use Rattle.std.specs.List.{starts_with}
use Rattle.std.specs.Option.{option_map}
use Rattle.script.specs.PolicyText.{exposed_line, names_line, some_text, some_words, text_line, words_line}
use Rattle.script.specs.declared.policy.policy_line.PolicyLine.TheVariants.{Origin, Header, Methods, Headers, Expose}

module _ (line : List ℕ) where
  pub origin_is : starts_with nat_eq line (codes "origin ") ≡ true → option_map Origin (some_text (drop 7 line)) ≡ text_line line
  origin_is begins = rw begins

  pub header_is : starts_with nat_eq line (codes "origin ") ≡ false → starts_with nat_eq line (codes "header ") ≡ true
      → option_map Header (some_text (drop 7 line)) ≡ text_line line
  header_is other begins = rw (other, begins)

  pub no_text : starts_with nat_eq line (codes "origin ") ≡ false → starts_with nat_eq line (codes "header ") ≡ false → None ≡ text_line line
  no_text one other = rw (one, other)

  pub methods_is : starts_with nat_eq line (codes "methods ") ≡ true → option_map Methods (some_words (drop 8 line)) ≡ words_line line
  methods_is begins = rw begins

  pub no_methods : starts_with nat_eq line (codes "methods ") ≡ false → names_line line ≡ words_line line
  no_methods other = rw other

  pub headers_is : starts_with nat_eq line (codes "headers ") ≡ true → option_map Headers (some_words (drop 8 line)) ≡ names_line line
  headers_is begins = rw begins

  pub no_headers : starts_with nat_eq line (codes "headers ") ≡ false → exposed_line line ≡ names_line line
  no_headers other = rw other

  pub expose_is : starts_with nat_eq line (codes "expose ") ≡ true → option_map Expose (some_words (drop 7 line)) ≡ exposed_line line
  expose_is begins = rw begins
