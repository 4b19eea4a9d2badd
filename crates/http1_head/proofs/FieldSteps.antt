-- What one more header says, and what all of them ask.
use Rattle.std.proofs.Common.{◌≡◌, ◌≤◌, ◌<◌, ◌+◌, ℕ, Bool, true, false, not, List, [], ◌∷◌, ◌++◌, length, get_or, take, map, sym, ap, ◌∙◌, subst, refl, append-nil, codes}
use Rattle.std.specs.Prelude.{◌||◌, bytes_eq}
use Rattle.std.specs.List.{filter}
use Rattle.std.proofs.lemmas.List.{map-append, take_more, take_all}
use Rattle.std.proofs.lemmas.List.Elements.{filter-append}
use Rattle.std.proofs.lemmas.Slice.Eq.{bytes_eq-Decides}
use Rattle.http1_grammar.specs.Headers.{Header, is_named, get_all}
use Rattle.http1_grammar.specs.Head.{Head}
use Rattle.http1_grammar.specs.Tokens.{names_token, closes, expects}
use Rattle.http1_plain.specs.Singles.{IsSingle}
use Rattle.http1_plain.specs.declared.single.Single.{Single}
use Rattle.http_header.specs.Token.{lowercase}
use Rattle.http1_head.proofs.OptionSteps.{any_push}
use Rattle.http1_head.specs.Asking.{lists_option, has_expectation, ListsOptions, IsSaidBy, IsAskedBy}
use Rattle.http1_head.specs.declared.fields.Fields.{Fields}
use Rattle.http1_head.specs.declared.options.ConnectionOptions.{ConnectionOptions}

abbrev value_of : Header → List ℕ
value_of header = header.1

values_named : (headers : List Header) (header : Header) (name : List ℕ) → is_named name header ≡ true
    → get_all (headers ++ header ∷ []) name ≡ get_all headers name ++ header.1 ∷ []
values_named headers header name e =
    ap (map value_of) (filter-append (is_named name) headers (header ∷ []))
    ∙ map-append value_of (filter (is_named name) headers) (filter (is_named name) (header ∷ []))
    ∙ ap (λ values. get_all headers name ++ values) (rw e refl)

values_other : (headers : List Header) (header : Header) (name : List ℕ) → is_named name header ≡ false
    → get_all (headers ++ header ∷ []) name ≡ get_all headers name
values_other headers header name e =
    ap (map value_of) (filter-append (is_named name) headers (header ∷ []))
    ∙ map-append value_of (filter (is_named name) headers) (filter (is_named name) (header ∷ []))
    ∙ ap (λ values. get_all headers name ++ values) (rw e refl) ∙ append-nil (get_all headers name)

-- the header of one name is none of another
apart : (header : Header) (name other : List ℕ) → is_named name header ≡ true → bytes_eq name other ≡ false → is_named other header ≡ false
apart header name other e f = ap (λ n. bytes_eq n other) ((bytes_eq-Decides header.0 name).0 e) ∙ f

abbrev pub is_expected : List ℕ → Bool
is_expected value = bytes_eq (lowercase value) (codes "100-continue")

-- ---- one more header

module _ (headers : List Header) (fields : Fields) (header : Header) (said : IsSaidBy headers fields) where
  single_named : (name : List ℕ) (found : Single) → is_named name header ≡ true → IsSingle (get_all headers name ++ header.1 ∷ []) found
      → IsSingle (get_all (headers ++ header ∷ []) name) found
  single_named name found e h = subst (λ values. IsSingle values found) (sym (values_named headers header name e)) h

  single_other : (name : List ℕ) (found : Single) → is_named name header ≡ false → IsSingle (get_all headers name) found
      → IsSingle (get_all (headers ++ header ∷ []) name) found
  single_other name found e h = subst (λ values. IsSingle values found) (sym (values_other headers header name e)) h

  options_other : is_named (codes "connection") header ≡ false → ListsOptions (get_all (headers ++ header ∷ []) (codes "connection")) fields.options
  options_other e = subst (λ values. ListsOptions values fields.options) (sym (values_other headers header (codes "connection") e)) said.options

  expectation_other : is_named (codes "expect") header ≡ false → fields.expectation ≡ has_expectation (get_all (headers ++ header ∷ []) (codes "expect"))
  expectation_other e = said.expectation ∙ ap has_expectation (sym (values_other headers header (codes "expect") e))

  pub says_coding : (coding : Single) → is_named (codes "transfer-encoding") header ≡ true
      → IsSingle (get_all headers (codes "transfer-encoding") ++ header.1 ∷ []) coding
      → IsSaidBy (headers ++ header ∷ []) (record fields { coding = coding })
  says_coding coding e h = record {
    coding = single_named (codes "transfer-encoding") coding e h;
    length = single_other (codes "content-length") fields.length (apart header (codes "transfer-encoding") (codes "content-length") e refl) said.length;
    options = options_other (apart header (codes "transfer-encoding") (codes "connection") e refl);
    expectation = expectation_other (apart header (codes "transfer-encoding") (codes "expect") e refl);
  }

  pub says_length : (len : Single) → is_named (codes "content-length") header ≡ true
      → IsSingle (get_all headers (codes "content-length") ++ header.1 ∷ []) len
      → IsSaidBy (headers ++ header ∷ []) (record fields { length = len })
  says_length len e h = record {
    coding = single_other (codes "transfer-encoding") fields.coding (apart header (codes "content-length") (codes "transfer-encoding") e refl) said.coding;
    length = single_named (codes "content-length") len e h;
    options = options_other (apart header (codes "content-length") (codes "connection") e refl);
    expectation = expectation_other (apart header (codes "content-length") (codes "expect") e refl);
  }

  pub says_options : (options : ConnectionOptions) → is_named (codes "connection") header ≡ true
      → ListsOptions (get_all headers (codes "connection") ++ header.1 ∷ []) options
      → IsSaidBy (headers ++ header ∷ []) (record fields { options = options })
  says_options options e h = record {
    coding = single_other (codes "transfer-encoding") fields.coding (apart header (codes "connection") (codes "transfer-encoding") e refl) said.coding;
    length = single_other (codes "content-length") fields.length (apart header (codes "connection") (codes "content-length") e refl) said.length;
    options = subst (λ values. ListsOptions values options) (sym (values_named headers header (codes "connection") e)) h;
    expectation = expectation_other (apart header (codes "connection") (codes "expect") e refl);
  }

  pub says_expectation : (expectation : Bool) → is_named (codes "expect") header ≡ true
      → expectation ≡ (fields.expectation || is_expected header.1)
      → IsSaidBy (headers ++ header ∷ []) (record fields { expectation = expectation })
  says_expectation expectation e h = record {
    coding = single_other (codes "transfer-encoding") fields.coding (apart header (codes "expect") (codes "transfer-encoding") e refl) said.coding;
    length = single_other (codes "content-length") fields.length (apart header (codes "expect") (codes "content-length") e refl) said.length;
    options = options_other (apart header (codes "expect") (codes "connection") e refl);
    expectation = h ∙ ap (λ b. b || is_expected header.1) said.expectation
        ∙ sym (any_push is_expected (get_all headers (codes "expect")) header.1)
        ∙ ap has_expectation (sym (values_named headers header (codes "expect") e));
  }

  pub says_nothing : is_named (codes "transfer-encoding") header ≡ false → is_named (codes "content-length") header ≡ false
      → is_named (codes "connection") header ≡ false → is_named (codes "expect") header ≡ false
      → IsSaidBy (headers ++ header ∷ []) fields
  says_nothing c l o e = record {
    coding = single_other (codes "transfer-encoding") fields.coding c said.coding;
    length = single_other (codes "content-length") fields.length l said.length;
    options = options_other o;
    expectation = expectation_other e;
  }

-- ---- all headers

pub said_more : (headers : List Header) (i : ℕ) (d : Header) (fields : Fields) → i < length headers
    → IsSaidBy (take i headers ++ get_or headers i d ∷ []) fields → IsSaidBy (take (i + 1) headers) fields
said_more headers i d fields l h = subst (λ (hs : List Header). IsSaidBy hs fields) (sym (take_more headers i d l)) h

pub said_all : (headers : List Header) (i : ℕ) (fields : Fields) → length headers ≤ i → IsSaidBy (take i headers) fields → IsSaidBy headers fields
said_all headers i fields l h = subst (λ (hs : List Header). IsSaidBy hs fields) (take_all i headers l) h

-- ---- what a head asks

token_is : (head : Head) (token : List ℕ) → lists_option token (get_all head.headers (codes "connection")) ≡ names_token head token
unfolding names_token
token_is head token = refl

expects_old : (head : Head) → head.minor ≡ 0 → false ≡ expects head
unfolding expects
expects_old head e = rw e refl

expects_new : (head : Head) → head.minor ≡ 1 → has_expectation (get_all head.headers (codes "expect")) ≡ expects head
unfolding expects
expects_new head e = rw e refl

closes_old : (head : Head) → head.minor ≡ 0 → (names_token head (codes "close") || not (names_token head (codes "keep-alive"))) ≡ closes true head
closes_old head e = rw e refl

closes_new : (head : Head) → head.minor ≡ 1 → names_token head (codes "close") ≡ closes true head
closes_new head e = rw e refl

pub asked_old : (head : Head) (fields : Fields) → IsSaidBy head.headers fields → head.minor ≡ 0
    → IsAskedBy head (record { closes = fields.options.close || not fields.options.keep_alive; upgrades = fields.options.upgrade; expects = false })
asked_old head fields said e = record {
  closes = rw (said.options.close ∙ token_is head (codes "close"), said.options.keep_alive ∙ token_is head (codes "keep-alive")) (closes_old head e);
  upgrades = said.options.upgrade ∙ token_is head (codes "upgrade");
  expects = expects_old head e;
}

pub asked_new : (head : Head) (fields : Fields) → IsSaidBy head.headers fields → head.minor ≡ 1
    → IsAskedBy head (record { closes = fields.options.close; upgrades = fields.options.upgrade; expects = fields.expectation })
asked_new head fields said e = record {
  closes = said.options.close ∙ token_is head (codes "close") ∙ closes_new head e;
  upgrades = said.options.upgrade ∙ token_is head (codes "upgrade");
  expects = said.expectation ∙ expects_new head e;
}
