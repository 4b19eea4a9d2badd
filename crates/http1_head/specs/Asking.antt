-- What headers say of a body and of its connection, and what a head asks.
use Rattle.std.specs.Prelude.{◌≡◌, ℕ, Bool, true, List, codes, bytes_eq}
use Rattle.std.specs.List.{list_any}
use Rattle.http_header.specs.Token.{lowercase}
use Rattle.http1_grammar.specs.Headers.{Header, get_all}
use Rattle.http1_grammar.specs.Head.{Head}
use Rattle.http1_grammar.specs.Tokens.{connection_options, closes, upgrades, expects}
use Rattle.http1_plain.specs.Singles.{IsSingle}
use Rattle.http1_head.specs.declared.asks.Asks.{Asks}
use Rattle.http1_head.specs.declared.fields.Fields.{Fields}
use Rattle.http1_head.specs.declared.options.ConnectionOptions.{ConnectionOptions}

-- whether one of the `Connection` values lists the token
abbrev pub lists_option : List ℕ → List (List ℕ) → Bool
lists_option token values = list_any (λ (value : List ℕ). list_any (bytes_eq token) (connection_options value)) values

-- the options are those that the `Connection` values list
pub record ListsOptions (values : List (List ℕ)) (options : ConnectionOptions) : Type 0 where
  pub close : options.close ≡ lists_option (codes "close") values
  pub keep_alive : options.keep_alive ≡ lists_option (codes "keep-alive") values
  pub upgrade : options.upgrade ≡ lists_option (codes "upgrade") values

-- whether one of the `Expect` values is the one that is known
abbrev pub has_expectation : List (List ℕ) → Bool
has_expectation values = list_any (λ (value : List ℕ). bytes_eq (lowercase value) (codes "100-continue")) values

-- the headers say this
pub record IsSaidBy (headers : List Header) (fields : Fields) : Type 0 where
  pub coding : IsSingle (get_all headers (codes "transfer-encoding")) fields.coding
  pub length : IsSingle (get_all headers (codes "content-length")) fields.length
  pub options : ListsOptions (get_all headers (codes "connection")) fields.options
  pub expectation : fields.expectation ≡ has_expectation (get_all headers (codes "expect"))

-- the head asks this, where its connection may be kept alive
pub record IsAskedBy (head : Head) (asks : Asks) : Type 0 where
  pub closes : asks.closes ≡ closes true head
  pub upgrades : asks.upgrades ≡ upgrades head
  pub expects : asks.expects ≡ expects head
