-- What a preflight asks for.
use Rattle.std.specs.Prelude.{◌≡◌, true, Some, IfSome, option_copied}
use Rattle.http1_plain.specs.Fields.{IsValue}
use Rattle.http1_grammar.specs.Head.{Head}
use Rattle.cors_rules.specs.Building.{is_token}
use Rattle.cors_rules.specs.Origins.{origin_of}
use Rattle.cors_rules.specs.Requested.{asked_method, asked_headers}
use Rattle.cors_answer.specs.declared.asked.Asked.{Asked}

-- it is what the head asks for, whose method is a token
pub record IsAsked (head : Head) (asked : Asked) : Type 0 where
  pub origin : option_copied asked.origin ≡ origin_of head
  pub grants : IfSome asked.origin (λ origin. IsValue origin.now)
  pub method : asked_method head ≡ Some asked.method.now
  pub token : is_token asked.method.now ≡ true
  pub headers : option_copied asked.headers ≡ asked_headers head
  pub names : IfSome asked.headers (λ names. IsValue names.now)
