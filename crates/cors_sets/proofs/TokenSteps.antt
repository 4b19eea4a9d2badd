-- A test of tokens tells what the test of the definition tells.
use Rattle.std.proofs.Common.{◌≡◌, ℕ, Bool, List, length}
use Rattle.std.specs.Bool.{Decides}
use Rattle.std.proofs.lemmas.Bool.Decides.{Decides-and, Decides-ltb, same_from_decides}
use Rattle.std.proofs.lemmas.List.Sums.{AllPass-from_list_all, list_all-from_AllPass}
use Rattle.http_header.specs.Token.{is_token_byte, IsToken}
use Rattle.cors_rules.specs.Building.{is_token}

token_decides : (bytes : List ℕ) → Decides (is_token bytes) (IsToken bytes)
token_decides bytes =
    Decides-and _ _ (Decides-ltb 0 (length bytes)) (AllPass-from_list_all is_token_byte bytes, list_all-from_AllPass is_token_byte bytes)

pub same_test : (bytes : List ℕ) (b : Bool) → Decides b (IsToken bytes) → b ≡ is_token bytes
same_test bytes b told = same_from_decides b (is_token bytes) told (token_decides bytes)
