use Rattle.std.proofs.Common.{◌≡◌, ℕ, List, true, false, refl, sym, IsUtf8}
use Rattle.std.specs.Str.{is_utf8}
use Rattle.std.proofs.lemmas.Str.{IsUtf8-from_is_utf8, is_utf8-from_IsUtf8}
use Rattle.http_plain.proofs.request_text.is_utf8.Goals as goal

no_text : (bytes : List ℕ) → ¬ (IsUtf8 bytes) → false ≡ is_utf8 bytes
no_text bytes h =
    elim (is_utf8 bytes) as (λ v. is_utf8 bytes ≡ v → false ≡ v) [
      | true ↦ λ e. absurd (h (IsUtf8-from_is_utf8 bytes e))
      | false ↦ λ e. refl
    ] refl

pub returns-in-Ok : goal.returns-in-Ok
returns-in-Ok c = sym (is_utf8-from_IsUtf8 c.args.bytes.now c.in-Ok.ensures.cases.1)

pub returns-in-Err : goal.returns-in-Err
returns-in-Err c = no_text c.args.bytes.now c.in-Err.ensures.cases.0
