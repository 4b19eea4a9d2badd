-- The bytes that more steps of the reads hand over, counted.
use Rattle.std.proofs.Common.{◌≡◌, ◌<◌, ℕ, ◌+◌, List, [], ◌∷◌, ◌++◌, length, ◌∙◌, ap, append-nil, length-append}
use Rattle.std.proofs.lemmas.Grind.{flat_map-append}
use Rattle.server_run.specs.declared.read_step.ReadStep.{ReadStep}
use Rattle.server_run.specs.Steps.{bytes_of, given_by}
use Rattle.script.specs.Planned.{gives}
use Rattle.script.proofs.Cutting.{pieces_together}

-- a step that hands over no bytes adds none
pub none_more : (reads : List ReadStep) (step : ReadStep) → bytes_of step ≡ [] → given_by (reads ++ step ∷ []) ≡ given_by reads
none_more reads step none =
    flat_map-append bytes_of reads (step ∷ []) ∙ ap (λ text. given_by reads ++ (text ++ [])) none ∙ append-nil (given_by reads)

-- a text in pieces adds its bytes
pub more_counted : (reads : List ReadStep) (cut : ℕ) (bytes : List ℕ) → 0 < cut → length (given_by (reads ++ gives cut bytes)) ≡ length (given_by reads) + length bytes
more_counted reads cut bytes some =
    ap length (flat_map-append bytes_of reads (gives cut bytes)) ∙ length-append (given_by reads) (given_by (gives cut bytes))
    ∙ ap (λ text. length (given_by reads) + length text) (pieces_together cut bytes some)
