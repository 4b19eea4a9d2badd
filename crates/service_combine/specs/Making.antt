-- What the making of a combinator's service may answer, by what the making of its part may answer.
use Rattle.std.specs.Prelude.{Result, Ok, Err}

-- an error of P, or something whose part P may be, and of which `holds` is true
abbrev pub WithPart : {S T I : Type 0} → (T → S) → (T → Type 0) → (Result S I → Type 0) → Result T I → Type 0
WithPart part holds P (Ok made) = P (Ok (part made)) × holds made
WithPart part holds P (Err e) = P (Err e)
