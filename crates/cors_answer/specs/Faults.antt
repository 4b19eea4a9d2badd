-- The response of a fault.
use Rattle.std.specs.Prelude.{Option, Some, None}
use Rattle.http1_grammar.specs.Wire.{Response}
use Rattle.cors_answer.specs.declared.fault.CorsFault.{CorsFault}
use Rattle.cors_answer.specs.declared.fault.CorsFault.TheVariants.{Answered, Memory}

abbrev pub fault_response : CorsFault → Option Response
fault_response (Answered response) = Some response
fault_response Memory = None
