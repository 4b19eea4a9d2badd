-- What the expect service of a script answers.
use Rattle.std.specs.Prelude.{Bool, [], Option, Some, Result, Ok, Err, codes, if◌then◌else◌}
use Rattle.http1_grammar.specs.Wire.{Response}
use Rattle.http1_grammar.specs.Answers as grammar
use Rattle.http1_plain.specs.declared.request.Request.{Request}
use Rattle.service_core.specs.declared.peer.Peer.{Peer}
use Rattle.handlers.specs.declared.expectation_fault.ExpectationFault.{ExpectationFault}
use Rattle.handlers.specs.declared.expectation_fault.ExpectationFault.TheVariants.{Refused}

-- 417 (RFC 9110, section 15.5.18)
abbrev pub refused_response : Response
refused_response = record { status = 417; headers = []; body = codes "refused" }

-- the response of a refused expectation
abbrev pub response_of_expectation : ExpectationFault → Option Response
response_of_expectation Refused = Some refused_response

-- each expectation is refused, or the request goes on as it is
abbrev pub expect_result : Bool → Request → Result Request ExpectationFault
expect_result refuses request = if refuses then Err Refused else Ok request

-- the same, an error by its response
abbrev pub expects_as : Bool → grammar.Request Peer → grammar.Expected Peer
expects_as refuses request = if refuses then grammar.is_answered refused_response else grammar.goes_on request
