use Rattle.std.proofs.Common.{refl, rules}
use Rattle.http_service.proofs.http_service_handler_response.HttpServiceHandlerResponseFuture.poll.Goals as goal

pub returns-in-Unsupported-clause-polls : goal.returns-in-Unsupported-clause-polls
returns-in-Unsupported-clause-polls g c = rw c.in-Unsupported.is (record {
  value = record { value = c.unwrap-protocol.result; is = search rules; holds = refl };
  again = tt;
  same = tt;
  registered = tt;
  kept = search rules;
})
