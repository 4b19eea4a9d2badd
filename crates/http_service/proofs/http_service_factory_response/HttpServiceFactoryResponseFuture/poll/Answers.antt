use Rattle.std.proofs.Common.{rules}
use Rattle.http_service.proofs.Made.{HandlesBy-within}
use Rattle.http_service.proofs.http_service_factory_response.HttpServiceFactoryResponseFuture.poll.Goals as goal

pub returns-in-Pending-clause-polls : goal.returns-in-Pending-clause-polls
returns-in-Pending-clause-polls g c = record {
  value = tt;
  again = c.in-Pending.ensures.again;
  same = HandlesBy-within _ _ _ c.in-Pending.ensures.same;
  registered = c.in-Pending.ensures.registered;
  kept = search rules;
}
