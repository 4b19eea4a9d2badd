use Rattle.std.proofs.Common.{rules}
use Rattle.service_combine.proofs.MeaningLemmas.{OrRefused-within, WithPart-within}
use Rattle.service_combine.proofs.then_factory_response.ThenServiceFactoryResponseFuture.poll.Goals as goal

pub returns-in-Pending-clause-polls : goal.returns-in-Pending-clause-polls
returns-in-Pending-clause-polls g c = record {
  value = search rules;
  again = search rules;
  same = OrRefused-within _ _ _ (WithPart-within _ _ _ _ c.in-Pending.ensures.polls.same);
  registered = search rules;
  kept = search rules;
}
