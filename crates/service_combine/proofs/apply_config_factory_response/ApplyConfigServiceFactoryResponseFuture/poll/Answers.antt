use Rattle.std.proofs.Common.{rules, refl, subst, sym, Ok}
use Rattle.service_combine.specs.Applying.{Answers}
use Rattle.service_combine.proofs.PollLemmas.{IfReady-more, OnPending-more}
use Rattle.service_combine.proofs.StageLemmas.{from-polled, ThroughService-within}
use Rattle.service_combine.proofs.apply_config_factory_response.ApplyConfigServiceFactoryResponseFuture.poll.Goals as goal

pub returns-in-Pending-clause-polls : goal.returns-in-Pending-clause-polls
returns-in-Pending-clause-polls g c =
    let can = rw c.in-First.is at c.requires in
    record {
      value = tt;
      again = (c.in-Pending.ensures.polls.again, λ s given. can.1 s (c.in-Pending.ensures.polls.same (Ok s) given));
      same = rw c.in-First.is (ThroughService-within _ g.Fut.Future.gives _ _ c.in-Pending.ensures.polls.same);
      registered = search rules;
      kept = search rules;
    }

pub call-requires : goal.call-requires
call-requires g c =
    let can = rw c.in-First.is at c.requires in
    rw (c.deref.ensures, c.take_first-cfg.ensures.1, c.take_first-cfg.ensures.0)
    ((can.1 c.in-Ready-Ok.service (search rules)).callable _ refl)

pub poll-polled-requires : goal.poll-polled-requires
poll-polled-requires g c =
    let can = rw c.in-First.is at c.requires in
    let answered : Answers _ c.in-Ready-Ok.service c.in-First.cfg c.call.result =
    record {
      lent = _;
      is = refl;
      answered = rw (c.deref.ensures, c.take_first-cfg.ensures.1, c.take_first-cfg.ensures.0) at c.call.ensures;
    } in
    subst (λ f. g.Fut.Future.can_poll f) (sym c.new-future.ensures.future)
    ((can.1 c.in-Ready-Ok.service (search rules)).makes.pollable _ answered)

pub returns-in-Ready-Ok-clause-polls : goal.returns-in-Ready-Ok-clause-polls
returns-in-Ready-Ok-clause-polls g c =
    let answered : Answers _ c.in-Ready-Ok.service c.in-First.cfg c.call.result =
    record {
      lent = _;
      is = refl;
      answered = rw (c.deref.ensures, c.take_first-cfg.ensures.1, c.take_first-cfg.ensures.0) at c.call.ensures;
    } in
    record {
      value = rw c.in-First.is (IfReady-more c.poll-polled.result _ _ c.poll-polled.ensures.value (λ x given.
          from-polled _ g.Fut.Future.gives _ c.poll.result c.poll.ensures.polls.value _ c.in-Ready-Ok.is _ c.in-Ready-Ok.field-0-is _ answered x
          (subst (λ f. g.Fut.Future.gives f x) c.new-future.ensures.future given)));
      again = rw c.go_on.ensures c.poll-polled.ensures.again;
      same = rw c.go_on.ensures (OnPending-more c.poll-polled.result _ _ c.poll-polled.ensures.same (λ same x given. rw c.in-First.is
          (from-polled _ g.Fut.Future.gives _ c.poll.result c.poll.ensures.polls.value _ c.in-Ready-Ok.is _ c.in-Ready-Ok.field-0-is _ answered x
          (subst (λ f. g.Fut.Future.gives f x) c.new-future.ensures.future (same x given)))));
      registered = rw c.go_on.ensures c.poll-polled.ensures.registered;
      kept = search rules;
    }
