use Rattle.std.proofs.Common.{◌∙◌, ap, arith, rules, inl, inr, ◌+◌, ◌≤◌, Some, [], refl, sym, subst}
use Rattle.std.specs.Prelude.{is_some, sum}
use Rattle.server_acceptor.specs.declared.placed.Placed.TheVariants.{Sent, Waiting, Nothing}
use Rattle.server_acceptor.proofs.DoesSteps.{proceeds_none, proceeds_trans}
use Rattle.server_acceptor.proofs.HandsDoes.{hands_proceeds}
use Rattle.server_acceptor.proofs.PlacedDoes.{asked_none, has_taken_sent, has_taken_waits, none_asked, placed_failed, placed_leaves, placed_out, placed_over, placed_proceeds, refused_by_all, refused_sent, refused_waits}
use Rattle.server_acceptor.proofs.StepKinds.{halted_not_on, halted_not_settled, halted_not_ended, on_not_settled, on_not_halted, on_not_ended, ended_not_on, ended_not_settled, ended_not_halted}
use Rattle.server_core.specs.Core.{Core, held}
use Rattle.server_acceptor.specs.Accepting.{refused}
use Rattle.server_acceptor.proofs.LeaveSteps.{leaves_none}
use Rattle.server_acceptor.proofs.TurnSteps.{may_same}
use Rattle.server_acceptor.proofs.acceptor.Acceptor.place_one.Goals as goal

pub returns-then-is_short-clause-proceeds : goal.returns-then-is_short-clause-proceeds
returns-then-is_short-clause-proceeds g c ls = proceeds_none g.Li.Listener.given g.Li.Listener.left g.Li.Listener.rest g.L.Link.identity g.Li.Listener.ended g.Li.Listener.faults g.Do.Done.taken g.Do.Done.count g.Do.Done.served ls c.args.self.now c.args.done.now (g.met.Do.Done.small c.args.done.now)

pub returns-in-Nothing-clause-proceeds : goal.returns-in-Nothing-clause-proceeds
returns-in-Nothing-clause-proceeds g c ls = placed_proceeds g.Li.Listener.given g.Li.Listener.left g.Li.Listener.rest g.L.Link.identity g.Li.Listener.ended g.Li.Listener.faults g.Do.Done.taken g.Do.Done.count g.Do.Done.served ls _ _ _ Nothing (g.met.Do.Done.small c.args.done.now) c.place.ensures.logs c.place.ensures.stays c.in-Nothing.ensures.placed

pub returns-in-Waiting-clause-proceeds : goal.returns-in-Waiting-clause-proceeds
returns-in-Waiting-clause-proceeds g c ls = placed_proceeds g.Li.Listener.given g.Li.Listener.left g.Li.Listener.rest g.L.Link.identity g.Li.Listener.ended g.Li.Listener.faults g.Do.Done.taken g.Do.Done.count g.Do.Done.served ls _ _ _ Waiting (g.met.Do.Done.small c.args.done.now) c.place.ensures.logs c.place.ensures.stays c.in-Waiting.ensures.placed

pub returns-in-Waiting-clause-none_asked : goal.returns-in-Waiting-clause-none_asked
returns-in-Waiting-clause-none_asked g c ls = none_asked ls c.args.self.now c.place.new.self (placed_leaves g.L.Link.identity c.args.self.now c.place.new.self c.place.ensures.logs Waiting c.in-Waiting.ensures.placed c.place.ensures.stays) c.place.ensures.stays.first c.place.ensures.stays.failed
    (placed_over g.L.Link.identity _ _ c.place.ensures.logs Waiting c.in-Waiting.ensures.placed) (placed_failed g.L.Link.identity _ _ c.place.ensures.logs Waiting c.in-Waiting.ensures.placed)

pub returns-in-Waiting-clause-refusals : goal.returns-in-Waiting-clause-refusals
returns-in-Waiting-clause-refusals g c = refused_waits c.args.self.now c.place.new.self c.in-Waiting.ensures.placed c.requires.unrefused

pub returns-in-Waiting-clause-halted : goal.returns-in-Waiting-clause-halted
returns-in-Waiting-clause-halted g c = λ _. record {
  cause = inr (inl (ap is_some c.in-Waiting.ensures.placed.waiting ∙ c.in-Waiting.ensures.placed.waits, refused_by_all c.args.self.now c.place.new.self c.in-Waiting.ensures.placed));
  told = has_taken_waits g.L.Link.identity c.args.self.now c.place.new.self c.place.ensures.logs c.place.ensures.stays c.in-Waiting.ensures.placed c.requires.told;
}

pub take_known-requires-clause-spare : goal.take_known-requires-clause-spare
take_known-requires-clause-spare g c = omega (arith, c.requires.spare, placed_out c.args.self.now c.place.new.self (Sent c.in-Sent.w) c.in-Sent.ensures.placed)

pub returns-then-take_known-clause-proceeds : goal.returns-then-take_known-clause-proceeds
returns-then-take_known-clause-proceeds g c ls = proceeds_trans g.Li.Listener.given g.Li.Listener.left g.Li.Listener.rest g.L.Link.identity g.Li.Listener.ended g.Li.Listener.faults g.Do.Done.taken g.Do.Done.count g.Do.Done.served ls ls ls c.args.self.now c.place.new.self c.take_known.new.self c.args.done.now c.args.done.now c.take_known.new.done
    (placed_proceeds g.Li.Listener.given g.Li.Listener.left g.Li.Listener.rest g.L.Link.identity g.Li.Listener.ended g.Li.Listener.faults g.Do.Done.taken g.Do.Done.count g.Do.Done.served ls _ _ _ (Sent c.in-Sent.w) (g.met.Do.Done.small c.args.done.now) c.place.ensures.logs c.place.ensures.stays c.in-Sent.ensures.placed)
    (hands_proceeds g.Li.Listener.given g.Li.Listener.left g.Li.Listener.rest g.L.Link.identity g.Li.Listener.ended g.Li.Listener.faults g.Do.Done.taken g.Do.Done.count g.Do.Done.served ls _ _ _ _ (g.met.Do.Done.small c.args.done.now) c.take_known.ensures.hands)

pub returns-then-take_known-clause-none_asked : goal.returns-then-take_known-clause-none_asked
returns-then-take_known-clause-none_asked g c ls = asked_none g.L.Link.identity c.args.self.now c.place.new.self c.place.ensures.logs ls _ _ _ c.take_known.new.self _ _ c.in-Sent.w c.place.ensures.stays c.in-Sent.ensures.placed c.take_known.ensures.hands

pub returns-then-take_known-clause-refusals : goal.returns-then-take_known-clause-refusals
returns-then-take_known-clause-refusals g c = ap is_some (c.take_known.ensures.refused ∙ refused_sent c.args.self.now c.place.new.self c.in-Sent.w c.in-Sent.ensures.placed c.requires.unrefused)

pub returns-else-take_known-clause-proceeds : goal.returns-else-take_known-clause-proceeds
returns-else-take_known-clause-proceeds g c ls = proceeds_trans g.Li.Listener.given g.Li.Listener.left g.Li.Listener.rest g.L.Link.identity g.Li.Listener.ended g.Li.Listener.faults g.Do.Done.taken g.Do.Done.count g.Do.Done.served ls ls ls c.args.self.now c.place.new.self c.take_known.new.self c.args.done.now c.args.done.now c.take_known.new.done
    (placed_proceeds g.Li.Listener.given g.Li.Listener.left g.Li.Listener.rest g.L.Link.identity g.Li.Listener.ended g.Li.Listener.faults g.Do.Done.taken g.Do.Done.count g.Do.Done.served ls _ _ _ (Sent c.in-Sent.w) (g.met.Do.Done.small c.args.done.now) c.place.ensures.logs c.place.ensures.stays c.in-Sent.ensures.placed)
    (hands_proceeds g.Li.Listener.given g.Li.Listener.left g.Li.Listener.rest g.L.Link.identity g.Li.Listener.ended g.Li.Listener.faults g.Do.Done.taken g.Do.Done.count g.Do.Done.served ls _ _ _ _ (g.met.Do.Done.small c.args.done.now) c.take_known.ensures.hands)

pub returns-else-take_known-clause-none_asked : goal.returns-else-take_known-clause-none_asked
returns-else-take_known-clause-none_asked g c ls = asked_none g.L.Link.identity c.args.self.now c.place.new.self c.place.ensures.logs ls _ _ _ c.take_known.new.self _ _ c.in-Sent.w c.place.ensures.stays c.in-Sent.ensures.placed c.take_known.ensures.hands

pub returns-else-take_known-clause-refusals : goal.returns-else-take_known-clause-refusals
returns-else-take_known-clause-refusals g c = ap is_some (c.take_known.ensures.refused ∙ refused_sent c.args.self.now c.place.new.self c.in-Sent.w c.in-Sent.ensures.placed c.requires.unrefused)

pub returns-then-take_known-clause-on : goal.returns-then-take_known-clause-on
returns-then-take_known-clause-on g c = λ _. record {
  none = c.take_known.ensures.hands.waiting ∙ c.in-Sent.ensures.placed.waiting;
  unrefused = c.take_known.ensures.refused ∙ refused_sent c.args.self.now c.place.new.self c.in-Sent.w c.in-Sent.ensures.placed c.requires.unrefused;
  told = has_taken_sent g.L.Link.identity c.args.self.now c.place.new.self c.place.ensures.logs _ _ _ c.take_known.new.self _ _ c.in-Sent.w c.place.ensures.stays c.in-Sent.ensures.placed c.take_known.ensures.hands
      c.take_known.ensures.others (c.if-take_known.ensures.told (search rules)) c.requires.told;
}

pub returns-then-is_short-clause-spare : goal.returns-then-is_short-clause-spare
returns-then-is_short-clause-spare g c = c.requires.spare

pub returns-then-is_short-clause-places : goal.returns-then-is_short-clause-places
returns-then-is_short-clause-places g c = refl

pub returns-then-is_short-clause-none_asked : goal.returns-then-is_short-clause-none_asked
returns-then-is_short-clause-none_asked g c ls = none_asked ls c.args.self.now c.args.self.now (leaves_none c.args.self.now) refl refl refl (λ t. refl)

pub returns-then-is_short-clause-refusals : goal.returns-then-is_short-clause-refusals
returns-then-is_short-clause-refusals g c = ap is_some c.requires.unrefused

pub returns-then-is_short-clause-on : goal.returns-then-is_short-clause-on
returns-then-is_short-clause-on g c = λ is. absurd (halted_not_on is)

pub returns-then-is_short-clause-settled : goal.returns-then-is_short-clause-settled
returns-then-is_short-clause-settled g c = λ is. halted_not_settled is

pub returns-then-is_short-clause-halted : goal.returns-then-is_short-clause-halted
returns-then-is_short-clause-halted g c = λ _. record { cause = inl (c.is_short.ensures.yes c.if-is_short.true); told = c.requires.told }

pub returns-then-is_short-clause-ended : goal.returns-then-is_short-clause-ended
returns-then-is_short-clause-ended g c w = λ is. absurd (halted_not_ended w is)

pub returns-in-Nothing-clause-spare : goal.returns-in-Nothing-clause-spare
returns-in-Nothing-clause-spare g c = subst (λ (s : Core). sum s.out + held s.waiting ≤ g.Do.Done.spare c.args.done.now) (sym c.in-Nothing.ensures.placed.core) c.requires.spare

pub returns-in-Nothing-clause-places : goal.returns-in-Nothing-clause-places
returns-in-Nothing-clause-places g c = ap (λ v. v.items) c.place.ensures.stays.places

pub returns-in-Nothing-clause-none_asked : goal.returns-in-Nothing-clause-none_asked
returns-in-Nothing-clause-none_asked g c ls = none_asked ls c.args.self.now c.place.new.self (placed_leaves g.L.Link.identity c.args.self.now c.place.new.self c.place.ensures.logs Nothing c.in-Nothing.ensures.placed c.place.ensures.stays) c.place.ensures.stays.first c.place.ensures.stays.failed
    (placed_over g.L.Link.identity _ _ c.place.ensures.logs Nothing c.in-Nothing.ensures.placed) (placed_failed g.L.Link.identity _ _ c.place.ensures.logs Nothing c.in-Nothing.ensures.placed)

pub returns-in-Nothing-clause-refusals : goal.returns-in-Nothing-clause-refusals
returns-in-Nothing-clause-refusals g c = ap (λ es. is_some (refused (Some []) es.items)) c.in-Nothing.ensures.placed.events ∙ ap is_some c.requires.unrefused

pub returns-in-Nothing-clause-on : goal.returns-in-Nothing-clause-on
returns-in-Nothing-clause-on g c = λ _.
    let s = c.place.ensures.stays in
    may_same c.args.self.now c.place.new.self (record { core = c.in-Nothing.ensures.placed.core; events = c.in-Nothing.ensures.placed.events; notes = s.notes; ready = s.ready; waiting = c.in-Nothing.ensures.placed.waiting; failed = s.failed; lacks_room = s.lacks_room })
    (record { none = c.in-Nothing.ensures.placed.waits; unrefused = c.requires.unrefused; told = c.requires.told })

pub returns-in-Nothing-clause-settled : goal.returns-in-Nothing-clause-settled
returns-in-Nothing-clause-settled g c = λ is. on_not_settled is

pub returns-in-Nothing-clause-halted : goal.returns-in-Nothing-clause-halted
returns-in-Nothing-clause-halted g c = λ is. absurd (on_not_halted is)

pub returns-in-Nothing-clause-ended : goal.returns-in-Nothing-clause-ended
returns-in-Nothing-clause-ended g c w = λ is. absurd (on_not_ended w is)

pub returns-in-Waiting-clause-places : goal.returns-in-Waiting-clause-places
returns-in-Waiting-clause-places g c = ap (λ v. v.items) c.place.ensures.stays.places

pub returns-in-Waiting-clause-on : goal.returns-in-Waiting-clause-on
returns-in-Waiting-clause-on g c = λ is. absurd (halted_not_on is)

pub returns-in-Waiting-clause-settled : goal.returns-in-Waiting-clause-settled
returns-in-Waiting-clause-settled g c = λ is. halted_not_settled is

pub returns-in-Waiting-clause-ended : goal.returns-in-Waiting-clause-ended
returns-in-Waiting-clause-ended g c w = λ is. absurd (halted_not_ended w is)

pub returns-then-take_known-clause-spare : goal.returns-then-take_known-clause-spare
returns-then-take_known-clause-spare g c = c.take_known.ensures.spare

pub returns-then-take_known-clause-places : goal.returns-then-take_known-clause-places
returns-then-take_known-clause-places g c = ap (λ v. v.items) (c.take_known.ensures.hands.places ∙ c.place.ensures.stays.places)

pub returns-then-take_known-clause-settled : goal.returns-then-take_known-clause-settled
returns-then-take_known-clause-settled g c = λ is. on_not_settled is

pub returns-then-take_known-clause-halted : goal.returns-then-take_known-clause-halted
returns-then-take_known-clause-halted g c = λ is. absurd (on_not_halted is)

pub returns-then-take_known-clause-ended : goal.returns-then-take_known-clause-ended
returns-then-take_known-clause-ended g c w = λ is. absurd (on_not_ended w is)

pub returns-else-take_known-clause-spare : goal.returns-else-take_known-clause-spare
returns-else-take_known-clause-spare g c = c.take_known.ensures.spare

pub returns-else-take_known-clause-places : goal.returns-else-take_known-clause-places
returns-else-take_known-clause-places g c = ap (λ v. v.items) (c.take_known.ensures.hands.places ∙ c.place.ensures.stays.places)

pub returns-else-take_known-clause-on : goal.returns-else-take_known-clause-on
returns-else-take_known-clause-on g c = λ is. absurd (ended_not_on c.in-Sent.w is)

pub returns-else-take_known-clause-settled : goal.returns-else-take_known-clause-settled
returns-else-take_known-clause-settled g c = λ is. ended_not_settled c.in-Sent.w is

pub returns-else-take_known-clause-halted : goal.returns-else-take_known-clause-halted
returns-else-take_known-clause-halted g c = λ is. absurd (ended_not_halted c.in-Sent.w is)
