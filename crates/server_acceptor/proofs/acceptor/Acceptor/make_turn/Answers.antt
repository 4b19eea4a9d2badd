use Rattle.std.proofs.Common.{◌≡◌, ◌∙◌, true, ap, arith, rules, sym, true≢false, inr, None, Some, [], ◌<◌, ◌≤◌, refl, subst}
use Rattle.std.specs.Prelude.{slice_index_or}
use Rattle.server_acceptor.specs.Accepting.{EndsByFault, refused}
use Rattle.server_acceptor.proofs.DoesSteps.{proceeds_trans}
use Rattle.server_acceptor.proofs.HandsDoes.{hands_proceeds}
use Rattle.server_acceptor.proofs.LeaveSteps.{leaves_handed, leaves_trans}
use Rattle.server_acceptor.proofs.NoteSteps.{ends_later}
use Rattle.server_acceptor.proofs.PlacedDoes.{hands_failed}
use Rattle.server_acceptor.proofs.TurnSteps.{in_turn_from, in_turn_none, is_some_of, once_each, unrefused_first}
use Rattle.server_acceptor.proofs.StepKinds.{ended_not_halted, ended_not_on, ended_not_settled, settled_not_ended, settled_not_halted, settled_not_on, worker_same}
use Rattle.server_acceptor.specs.Acceptors.{workers_of}
use Rattle.server_run.specs.Delivery.{given_at}
use Rattle.server_acceptor.proofs.acceptor.Acceptor.make_turn.Goals as goal

pub returns-in-Some-clause-proceeds : goal.returns-in-Some-clause-proceeds
returns-in-Some-clause-proceeds g c = hands_proceeds _ _ _ _ _ _ _ _ _ _ _ _ _ _ (g.met.Do.Done.small c.args.done.now) c.take_notes.ensures.hands

pub returns-in-Some-clause-once : goal.returns-in-Some-clause-once
returns-in-Some-clause-once g c =
    let same = hands_failed _ _ _ _ _ _ _ _ c.take_notes.ensures.hands in
    once_each c.args.self.now.events.items c.take_notes.new.self.events.items c.take_notes.new.self.events.items c.requires.none_failed same (λ t. omega arith) (is_some_of (refused (Some []) c.take_notes.new.self.events.items) (unrefused_first c.args.self.now.events.items c.take_notes.new.self.events.items c.requires.none_refused c.take_notes.ensures.refused))

pub returns-in_default-place_one-clause-proceeds : goal.returns-in_default-place_one-clause-proceeds
returns-in_default-place_one-clause-proceeds g c =
    proceeds_trans _ _ _ _ _ _ _ _ _ c.args.listeners.now.items c.args.listeners.now.items c.args.listeners.now.items _ _ _ _ _ _
    (hands_proceeds _ _ _ _ _ _ _ _ _ _ _ _ _ _ (g.met.Do.Done.small c.args.done.now) c.take_notes.ensures.hands) (c.place_one.ensures.proceeds c.args.listeners.now.items)

pub returns-in_default-place_one-clause-first : goal.returns-in_default-place_one-clause-first
returns-in_default-place_one-clause-first g c = (c.place_one.ensures.none_asked c.args.listeners.now.items).first ∙ c.take_notes.ensures.hands.first

pub returns-in_default-place_one-clause-once : goal.returns-in_default-place_one-clause-once
returns-in_default-place_one-clause-once g c =
    once_each c.args.self.now.events.items c.take_notes.new.self.events.items c.place_one.new.self.events.items c.requires.none_failed (hands_failed _ _ _ _ _ _ _ _ c.take_notes.ensures.hands) (c.place_one.ensures.none_asked c.args.listeners.now.items).once c.place_one.ensures.refusals

pub returns-in_default-place_one-clause-in_turn : goal.returns-in_default-place_one-clause-in_turn
returns-in_default-place_one-clause-in_turn g c = in_turn_none _ _ _ c.args.listeners.now.items _ _ _

pub returns-in_default-place_one-clause-ended : goal.returns-in_default-place_one-clause-ended
returns-in_default-place_one-clause-ended g c w is =
    let fault = c.place_one.ensures.ended w (search rules) in
    (fault.0, ends_later _ _ _ w (c.take_notes.ensures.hands.receives w) fault.1)

pub returns-then-not-may_accept-clause-proceeds : goal.returns-then-not-may_accept-clause-proceeds
returns-then-not-may_accept-clause-proceeds g c =
    proceeds_trans _ _ _ _ _ _ _ _ _ c.args.listeners.now.items c.args.listeners.now.items c.args.listeners.now.items _ _ _ _ _ _
    (hands_proceeds _ _ _ _ _ _ _ _ _ _ _ _ _ _ (g.met.Do.Done.small c.args.done.now) c.take_notes.ensures.hands) (c.place_one.ensures.proceeds c.args.listeners.now.items)

pub returns-then-not-may_accept-clause-first : goal.returns-then-not-may_accept-clause-first
returns-then-not-may_accept-clause-first g c = (c.place_one.ensures.none_asked c.args.listeners.now.items).first ∙ c.take_notes.ensures.hands.first

pub returns-then-not-may_accept-clause-once : goal.returns-then-not-may_accept-clause-once
returns-then-not-may_accept-clause-once g c =
    once_each c.args.self.now.events.items c.take_notes.new.self.events.items c.place_one.new.self.events.items c.requires.none_failed (hands_failed _ _ _ _ _ _ _ _ c.take_notes.ensures.hands) (c.place_one.ensures.none_asked c.args.listeners.now.items).once c.place_one.ensures.refusals

pub returns-clause-proceeds : goal.returns-clause-proceeds
returns-clause-proceeds g c =
    proceeds_trans _ _ _ _ _ _ _ _ _ c.args.listeners.now.items c.args.listeners.now.items c.ask_all.new.listeners.items _ _ _ _ _ _
    (proceeds_trans _ _ _ _ _ _ _ _ _ c.args.listeners.now.items c.args.listeners.now.items c.args.listeners.now.items _ _ _ _ _ _
    (hands_proceeds _ _ _ _ _ _ _ _ _ _ _ _ _ _ (g.met.Do.Done.small c.args.done.now) c.take_notes.ensures.hands) (c.place_one.ensures.proceeds c.args.listeners.now.items))
    c.ask_all.ensures.proceeds

pub returns-clause-first : goal.returns-clause-first
returns-clause-first g c = c.ask_all.ensures.first ∙ (c.place_one.ensures.none_asked c.args.listeners.now.items).first ∙ c.take_notes.ensures.hands.first

pub returns-clause-once : goal.returns-clause-once
returns-clause-once g c =
    once_each c.args.self.now.events.items c.place_one.new.self.events.items c.ask_all.new.self.events.items c.requires.none_failed (λ t. (c.place_one.ensures.none_asked c.args.listeners.now.items).others t (inr (omega arith)) ∙ hands_failed _ _ _ _ _ _ _ _ c.take_notes.ensures.hands t)
    c.ask_all.ensures.once c.ask_all.ensures.refusals

pub returns-clause-in_turn : goal.returns-clause-in_turn
returns-clause-in_turn g c =
    in_turn_from _ _ _ _ _ c.args.self.now c.place_one.new.self _ _ ((c.place_one.ensures.none_asked c.args.listeners.now.items).first ∙ c.take_notes.ensures.hands.first)
    (λ t. (c.place_one.ensures.none_asked c.args.listeners.now.items).failed t (inr (omega arith)) ∙ ap (λ v. slice_index_or v.items t None) c.take_notes.ensures.hands.failed)
    c.ask_all.ensures.in_turn

pub returns-clause-settled : goal.returns-clause-settled
returns-clause-settled g c is = let s = c.ask_all.ensures.settled is in (s.0, λ ready room accepts idle. s.1)

pub returns-clause-short : goal.returns-clause-short
returns-clause-short g c lacks =
    let short : c.place_one.new.self.lacks_room ≡ true = (c.place_one.ensures.proceeds c.args.listeners.now.items).does.acts.lacks (c.take_notes.ensures.hands.lacks_room ∙ lacks) in
    absurd (true≢false (sym short ∙ (c.may_accept.ensures.yes (search rules)).1))

pub returns-clause-ended : goal.returns-clause-ended
returns-clause-ended g c w is =
    let fault = c.ask_all.ensures.ended w is in
    (fault.0, ends_later _ _ _ w (c.take_notes.ensures.hands.receives w) (ends_later _ _ _ w ((c.place_one.ensures.proceeds c.args.listeners.now.items).does.acts.receives w) fault.1))

pub returns-then-not-idle-clause-proceeds : goal.returns-then-not-idle-clause-proceeds
returns-then-not-idle-clause-proceeds g c =
    proceeds_trans _ _ _ _ _ _ _ _ _ c.args.listeners.now.items c.args.listeners.now.items c.args.listeners.now.items _ _ _ _ _ _
    (hands_proceeds _ _ _ _ _ _ _ _ _ _ _ _ _ _ (g.met.Do.Done.small c.args.done.now) c.take_notes.ensures.hands) (c.place_one.ensures.proceeds c.args.listeners.now.items)

pub returns-then-not-idle-clause-first : goal.returns-then-not-idle-clause-first
returns-then-not-idle-clause-first g c = (c.place_one.ensures.none_asked c.args.listeners.now.items).first ∙ c.take_notes.ensures.hands.first

pub returns-then-not-idle-clause-once : goal.returns-then-not-idle-clause-once
returns-then-not-idle-clause-once g c =
    once_each c.args.self.now.events.items c.take_notes.new.self.events.items c.place_one.new.self.events.items c.requires.none_failed (hands_failed _ _ _ _ _ _ _ _ c.take_notes.ensures.hands) (c.place_one.ensures.none_asked c.args.listeners.now.items).once c.place_one.ensures.refusals

pub returns-in-Some-clause-leaves : goal.returns-in-Some-clause-leaves
returns-in-Some-clause-leaves g c = leaves_handed _ _ _ _ _ _ _ _ c.take_notes.ensures.hands

pub returns-in_default-place_one-clause-leaves : goal.returns-in_default-place_one-clause-leaves
returns-in_default-place_one-clause-leaves g c = leaves_trans c.args.self.now c.take_notes.new.self c.place_one.new.self (leaves_handed _ _ _ _ _ _ _ _ c.take_notes.ensures.hands) (c.place_one.ensures.none_asked c.args.listeners.now.items).leaves

pub returns-then-not-idle-clause-leaves : goal.returns-then-not-idle-clause-leaves
returns-then-not-idle-clause-leaves g c = leaves_trans c.args.self.now c.take_notes.new.self c.place_one.new.self (leaves_handed _ _ _ _ _ _ _ _ c.take_notes.ensures.hands) (c.place_one.ensures.none_asked c.args.listeners.now.items).leaves

pub returns-then-not-may_accept-clause-leaves : goal.returns-then-not-may_accept-clause-leaves
returns-then-not-may_accept-clause-leaves g c = leaves_trans c.args.self.now c.take_notes.new.self c.place_one.new.self (leaves_handed _ _ _ _ _ _ _ _ c.take_notes.ensures.hands) (c.place_one.ensures.none_asked c.args.listeners.now.items).leaves

pub returns-clause-leaves : goal.returns-clause-leaves
returns-clause-leaves g c = leaves_trans c.args.self.now c.place_one.new.self c.ask_all.new.self (leaves_trans c.args.self.now c.take_notes.new.self c.place_one.new.self (leaves_handed _ _ _ _ _ _ _ _ c.take_notes.ensures.hands) (c.place_one.ensures.none_asked c.args.listeners.now.items).leaves) c.ask_all.ensures.leaves

pub returns-in-Some-clause-given : goal.returns-in-Some-clause-given
returns-in-Some-clause-given g c t = subst (λ xs. slice_index_or xs t 0 ≤ given_at g.Li.Listener.given c.args.listeners.now.items t) (sym (ap (λ v. v.items) c.take_notes.ensures.hands.places)) (c.requires.given t)

pub returns-in-Some-clause-spare : goal.returns-in-Some-clause-spare
returns-in-Some-clause-spare g c = c.take_notes.ensures.spare

pub returns-in-Some-clause-first : goal.returns-in-Some-clause-first
returns-in-Some-clause-first g c = c.take_notes.ensures.hands.first

pub returns-in-Some-clause-in_turn : goal.returns-in-Some-clause-in_turn
returns-in-Some-clause-in_turn g c = in_turn_none _ _ _ c.args.listeners.now.items _ _ _

pub returns-in-Some-clause-unasked : goal.returns-in-Some-clause-unasked
returns-in-Some-clause-unasked g c = λ _. refl

pub returns-in-Some-clause-short : goal.returns-in-Some-clause-short
returns-in-Some-clause-short g c = λ _. refl

pub returns-in-Some-clause-on : goal.returns-in-Some-clause-on
returns-in-Some-clause-on g c = λ is. absurd (ended_not_on c.in-Some.w is)

pub returns-in-Some-clause-settled : goal.returns-in-Some-clause-settled
returns-in-Some-clause-settled g c = λ is. absurd (ended_not_settled c.in-Some.w is)

pub returns-in-Some-clause-halted : goal.returns-in-Some-clause-halted
returns-in-Some-clause-halted g c = λ is. absurd (ended_not_halted c.in-Some.w is)

pub returns-in-Some-clause-ended : goal.returns-in-Some-clause-ended
returns-in-Some-clause-ended g c w is = subst (λ v. (v < workers_of c.take_notes.new.self) × EndsByFault c.args.self.now c.take_notes.new.self v) (worker_same c.in-Some.w w is) c.in-Some.ensures.faulted

pub returns-in_default-place_one-clause-given : goal.returns-in_default-place_one-clause-given
returns-in_default-place_one-clause-given g c t = subst (λ xs. slice_index_or xs t 0 ≤ given_at g.Li.Listener.given c.args.listeners.now.items t) (sym (c.place_one.ensures.places ∙ ap (λ v. v.items) c.take_notes.ensures.hands.places)) (c.requires.given t)

pub returns-in_default-place_one-clause-spare : goal.returns-in_default-place_one-clause-spare
returns-in_default-place_one-clause-spare g c = c.place_one.ensures.spare

pub returns-in_default-place_one-clause-unasked : goal.returns-in_default-place_one-clause-unasked
returns-in_default-place_one-clause-unasked g c = λ _. refl

pub returns-in_default-place_one-clause-short : goal.returns-in_default-place_one-clause-short
returns-in_default-place_one-clause-short g c = λ _. refl

pub returns-in_default-place_one-clause-on : goal.returns-in_default-place_one-clause-on
returns-in_default-place_one-clause-on g c = λ is. absurd (c.in_default-place_one.not-On is)

pub returns-in_default-place_one-clause-settled : goal.returns-in_default-place_one-clause-settled
returns-in_default-place_one-clause-settled g c = λ is. absurd (c.place_one.ensures.settled is)

pub returns-in_default-place_one-clause-halted : goal.returns-in_default-place_one-clause-halted
returns-in_default-place_one-clause-halted g c = c.place_one.ensures.halted

pub returns-then-not-idle-clause-given : goal.returns-then-not-idle-clause-given
returns-then-not-idle-clause-given g c t = subst (λ xs. slice_index_or xs t 0 ≤ given_at g.Li.Listener.given c.args.listeners.now.items t) (sym (c.place_one.ensures.places ∙ ap (λ v. v.items) c.take_notes.ensures.hands.places)) (c.requires.given t)

pub returns-then-not-idle-clause-spare : goal.returns-then-not-idle-clause-spare
returns-then-not-idle-clause-spare g c = c.place_one.ensures.spare

pub returns-then-not-idle-clause-in_turn : goal.returns-then-not-idle-clause-in_turn
returns-then-not-idle-clause-in_turn g c = in_turn_none _ _ _ c.args.listeners.now.items _ _ _

pub returns-then-not-idle-clause-unasked : goal.returns-then-not-idle-clause-unasked
returns-then-not-idle-clause-unasked g c = λ _. refl

pub returns-then-not-idle-clause-short : goal.returns-then-not-idle-clause-short
returns-then-not-idle-clause-short g c = λ _. refl

pub returns-then-not-idle-clause-on : goal.returns-then-not-idle-clause-on
returns-then-not-idle-clause-on g c = λ is. absurd (settled_not_on is)

pub returns-then-not-idle-clause-halted : goal.returns-then-not-idle-clause-halted
returns-then-not-idle-clause-halted g c = λ is. absurd (settled_not_halted is)

pub returns-then-not-idle-clause-ended : goal.returns-then-not-idle-clause-ended
returns-then-not-idle-clause-ended g c w = λ is. absurd (settled_not_ended w is)

pub returns-then-not-may_accept-clause-given : goal.returns-then-not-may_accept-clause-given
returns-then-not-may_accept-clause-given g c t = subst (λ xs. slice_index_or xs t 0 ≤ given_at g.Li.Listener.given c.args.listeners.now.items t) (sym (c.place_one.ensures.places ∙ ap (λ v. v.items) c.take_notes.ensures.hands.places)) (c.requires.given t)

pub returns-then-not-may_accept-clause-spare : goal.returns-then-not-may_accept-clause-spare
returns-then-not-may_accept-clause-spare g c = c.place_one.ensures.spare

pub returns-then-not-may_accept-clause-in_turn : goal.returns-then-not-may_accept-clause-in_turn
returns-then-not-may_accept-clause-in_turn g c = in_turn_none _ _ _ c.args.listeners.now.items _ _ _

pub returns-then-not-may_accept-clause-unasked : goal.returns-then-not-may_accept-clause-unasked
returns-then-not-may_accept-clause-unasked g c = λ _. refl

pub returns-then-not-may_accept-clause-short : goal.returns-then-not-may_accept-clause-short
returns-then-not-may_accept-clause-short g c = λ _. refl

pub returns-then-not-may_accept-clause-on : goal.returns-then-not-may_accept-clause-on
returns-then-not-may_accept-clause-on g c = λ is. absurd (settled_not_on is)

pub returns-then-not-may_accept-clause-halted : goal.returns-then-not-may_accept-clause-halted
returns-then-not-may_accept-clause-halted g c = λ is. absurd (settled_not_halted is)

pub returns-then-not-may_accept-clause-ended : goal.returns-then-not-may_accept-clause-ended
returns-then-not-may_accept-clause-ended g c w = λ is. absurd (settled_not_ended w is)

pub returns-then-not-idle-clause-settled : goal.returns-then-not-idle-clause-settled
returns-then-not-idle-clause-settled g c = λ _. (c.in-On.ensures.on refl, λ ready room accepts idle. absurd (true≢false (sym idle ∙ c.if-not-idle.true)))

pub returns-then-not-may_accept-clause-settled : goal.returns-then-not-may_accept-clause-settled
returns-then-not-may_accept-clause-settled g c = λ _. (c.in-On.ensures.on refl, λ ready room accepts idle. absurd (c.may_accept.ensures.no c.if-not-may_accept.true ready room accepts))

pub returns-clause-given : goal.returns-clause-given
returns-clause-given g c = c.ask_all.ensures.given

pub returns-clause-spare : goal.returns-clause-spare
returns-clause-spare g c = c.ask_all.ensures.spare

pub returns-clause-on : goal.returns-clause-on
returns-clause-on g c = c.ask_all.ensures.on

pub returns-clause-halted : goal.returns-clause-halted
returns-clause-halted g c = c.ask_all.ensures.halted

pub returns-clause-unasked : goal.returns-clause-unasked
returns-clause-unasked g c = λ not_so. absurd (true≢false (sym c.if-not-idle.false ∙ not_so))
