use Rattle.std.proofs.Common.{◌≡◌, ◌≤◌, ◌⊎◌, ◌+◌, ℕ, List, inl, inr, sym, ◌∙◌, ap, arith, subst}
use Rattle.std.specs.Prelude.{count_by, is_some, slice_index_or}
use Rattle.server_run.specs.Delivery.{given_at}
use Rattle.server_acceptor.specs.Accepting.{HasSettled, MayAsk, is_failed}
use Rattle.server_acceptor.specs.Acceptors.{out_of}
use Rattle.server_acceptor.specs.Asking.{ComesTo}
use Rattle.server_acceptor.specs.declared.acceptor.Acceptor.{Acceptor}
use Rattle.server_acceptor.specs.declared.asked.Asked.{Asked}
use Rattle.server_acceptor.specs.declared.asked.Asked.TheVariants.{Ended, Failed, NotYet}
use Rattle.server_acceptor.specs.Listening.{NeverFall}
use Rattle.server_acceptor.proofs.DoesSteps.{fault_after}
use Rattle.server_acceptor.proofs.OnceSteps.{failures_then, once_asked, once_asks, once_placed, once_proceeds, open_then}
use Rattle.server_acceptor.proofs.RoomSteps.{room_asks_none, room_proceeds}
use Rattle.server_acceptor.proofs.StepKinds.{halted_not_ended, halted_not_on, halted_not_settled, on_not_ended, on_not_halted, on_not_settled, settled_not_ended, settled_not_halted, settled_not_on}
use Rattle.server_acceptor.proofs.acceptor.Acceptor.ask_once.Goals as goal

comes_settled : {Li L : Type 0} (given waits skips : Li → ℕ) (l m : List Li) (a b : Acceptor L) (t now : ℕ) (r : Asked) → (r ≡ NotYet) ⊎ ((r ≡ Failed) ⊎ (r ≡ Ended)) → ComesTo given waits skips l m a b t now r
    → HasSettled waits l m b now t × (out_of b ≡ out_of a) × MayAsk b
comes_settled given waits skips l m a b t now r (inl is) comes = subst (λ x. ComesTo given waits skips l m a b t now x) is comes
comes_settled given waits skips l m a b t now r (inr (inl is)) comes = subst (λ x. ComesTo given waits skips l m a b t now x) is comes
comes_settled given waits skips l m a b t now r (inr (inr is)) comes = subst (λ x. ComesTo given waits skips l m a b t now x) is comes

never_none : {Li : Type 0} (waits skips : Li → ℕ) (l : List Li) (t : ℕ) → NeverFall waits skips l l t
never_none waits skips l t = record { waited = omega arith; skipped = omega arith }

pub returns-then-not-has_room-clause-proceeds : goal.returns-then-not-has_room-clause-proceeds
returns-then-not-has_room-clause-proceeds g c = room_proceeds g.Li.Listener.given g.Li.Listener.left g.Li.Listener.rest g.L.Link.identity g.Li.Listener.ended g.Li.Listener.faults g.Do.Done.taken g.Do.Done.count g.Do.Done.served _ c.args.self.now c.has_room.new.self c.args.done.now c.has_room.new.done
    (g.met.Do.Done.small c.args.done.now) c.has_room.ensures.makes c.has_room.ensures.keeps

pub place_one-requires-clause-told : goal.place_one-requires-clause-told
place_one-requires-clause-told g c = (c.ask_listener.ensures.does c.has_room.new.done).told

pub place_one-requires-clause-unrefused : goal.place_one-requires-clause-unrefused
place_one-requires-clause-unrefused g c = (c.ask_listener.ensures.does c.has_room.new.done).same_refused ∙ c.has_room.ensures.may.unrefused

pub returns-in-Got-clause-proceeds : goal.returns-in-Got-clause-proceeds
returns-in-Got-clause-proceeds g c = once_placed g.Li.Listener.given g.Li.Listener.left g.Li.Listener.rest g.L.Link.identity g.Li.Listener.ended g.Li.Listener.faults g.Do.Done.taken g.Do.Done.count g.Do.Done.served
    c.args.listeners.now.items c.ask_listener.new.listeners.items c.args.self.now c.has_room.new.self c.ask_listener.new.self c.args.done.now c.has_room.new.done c.args.t (g.met.Do.Done.small c.args.done.now) c.has_room.ensures.makes c.has_room.ensures.keeps (c.ask_listener.ensures.does c.has_room.new.done)
    c.place_one.new.self c.place_one.new.done (c.place_one.ensures.proceeds c.ask_listener.new.listeners.items) (c.place_one.ensures.none_asked c.ask_listener.new.listeners.items)

pub returns-in-Got-clause-asks : goal.returns-in-Got-clause-asks
returns-in-Got-clause-asks g c = once_asked g.Li.Listener.given g.Li.Listener.left g.Li.Listener.rest g.L.Link.identity g.Li.Listener.ended g.Li.Listener.faults g.Do.Done.taken g.Do.Done.count g.Do.Done.served
    c.args.listeners.now.items c.ask_listener.new.listeners.items c.args.self.now c.has_room.new.self c.ask_listener.new.self c.args.done.now c.has_room.new.done c.args.t (g.met.Do.Done.small c.args.done.now) c.has_room.ensures.makes c.has_room.ensures.keeps (c.ask_listener.ensures.does c.has_room.new.done)
    c.place_one.new.self c.place_one.new.done (c.place_one.ensures.proceeds c.ask_listener.new.listeners.items) (c.place_one.ensures.none_asked c.ask_listener.new.listeners.items)

pub returns-in-Got-clause-on : goal.returns-in-Got-clause-on
returns-in-Got-clause-on g c is =
    let listeners = c.ask_listener.new.listeners.items in
    let none = c.place_one.ensures.none_asked listeners in (
      c.place_one.ensures.on is,
      open_then listeners listeners c.ask_listener.new.self c.place_one.new.self c.args.t none (c.place_one.ensures.proceeds listeners).does.acts.listeners c.in-Got.ensures.comes.0.opened,
      failures_then listeners listeners c.ask_listener.new.self c.place_one.new.self c.args.t none ∙ c.in-Got.ensures.comes.0.failures ∙ ap (λ v. count_by (is_failed c.args.t) v.items) c.has_room.ensures.makes.events,
      inl c.in-Got.ensures.comes.1,
    )

pub returns-in-Got-clause-ended : goal.returns-in-Got-clause-ended
returns-in-Got-clause-ended g c w is =
    let ends = c.place_one.ensures.ended w is in (
      ends.0,
      fault_after g.Li.Listener.given g.Li.Listener.left g.Li.Listener.rest g.L.Link.identity g.Li.Listener.ended g.Li.Listener.faults g.Do.Done.taken g.Do.Done.count g.Do.Done.served
          c.args.listeners.now.items c.ask_listener.new.listeners.items c.ask_listener.new.listeners.items c.args.self.now c.ask_listener.new.self c.place_one.new.self
          c.args.done.now c.has_room.new.done c.place_one.new.done w
          (once_proceeds g.Li.Listener.given g.Li.Listener.left g.Li.Listener.rest g.L.Link.identity g.Li.Listener.ended g.Li.Listener.faults g.Do.Done.taken g.Do.Done.count g.Do.Done.served
          c.args.listeners.now.items c.ask_listener.new.listeners.items c.args.self.now c.has_room.new.self c.ask_listener.new.self c.args.done.now c.has_room.new.done c.args.t (g.met.Do.Done.small c.args.done.now) c.has_room.ensures.makes c.has_room.ensures.keeps (c.ask_listener.ensures.does c.has_room.new.done)) ends.1,
    )

pub returns-in-Skipped-clause-proceeds : goal.returns-in-Skipped-clause-proceeds
returns-in-Skipped-clause-proceeds g c = once_proceeds g.Li.Listener.given g.Li.Listener.left g.Li.Listener.rest g.L.Link.identity g.Li.Listener.ended g.Li.Listener.faults g.Do.Done.taken g.Do.Done.count g.Do.Done.served
    c.args.listeners.now.items c.ask_listener.new.listeners.items c.args.self.now c.has_room.new.self c.ask_listener.new.self c.args.done.now c.has_room.new.done c.args.t (g.met.Do.Done.small c.args.done.now) c.has_room.ensures.makes c.has_room.ensures.keeps (c.ask_listener.ensures.does c.has_room.new.done)

pub returns-in-Skipped-clause-asks : goal.returns-in-Skipped-clause-asks
returns-in-Skipped-clause-asks g c = once_asks g.Li.Listener.given g.Li.Listener.left g.Li.Listener.rest g.L.Link.identity g.Li.Listener.ended g.Li.Listener.faults g.Do.Done.taken g.Do.Done.count g.Do.Done.served
    c.args.listeners.now.items c.ask_listener.new.listeners.items c.args.self.now c.has_room.new.self c.ask_listener.new.self c.args.done.now c.has_room.new.done c.args.t (g.met.Do.Done.small c.args.done.now) c.has_room.ensures.makes c.has_room.ensures.keeps (c.ask_listener.ensures.does c.has_room.new.done)

pub returns-in-NotYet-clause-proceeds : goal.returns-in-NotYet-clause-proceeds
returns-in-NotYet-clause-proceeds g c = once_proceeds g.Li.Listener.given g.Li.Listener.left g.Li.Listener.rest g.L.Link.identity g.Li.Listener.ended g.Li.Listener.faults g.Do.Done.taken g.Do.Done.count g.Do.Done.served
    c.args.listeners.now.items c.ask_listener.new.listeners.items c.args.self.now c.has_room.new.self c.ask_listener.new.self c.args.done.now c.has_room.new.done c.args.t (g.met.Do.Done.small c.args.done.now) c.has_room.ensures.makes c.has_room.ensures.keeps (c.ask_listener.ensures.does c.has_room.new.done)

pub returns-in-NotYet-clause-asks : goal.returns-in-NotYet-clause-asks
returns-in-NotYet-clause-asks g c = once_asks g.Li.Listener.given g.Li.Listener.left g.Li.Listener.rest g.L.Link.identity g.Li.Listener.ended g.Li.Listener.faults g.Do.Done.taken g.Do.Done.count g.Do.Done.served
    c.args.listeners.now.items c.ask_listener.new.listeners.items c.args.self.now c.has_room.new.self c.ask_listener.new.self c.args.done.now c.has_room.new.done c.args.t (g.met.Do.Done.small c.args.done.now) c.has_room.ensures.makes c.has_room.ensures.keeps (c.ask_listener.ensures.does c.has_room.new.done)

pub returns-then-not-has_room-clause-given : goal.returns-then-not-has_room-clause-given
returns-then-not-has_room-clause-given g c v = subst (λ xs. slice_index_or xs v 0 ≤ given_at g.Li.Listener.given c.args.listeners.now.items v) (sym (ap (λ xs. xs.items) c.has_room.ensures.makes.places)) (c.requires.given v)

pub returns-then-not-has_room-clause-spare : goal.returns-then-not-has_room-clause-spare
returns-then-not-has_room-clause-spare g c = c.has_room.ensures.spare

pub returns-then-not-has_room-clause-asks : goal.returns-then-not-has_room-clause-asks
returns-then-not-has_room-clause-asks g c = room_asks_none c.args.listeners.now.items c.args.self.now c.has_room.new.self c.args.t (c.args.t + 1) c.has_room.ensures.makes

pub returns-then-not-has_room-clause-counts : goal.returns-then-not-has_room-clause-counts
returns-then-not-has_room-clause-counts g c = never_none g.Li.Listener.waits g.Li.Listener.skips c.args.listeners.now.items c.args.t

pub returns-then-not-has_room-clause-refusals : goal.returns-then-not-has_room-clause-refusals
returns-then-not-has_room-clause-refusals g c = ap is_some c.has_room.ensures.may.unrefused

pub returns-then-not-has_room-clause-on : goal.returns-then-not-has_room-clause-on
returns-then-not-has_room-clause-on g c = λ is. absurd (halted_not_on is)

pub returns-then-not-has_room-clause-settled : goal.returns-then-not-has_room-clause-settled
returns-then-not-has_room-clause-settled g c = λ is. absurd (halted_not_settled is)

pub returns-then-not-has_room-clause-halted : goal.returns-then-not-has_room-clause-halted
returns-then-not-has_room-clause-halted g c = λ _. c.has_room.ensures.halted c.if-not-has_room.true

pub returns-then-not-has_room-clause-ended : goal.returns-then-not-has_room-clause-ended
returns-then-not-has_room-clause-ended g c w = λ is. absurd (halted_not_ended w is)

pub returns-in-Got-clause-given : goal.returns-in-Got-clause-given
returns-in-Got-clause-given g c v = subst (λ xs. slice_index_or xs v 0 ≤ given_at g.Li.Listener.given c.ask_listener.new.listeners.items v) (sym c.place_one.ensures.places) (c.ask_listener.ensures.given v)

pub returns-in-Got-clause-spare : goal.returns-in-Got-clause-spare
returns-in-Got-clause-spare g c = c.place_one.ensures.spare

pub returns-in-Got-clause-counts : goal.returns-in-Got-clause-counts
returns-in-Got-clause-counts g c = c.ask_listener.ensures.counts

pub returns-in-Got-clause-refusals : goal.returns-in-Got-clause-refusals
returns-in-Got-clause-refusals g c = c.place_one.ensures.refusals

pub returns-in-Got-clause-settled : goal.returns-in-Got-clause-settled
returns-in-Got-clause-settled g c = λ is. absurd (c.place_one.ensures.settled is)

pub returns-in-Got-clause-halted : goal.returns-in-Got-clause-halted
returns-in-Got-clause-halted g c = c.place_one.ensures.halted

pub returns-in-Skipped-clause-given : goal.returns-in-Skipped-clause-given
returns-in-Skipped-clause-given g c = c.ask_listener.ensures.given

pub returns-in-Skipped-clause-spare : goal.returns-in-Skipped-clause-spare
returns-in-Skipped-clause-spare g c = subst (λ n. n ≤ g.Do.Done.spare c.has_room.new.done) (sym c.in-Skipped.ensures.comes.2) c.has_room.ensures.spare

pub returns-in-Skipped-clause-counts : goal.returns-in-Skipped-clause-counts
returns-in-Skipped-clause-counts g c = c.ask_listener.ensures.counts

pub returns-in-Skipped-clause-refusals : goal.returns-in-Skipped-clause-refusals
returns-in-Skipped-clause-refusals g c = ap is_some c.in-Skipped.ensures.comes.3.unrefused

pub returns-in-Skipped-clause-on : goal.returns-in-Skipped-clause-on
returns-in-Skipped-clause-on g c = λ _.
    let comes = c.in-Skipped.ensures.comes in
    (comes.3, comes.0.opened, comes.0.failures ∙ ap (λ v. count_by (is_failed c.args.t) v.items) c.has_room.ensures.makes.events, comes.1)

pub returns-in-Skipped-clause-settled : goal.returns-in-Skipped-clause-settled
returns-in-Skipped-clause-settled g c = λ is. absurd (on_not_settled is)

pub returns-in-Skipped-clause-halted : goal.returns-in-Skipped-clause-halted
returns-in-Skipped-clause-halted g c = λ is. absurd (on_not_halted is)

pub returns-in-Skipped-clause-ended : goal.returns-in-Skipped-clause-ended
returns-in-Skipped-clause-ended g c w = λ is. absurd (on_not_ended w is)

pub returns-in-NotYet-clause-given : goal.returns-in-NotYet-clause-given
returns-in-NotYet-clause-given g c = c.ask_listener.ensures.given

pub returns-in-NotYet-clause-spare : goal.returns-in-NotYet-clause-spare
returns-in-NotYet-clause-spare g c =
    let comes = comes_settled g.Li.Listener.given g.Li.Listener.waits g.Li.Listener.skips c.args.listeners.now.items c.ask_listener.new.listeners.items c.has_room.new.self c.ask_listener.new.self c.args.t c.args.now c.ask_listener.result c.in-NotYet.is c.ask_listener.ensures.comes in
    subst (λ n. n ≤ g.Do.Done.spare c.has_room.new.done) (sym comes.1) c.has_room.ensures.spare

pub returns-in-NotYet-clause-counts : goal.returns-in-NotYet-clause-counts
returns-in-NotYet-clause-counts g c = c.ask_listener.ensures.counts

pub returns-in-NotYet-clause-refusals : goal.returns-in-NotYet-clause-refusals
returns-in-NotYet-clause-refusals g c =
    let comes = comes_settled g.Li.Listener.given g.Li.Listener.waits g.Li.Listener.skips c.args.listeners.now.items c.ask_listener.new.listeners.items c.has_room.new.self c.ask_listener.new.self c.args.t c.args.now c.ask_listener.result c.in-NotYet.is c.ask_listener.ensures.comes in
    ap is_some comes.2.unrefused

pub returns-in-NotYet-clause-on : goal.returns-in-NotYet-clause-on
returns-in-NotYet-clause-on g c = λ is. absurd (settled_not_on is)

pub returns-in-NotYet-clause-settled : goal.returns-in-NotYet-clause-settled
returns-in-NotYet-clause-settled g c = λ _.
    let comes = comes_settled g.Li.Listener.given g.Li.Listener.waits g.Li.Listener.skips c.args.listeners.now.items c.ask_listener.new.listeners.items c.has_room.new.self c.ask_listener.new.self c.args.t c.args.now c.ask_listener.result c.in-NotYet.is c.ask_listener.ensures.comes in
    (comes.2, comes.0)

pub returns-in-NotYet-clause-halted : goal.returns-in-NotYet-clause-halted
returns-in-NotYet-clause-halted g c = λ is. absurd (settled_not_halted is)

pub returns-in-NotYet-clause-ended : goal.returns-in-NotYet-clause-ended
returns-in-NotYet-clause-ended g c w = λ is. absurd (settled_not_ended w is)
