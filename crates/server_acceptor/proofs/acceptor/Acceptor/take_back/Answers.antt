use Rattle.std.proofs.Common.{◌<◌, [], ◌∷◌, length, refl, sym, ◌∙◌, ap, arith}
use Rattle.std.specs.Prelude.{is_some}
use Rattle.rtrb.specs.Ring.{IsPair}
use Rattle.server_core.specs.Core.{Core}
use Rattle.server_core.specs.declared.event.Event.TheVariants.{Back as BackOf}
use Rattle.server_jobs.specs.declared.note.Note.TheVariants.{Back}
use Rattle.server_run.specs.Outcome.{is_stopped}
use Rattle.server_acceptor.proofs.BesideSteps.{if_there, received_all, received_there}
use Rattle.server_acceptor.proofs.Handed.{handed_back}
use Rattle.server_acceptor.proofs.HandSteps.{given_some, lowered_back}
use Rattle.server_acceptor.proofs.HandsDoes.{hands_acts}
use Rattle.server_acceptor.proofs.acceptor.Acceptor.take_back.Goals as goal

pub returns-clause-acts : goal.returns-clause-acts
returns-clause-acts g c ls =
    let a = c.args.self.now in
    let inside : c.args.w < length a.notes.items = omega (arith, c.requires.number, a.workers.1) in
    let pass = c.pass_back-entry.ensures in
    let is = c.step.ensures.value in
    let e = lowered_back a.core c.step.new.self c.args.w [] (BackOf c.args.w ∷ []) c.requires.number c.requires.out is refl in
    let h = handed_back g.L.Link.identity g.Do.Done.taken g.Do.Done.count g.Do.Done.served a _ c.args.w c.index_mut.result.now c.pass_back-entry.new.consumer refl inside c.index_mut.ensures.value pass.consumer
    (record { parcels = refl; waiting = refl; ready = refl; stopped = refl; forced = refl; stop = refl; serial = refl; places = refl; failed = refl; first = refl; limit = refl; retry_limit = refl; shutdown_timeout = refl; lacks_room = refl })
    (Back c.args.entry) c.pass_back-entry.result pass.received (ap Back (sym pass.same)) c.args.done.now c.take.new.self c.take.ensures.entry
    (λ stopped. ap (λ (k : Core). is_some k.stopping) is ∙ c.requires.founded (ap (λ x. is_stopped x.outcome) (sym pass.same) ∙ stopped)) c.requires.number c.requires.out (ap (λ (k : Core). k.out) is)
    (record { ended = ap (λ (k : Core). k.ended) is; failures = ap (λ (k : Core). k.failures) is; waiting = ap (λ (k : Core). k.waiting) is; order = ap (λ (k : Core). k.order) is; paused = ap (λ (k : Core). k.paused) is; stopping = ap (λ (k : Core). k.stopping) is })
    (given_some a.core c.step.new.self c.args.w _ is c.step.ensures.kept a.counted) e.0 e.1.0 e.1.1 in
    (h.logs.more, hands_acts g.Li.Listener.given g.Li.Listener.left g.Li.Listener.rest g.L.Link.identity g.Li.Listener.ended g.Li.Listener.faults g.Do.Done.taken g.Do.Done.count g.Do.Done.served ls a _ c.args.done.now c.take.new.self (g.met.Do.Done.small c.args.done.now) h)

pub returns-clause-received : goal.returns-clause-received
returns-clause-received g c =
    let inside : c.args.w < length c.args.self.now.notes.items = omega (arith, c.requires.number, c.args.self.now.workers.1) in
    received_all c.args.self.now.notes.items c.args.w c.index_mut.result.now c.pass_back-entry.new.consumer c.index_mut.ensures.value (Back c.args.entry) _ _ inside c.pass_back-entry.ensures.received c.requires.all c.pass_back-entry.ensures.sent

pub returns-clause-all : goal.returns-clause-all
returns-clause-all g c =
    let inside : c.args.w < length c.args.self.now.notes.items = omega (arith, c.requires.number, c.args.self.now.workers.1) in
    received_there c.args.self.now.notes.items c.args.w c.index_mut.result.now c.pass_back-entry.new.consumer c.index_mut.ensures.value (Back c.args.entry) _ _ inside c.pass_back-entry.ensures.received c.requires.all c.pass_back-entry.ensures.sent

pub returns-clause-from_it : goal.returns-clause-from_it
returns-clause-from_it g c =
    let inside : c.args.w < length c.args.self.now.notes.items = omega (arith, c.requires.number, c.args.self.now.workers.1) in
    if_there (λ r. IsPair c.pass_back-entry.new.notes r) c.args.self.now.notes.items c.args.w c.pass_back-entry.new.consumer inside c.pass_back-entry.ensures.pair
