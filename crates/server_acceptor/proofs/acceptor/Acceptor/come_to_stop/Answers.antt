use Rattle.std.proofs.Common.{◌≡◌, inl, inr, sym, ◌∙◌, subst, arith, rules}
use Rattle.server_run.specs.declared.report.End.TheVariants.{Stopped}
use Rattle.server_acceptor.specs.Accepting.{Finishes}
use Rattle.server_acceptor.proofs.WordSteps.{awaits_workers, due_same, finishes_stopped, forced_or_due, forces_all, lacks_awaits}
use Rattle.server_acceptor.proofs.acceptor.Acceptor.come_to_stop.Goals as goal

pub returns-then-not-send_words-clause-due : goal.returns-then-not-send_words-clause-due
returns-then-not-send_words-clause-due g c = forces_all c.send_words.new.self c.args.now c.is_due-force.result (λ no due. c.is_due-force.ensures.no no (due_same c.send_words.new.self c.args.self.now c.args.now (sym c.send_words.ensures.only.stop) (sym c.send_words.ensures.only.shutdown_timeout) due)) c.send_words.ensures.each

pub returns-then-not-send_words-clause-forces : goal.returns-then-not-send_words-clause-forces
returns-then-not-send_words-clause-forces g c v is = forced_or_due _ _ c.is_due-force.result (λ f. due_same c.args.self.now c.send_words.new.self c.args.now c.send_words.ensures.only.stop c.send_words.ensures.only.shutdown_timeout (c.is_due-force.ensures.yes f)) (c.send_words.ensures.forces v is)

pub returns-then-self-eq0-clause-due : goal.returns-then-self-eq0-clause-due
returns-then-self-eq0-clause-due g c = forces_all c.send_words.new.self c.args.now c.is_due-force.result (λ no due. c.is_due-force.ensures.no no (due_same c.send_words.new.self c.args.self.now c.args.now (sym c.send_words.ensures.only.stop) (sym c.send_words.ensures.only.shutdown_timeout) due)) c.send_words.ensures.each

pub returns-then-self-eq0-clause-forces : goal.returns-then-self-eq0-clause-forces
returns-then-self-eq0-clause-forces g c v is = forced_or_due _ _ c.is_due-force.result (λ f. due_same c.args.self.now c.send_words.new.self c.args.now c.send_words.ensures.only.stop c.send_words.ensures.only.shutdown_timeout (c.is_due-force.ensures.yes f)) (c.send_words.ensures.forces v is)

pub returns-then-all_forced-clause-due : goal.returns-then-all_forced-clause-due
returns-then-all_forced-clause-due g c = forces_all c.send_words.new.self c.args.now c.is_due-force.result (λ no due. c.is_due-force.ensures.no no (due_same c.send_words.new.self c.args.self.now c.args.now (sym c.send_words.ensures.only.stop) (sym c.send_words.ensures.only.shutdown_timeout) due)) c.send_words.ensures.each

pub returns-then-all_forced-clause-forces : goal.returns-then-all_forced-clause-forces
returns-then-all_forced-clause-forces g c v is = forced_or_due _ _ c.is_due-force.result (λ f. due_same c.args.self.now c.send_words.new.self c.args.now c.send_words.ensures.only.stop c.send_words.ensures.only.shutdown_timeout (c.is_due-force.ensures.yes f)) (c.send_words.ensures.forces v is)

pub returns-clause-due : goal.returns-clause-due
returns-clause-due g c = forces_all c.send_words.new.self c.args.now c.is_due-force.result (λ no due. c.is_due-force.ensures.no no (due_same c.send_words.new.self c.args.self.now c.args.now (sym c.send_words.ensures.only.stop) (sym c.send_words.ensures.only.shutdown_timeout) due)) c.send_words.ensures.each

pub returns-clause-forces : goal.returns-clause-forces
returns-clause-forces g c v is = forced_or_due _ _ c.is_due-force.result (λ f. due_same c.args.self.now c.send_words.new.self c.args.now c.send_words.ensures.only.stop c.send_words.ensures.only.shutdown_timeout (c.is_due-force.ensures.yes f)) (c.send_words.ensures.forces v is)

pub returns-then-not-send_words-clause-going : goal.returns-then-not-send_words-clause-going
returns-then-not-send_words-clause-going g c = λ _. lacks_awaits c.send_words.new.self c.args.now c.is_due-force.result (λ f. due_same c.args.self.now c.send_words.new.self c.args.now c.send_words.ensures.only.stop c.send_words.ensures.only.shutdown_timeout (c.is_due-force.ensures.yes f)) (c.send_words.ensures.lacks (search rules))

pub returns-then-self-eq0-clause-finished : goal.returns-then-self-eq0-clause-finished
returns-then-self-eq0-clause-finished g c e is =
    let same : Stopped c.args.stop.graceful ≡ e = cc in
    subst (Finishes c.send_words.new.self) same (finishes_stopped c.send_words.new.self c.args.stop (c.send_words.ensures.only.stop ∙ c.requires.kept) (c.send_words.ensures.stopped (search rules)) (inl (search rules)))

pub returns-then-all_forced-clause-finished : goal.returns-then-all_forced-clause-finished
returns-then-all_forced-clause-finished g c e is =
    let same : Stopped c.args.stop.graceful ≡ e = cc in
    subst (Finishes c.send_words.new.self) same (finishes_stopped c.send_words.new.self c.args.stop (c.send_words.ensures.only.stop ∙ c.requires.kept) (c.send_words.ensures.stopped (search rules)) (inr (search rules)))

pub returns-clause-going : goal.returns-clause-going
returns-clause-going g c = λ _. inr (inr (awaits_workers c.send_words.new.self (c.send_words.ensures.stopped (search rules)) (omega (arith, c.if-self-eq0.false)) (search rules)))
