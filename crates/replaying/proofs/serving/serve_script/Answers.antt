use Rattle.std.proofs.Common.{◌≡◌, ◌≤◌, ◌==◌, ℕ, zero, suc, not, true, ◌++◌, Err, Some, length, refl, subst, sym, ◌∙◌, ap, arith}
use Rattle.std.specs.Arc.{arc_value}
use Rattle.cors_rules.specs.Refusing.{config_error}
use Rattle.script.specs.Plan.{plan}
use Rattle.cors_rules.specs.Policy.{Builder}
use Rattle.script.specs.declared.policy.script_rule.ScriptRule.{ScriptRule}
use Rattle.script_service.specs.Factories.{RefusesSite, replay_site}
use Rattle.script_service.specs.declared.replay_factory.ReplayFactory.{ReplayFactory}
use Rattle.script_service.proofs.Crossing.{replay_sends}
use Rattle.server.proofs.HearSteps.{told_nothing}
use Rattle.server.specs.Starting.{RoseBy}
use Rattle.server.specs.declared.settings.Settings.{Settings}
use Rattle.server_run.proofs.memory_link.MemoryLink.TheSendSync as memory_link_facts
use Rattle.server_run.specs.contracts.memory_link.MemoryLink as memory_link
use denote.Exit.{no}
use denote.Param.Send.{arg_send, param_send}
use Rattle.server_run.specs.contracts.memory_link.MemoryLinkLink.TheImpl.{ghosts}
use Rattle.replaying.specs.Replaying.{settings_by}
use Rattle.replaying.proofs.Replays.{rose_by, runs_by}
use Rattle.replaying.proofs.serving.serve_script.Goals as goal

some_of : (n : ℕ) → not (n == 0) ≡ true → 1 ≤ n
some_of zero listening = cc
some_of (suc n) listening = omega arith

-- no service errs, and so no worker may end by a fault
pub returns-in-Ok : goal.returns-in-Ok
returns-in-Ok g c =
    let run = c.in-Ok.ensures.serves.serves in
    let unstopped = told_nothing _ _ _ _ _ _ c.in-Ok.ensures.commanded refl refl in
    let cors_is = ap (λ (f : ReplayFactory). arc_value f.cors) c.run-server.ensures.factory ∙ c.in_ok-factory.ensures.cors in
    let site_is = ap replay_site c.run-server.ensures.factory ∙ c.in_ok-factory.ensures.site in
    let set : c.run-server.result.settings ≡ settings_by (plan c.args.script) = c.run-server.ensures.settings ∙ c.in_ok-server_of.ensures in
    let retries : c.run-server.result.settings.retry_limit ≡ c.args.script.settings.retry_limit = ap (λ (s : Settings). s.retry_limit) set in
    let workers : c.run-server.result.settings.workers ≡ c.args.script.settings.workers = ap (λ (s : Settings). s.workers) set in
    let some : 1 ≤ length c.in_ok-listeners.listeners.items =
    rw c.in_ok-listeners.ensures.as_many (some_of _ c.requires) in
    let limit = c.args.script.settings.retry_limit_within in
    record {
      starts = ap config_error (sym cors_is) ∙ c.in-Ok.ensures.made unstopped 0 (omega (arith, some));
      started = subst (λ n. RoseBy n (g.Sp.Spawner.starts c.args.spawner.now) (g.Sp.Spawner.starts c.serve.new.spawner)) workers (rose_by _ _ _ _ c.in-Ok.ensures.started (λ fault. (let errs = fault.errs in cc)));
      runs = runs_by ghosts (plan c.args.script) _ site_is c.serve.new.done.entries.items c.in-Ok.report c.in_ok-listeners.listeners.items c.serve.new.listeners.items _ _ retries (omega (arith, limit))
          c.in_ok-listeners.ensures.offer c.in-Ok.ensures.same_count _ _
          run.entries (run.adds.list ∙ ap (λ xs. Some (xs ++ run.entries)) c.new-done.ensures) run.delivers c.in-Ok.ensures.told unstopped run.faulted run.outcomes
          (λ fault. (let errs = fault.errs in cc));
      refused = tt;
    }

pub serve-requires-send-F-Factory-Service-Future : goal.serve-requires-send-F-Factory-Service-Future
serve-requires-send-F-Factory-Service-Future g c = λ κs lives. param_send 19 _ (arg_send _ no _ (replay_sends memory_link.the_row memory_link_facts.the_send))

pub returns-in-Err-Spawn-clause-refused : goal.returns-in-Err-Spawn-clause-refused
returns-in-Err-Spawn-clause-refused g c = (c.in-Err-Spawn.ensures.spawn _ (ap Err c.in-Err-Spawn.field-0-is)).0

pub returns-in-Err-Startup-clause-refused : goal.returns-in-Err-Startup-clause-refused
returns-in-Err-Startup-clause-refused g c =
    let startup = rw c.in-Err-Startup.field-0-is at c.in-Err-Startup.ensures.startup in
    let cors_is = ap (λ (f : ReplayFactory). arc_value f.cors) c.run-server.ensures.factory ∙ c.in_ok-factory.ensures.cors in
    c.policy_error.ensures (plan c.args.script).cors
    (subst (λ (b : Builder ScriptRule). RefusesSite b c.in-Err-Startup.error) cors_is startup.2)
