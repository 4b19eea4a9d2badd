use Rattle.std.proofs.Common.{Err, refl, ap, ◌∙◌, subst}
use Rattle.server.proofs.HearSteps.{told_nothing}
use Rattle.server.specs.Starting.{RoseBy}
use Rattle.server.specs.declared.settings.Settings.{Settings}
use Rattle.script_service.proofs.Crossing.{replay_sends}
use Rattle.server_bind.specs.Limiting.{nothing_left}
use Rattle.server_bind.specs.declared.limited.Limited.{Limited}
use Rattle.listening.proofs.Hearing.{hears_of, left_of, rest_of, rose_by, within}
use Rattle.listening.proofs.serving.serve_listener.Goals as goal
use denote.Exit.{no}
use denote.Param.Send.{arg_send, param_send}

pub serve-requires-send-F-Factory-Service-Future : goal.serve-requires-send-F-Factory-Service-Future
serve-requires-send-F-Factory-Service-Future g c = λ κs lives. param_send 19 _ (arg_send _ no _ (replay_sends _ c.type_bounds.send-Li-Link))

-- no service errs, and so no worker may end by a fault
pub returns-in-Ok-serve-clause-hears : goal.returns-in-Ok-serve-clause-hears
returns-in-Ok-serve-clause-hears g c =
    let run = c.in-Ok-serve.ensures.serves.serves in
    hears_of g.Li.Link.Link (g.met.Li.Link.Link g.world.𝓛 g.world.𝓜 g.world.𝓡 ((λ s x. x), (λ x. x), (λ x. x), λ x. x)).few_faults g.Li.Listener.left g.Li.Listener.rest c.args.listener c.args.limit
    _ _ _ _ _ c.new.result
    (left_of c.new.result.listener c.args.listener c.new.ensures.behind c.new.result.remaining c.args.limit c.new.ensures.remaining g.Li.Listener.left c.new.result.ended c.new.ensures.ended)
    (rest_of c.new.result.listener c.args.listener c.new.ensures.behind c.new.result.remaining c.args.limit c.new.ensures.remaining g.Li.Listener.rest)
    (λ (w : Limited _). nothing_left w.ended w.remaining (g.Li.Listener.left w.listener))
    (λ (w : Limited _). within c.new.result.listener c.args.listener c.new.ensures.behind c.new.result.remaining c.args.limit c.new.ensures.remaining w.remaining) c.requires.few
    run.entries c.in-Ok-serve.report _ (ap (λ (s : Settings). s.retry_limit) c.in-Ok.ensures.settings) _ c.in-Ok.ensures.site
    c.in-Ok-one.listeners.items c.serve.new.listeners.items c.in-Ok-one.ensures c.in-Ok-serve.ensures.same_count run.delivers c.in-Ok-serve.ensures.told (told_nothing _ _ _ _ _ _ c.in-Ok-serve.ensures.commanded refl refl)
    _ _ run.faulted run.outcomes (λ fault. (let errs = fault.errs in cc))
    _ _ _ c.new-done.ensures.entries c.new-done.ensures.served (c.entries.ensures ∙ run.adds.number) (c.served.ensures ∙ run.adds.number_served) refl

pub returns-in-Ok-serve-clause-started : goal.returns-in-Ok-serve-clause-started
returns-in-Ok-serve-clause-started g c =
    subst (λ n. RoseBy n (g.Sp.Spawner.starts c.args.spawner.now) (g.Sp.Spawner.starts c.serve.new.spawner)) (ap (λ (s : Settings). s.workers) c.in-Ok.ensures.settings)
    (rose_by _ _ _ _ c.in-Ok-serve.ensures.started (λ fault. (let errs = fault.errs in cc)))

pub returns-in-Err-Spawn-clause-unserved : goal.returns-in-Err-Spawn-clause-unserved
returns-in-Err-Spawn-clause-unserved g c = (c.in-Err-Spawn.ensures.spawn _ (ap Err c.in-Err-Spawn.field-0-is)).0
