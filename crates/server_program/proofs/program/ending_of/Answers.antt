use Rattle.std.proofs.Common.{◌≡◌, Option, Some, refl, subst}
use Rattle.listening.specs.Listening.{Listened}
use Rattle.service_core.specs.Counts.{Rose}
use Rattle.server.specs.Starting.{RoseBy}
use Rattle.server_program.specs.Forms.{form_of}
use Rattle.server_program.specs.Statuses.{Says}
use Rattle.server_program.specs.Text.{text_of}
use Rattle.server_program.specs.declared.form.Form.{Form}
use Rattle.server_program.specs.declared.form.Form.TheVariants.{Replay, Listen, Generate}
use Rattle.server_program.proofs.program.ending_of.Goals as goal

pub returns-in-Some-Replay : goal.returns-in-Some-Replay
returns-in-Some-Replay g c =
    let told = c.in-Some-Replay.ensures.form in
    let which = c.in-Some-Replay.field-0-is in
    let same : Some Replay ≡ form_of c.args.words.now = cc in
    subst (λ (f : Option Form). Says f (g.So.Source.remaining c.args.source.now) (g.So.Source.remaining c.replay_ending.new.source) (Rose (g.So.Source.faults c.args.source.now) (g.So.Source.faults c.replay_ending.new.source))
    (λ n. RoseBy n (g.Sp.Spawner.starts c.args.spawner.now) (g.Sp.Spawner.starts c.replay_ending.new.spawner)) (Rose (g.Sp.Spawner.refusals c.args.spawner.now) (g.Sp.Spawner.refusals c.replay_ending.new.spawner))
    (c.args.binder.now ≡ c.args.binder.now) (g.Bi.Binder.refusals c.args.binder.now ≡ g.Bi.Binder.refusals c.args.binder.now) (Rose (g.Bi.Binder.refusals c.args.binder.now) (g.Bi.Binder.refusals c.args.binder.now))
    (Listened g.Bi.Binder.stock g.Bi.Listener.Listener.left g.Bi.Listener.Listener.rest g.Bi.Listener.Link.Link c.args.binder.now c.args.binder.now)
    c.replay_ending.result.status (text_of c.replay_ending.result.text)) same (c.replay_ending.ensures, refl)

pub returns-in-Some-Listen : goal.returns-in-Some-Listen
returns-in-Some-Listen g c =
    let told = c.in-Some-Listen.ensures.form in
    let which = c.in-Some-Listen.field-0-is in
    let same : Some (Listen c.in-Some-Listen.limit) ≡ form_of c.args.words.now = cc in
    subst (λ (f : Option Form). Says f (g.So.Source.remaining c.args.source.now) (g.So.Source.remaining c.args.source.now) (Rose (g.So.Source.faults c.args.source.now) (g.So.Source.faults c.args.source.now))
    (λ n. RoseBy n (g.Sp.Spawner.starts c.args.spawner.now) (g.Sp.Spawner.starts c.listen_ending.new.spawner)) (Rose (g.Sp.Spawner.refusals c.args.spawner.now) (g.Sp.Spawner.refusals c.listen_ending.new.spawner))
    (c.listen_ending.new.binder ≡ c.args.binder.now) (g.Bi.Binder.refusals c.listen_ending.new.binder ≡ g.Bi.Binder.refusals c.args.binder.now) (Rose (g.Bi.Binder.refusals c.args.binder.now) (g.Bi.Binder.refusals c.listen_ending.new.binder))
    (Listened g.Bi.Binder.stock g.Bi.Listener.Listener.left g.Bi.Listener.Listener.rest g.Bi.Listener.Link.Link c.args.binder.now c.listen_ending.new.binder)
    c.listen_ending.result.status (text_of c.listen_ending.result.text)) same (c.listen_ending.ensures (g.So.Source.remaining c.args.source.now))

pub returns-in-Some-Generate : goal.returns-in-Some-Generate
returns-in-Some-Generate g c =
    let told = c.in-Some-Generate.ensures.form in
    let which = c.in-Some-Generate.field-0-is in
    let same : Some (Generate c.in-Some-Generate.count c.in-Some-Generate.seed) ≡ form_of c.args.words.now = cc in
    subst (λ (f : Option Form). Says f (g.So.Source.remaining c.args.source.now) (g.So.Source.remaining c.args.source.now) (Rose (g.So.Source.faults c.args.source.now) (g.So.Source.faults c.args.source.now))
    (λ n. RoseBy n (g.Sp.Spawner.starts c.args.spawner.now) (g.Sp.Spawner.starts c.generate_ending.new.spawner)) (Rose (g.Sp.Spawner.refusals c.args.spawner.now) (g.Sp.Spawner.refusals c.generate_ending.new.spawner))
    (c.args.binder.now ≡ c.args.binder.now) (g.Bi.Binder.refusals c.args.binder.now ≡ g.Bi.Binder.refusals c.args.binder.now) (Rose (g.Bi.Binder.refusals c.args.binder.now) (g.Bi.Binder.refusals c.args.binder.now))
    (Listened g.Bi.Binder.stock g.Bi.Listener.Listener.left g.Bi.Listener.Listener.rest g.Bi.Listener.Link.Link c.args.binder.now c.args.binder.now)
    c.generate_ending.result.status (text_of c.generate_ending.result.text)) same (c.generate_ending.ensures (g.So.Source.remaining c.args.source.now), refl)
