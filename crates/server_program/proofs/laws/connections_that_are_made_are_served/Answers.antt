use Rattle.std.proofs.Common.{◌≡◌, inl, inr, ◌∙◌, subst, Option}
use Rattle.listening.specs.Listening.{Listened}
use Rattle.service_core.specs.Counts.{Rose}
use Rattle.server.specs.Starting.{RoseBy}
use Rattle.server_program.proofs.Completing.{summed_or_memory, whole}
use Rattle.server_program.specs.Statuses.{Says}
use Rattle.server_program.specs.declared.form.Form.{Form}
use Rattle.server_program.proofs.laws.connections_that_are_made_are_served.Goals as goal

pub returns : goal.returns
returns g c = λ source source_after sink sink_after spawner spawner_after binder binder_after words count seed text status result says written form writes starting.
    let all = whole _ _ _ status text result written writes in
    let made = subst (λ (f : Option Form). Says f (g.So.Source.remaining source) (g.So.Source.remaining source_after) (Rose (g.So.Source.faults source) (g.So.Source.faults source_after))
    (λ n. RoseBy n (g.Sp.Spawner.starts spawner) (g.Sp.Spawner.starts spawner_after)) (Rose (g.Sp.Spawner.refusals spawner) (g.Sp.Spawner.refusals spawner_after))
    (binder_after ≡ binder) (g.Bi.Binder.refusals binder_after ≡ g.Bi.Binder.refusals binder) (Rose (g.Bi.Binder.refusals binder) (g.Bi.Binder.refusals binder_after))
    (Listened g.Bi.Binder.stock g.Bi.Listener.Listener.left g.Bi.Listener.Listener.rest g.Bi.Listener.Link.Link binder binder_after) status text) form says in
    elim (summed_or_memory _ _ _ _ count seed status text made.0 starting) [
      | inl summed ↦ inl (all.0 ∙ summed.0, all.1, summed.1)
      | inr memory ↦ inr (all.0 ∙ memory)
    ]
