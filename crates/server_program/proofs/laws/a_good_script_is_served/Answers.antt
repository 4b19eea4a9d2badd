use Rattle.std.proofs.Common.{inl, inr, ◌∙◌}
use Rattle.server_program.proofs.Completing.{served_or_memory, whole}
use Rattle.server_program.proofs.laws.a_good_script_is_served.Goals as goal

pub returns : goal.returns
returns g c = λ source source_after sink sink_after spawner spawner_after text plan status result says written short good starts reads writes starting.
    let all = whole _ _ _ status text result written writes in
    elim (served_or_memory _ _ _ _ _ text plan status says short good starts reads starting) [
      | inl served ↦ inl (all.0 ∙ served.0, all.1, served.1)
      | inr memory ↦ inr (all.0 ∙ memory)
    ]
