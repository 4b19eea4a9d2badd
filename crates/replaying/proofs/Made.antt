-- Connections that are made go on, and so does their listener.
use Rattle.std.specs.Prelude.{replicate}
use Rattle.std.proofs.Common.{◌≡◌, ℕ, zero, suc, Option, None, Some, cond, List, [], ◌∷◌, All, length, map, refl, ◌∙◌, ap, arith}
use Rattle.std.specs.List.{count_by}
use Rattle.std.proofs.lemmas.List.Elements.{All-cons, All-nil}
use Rattle.std.proofs.lemmas.List.Sums.{sum_by-cons}
use Rattle.cors_answer.specs.declared.init_error.CorsInitError.TheVariants.{Config, Memory}
use Rattle.cors_rules.specs.Refusing.{config_error}
use Rattle.cors_rules.specs.declared.config_error.ConfigError.{ConfigError}
use Rattle.generator.specs.Generator.{connection, connections, generated, on_connection}
use Rattle.script.specs.Offering.{marks_of}
use Rattle.script.specs.PolicyText.{and_line}
use Rattle.script.specs.Script.{Plan}
use Rattle.script.specs.Planned.{Listening, pieces}
use Rattle.script.specs.declared.coming.Coming.TheVariants.{Connection}
use Rattle.server_run.specs.Listener as marks
use Rattle.server_run.specs.Listener.{Mark}
use Rattle.server_run.specs.Steps.{is_read_fail}
use Rattle.server_run.specs.declared.read_step.ReadStep.{ReadStep}
use Rattle.server_run.specs.declared.read_step.ReadStep.TheVariants.{Give}
use Rattle.replaying.specs.Replaying.{IsUngenerated, IsUnreplayed}
use Rattle.replaying.specs.declared.replay_error.ReplayError.{ReplayError}
use Rattle.replaying.specs.declared.replay_error.ReplayError.TheVariants.{NoWorker, Startup}
use Rattle.replaying.specs.Reported.{GoesOn, IsUntroubled, is_failure}

none_fails : (texts : List (List ℕ)) → count_by is_read_fail (map Give texts) ≡ 0
none_fails [] = refl
none_fails (text ∷ texts) =
    let more = sum_by-cons (λ (s : ReadStep). cond (is_read_fail s) 1 0) (Give text) (map Give texts) in
    let rest = none_fails texts in omega (arith, more, rest)

goes_on : (seed : ℕ) → GoesOn (connection seed)
goes_on seed = record { reads = none_fails (pieces 7 (on_connection seed).0); writes = refl }

pub all_go_on : (count seed : ℕ) → All GoesOn (connections count seed)
all_go_on zero seed = All-nil GoesOn
all_go_on (suc count) seed = All-cons GoesOn (connection seed) (connections count (on_connection seed).1) (goes_on seed) (all_go_on count (on_connection seed).1)

pub as_many : (count seed : ℕ) → length (connections count seed) ≡ count
as_many zero seed = refl
as_many (suc count) seed = ap suc (as_many count (on_connection seed).1)

-- the listener never fails
never_fails : (count : ℕ) → count_by is_failure (marks_of (replicate count Connection)) ≡ 0
never_fails zero = refl
never_fails (suc count) =
    let more = sum_by-cons (λ (m : Mark). cond (is_failure m) 1 0) marks.gives (marks_of (replicate count Connection)) in
    let rest = never_fails count in omega (arith, more, rest)

abbrev pub listener_of : ℕ → ℕ → Listening
listener_of count seed = record { comings = replicate count Connection; connections = connections count seed }

pub untroubled : (count seed : ℕ) → IsUntroubled (listener_of count seed)
untroubled count seed = record { connections = all_go_on count seed; comings = never_fails count }

-- the policy is sound
sound : (count seed : ℕ) → config_error (generated count seed).cors ≡ None
unfolding and_line
sound count seed = refl

not_none : {found : Option ConfigError} {error : ConfigError} → found ≡ None → found ≡ Some error → ⊥
not_none none some = cc

-- so they are not served for want of memory alone, or because a start was refused
pub ungenerated : (count seed : ℕ) (plan : Plan) → plan ≡ generated count seed → (start_refused : Type 0) (error : ReplayError)
    → IsUnreplayed plan.cors start_refused error → IsUngenerated start_refused error
ungenerated count seed plan is start_refused (Startup (Config error)) why = absurd (not_none (ap (λ (p : Plan). config_error p.cors) is ∙ sound count seed) why)
ungenerated count seed plan is start_refused (Startup Memory) why = refl
ungenerated count seed plan is start_refused NoWorker why = why
