-- Outcomes that tell of a stop, and those that do not.
use Rattle.std.proofs.Common.{◌≡◌, Bool, true, false, true≢false, ℕ, refl}
use Rattle.server_run.specs.Outcome.{is_stopped}
use Rattle.server_run.specs.declared.outcome.Outcome.{Outcome}
use Rattle.server_run.specs.declared.outcome.Outcome.TheVariants as outcome
use Rattle.server_worker.specs.Stops.{is_forced, where_stopped}

-- what a stop ended by force, a stop ended
pub forced_stopped : (o : Outcome) → is_forced o ≡ true → is_stopped o ≡ true
forced_stopped outcome.Served is = is
forced_stopped outcome.ReadFault is = is
forced_stopped outcome.WriteFault is = is
forced_stopped outcome.Upgraded is = is
forced_stopped (outcome.Lost worker) is = is
forced_stopped (outcome.Stopped forced) is = refl
forced_stopped outcome.Memory is = is

-- what no stop ended weighs nothing among those
pub ended_weighs : (forced : Bool) (n : ℕ) (o : Outcome) → is_stopped o ≡ false → where_stopped forced n o ≡ 0
ended_weighs forced n outcome.Served ended = refl
ended_weighs forced n outcome.ReadFault ended = refl
ended_weighs forced n outcome.WriteFault ended = refl
ended_weighs forced n outcome.Upgraded ended = refl
ended_weighs forced n (outcome.Lost worker) ended = refl
ended_weighs forced n (outcome.Stopped by) ended = absurd (true≢false ended)
ended_weighs forced n outcome.Memory ended = refl
