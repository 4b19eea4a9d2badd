-- That the steps of a turn are told apart.
use Rattle.std.proofs.Common.{◌≡◌, ℕ}
use Rattle.server_acceptor.specs.declared.step.Step.TheVariants.{Halted, On, Settled, WorkerEnded}

pub halted_not_on : Halted ≡ On → ⊥
halted_not_on e = cc

pub halted_not_settled : Halted ≡ Settled → ⊥
halted_not_settled e = cc

pub halted_not_ended : (w : ℕ) → Halted ≡ WorkerEnded w → ⊥
halted_not_ended w e = cc

pub on_not_settled : On ≡ Settled → ⊥
on_not_settled e = cc

pub on_not_halted : On ≡ Halted → ⊥
on_not_halted e = cc

pub on_not_ended : (w : ℕ) → On ≡ WorkerEnded w → ⊥
on_not_ended w e = cc

pub settled_not_on : Settled ≡ On → ⊥
settled_not_on e = cc

pub settled_not_halted : Settled ≡ Halted → ⊥
settled_not_halted e = cc

pub settled_not_ended : (w : ℕ) → Settled ≡ WorkerEnded w → ⊥
settled_not_ended w e = cc

pub ended_not_on : (w : ℕ) → WorkerEnded w ≡ On → ⊥
ended_not_on w e = cc

pub ended_not_settled : (w : ℕ) → WorkerEnded w ≡ Settled → ⊥
ended_not_settled w e = cc

pub ended_not_halted : (w : ℕ) → WorkerEnded w ≡ Halted → ⊥
ended_not_halted w e = cc

pub worker_same : (v w : ℕ) → WorkerEnded v ≡ WorkerEnded w → v ≡ w
worker_same v w e = cc
