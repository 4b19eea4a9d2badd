-- What is told of a listener, by the accept core.
use Rattle.std.specs.Prelude.{◌≡◌, ◌≢◌, ℕ, true, false, slice_index, slice_index_or}
use Rattle.server_core.specs.Core.{Core}
use Rattle.server_run.specs.declared.report.ListenerState.{ListenerState}
use Rattle.server_run.specs.declared.report.ListenerState.TheVariants.{Ended, Faulted, Open}

-- it has ended, was given up after as many failures as it may have, or may give more
abbrev pub IsStateOf : Core → ℕ → ℕ → ListenerState → Type 0
IsStateOf s limit t Ended = (slice_index_or s.ended t false ≡ true) × (slice_index s.failures t ≢ limit)
IsStateOf s limit t (Faulted failures) = (slice_index_or s.ended t false ≡ true) × (slice_index s.failures t ≡ limit) × (failures ≡ limit)
IsStateOf s limit t Open = slice_index_or s.ended t false ≡ false
