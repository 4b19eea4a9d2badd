-- What a parcel is.
use Rattle.std.specs.Prelude.{Bool, true, false, not}
use Rattle.server_jobs.specs.declared.parcel.Parcel.{Parcel}
use Rattle.server_jobs.specs.declared.parcel.Parcel.TheVariants.{Conn, Stop}

-- a stop
abbrev pub is_stop : {L : Type 0} → Parcel L → Bool
is_stop (Conn serial token place link) = false
is_stop (Stop graceful) = true

-- a stop that is not graceful
abbrev pub is_force : {L : Type 0} → Parcel L → Bool
is_force (Conn serial token place link) = false
is_force (Stop graceful) = not graceful
