-- What the services of a connection answer that has none of its own.
use Rattle.std.specs.Prelude.{Option}
use Rattle.http_flow.specs.declared.framed.Handed.{Handed}
use Rattle.http_flow.specs.declared.framed.HandedEnd.TheVariants.{Done}
use Rattle.http_flow.specs.declared.upgrade_handler_future.UpgradeHandlerFuture.{UpgradeHandlerFuture}
use Rattle.http_flow.specs.Upgrading.{Asked}

-- the link that was asked about, as it is
abbrev pub as_given : {L : Type 0} → Asked L → Handed L
as_given asked = record { link = asked.1.link; end = Done }

-- what the future gives at its first poll
abbrev pub handed_by : {L : Type 0} → UpgradeHandlerFuture L → Option (Handed L)
handed_by f = f.handed
