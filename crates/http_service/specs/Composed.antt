-- A builder of services of connections, and what it makes.
use Rattle.std.specs.Prelude.{Option, None}
use Rattle.http_flow.specs.declared.expect_handler.ExpectHandler.{ExpectHandler}
use Rattle.http_flow.specs.declared.flow.HttpFlow.{HttpFlow}
use Rattle.http_flow.specs.declared.upgrade_handler.UpgradeHandler.{UpgradeHandler}
use Rattle.http_service.specs.Config.{Config, default_config}

-- what a builder was given: its settings, with the factories of expect and upgrade services
pub record Building (X U : Type 0) : Type 0 where
  pub config : Config
  pub expect : X
  pub upgrade : Option U

-- what is served: the settings, with the three services of a connection, or the three factories of them
pub record Composed (S X U : Type 0) : Type 0 where
  pub config : Config
  pub service : S
  pub expect : X
  pub upgrade : Option U

-- the three alone
abbrev pub flow_of : {S X U : Type 0} → Composed S X U → HttpFlow S X U
flow_of all = record { service = all.service; expect = all.expect; upgrade = all.upgrade }

-- these three with settings
abbrev pub flow_with : {S X U : Type 0} → Config → HttpFlow S X U → Composed S X U
flow_with config flow = record { config = config; service = flow.service; expect = flow.expect; upgrade = flow.upgrade }

-- where nothing is set
abbrev pub fresh : Building ExpectHandler UpgradeHandler
fresh = record { config = default_config; expect = record {}; upgrade = None }

-- with another factory of expect services
abbrev pub with_expect : {X Y U : Type 0} → Building X U → Y → Building Y U
with_expect old expect = record { config = old.config; expect = expect; upgrade = old.upgrade }

-- with a factory of upgrade services
abbrev pub with_upgrade : {X U V : Type 0} → Building X U → Option V → Building X V
with_upgrade old upgrade = record { config = old.config; expect = old.expect; upgrade = upgrade }

-- all that was set, with the factory of services of requests
abbrev pub composed : {S X U : Type 0} → Building X U → S → Composed S X U
composed old service = record { config = old.config; service = service; expect = old.expect; upgrade = old.upgrade }

-- with another factory of expect services
abbrev pub serving_expect : {S X Y U : Type 0} → Composed S X U → Y → Composed S Y U
serving_expect old expect = record { config = old.config; service = old.service; expect = expect; upgrade = old.upgrade }

-- with a factory of upgrade services, or with none
abbrev pub serving_upgrade : {S X U V : Type 0} → Composed S X U → Option V → Composed S X V
serving_upgrade old upgrade = record { config = old.config; service = old.service; expect = old.expect; upgrade = upgrade }
