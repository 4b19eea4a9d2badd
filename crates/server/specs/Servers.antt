-- Words on builders and servers.
use Rattle.server.specs.declared.builder.ServerBuilder.{ServerBuilder}
use Rattle.server.specs.declared.server.Server.{Server}
use Rattle.server.specs.declared.settings.Settings.{Settings}

-- what a builder is set to
abbrev pub settings_of : ServerBuilder → Settings
settings_of builder = builder.settings

-- what a server is set to, and the factory of its services
abbrev pub server_settings : {F : Type 0} → Server F → Settings
server_settings server = server.settings

abbrev pub factory_of : {F : Type 0} → Server F → F
factory_of server = server.factory
