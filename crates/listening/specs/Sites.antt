-- How the connections of a bound listener are served.
use Rattle.std.specs.Prelude.{true}
use Rattle.cors_rules.specs.Building.{permissive}
use Rattle.script.specs.Script.{Plan, nothing_yet}
use Rattle.script_service.specs.Sites.{Site, site_of}

-- the plan of a script with the line `permissive` alone
abbrev pub listen_plan : Plan
listen_plan = record nothing_yet { cors = permissive; has_policy = true }

-- its site: `hello` under the permissive policy, with the default limits
abbrev pub listen_site : Site
listen_site = site_of listen_plan
