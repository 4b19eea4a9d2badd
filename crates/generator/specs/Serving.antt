-- One more line of the script that serves what is made.
use Rattle.std.specs.Prelude.{ℕ, true, List, Option}
use Rattle.std.specs.Option.{option_and_then}
use Rattle.service_core.specs.declared.peer.Peer.TheVariants.{V4}
use Rattle.script.specs.PolicyText.{and_line}
use Rattle.script.specs.Script.{Plan, with_bytes, with_connection}
use Rattle.script.specs.declared.policy.policy_line.PolicyLine.{PolicyLine}

-- the plan with one more policy line
abbrev pub and_policy : Plan → PolicyLine → Plan
and_policy plan line = record plan { cors = and_line plan.cors line; has_policy = true }

-- the plan with one more connection, of the peer 10.0.0.1:1000, that gives these bytes, where it can come
abbrev pub with_requests : Plan → List ℕ → Option Plan
with_requests plan bytes = option_and_then (λ more. with_bytes more bytes) (with_connection plan (V4 167772161 1000))
