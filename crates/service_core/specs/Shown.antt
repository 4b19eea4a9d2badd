-- What contracts show of the values of this crate.
use Rattle.std.specs.Prelude.{ℕ, Option}
use Rattle.std.specs.Arc.{arc_value}
use Rattle.service_core.specs.declared.apply_transform.ApplyTransform.{ApplyTransform}
use Rattle.service_core.specs.declared.from_fn.FnService.{FnService}
use Rattle.service_core.specs.declared.from_fn_factory.FnServiceFactory.{FnServiceFactory}
use Rattle.service_core.specs.declared.ready_future.Ready.{Ready}
use Rattle.service_core.specs.declared.watched.Watched.{Watched}

-- the value that a poll will take
abbrev pub ready_value : {T : Type 0} → Ready T → Option T
ready_value ready = ready.value

-- the future that is watched
abbrev pub watched_future : {F : Type 0} → Watched F → F
watched_future w = w.future

-- how often it was pending
abbrev pub wait_count : {F : Type 0} → Watched F → ℕ
wait_count w = w.waits

-- the closure of a service of `fn_service`
abbrev pub service_closure : {F Fut Req Res Err : Type 0} → FnService F Fut Req Res Err → F
service_closure s = arc_value s.f

-- the closure of a factory of `fn_service`
abbrev pub factory_closure : {F Fut Req Res Err Cfg : Type 0} → FnServiceFactory F Fut Req Res Err Cfg → F
factory_closure s = arc_value s.f

-- the transform of a factory of `apply`
abbrev pub applied : {T S Req : Type 0} → ApplyTransform T S Req → T
applied a = (arc_value a.parts).0

-- the factory whose services it wraps
abbrev pub wrapped : {T S Req : Type 0} → ApplyTransform T S Req → S
wrapped a = (arc_value a.parts).1
