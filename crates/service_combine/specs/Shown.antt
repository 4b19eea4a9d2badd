-- What contracts show of the values of this crate: the parts of a combinator, and its closure.
use Rattle.std.specs.Arc.{arc_value}
use Rattle.service_combine.specs.declared.and_then.AndThenService.{AndThenService}
use Rattle.service_combine.specs.declared.and_then_factory.AndThenServiceFactory.{AndThenServiceFactory}
use Rattle.service_combine.specs.declared.apply_config.ApplyConfigService.{ApplyConfigService}
use Rattle.service_combine.specs.declared.apply_config_factory.ApplyConfigServiceFactory.{ApplyConfigServiceFactory}
use Rattle.service_combine.specs.declared.apply_factory.ApplyFactory.{ApplyFactory}
use Rattle.service_combine.specs.declared.apply_service.Apply.{Apply}
use Rattle.service_combine.specs.declared.fn_service_config.FnServiceConfig.{FnServiceConfig}
use Rattle.service_combine.specs.declared.fn_service_no_config.FnServiceNoConfig.{FnServiceNoConfig}
use Rattle.service_combine.specs.declared.map.Map.{Map}
use Rattle.service_combine.specs.declared.map_config_factory.MapConfig.{MapConfig}
use Rattle.service_combine.specs.declared.map_err.MapErr.{MapErr}
use Rattle.service_combine.specs.declared.map_err_service_factory.MapErrServiceFactory.{MapErrServiceFactory}
use Rattle.service_combine.specs.declared.map_init_err.MapInitErr.{MapInitErr}
use Rattle.service_combine.specs.declared.map_service_factory.MapServiceFactory.{MapServiceFactory}
use Rattle.service_combine.specs.declared.pipeline_service.Pipeline.{Pipeline}
use Rattle.service_combine.specs.declared.pipeline_service_factory.PipelineFactory.{PipelineFactory}
use Rattle.service_combine.specs.declared.then.ThenService.{ThenService}
use Rattle.service_combine.specs.declared.then_factory.ThenServiceFactory.{ThenServiceFactory}
use Rattle.service_combine.specs.declared.transform_map_init_err.TransformMapInitErr.{TransformMapInitErr}
use Rattle.service_combine.specs.declared.unit_config_factory.UnitConfig.{UnitConfig}

-- the first and the second service of `and_then`
abbrev pub and_then_first : {A B Req : Type 0} → AndThenService A B Req → A
and_then_first s = (arc_value s.parts).0

abbrev pub and_then_second : {A B Req : Type 0} → AndThenService A B Req → B
and_then_second s = (arc_value s.parts).1

-- the first and the second service of `then`
abbrev pub then_first : {A B Req : Type 0} → ThenService A B Req → A
then_first s = (arc_value s.parts).0

abbrev pub then_second : {A B Req : Type 0} → ThenService A B Req → B
then_second s = (arc_value s.parts).1

-- the first and the second factory of `and_then`
abbrev pub and_then_first_factory : {A B Req : Type 0} → AndThenServiceFactory A B Req → A
and_then_first_factory f = (arc_value f.parts).0

abbrev pub and_then_second_factory : {A B Req : Type 0} → AndThenServiceFactory A B Req → B
and_then_second_factory f = (arc_value f.parts).1

-- the first and the second factory of `then`
abbrev pub then_first_factory : {A B Req : Type 0} → ThenServiceFactory A B Req → A
then_first_factory f = (arc_value f.parts).0

abbrev pub then_second_factory : {A B Req : Type 0} → ThenServiceFactory A B Req → B
then_second_factory f = (arc_value f.parts).1

-- the service of `map`, and its closure
abbrev pub map_part : {A F Req Res : Type 0} → Map A F Req Res → A
map_part m = m.service

abbrev pub map_closure : {A F Req Res : Type 0} → Map A F Req Res → F
map_closure m = arc_value m.f

-- the service of `map_err`, and its closure
abbrev pub map_err_part : {A Req F E : Type 0} → MapErr A Req F E → A
map_err_part m = m.service

abbrev pub map_err_closure : {A Req F E : Type 0} → MapErr A Req F E → F
map_err_closure m = arc_value m.f

-- the factory of `map`, and its closure
abbrev pub map_factory : {A F Req Res : Type 0} → MapServiceFactory A F Req Res → A
map_factory m = m.factory

abbrev pub map_factory_closure : {A F Req Res : Type 0} → MapServiceFactory A F Req Res → F
map_factory_closure m = arc_value m.f

-- the factory of `map_err`, and its closure
abbrev pub map_err_factory : {A Req F E : Type 0} → MapErrServiceFactory A Req F E → A
map_err_factory m = m.factory

abbrev pub map_err_factory_closure : {A Req F E : Type 0} → MapErrServiceFactory A Req F E → F
map_err_factory_closure m = arc_value m.f

-- the factory of `map_init_err`, and its closure
abbrev pub map_init_err_factory : {A F Req E : Type 0} → MapInitErr A F Req E → A
map_init_err_factory m = m.factory

abbrev pub map_init_err_closure : {A F Req E : Type 0} → MapInitErr A F Req E → F
map_init_err_closure m = arc_value m.f

-- the transform of `map_init_err`, and its closure
abbrev pub map_init_err_transform : {T S Req F E : Type 0} → TransformMapInitErr T S Req F E → T
map_init_err_transform m = m.transform

abbrev pub map_init_err_transform_closure : {T S Req F E : Type 0} → TransformMapInitErr T S Req F E → F
map_init_err_transform_closure m = arc_value m.f

-- the service of `apply_fn`, and its closure
abbrev pub apply_part : {S F Req In Res Err : Type 0} → Apply S F Req In Res Err → S
apply_part a = a.service

abbrev pub apply_closure : {S F Req In Res Err : Type 0} → Apply S F Req In Res Err → F
apply_closure a = arc_value a.wrap_fn

-- the factory of `apply_fn_factory`, and its closure
abbrev pub apply_factory_part : {SF F Req In Res Err : Type 0} → ApplyFactory SF F Req In Res Err → SF
apply_factory_part a = a.factory

abbrev pub apply_factory_closure : {SF F Req In Res Err : Type 0} → ApplyFactory SF F Req In Res Err → F
apply_factory_closure a = arc_value a.wrap_fn

-- the service of `apply_cfg`, and its closure
abbrev pub apply_cfg_part : {S Req F Cfg Fut T Err : Type 0} → ApplyConfigService S Req F Cfg Fut T Err → S
apply_cfg_part a = (arc_value a.srv).0

abbrev pub apply_cfg_closure : {S Req F Cfg Fut T Err : Type 0} → ApplyConfigService S Req F Cfg Fut T Err → F
apply_cfg_closure a = (arc_value a.srv).1

-- the factory of `apply_cfg_factory`, and its closure
abbrev pub apply_cfg_factory_part : {SF Req F Cfg Fut S : Type 0} → ApplyConfigServiceFactory SF Req F Cfg Fut S → SF
apply_cfg_factory_part a = (arc_value a.srv).0

abbrev pub apply_cfg_factory_closure : {SF Req F Cfg Fut S : Type 0} → ApplyConfigServiceFactory SF Req F Cfg Fut S → F
apply_cfg_factory_closure a = (arc_value a.srv).1

-- the factory of `map_config`, and its closure
abbrev pub map_config_part : {SF Req F Cfg : Type 0} → MapConfig SF Req F Cfg → SF
map_config_part m = m.factory

abbrev pub map_config_closure : {SF Req F Cfg : Type 0} → MapConfig SF Req F Cfg → F
map_config_closure m = arc_value m.cfg_mapper

-- the factory of `unit_config`
abbrev pub unit_config_part : {SF Cfg Req : Type 0} → UnitConfig SF Cfg Req → SF
unit_config_part u = u.factory

-- the closure of `fn_factory_with_config`
abbrev pub config_closure : {F Fut Cfg Srv Req Err : Type 0} → FnServiceConfig F Fut Cfg Srv Req Err → F
config_closure s = arc_value s.f

-- the closure of `fn_factory`
abbrev pub no_config_closure : {F Cfg Srv Req Fut Err : Type 0} → FnServiceNoConfig F Cfg Srv Req Fut Err → F
no_config_closure s = arc_value s.f

-- the service that a pipeline is, and the factory
abbrev pub pipeline_part : {S Req : Type 0} → Pipeline S Req → S
pipeline_part p = p.service

abbrev pub pipeline_factory_part : {SF Req : Type 0} → PipelineFactory SF Req → SF
pipeline_factory_part p = p.factory
