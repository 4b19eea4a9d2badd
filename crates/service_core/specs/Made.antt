-- The services that a factory may make.
use Rattle.service_core.specs.Making.{LiesWithin}
use Rattle.service_core.specs.declared.service.Service.{Ghosts as ServiceOf}
use Rattle.service_core.specs.declared.service_factory.ServiceFactory.{Ghosts as FactoryOf}

-- the service s lies within what the factory f tells of the services of the configuration c
abbrev pub MadeBy : {M Q R E C S I U F : Type 0} → FactoryOf M Q R E C S I U F → ServiceOf S Q R E F → M → C → S → Type 0
MadeBy g service f c s = LiesWithin service s (g.may f c) (g.may_ready f c) (g.may_begin f c)
