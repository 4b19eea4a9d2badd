-- What calls of each combinator may give, and what calls of the services that its factory makes may give: one equation a
-- combinator, over its parts.
use Rattle.std.specs.Prelude.{Result}
use Rattle.service_core.specs.Meaning.{Follows}
use Rattle.service_core.specs.declared.service.Service.{Ghosts as ServiceOf}
use Rattle.service_core.specs.declared.service_factory.ServiceFactory.{Ghosts as FactoryOf}
use Rattle.service_combine.specs.Meaning.{Chained, Mapped, MappedErr, OrRefused}
use Rattle.service_combine.specs.Shown.{map_part, map_closure, map_factory, map_factory_closure, map_err_part, map_err_closure, map_err_factory, map_err_factory_closure}
use Rattle.service_combine.specs.Shown.{and_then_first, and_then_second, and_then_first_factory, and_then_second_factory, then_first, then_second, then_first_factory, then_second_factory}
use Rattle.service_combine.specs.declared.and_then.AndThenService.{AndThenService}
use Rattle.service_combine.specs.declared.and_then_factory.AndThenServiceFactory.{AndThenServiceFactory}
use Rattle.service_combine.specs.declared.map.Map.{Map}
use Rattle.service_combine.specs.declared.map_err.MapErr.{MapErr}
use Rattle.service_combine.specs.declared.map_err_service_factory.MapErrServiceFactory.{MapErrServiceFactory}
use Rattle.service_combine.specs.declared.map_service_factory.MapServiceFactory.{MapServiceFactory}
use Rattle.service_combine.specs.declared.then.ThenService.{ThenService}
use Rattle.service_combine.specs.declared.then_factory.ThenServiceFactory.{ThenServiceFactory}

-- `map`: the closure changes each Ok of the part
abbrev pub MapMay : {A F Q R T E U : Type 0} → ServiceOf A Q R E U → (F → R → T → Type 0) → E → Map A F Q T → Q → Result T E → Type 0
MapMay part post refusal m q = OrRefused (Mapped (part.may (map_part m) q) (post (map_closure m))) refusal

abbrev pub MapMakes : {M F Q R T E C S I U V : Type 0} → FactoryOf M Q R E C S I U V → (F → R → T → Type 0) → E
    → MapServiceFactory M F Q T → C → Q → Result T E → Type 0
MapMakes part post refusal m c q = OrRefused (Mapped (part.may (map_factory m) c q) (post (map_factory_closure m))) refusal

-- `map_err`: the closure changes each error of the part
abbrev pub MapErrMay : {A F Q R E G U : Type 0} → ServiceOf A Q R E U → (F → E → G → Type 0) → G → MapErr A Q F G → Q → Result R G → Type 0
MapErrMay part post refusal m q = OrRefused (MappedErr (part.may (map_err_part m) q) (post (map_err_closure m))) refusal

abbrev pub MapErrMakes : {M F Q R E G C S I U V : Type 0} → FactoryOf M Q R E C S I U V → (F → E → G → Type 0) → G
    → MapErrServiceFactory M Q F G → C → Q → Result R G → Type 0
MapErrMakes part post refusal m c q = OrRefused (MappedErr (part.may (map_err_factory m) c q) (post (map_err_factory_closure m))) refusal

-- `and_then`: an error of the first part is the answer, and an Ok goes to the second. The first factory gets a copy of
-- the configuration.
abbrev pub AndThenMay : {A B Q R T E U V : Type 0} → ServiceOf A Q R E U → ServiceOf B R T E V → E
    → AndThenService A B Q → Q → Result T E → Type 0
AndThenMay first second refusal s q = OrRefused (Chained (first.may (and_then_first s) q) (second.may (and_then_second s))) refusal

abbrev pub AndThenMakes : {M N Q R T E C S S' I U U' V V' : Type 0} → FactoryOf M Q R E C S I U V → FactoryOf N R T E C S' I U' V'
    → (C → C → Type 0) → E → AndThenServiceFactory M N Q → C → Q → Result T E → Type 0
AndThenMakes first second copies refusal f c q = OrRefused (Chained
    (Follows (copies c) (λ copy. first.may (and_then_first_factory f) copy q)) (second.may (and_then_second_factory f) c)) refusal

-- `then`: each result of the first part goes to the second
abbrev pub ThenMay : {A B Q R T E U V : Type 0} → ServiceOf A Q R E U → ServiceOf B (Result R E) T E V → E
    → ThenService A B Q → Q → Result T E → Type 0
ThenMay first second refusal s q = OrRefused (Follows (first.may (then_first s) q) (second.may (then_second s))) refusal

abbrev pub ThenMakes : {M N Q R T E C S S' I U U' V V' : Type 0} → FactoryOf M Q R E C S I U V → FactoryOf N (Result R E) T E C S' I U' V'
    → (C → C → Type 0) → E → ThenServiceFactory M N Q → C → Q → Result T E → Type 0
ThenMakes first second copies refusal f c q = OrRefused (Follows
    (Follows (copies c) (λ copy. first.may (then_first_factory f) copy q)) (second.may (then_second_factory f) c)) refusal
