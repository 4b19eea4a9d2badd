-- A service under a policy is always ready where those that its factory makes are. For those who promise it of services of their own.
use Rattle.std.proofs.Common.{◌≡◌, Option, Ok, subst}
use Rattle.futures.specs.declared.task.Poll.TheVariants.{Ready}
use Rattle.cors_answer.specs.Meaning.{ReadyAs, ReadyBy}
use Rattle.cors_answer.specs.declared.fault.CorsFault.{CorsFault}
use Rattle.http1_grammar.specs.Wire.{Response}
use Rattle.http1_plain.specs.declared.request.Request.{Request}
use Rattle.service_core.specs.Made.{MadeBy}
use Rattle.service_core.specs.Meaning.{Follows, Readiness}
use Rattle.service_core.specs.declared.service.Service.{Ghosts as ServiceOf}
use Rattle.service_core.specs.declared.service_factory.ServiceFactory.{Ghosts as FactoryOf}

pub policed_ready : {M S I MF F E : Type 0} (response_of : E → Option Response) (mg : FactoryOf M Request Response E (Unit {0}) S I MF F)
    (sg : ServiceOf S Request Response E F) (m : M) → ((answer : Readiness E) → mg.may_ready m tt answer → answer ≡ Ready (Ok tt))
    → (answer : Readiness CorsFault) → Follows (MadeBy mg sg m tt) (λ s. ReadyBy response_of (sg.may_ready s)) answer → answer ≡ Ready (Ok tt)
policed_ready response_of mg sg m always answer through =
    subst (λ from. ReadyAs response_of from answer) (always through.holds.from (through.comes.readiness through.holds.from through.holds.given))
    through.holds.goes
