-- What a service of a token is known to do with a link.
use Rattle.std.proofs.Common.{◌≡◌, ap, inl, inr, true, false, Some, None}
use Rattle.service_core.specs.Link.{Identity}
use Rattle.service_core.specs.Making.{LiesWithin}
use Rattle.service_core.specs.Meaning.{Readiness}
use Rattle.service_core.specs.declared.ended.Ended.{Ended}
use Rattle.service_core.specs.declared.service.Service.{Ghosts as ServiceOf}
use Rattle.service_core.specs.declared.service_factory.ServiceFactory.{Ghosts as FactoryOf}
use Rattle.server_run.specs.Creating.{Creates, Stands}
use Rattle.server_run.specs.Delivery.{ComesBack}
use Rattle.server_run.specs.declared.outcome.Outcome.{Outcome}
use Rattle.server_run.specs.declared.outcome.Outcome.TheVariants as outcome

-- a service that the factory of a token made is one of the token
pub stands_made : {F L E S I M Fut : Type 0} (fg : FactoryOf F L (Ended L) E (Unit {0}) S I M Fut) (sg : ServiceOf S L (Ended L) E Fut)
    (may_stand : Fut → L → Type 0) (may_serve : L → Ended L → Type 0) (may_leave : L → L → Type 0) (may_ready : Readiness E → Type 0)
    (may_init : I → Type 0) (may_make : Type 0) (factory : F) (service : S)
    → Creates fg may_stand may_serve may_leave may_ready may_init may_make factory
    → LiesWithin sg service (fg.may factory tt) (fg.may_ready factory tt) (fg.may_begin factory tt)
    → Stands sg may_stand may_serve may_leave may_ready service
stands_made fg sg may_stand may_serve may_leave may_ready may_init may_make factory service creates lies = record {
  callable = lies.callable;
  serves = λ link r given. creates.serves link r (lies.answers link r given);
  leaves = λ link future begun. creates.leaves link future (lies.futures link future begun);
  readies = λ answer given. creates.readies answer (lies.readiness answer given);
}

-- it is the link that was given
pub same_link : {L : Type 0} (identity : L → Identity) (may_serve : L → Ended L → Type 0) (may_leave : L → L → Type 0) (link back : L) (end : Outcome)
    → ((ended : Ended L) → may_serve link ended → identity ended.link ≡ identity link)
    → ((given : L) → may_leave link given → identity given ≡ identity link)
    → ComesBack may_serve may_leave link back end → identity back ≡ identity link
same_link identity may_serve may_leave link back end served left (inl ended) = served (record { link = back; how = ended.0 }) ended.2
same_link identity may_serve may_leave link back outcome.Served served left (inr held) = absurd held
same_link identity may_serve may_leave link back outcome.ReadFault served left (inr held) = absurd held
same_link identity may_serve may_leave link back outcome.WriteFault served left (inr held) = absurd held
same_link identity may_serve may_leave link back outcome.Upgraded served left (inr held) = absurd held
same_link identity may_serve may_leave link back (outcome.Lost None) served left (inr held) = ap identity held
same_link identity may_serve may_leave link back (outcome.Lost (Some worker)) served left (inr (inl held)) = ap identity held
same_link identity may_serve may_leave link back (outcome.Lost (Some worker)) served left (inr (inr held)) = left back held
same_link identity may_serve may_leave link back (outcome.Stopped false) served left (inr held) = ap identity held
same_link identity may_serve may_leave link back (outcome.Stopped true) served left (inr held) = left back held
same_link identity may_serve may_leave link back outcome.Memory served left (inr held) = left back held
