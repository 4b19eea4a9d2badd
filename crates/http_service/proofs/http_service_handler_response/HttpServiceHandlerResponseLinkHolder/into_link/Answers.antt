use Rattle.std.proofs.Common.{refl}
use Rattle.http_service.proofs.http_service_handler_response.HttpServiceHandlerResponseLinkHolder.into_link.Goals as goal

pub returns-in-Unsupported : goal.returns-in-Unsupported
returns-in-Unsupported g c =
    rw c.in-Unsupported.is (record { value = c.unwrap-link.result; is = c.unwrap-link.ensures; holds = refl })
