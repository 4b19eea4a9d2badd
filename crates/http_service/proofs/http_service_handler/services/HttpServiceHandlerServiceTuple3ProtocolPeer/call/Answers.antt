use Rattle.std.proofs.Common.{◌≡◌, refl}
use Rattle.http_service.specs.Serving.{IsUnsupported}
use Rattle.http_service.proofs.Refusing.{kept-holds, unsupported}
use Rattle.http_service.proofs.http_service_handler.services.HttpServiceHandlerServiceTuple3ProtocolPeer.call.Goals as goal

pub returns-in-Http2 : goal.returns-in-Http2
returns-in-Http2 g c =
    let asked = c.args.asked in
    record {
      fits = (
        record { value = (asked.1, asked.0); is = refl; holds = tt },
        λ r given. unsupported asked.1 _ _ c.in-Http2.is r (kept-holds _ (λ kept. IsUnsupported kept.0 kept.1 r) given),
      );
      stands = λ left stands. unsupported asked.1 _ _ c.in-Http2.is left (kept-holds _ (λ kept. left ≡ kept.1) stands);
      starts = unsupported asked.1 _ _ c.in-Http2.is _ refl;
    }
