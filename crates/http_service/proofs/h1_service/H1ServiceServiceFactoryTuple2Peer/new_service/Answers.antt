use Rattle.http1_dispatcher.specs.Dispatching.{BeginsWith}
use Rattle.http_service.proofs.Made.{made_by}
use Rattle.http_service.proofs.h1_service.H1ServiceServiceFactoryTuple2Peer.new_service.Goals as goal

pub returns-clause-made : goal.returns-clause-made
returns-clause-made g c = made_by g.T.Link g.S.ServiceFactory g.S.Error.ErrorResponse.response g.X.ServiceFactory g.X.Error.ErrorResponse.response
    g.U.ServiceFactory g.S.Service.Service g.X.Service.Service g.U.Service.Service c.args.self.now _ _ _ _ (λ h lies. record {
      callable = lies.callable _ c.requires;
      answers = λ asked. lies.serves asked.1 asked.0;
      futures = λ asked. lies.served_by BeginsWith _ _ asked.1 asked.0;
      readiness = lies.readies;
    }) _ c.self.view_is _ c.make.ensures.made
