use Rattle.http1_dispatcher.specs.Dispatching.{BeginsWith}
use Rattle.http_service.proofs.Made.{made_by}
use Rattle.http_service.proofs.http_tcp_factory.HttpTcpFactoryServiceFactory.new_service.Goals as goal

pub returns-clause-made : goal.returns-clause-made
returns-clause-made g c = made_by g.T.Link g.S.ServiceFactory g.S.Error.ErrorResponse.response g.X.ServiceFactory g.X.Error.ErrorResponse.response
    g.U.ServiceFactory g.S.Service.Service g.X.Service.Service g.U.Service.Service c.args.self.now _ _ _ _ (λ h lies. record {
      callable = lies.callable _ c.requires;
      answers = λ link. lies.serves (g.T.Link.identity link).peer link;
      futures = λ link. lies.served_by BeginsWith _ _ (g.T.Link.identity link).peer link;
      readiness = lies.readies;
    }) _ c.self.view_is _ c.make.ensures.made
