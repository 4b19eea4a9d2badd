-- A connection of a script that is served may cross threads where its link may.
-- Rattle states the same of each type that it can show it of, in a type's `TheSendSync`. The types of a connection under way have none there, so they stand here, each by its fields.
use Rattle.std.proofs.Crossing.{crosses}
use Rattle.cors_answer.proofs.fault.CorsFault.TheSendSync as cors_fault_facts
use Rattle.cors_answer.proofs.future.CorsFuture.TheSendSync as cors_future_facts
use Rattle.cors_answer.proofs.middleware.CorsMiddleware.TheSendSync as middleware_facts
use Rattle.cors_answer.specs.contracts.fault.CorsFault as cors_fault
use Rattle.cors_answer.specs.contracts.future.CorsFuture as cors_future
use Rattle.cors_answer.specs.contracts.middleware.CorsMiddleware as middleware
use Rattle.handlers.proofs.echo.Echo.TheSendSync as echo_facts
use Rattle.handlers.proofs.echo_upgrade.EchoUpgrade.TheSendSync as echo_upgrade_facts
use Rattle.handlers.proofs.expectation_fault.ExpectationFault.TheSendSync as expectation_fault_facts
use Rattle.handlers.proofs.handler_fault.HandlerFault.TheSendSync as handler_fault_facts
use Rattle.handlers.proofs.handler_service.HandlerService.TheSendSync as handler_service_facts
use Rattle.handlers.proofs.script_expect.ScriptExpect.TheSendSync as script_expect_facts
use Rattle.handlers.specs.contracts.echo.Echo as echo
use Rattle.handlers.specs.contracts.echo_upgrade.EchoUpgrade as echo_upgrade
use Rattle.handlers.specs.contracts.expectation_fault.ExpectationFault as expectation_fault
use Rattle.handlers.specs.contracts.handler_fault.HandlerFault as handler_fault
use Rattle.handlers.specs.contracts.handler_service.HandlerService as handler_service
use Rattle.handlers.specs.contracts.script_expect.ScriptExpect as script_expect
use Rattle.http1_dispatcher.specs.contracts.boxed.Boxed as boxed
use Rattle.http1_dispatcher.specs.contracts.dispatcher.Dispatcher as dispatcher
use Rattle.http1_dispatcher.specs.contracts.exchange.Exchange as exchange
use Rattle.http1_dispatcher.specs.contracts.exchange.Reply as reply
use Rattle.http1_dispatcher.specs.contracts.exchange.Stage as stage
use Rattle.http1_dispatcher.specs.contracts.inner_dispatcher.InnerDispatcher as inner
use Rattle.http1_dispatcher.specs.contracts.state.State as state
use Rattle.http1_dispatcher.specs.contracts.terms.Terms as terms
use Rattle.http1_dispatcher.specs.contracts.upgrade.Upgrade as upgrade
use Rattle.http1_plain.proofs.request.Request.TheSendSync as request_facts
use Rattle.http1_plain.proofs.request_head.RequestHead.TheSendSync as head_facts
use Rattle.http1_plain.proofs.response.Response.TheSendSync as response_facts
use Rattle.http1_plain.specs.contracts.request.Request as request
use Rattle.http1_plain.specs.contracts.request_head.RequestHead as head
use Rattle.http1_plain.specs.contracts.response.Response as response
use Rattle.http_flow.proofs.framed.Handed.TheSendSync as handed_facts
use Rattle.http_flow.proofs.never.Never.TheSendSync as never_facts
use Rattle.http_flow.specs.contracts.framed.Handed as handed
use Rattle.http_flow.specs.contracts.never.Never as never
use Rattle.script.proofs.policy.script_rule.ScriptRule.TheSendSync as script_rule_facts
use Rattle.script.specs.contracts.policy.script_rule.ScriptRule as script_rule
use Rattle.script_service.specs.contracts.replay_future.ReplayFuture as replay
use Rattle.service_core.proofs.ready_future.Ready.TheSendSync as ready_facts
use Rattle.service_core.specs.contracts.ready_future.Ready as ready
use Rattle.std.proofs.result.Result.TheSendSync as result_facts
use Rattle.std.specs.contracts.option.Option as option
use Rattle.std.specs.contracts.result.Result as result
use denote.RattleType.{RattleType}
use denote.Struct.Field.{row_field}
use denote.Param.Send.{IsSend, IsSync, sendable}
use denote.Param.SendFields.{as_row_send, as_row_sync, declared_send, declared_sync, variants_send, variants_sync}

ruleset parts = (sendable, crosses, as_row_send, as_row_sync, declared_send, declared_sync, variants_send, variants_sync)

boxed_sends : IsSend (boxed.the_row head.the_row)
boxed_sends = search (parts, head_facts.the_send) depth 40 fits 10000

reply_sends : IsSend reply.the_row
reply_sends = search (parts) depth 40 fits 10000

maybe_request_sends : IsSend (option.the_row request.the_row)
maybe_request_sends = search (parts, request_facts.the_send) depth 40 fits 10000

stage_sends : IsSend stage.the_row
stage_sends = search (parts, boxed_sends, reply_sends) depth 40 fits 10000

exchange_sends : IsSend exchange.the_row
exchange_sends = declared_send exchange.the_type (search (parts) depth 40 fits 10000, (search (parts) depth 40 fits 10000, (stage_sends, (maybe_request_sends, tt))))

module _ (L S X U R E F Q XE XF H UE UF : RattleType) (link : IsSend L) (service : IsSend S) (service_shared : IsSync S) (expect : IsSend X) (expect_shared : IsSync X)
    (upgrade_service : IsSend U) (upgrade_shared : IsSync U) (response : IsSend R) (error : IsSend E) (future : IsSend F) (request : IsSend Q) (expect_error : IsSend XE) (expect_future : IsSend XF)
    (handed : IsSend H) (upgrade_error : IsSend UE) (upgrade_future : IsSend UF) where
  terms_send : IsSend (terms.the_row L S X U)
  terms_send = search (parts) depth 40 fits 10000

  inner_sends : IsSend (inner.the_row L S X U R E F Q XE XF)
  inner_sends = declared_send (inner.the_type L S X U R E F Q XE XF)
      (terms_send, (as_row_send (row_field L) link, (search (parts) depth 40 fits 10000, (exchange_sends, (search (parts) depth 40 fits 10000, (search (parts) depth 40 fits 10000, tt))))))

  upgrade_sends : IsSend (upgrade.the_row L S X U H UE UF)
  upgrade_sends = search (parts) depth 40 fits 10000

  state_sends : IsSend (state.the_row L S X U R E F Q XE XF H UE UF)
  state_sends = search (parts, inner_sends, upgrade_sends) depth 40 fits 10000

  pub dispatcher_sends : IsSend (dispatcher.the_row L S X U R E F Q XE XF H UE UF)
  dispatcher_sends = declared_send (dispatcher.the_type L S X U R E F Q XE XF H UE UF) (state_sends, tt)

abbrev service_row : RattleType
service_row = middleware.the_row handler_service.the_row script_rule.the_row

abbrev ready_row : RattleType → RattleType → RattleType
ready_row R E = ready.the_row (result.the_row R E)

ready_sends : (R E : RattleType) → IsSend R → IsSend E → IsSend (ready_row R E)
ready_sends R E of_value of_error = ready_facts.the_send (result.the_row R E) (result_facts.the_send R E of_value of_error)

abbrev future_row : RattleType
future_row = cors_future.the_row (ready_row response.the_row handler_fault.the_row) script_rule.the_row

abbrev pub connection_row : RattleType → RattleType
connection_row L = dispatcher.the_row L service_row script_expect.the_row echo_upgrade.the_row response.the_row cors_fault.the_row future_row request.the_row
    expectation_fault.the_row (ready_row request.the_row expectation_fault.the_row) (handed.the_row L) never.the_row (echo.the_row L)

pub connection_sends : (L : RattleType) → IsSend L → IsSend (connection_row L)
connection_sends L link = dispatcher_sends L service_row script_expect.the_row echo_upgrade.the_row response.the_row cors_fault.the_row future_row request.the_row
    expectation_fault.the_row (ready_row request.the_row expectation_fault.the_row) (handed.the_row L) never.the_row (echo.the_row L)
    link
    (middleware_facts.the_send handler_service.the_row script_rule.the_row handler_service_facts.the_send script_rule_facts.the_send script_rule_facts.the_sync)
    (middleware_facts.the_sync handler_service.the_row script_rule.the_row script_rule_facts.the_send handler_service_facts.the_sync script_rule_facts.the_sync)
    script_expect_facts.the_send script_expect_facts.the_sync echo_upgrade_facts.the_send echo_upgrade_facts.the_sync
    response_facts.the_send cors_fault_facts.the_send
    (cors_future_facts.the_send (ready_row response.the_row handler_fault.the_row) script_rule.the_row
    (ready_sends response.the_row handler_fault.the_row response_facts.the_send handler_fault_facts.the_send) script_rule_facts.the_send script_rule_facts.the_sync)
    request_facts.the_send expectation_fault_facts.the_send
    (ready_sends request.the_row expectation_fault.the_row request_facts.the_send expectation_fault_facts.the_send)
    (handed_facts.the_send L link) never_facts.the_send (echo_facts.the_send L link)

pub replay_sends : (L : RattleType) → IsSend L → IsSend (replay.the_row L)
replay_sends L link = declared_send (replay.the_type L) (connection_sends L link, tt)
