-- A connection may cross threads, since all that it is made of may.
use Rattle.gated_tests.proofs.call.Call.TheSendSync as call_facts
use Rattle.gated_tests.proofs.flags.SharedFlags.TheSendSync as flags_facts
use Rattle.gated_tests.proofs.gate.Gate.TheSendSync as gate_facts
use Rattle.gated_tests.specs.contracts.call.Call as call
use Rattle.gated_tests.specs.contracts.flags.SharedFlags as flags
use Rattle.gated_tests.specs.contracts.gate.Gate as gate
use Rattle.gated_tests.specs.contracts.gate_future.GateFuture as gate_future
use Rattle.http1_plain.proofs.request.Request.TheSendSync as request_facts
use Rattle.http1_plain.proofs.response.Response.TheSendSync as response_facts
use Rattle.http1_plain.specs.contracts.request.Request as request
use Rattle.http1_plain.specs.contracts.response.Response as response
use Rattle.http_flow.proofs.expect_handler.ExpectHandler.TheSendSync as expect_facts
use Rattle.http_flow.proofs.framed.Handed.TheSendSync as handed_facts
use Rattle.http_flow.proofs.never.Never.TheSendSync as never_facts
use Rattle.http_flow.proofs.upgrade_handler.UpgradeHandler.TheSendSync as upgrade_facts
use Rattle.http_flow.proofs.upgrade_handler_future.UpgradeHandlerFuture.TheSendSync as upgrade_future_facts
use Rattle.http_flow.specs.contracts.expect_handler.ExpectHandler as expect
use Rattle.http_flow.specs.contracts.framed.Handed as handed
use Rattle.http_flow.specs.contracts.never.Never as never
use Rattle.http_flow.specs.contracts.upgrade_handler.UpgradeHandler as upgrade
use Rattle.http_flow.specs.contracts.upgrade_handler_future.UpgradeHandlerFuture as upgrade_future
use Rattle.script_service.proofs.Crossing.{dispatcher_sends}
use Rattle.server_run.proofs.memory_link.MemoryLink.TheSendSync as memory_link_facts
use Rattle.server_run.specs.contracts.memory_link.MemoryLink as memory_link
use Rattle.service_core.proofs.ready_future.Ready.TheSendSync as ready_facts
use Rattle.service_core.specs.contracts.ready_future.Ready as ready
use Rattle.std.proofs.alloc.AllocError.TheSendSync as alloc_error_facts
use Rattle.std.proofs.result.Result.TheSendSync as result_facts
use Rattle.std.specs.contracts.alloc.AllocError as alloc_error
use Rattle.std.specs.contracts.result.Result as result
use denote.Exit.{no}
use denote.Param.Send.{IsSend, arg_send, param_send}
use denote.Param.SendFields.{declared_send}
use denote.RattleType.{RattleType}
use Rattle.gated_tests.proofs.serving.meet.Goals as goal

abbrev expected_row : RattleType
expected_row = result.the_row request.the_row never.the_row

expected_sends : IsSend (ready.the_row expected_row)
expected_sends = ready_facts.the_send expected_row (result_facts.the_send request.the_row never.the_row request_facts.the_send never_facts.the_send)

future_sends : (L : RattleType) → IsSend L → IsSend (gate_future.the_row L)
future_sends L link = declared_send (gate_future.the_type L) (
  dispatcher_sends L (gate.the_row flags.the_row) expect.the_row upgrade.the_row response.the_row alloc_error.the_row (call.the_row flags.the_row) request.the_row
      never.the_row (ready.the_row expected_row) (handed.the_row L) never.the_row (upgrade_future.the_row L)
      link
      (gate_facts.the_send flags.the_row flags_facts.the_send) (gate_facts.the_sync flags.the_row flags_facts.the_sync)
      expect_facts.the_send expect_facts.the_sync upgrade_facts.the_send upgrade_facts.the_sync
      response_facts.the_send alloc_error_facts.the_send (call_facts.the_send flags.the_row flags_facts.the_send)
      request_facts.the_send never_facts.the_send expected_sends
      (handed_facts.the_send L link) never_facts.the_send (upgrade_future_facts.the_send L link),
  tt,
)

pub serve-requires-send-F-Factory-Service-Future : goal.serve-requires-send-F-Factory-Service-Future
serve-requires-send-F-Factory-Service-Future g c = λ κs lives. param_send 19 _ (arg_send _ no _ (future_sends memory_link.the_row memory_link_facts.the_send))
