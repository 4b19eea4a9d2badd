-- The connections may cross threads.
use Rattle.script_service.proofs.Crossing.{replay_sends}
use Rattle.bench_serve.proofs.asking_link.AskingLink.TheSendSync as link_facts
use Rattle.bench_serve.specs.contracts.asking_link.AskingLink as asking_link
use denote.Exit.{no}
use denote.Param.Send.{arg_send, param_send}
use Rattle.bench_serve.proofs.serving.serve.Goals as goal

pub serve-requires-send-F-Factory-Service-Future : goal.serve-requires-send-F-Factory-Service-Future
serve-requires-send-F-Factory-Service-Future g c = λ κs lives. param_send 19 _ (arg_send _ no _ (replay_sends asking_link.the_row link_facts.the_send))
