use Rattle.std.proofs.Common.{Ok}
use Rattle.example_http.proofs.written.Goals as goal

-- a service that was made may be called
pub call-requires : goal.call-requires
call-requires g c = (c.new_service.ensures.made (Ok c.in-Ok-Ok.connections) (rw c.in-Ok-Ok.field-0-is at c.in-Ok-Ok.ensures)).1.callable
