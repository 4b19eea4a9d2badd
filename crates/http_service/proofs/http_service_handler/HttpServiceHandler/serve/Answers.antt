use Rattle.http_service.proofs.http_service_handler.HttpServiceHandler.serve.Goals as goal

pub returns-clause-gives : goal.returns-clause-gives
returns-clause-gives g c = (
  c.new.ensures.gives.0,
  rw (← c.self.view_is)
      (simp (c.limits-limits.ensures, c.stays_open-keeps_alive.ensures, c.keep_alive.ensures) at c.new.ensures.gives.1),
)
