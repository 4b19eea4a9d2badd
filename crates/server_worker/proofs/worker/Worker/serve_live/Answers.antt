use Rattle.std.proofs.Common.{◌≡◌, ◌∙◌, length, sym}
use Rattle.server_worker.proofs.ServeSteps.{serves_accounts, serves_due, serves_no_ready, serves_polls, serves_sound, serves_stops, serves_tells}
use Rattle.server_worker.proofs.worker.Worker.serve_live.Goals as goal

pub returns-clause-sound : goal.returns-clause-sound
returns-clause-sound g c =
    let many : length c.args.self.now.services.slots.items ≡ c.len.result = sym (c.len.ensures ∙ c.args.self.now.services.slots.ok.0) in
    rw many (serves_sound _ _ _ _ _ _ _ _ _ _ _ _ c.poll_live.ensures.polls c.post-self.ensures.posts)

pub returns-clause-accounts : goal.returns-clause-accounts
returns-clause-accounts g c = serves_accounts _ _ _ _ _ _ _ _ _ _ _ _ c.poll_live.ensures.polls c.post-self.ensures.posts

pub returns-clause-polls : goal.returns-clause-polls
returns-clause-polls g c = serves_polls _ _ _ _ _ _ _ _ _ _ _ _ c.poll_live.ensures.polls c.post-self.ensures.posts

pub returns-clause-due : goal.returns-clause-due
returns-clause-due g c = serves_due _ _ _ _ _ _ _ _ _ _ _ _ c.poll_live.ensures.polls c.post-self.ensures.posts

pub returns-clause-tells : goal.returns-clause-tells
returns-clause-tells g c =
    let many : length c.args.self.now.services.slots.items ≡ c.len.result = sym (c.len.ensures ∙ c.args.self.now.services.slots.ok.0) in
    rw many (serves_tells _ _ _ _ _ _ _ _ _ _ _ _ c.poll_live.ensures.polls c.post-self.ensures.posts)

pub returns-clause-no_ready : goal.returns-clause-no_ready
returns-clause-no_ready g c = serves_no_ready _ _ _ _ _ _ _ _ _ _ _ _ c.poll_live.ensures.polls c.post-self.ensures.posts

pub returns-clause-stops : goal.returns-clause-stops
returns-clause-stops g c = serves_stops _ _ _ _ _ _ _ _ _ _ _ _ c.poll_live.ensures.polls c.post-self.ensures.posts
