use Rattle.server_worker.proofs.ServeSteps.{posted_accounts, posted_no_ready, posted_sound, posted_stops, posted_tells}
use Rattle.server_worker.proofs.worker.Worker.hand_back.Goals as goal

pub returns-clause-sound : goal.returns-clause-sound
returns-clause-sound g c = posted_sound _ _ _ _ _ _ g.L.Link.identity _ _ c.requires.sound c.post-self.ensures.posts

pub returns-clause-accounts : goal.returns-clause-accounts
returns-clause-accounts g c = posted_accounts _ _ _ _ _ _ g.L.Link.identity _ _ c.requires.sound c.post-self.ensures.posts

pub returns-clause-tells : goal.returns-clause-tells
returns-clause-tells g c = posted_tells _ _ _ _ _ _ g.L.Link.identity _ _ c.requires.sound c.post-self.ensures.posts

pub returns-clause-no_ready : goal.returns-clause-no_ready
returns-clause-no_ready g c = posted_no_ready _ _ _ _ _ _ g.L.Link.identity _ _ c.requires.sound c.post-self.ensures.posts

pub returns-clause-stops : goal.returns-clause-stops
returns-clause-stops g c = posted_stops _ _ _ _ _ _ g.L.Link.identity _ _ c.requires.sound c.post-self.ensures.posts
