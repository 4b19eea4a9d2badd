use Rattle.std.proofs.Common.{◌≡◌, ◌∙◌, length, sym}
use Rattle.server_worker.proofs.StopTurns.{gone_accounts, gone_no_ready, gone_sound, gone_tells, gone_unreturned, gone_up}
use Rattle.server_worker.proofs.worker.Worker.give_up.Goals as goal

pub returns-clause-sound : goal.returns-clause-sound
returns-clause-sound g c =
    let many : length c.args.self.now.services.slots.items ≡ c.len-2.result = sym (c.len-2.ensures ∙ c.args.self.now.services.slots.ok.0) in
    rw many (gone_sound _ _ _ _ _ _ _ _ _ _ c.give_up_live.ensures.goes c.post-self.ensures.posts c.give_up_live.ensures.sound)

pub returns-clause-accounts : goal.returns-clause-accounts
returns-clause-accounts g c = gone_accounts _ _ _ _ _ _ _ _ _ _ c.give_up_live.ensures.goes c.post-self.ensures.posts c.give_up_live.ensures.sound

pub returns-clause-tells : goal.returns-clause-tells
returns-clause-tells g c =
    let many : length c.args.self.now.services.slots.items ≡ c.len-2.result = sym (c.len-2.ensures ∙ c.args.self.now.services.slots.ok.0) in
    rw many (gone_tells _ _ _ _ _ _ _ _ _ _ c.give_up_live.ensures.goes c.post-self.ensures.posts c.give_up_live.ensures.sound)

pub returns-clause-no_ready : goal.returns-clause-no_ready
returns-clause-no_ready g c = gone_no_ready _ _ _ _ _ _ _ _ _ _ c.give_up_live.ensures.goes c.post-self.ensures.posts c.give_up_live.ensures.sound

pub returns-clause-gives_up : goal.returns-clause-gives_up
returns-clause-gives_up g c = gone_up _ _ _ _ _ _ _ _ _ _ c.give_up_live.ensures.goes c.post-self.ensures.posts c.give_up_live.ensures.sound c.give_up_live.ensures.rest

pub returns-clause-unreturned : goal.returns-clause-unreturned
returns-clause-unreturned g c = gone_unreturned _ _ _ _ _ _ _ _ _ _ c.give_up_live.ensures.goes c.post-self.ensures.posts c.give_up_live.ensures.sound
