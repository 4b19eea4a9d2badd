use Rattle.std.proofs.Common.{refl, rules}
use Rattle.server_worker.proofs.AdmitSteps.{admits_none, admits_one, sound_admitted}
use Rattle.server_worker.proofs.admitting.admit_one.Goals as goal

pub returns-in_default-clause-admits : goal.returns-in_default-clause-admits
returns-in_default-clause-admits g c = admits_none _ _ _ refl refl refl refl refl refl refl refl (search rules)

pub returns-clause-sound : goal.returns-clause-sound
returns-clause-sound g c = sound_admitted g.L.Link.identity c.args.hand.now _ c.in-Some.waiting c.begin.result refl refl refl refl refl refl refl c.in-Some.ensures.items c.push_reserved.ensures.items
    c.begin.ensures.serial c.begin.ensures.token c.begin.ensures.place c.begin.ensures.given _ _ _ _ _ _ c.requires.sound c.begin.ensures.serves

pub returns-clause-admits : goal.returns-clause-admits
returns-clause-admits g c = admits_one g.L.Link.identity c.args.hand.now _ c.in-Some.waiting c.begin.result refl refl refl refl refl refl refl c.in-Some.ensures.items c.push_reserved.ensures.items
    c.begin.ensures.serial c.begin.ensures.token c.begin.ensures.place c.begin.ensures.given c.begin.ensures.fresh
