use Rattle.std.proofs.Common.{[]}
use Rattle.server.proofs.TakeBackSteps.{takes_one}
use Rattle.server.proofs.taking_back.take_one.Goals as goal

pub returns-clause-takes : goal.returns-clause-takes
returns-clause-takes g c =
    let t = c.take_back.ensures in
    let rings = (t.acts []).1.rings in
    takes_one c.args.acceptor.now c.take_back.new.self c.args.w c.args.notes.now c.take_back.new.notes c.args.entry c.requires.may t.same t.sent t.received t.from_it t.all rings.parcels rings.notes t.out t.order t.retired t.waiting t.rest
