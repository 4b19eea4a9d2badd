use Rattle.std.proofs.Common.{◌≡◌, ◌<◌, ◌++◌, ◌∷◌, [], length, false, ap, arith}
use Rattle.std.specs.FinSet as set
use Rattle.server_core.specs.Core.{in_order}
use Rattle.server_core.specs.Turns.{Rota}
use Rattle.server_core.proofs.TurnSteps.{sound_added, added}
use Rattle.server_core.proofs.turns.Turns.add.Goals as goal

pub invariant_of-self : goal.invariant_of-self
invariant_of-self c =
    let room : length c.self.inside.order.items < 512 = rw (← c.self.view_is) at c.requires.room in
    let out : in_order c.self.inside.order.items c.args.w ≡ false = rw (← c.self.view_is) at c.requires.absent in
    let sound = sound_added c.self.inside c.args.w c.push.new.self.items c.len-place.result c.set_available.new.self c.self.invariant room out (omega arith)
    c.push.ensures.items c.len-place.ensures.value c.set_available.ensures in
    record { fits = sound.0; places = sound.1; marks = sound.2 }

pub returns : goal.returns
returns c =
    let out : in_order c.self.inside.order.items c.args.w ≡ false = rw (← c.self.view_is) at c.requires.absent in
    let free = added c.self.inside c.args.w c.push.new.self.items c.len-place.result c.set_available.new.self c.self.invariant out (omega arith)
    c.push.ensures.items c.len-place.ensures.value c.set_available.ensures in
    rw (free, c.push.ensures.items) (ap (λ (r : Rota). record r { order = r.order ++ c.args.w ∷ []; free = set.insert r.free c.args.w }) c.self.view_is)
