use Rattle.std.proofs.Common.{◌≡◌, ◌≤◌, Some, length, refl, rules}
use Rattle.std.specs.Prelude.{slice_get}
use Rattle.std.proofs.lemmas.Option.{slice_get_past, slice_get_read}
use Rattle.server_worker.proofs.BerthSteps.{none_beside, none_without}
use Rattle.server_worker.proofs.connections.Connections.berth.Goals as goal

pub returns-then-slot-len-clause-none : goal.returns-then-slot-len-clause-none
returns-then-slot-len-clause-none g c =
    let past : length c.args.self.now.berths.items ≤ c.args.slot = search rules in
    none_without c.args.self.now.berths.items _ _ c.args.self.now.berthed (slice_get_past c.args.self.now.berths.items c.args.slot past)

pub returns-else-waits_at-clause-none : goal.returns-else-waits_at-clause-none
returns-else-waits_at-clause-none g c =
    let is : slice_get c.args.self.now.berths.items c.args.slot ≡ Some c.index-at.result.now = slice_get_read c.args.self.now.berths.items _ c.args.slot c.index-at.result.now refl (search rules) (search rules) in
    none_beside c.args.self.now.berths.items c.args.self.now.resting c.args.self.now.live.items c.args.slot c.index-at.result.now c.args.self.now.berthed is (c.waits_at.ensures.other c.if-waits_at.false)

pub returns-then-waits_at-clause-some : goal.returns-then-waits_at-clause-some
returns-then-waits_at-clause-some g c =
    let is : slice_get c.args.self.now.berths.items c.args.slot ≡ Some c.index-at.result.now = slice_get_read c.args.self.now.berths.items _ c.args.slot c.index-at.result.now refl (search rules) (search rules) in
    (c.waits_at.ensures.rests c.if-waits_at.true, is)
