use Rattle.std.proofs.Common.{◌≡◌, ◌+◌, ◌<◌, ◌≤◌, Some, All, length, take, arith, refl, rules, subst, sym}
use Rattle.std.specs.Prelude.{slice_get}
use Rattle.std.proofs.lemmas.Option.{slice_get_read}
use Rattle.std.proofs.lemmas.List.Sorted.{IsPermutation-swap}
use Rattle.server_worker.specs.Waited.{AreBerthed, HasWaited}
use Rattle.server_worker.proofs.BerthSteps.{berthed_same, settled_all, settled_berthed}
use Rattle.server_worker.proofs.connections.Connections.settle_at.Goals as goal

pub returns-then-set_berth-clause-moves : goal.returns-then-set_berth-clause-moves
returns-then-set_berth-clause-moves g c =
    let inside : c.args.at < length c.args.self.now.live.items = omega (arith, c.requires.inside, c.args.self.now.live.ok.0) in
    let behind : c.args.self.now.resting ≤ c.args.at = c.requires.behind in
    let first : c.args.self.now.resting < length c.args.self.now.live.items = omega (arith, inside, behind) in
    record {
      live = IsPermutation-swap c.args.self.now.live.items c.swap.new.self.items c.args.self.now.resting c.args.at first inside c.swap.ensures.items;
      parcels = refl;
      notes = refl;
      queue = refl;
      strays = refl;
      owed = refl;
      stopped = refl;
      forced = refl;
      told_ready = refl;
    }

pub invariant_of-self-clause-berthed : goal.invariant_of-self-clause-berthed
invariant_of-self-clause-berthed g c =
    let inside : c.args.at < length c.args.self.now.live.items = omega (arith, c.requires.inside, c.args.self.now.live.ok.0) in
    let is : slice_get c.args.self.now.live.items c.args.at ≡ Some c.index-live.result.now = slice_get_read c.args.self.now.live.items _ c.args.at c.index-live.result.now refl inside (search rules) in
    subst (λ ys. AreBerthed c.set_berth.new.berths.items (take (c.args.self.now.resting + 1) ys)) (sym c.swap.ensures.items)
    (settled_berthed c.args.self.now.live.items c.args.self.now.resting c.args.at c.index-live.result.now c.requires.behind inside is
    c.args.self.now.berths.items c.set_berth.new.berths.items c.in-Some.slot c.in-Some.is (c.set_berth.ensures.set c.if-set_berth.true) c.set_berth.ensures.others c.in_default-berth.ensures.none c.args.self.now.berthed)

pub invariant_of-self-clause-waited : goal.invariant_of-self-clause-waited
invariant_of-self-clause-waited g c =
    let inside : c.args.at < length c.args.self.now.live.items = omega (arith, c.requires.inside, c.args.self.now.live.ok.0) in
    let is : slice_get c.args.self.now.live.items c.args.at ≡ Some c.index-live.result.now = slice_get_read c.args.self.now.live.items _ c.args.at c.index-live.result.now refl inside (search rules) in
    let waited : HasWaited c.index-live.result.now = search rules in
    subst (λ ys. All HasWaited (take (c.args.self.now.resting + 1) ys)) (sym c.swap.ensures.items)
    (settled_all c.args.self.now.live.items c.args.self.now.resting c.args.at c.index-live.result.now c.requires.behind inside is HasWaited waited c.args.self.now.waited)

pub invariant_of-self-else-set_berth-clause-berthed : goal.invariant_of-self-else-set_berth-clause-berthed
invariant_of-self-else-set_berth-clause-berthed g c =
    berthed_same c.args.self.now.berths.items c.set_berth.new.berths.items (take c.args.self.now.resting c.args.self.now.live.items) (c.set_berth.ensures.same c.if-set_berth.false) c.args.self.now.berthed
