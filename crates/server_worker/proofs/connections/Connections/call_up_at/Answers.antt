use Rattle.std.proofs.Common.{◌≡◌, ◌+◌, ◌<◌, ◌≤◌, ◌-◌, Some, All, length, take, arith, refl, rules, subst, sym}
use Rattle.std.specs.List.{swap}
use Rattle.std.specs.Prelude.{slice_get}
use Rattle.std.proofs.lemmas.Option.{slice_get_read}
use Rattle.server_worker.specs.Waited.{AreAmong, AreBerthed, HasWaited, NoneWaitsFor}
use Rattle.server_worker.proofs.BerthSteps.{all_among, called_all, called_among, called_left}
use Rattle.server_worker.proofs.DueSteps.{moved_swapped}
use Rattle.server_worker.proofs.connections.Connections.call_up_at.Goals as goal

pub returns-clause-moves : goal.returns-clause-moves
returns-clause-moves g c =
    let last : c.args.self.now.resting ≤ length c.args.self.now.live.items = omega (arith, c.args.self.now.within, c.args.self.now.live.ok.0) in
    moved_swapped c.args.self.now _ c.args.at (c.args.self.now.resting - 1) (omega (arith, last, c.requires.rests)) (omega (arith, last, c.requires.rests)) c.swap.ensures.items refl refl refl refl refl refl refl refl

pub returns-clause-among : goal.returns-clause-among
returns-clause-among g c =
    let more : (c.args.self.now.resting - 1) + 1 ≡ c.args.self.now.resting = omega (arith, c.requires.rests) in
    let inside : c.args.self.now.resting - 1 < length c.args.self.now.live.items = omega (arith, c.args.self.now.within, c.args.self.now.live.ok.0, c.requires.rests) in
    let is : slice_get c.args.self.now.live.items (c.args.self.now.resting - 1) ≡ Some c.index.result.now = slice_get_read c.args.self.now.live.items _ (c.args.self.now.resting - 1) c.index.result.now refl inside (search rules) in
    let berthed : AreBerthed c.args.self.now.berths.items (take ((c.args.self.now.resting - 1) + 1) c.args.self.now.live.items) = subst (λ n. AreBerthed c.args.self.now.berths.items (take n c.args.self.now.live.items)) (sym more) c.args.self.now.berthed in
    subst (λ ys. AreAmong (take (c.args.self.now.resting - 1) ys) (take c.args.self.now.resting c.args.self.now.live.items)) (sym c.swap.ensures.items)
    (subst (λ n. AreAmong (take (c.args.self.now.resting - 1) (swap c.args.self.now.live.items c.args.at (c.args.self.now.resting - 1))) (take n c.args.self.now.live.items)) more
    (called_among c.args.self.now.berths.items c.args.self.now.live.items c.args.at (c.args.self.now.resting - 1) c.index.result.now (omega (arith, c.requires.rests)) inside is berthed))

pub returns-clause-left : goal.returns-clause-left
returns-clause-left g c slot stood =
    let more : (c.args.self.now.resting - 1) + 1 ≡ c.args.self.now.resting = omega (arith, c.requires.rests) in
    let inside : c.args.self.now.resting - 1 < length c.args.self.now.live.items = omega (arith, c.args.self.now.within, c.args.self.now.live.ok.0, c.requires.rests) in
    let is : slice_get c.args.self.now.live.items (c.args.self.now.resting - 1) ≡ Some c.index.result.now = slice_get_read c.args.self.now.live.items _ (c.args.self.now.resting - 1) c.index.result.now refl inside (search rules) in
    let berthed : AreBerthed c.args.self.now.berths.items (take ((c.args.self.now.resting - 1) + 1) c.args.self.now.live.items) = subst (λ n. AreBerthed c.args.self.now.berths.items (take n c.args.self.now.live.items)) (sym more) c.args.self.now.berthed in
    subst (λ ys. NoneWaitsFor slot (take (c.args.self.now.resting - 1) ys)) (sym c.swap.ensures.items)
    (called_left c.args.self.now.berths.items c.args.self.now.live.items c.args.at (c.args.self.now.resting - 1) c.index.result.now (omega (arith, c.requires.rests)) inside is berthed slot stood)

pub invariant_of-self-clause-berthed : goal.invariant_of-self-clause-berthed
invariant_of-self-clause-berthed g c =
    let more : (c.args.self.now.resting - 1) + 1 ≡ c.args.self.now.resting = omega (arith, c.requires.rests) in
    let inside : c.args.self.now.resting - 1 < length c.args.self.now.live.items = omega (arith, c.args.self.now.within, c.args.self.now.live.ok.0, c.requires.rests) in
    let is : slice_get c.args.self.now.live.items (c.args.self.now.resting - 1) ≡ Some c.index.result.now = slice_get_read c.args.self.now.live.items _ (c.args.self.now.resting - 1) c.index.result.now refl inside (search rules) in
    let berthed : AreBerthed c.args.self.now.berths.items (take ((c.args.self.now.resting - 1) + 1) c.args.self.now.live.items) = subst (λ n. AreBerthed c.args.self.now.berths.items (take n c.args.self.now.live.items)) (sym more) c.args.self.now.berthed in
    subst (λ ys. AreBerthed c.move_berth.new.berths.items (take (c.args.self.now.resting - 1) ys)) (sym c.swap.ensures.items)
    (called_all c.args.self.now.berths.items c.args.self.now.live.items c.args.at (c.args.self.now.resting - 1) c.index.result.now (omega (arith, c.requires.rests)) inside is berthed
    c.move_berth.new.berths.items (λ slot waits there. c.move_berth.ensures slot waits (omega (arith, there, c.args.self.now.berths.ok.0))))

pub invariant_of-self-clause-waited : goal.invariant_of-self-clause-waited
invariant_of-self-clause-waited g c =
    let more : (c.args.self.now.resting - 1) + 1 ≡ c.args.self.now.resting = omega (arith, c.requires.rests) in
    let inside : c.args.self.now.resting - 1 < length c.args.self.now.live.items = omega (arith, c.args.self.now.within, c.args.self.now.live.ok.0, c.requires.rests) in
    let is : slice_get c.args.self.now.live.items (c.args.self.now.resting - 1) ≡ Some c.index.result.now = slice_get_read c.args.self.now.live.items _ (c.args.self.now.resting - 1) c.index.result.now refl inside (search rules) in
    let berthed : AreBerthed c.args.self.now.berths.items (take ((c.args.self.now.resting - 1) + 1) c.args.self.now.live.items) = subst (λ n. AreBerthed c.args.self.now.berths.items (take n c.args.self.now.live.items)) (sym more) c.args.self.now.berthed in
    let waited : All HasWaited (take ((c.args.self.now.resting - 1) + 1) c.args.self.now.live.items) = subst (λ n. All HasWaited (take n c.args.self.now.live.items)) (sym more) c.args.self.now.waited in
    subst (λ ys. All HasWaited (take (c.args.self.now.resting - 1) ys)) (sym c.swap.ensures.items)
    (all_among HasWaited _ _ (called_among c.args.self.now.berths.items c.args.self.now.live.items c.args.at (c.args.self.now.resting - 1) c.index.result.now (omega (arith, c.requires.rests)) inside is berthed) waited)
