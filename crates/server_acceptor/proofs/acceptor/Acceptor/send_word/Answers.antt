use Rattle.std.proofs.Common.{◌≡◌, ◌≢◌, ℕ, true, false, sym, subst, inl, inr, rules}
use Rattle.server_acceptor.specs.Stopping.{GotWord, LacksWord}
use Rattle.server_acceptor.proofs.acceptor.Acceptor.send_word.Goals as goal

pub returns-then-force-clause-got : goal.returns-then-force-clause-got
returns-then-force-clause-got g c =
    let is : c.args.force ≡ true = search rules in
    subst (λ f. c.send_force.result ≡ true → GotWord c.send_force.new.self f c.args.w) (sym is) c.send_force.ensures.got

pub returns-then-force-clause-lacks : goal.returns-then-force-clause-lacks
returns-then-force-clause-lacks g c =
    let is : c.args.force ≡ true = search rules in
    subst (λ f. c.send_force.result ≡ false → LacksWord c.send_force.new.self f c.args.w) (sym is) c.send_force.ensures.lacks

pub returns-then-force-clause-others : goal.returns-then-force-clause-others
returns-then-force-clause-others g c =
    let is : c.args.force ≡ true = search rules in
    subst (λ f. (v : ℕ) → GotWord c.args.self.now f v → GotWord c.send_force.new.self f v) (sym is) c.send_force.ensures.others

pub returns-then-force-clause-still : goal.returns-then-force-clause-still
returns-then-force-clause-still g c =
    let is : c.args.force ≡ true = search rules in
    subst (λ f. (v : ℕ) → v ≢ c.args.w → LacksWord c.args.self.now f v → LacksWord c.send_force.new.self f v) (sym is) c.send_force.ensures.still

pub returns-then-force-clause-forces : goal.returns-then-force-clause-forces
returns-then-force-clause-forces g c v has = inr (search rules)

pub returns-else-force-clause-got : goal.returns-else-force-clause-got
returns-else-force-clause-got g c =
    let is : c.args.force ≡ false = search rules in
    subst (λ f. c.send_stop.result ≡ true → GotWord c.send_stop.new.self f c.args.w) (sym is) c.send_stop.ensures.got

pub returns-else-force-clause-lacks : goal.returns-else-force-clause-lacks
returns-else-force-clause-lacks g c =
    let is : c.args.force ≡ false = search rules in
    subst (λ f. c.send_stop.result ≡ false → LacksWord c.send_stop.new.self f c.args.w) (sym is) c.send_stop.ensures.lacks

pub returns-else-force-clause-others : goal.returns-else-force-clause-others
returns-else-force-clause-others g c =
    let is : c.args.force ≡ false = search rules in
    subst (λ f. (v : ℕ) → GotWord c.args.self.now f v → GotWord c.send_stop.new.self f v) (sym is) c.send_stop.ensures.others

pub returns-else-force-clause-still : goal.returns-else-force-clause-still
returns-else-force-clause-still g c =
    let is : c.args.force ≡ false = search rules in
    subst (λ f. (v : ℕ) → v ≢ c.args.w → LacksWord c.args.self.now f v → LacksWord c.send_stop.new.self f v) (sym is) c.send_stop.ensures.still

pub returns-else-force-clause-forces : goal.returns-else-force-clause-forces
returns-else-force-clause-forces g c v has = inl (c.send_stop.ensures.forces v has)
