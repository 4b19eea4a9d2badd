-- What the events of a turn leave as it is: which workers are in order, and which are retired.
use Rattle.std.proofs.Common.{◌≡◌, ◌∷◌, [], ℕ, ◌==◌, Bool, true, false, cond, List, Option, None, Some, refl, sym, ◌∙◌, ap, arith, subst}
use Rattle.std.specs.Prelude.{count_by, find, is_some, ◌&&◌, ◌||◌}
use Rattle.std.proofs.lemmas.Bool.Decides.{nat_tests}
use Rattle.std.specs.FinSet as set
use Rattle.std.proofs.lemmas.List.Sums.{sum_by-cons}
use Rattle.server_core.proofs.Orders.{and_right}
use Rattle.server_core.proofs.Picks.{in_round}
use Rattle.server_core.specs.Core.{Core, allowed, first_free, in_order, is_at, is_worker, round, step}
use Rattle.server_core.specs.Runs.{AllAllowed, after_all}
use Rattle.server_core.specs.declared.command.Command.TheVariants.{Pause, Resume, Stop}
use Rattle.server_core.specs.declared.event.Event.{Event}
use Rattle.server_core.specs.declared.event.Event.TheVariants.{Command, Notice, Back, Got, Sent, RingFull, Faulted, Replaced, Retired, ListenerFailed, ListenerEnded}
use Rattle.server_acceptor.specs.Accepting.{is_sent}
use Rattle.server_acceptor.specs.Logging.{AllOfUse, IsOfUse}

order_step : (s : Core) (e : Event) → IsOfUse s e → ((step s e).order ≡ s.order) × ((step s e).retired ≡ s.retired)
order_step s (Command Pause) of_use = (refl, refl)
order_step s (Command Resume) of_use = (refl, refl)
order_step s (Command (Stop graceful)) of_use = (refl, refl)
order_step s (Notice w) of_use = (refl, refl)
order_step s (Back w) of_use = (refl, refl)
order_step s (Got t) of_use = (refl, refl)
order_step s (Sent w remains) of_use = (refl, refl)
order_step s (RingFull w) of_use = (refl, refl)
order_step s (Faulted w) of_use = absurd of_use
order_step s (Replaced w) of_use = absurd of_use
order_step s (Retired w) of_use = absurd of_use
order_step s (ListenerFailed t) of_use = (refl, refl)
order_step s (ListenerEnded t) of_use = (refl, refl)

pub order_all : (s : Core) (es : List Event) → AllOfUse s es → ((after_all s es).order ≡ s.order) × ((after_all s es).retired ≡ s.retired)
order_all s [] of_use = (refl, refl)
order_all s (e ∷ es) of_use =
    let here = order_step s e of_use.0 in
    let rest = order_all (step s e) es of_use.1 in (rest.0 ∙ here.0, rest.1 ∙ here.1)

is_same : (v w : ℕ) → (v == w) ≡ true → v ≡ w
is_same v w is = grind (arith, nat_tests)

at_some : (o : Option ℕ) (w : ℕ) → is_at o w ≡ true → o ≡ Some w
at_some None w is = absurd (cc)
at_some (Some v) w is = ap Some (is_same v w is)

pub same_is : (w : ℕ) → (w == w) ≡ true
same_is w = grind (arith, nat_tests)

pub or_later : (a b : Bool) → b ≡ true → (a || b) ≡ true
or_later true b is = refl
or_later false b is = is

-- what is found stands there
found_in : (p : ℕ → Bool) (xs : List ℕ) (w : ℕ) → find p xs ≡ Some w → in_order xs w ≡ true
found_in p [] w is = absurd (cc)
found_in p (x ∷ xs) w is = by_test (p x) refl (λ later. found_in p xs w later)
  where
    by_test : (b : Bool) → p x ≡ b → (find p xs ≡ Some w → in_order xs w ≡ true) → in_order (x ∷ xs) w ≡ true
    by_test true passes later =
        let found : Some x ≡ Some w = (rw passes at is) in
        let here : x ≡ w = cc in subst (λ y. in_order (x ∷ xs) y ≡ true) here (ap (λ b. b || in_order xs x) (same_is x))
    by_test false fails later = or_later (x == w) (in_order xs w) (later (rw fails at is))

-- a connection goes only to a worker in order
sent_in_order : (s : Core) (w : ℕ) (remains : Bool) → allowed s (Sent w remains) ≡ true → in_order s.order w ≡ true
sent_in_order s w remains may =
    let at = and_right (is_worker s w && is_some s.waiting) (is_at (first_free s) w) may in
    sym (in_round s.order s.next w) ∙ found_in (λ v. set.contains s.free v) (round s.order s.next) w (at_some (first_free s) w at)

-- so none goes to one that is not
pub none_sent : (s : Core) (es : List Event) (w : ℕ) → AllAllowed s es → AllOfUse s es → in_order s.order w ≡ false → count_by (is_sent w) es ≡ 0
none_sent s [] w may of_use off = refl
none_sent s (e ∷ es) w may of_use off =
    let rest = none_sent (step s e) es w may.1 of_use.1 (ap (λ order. in_order order w) (order_step s e of_use.0).0 ∙ off) in
    let here = no_sent s e w may.0 off in
    let more = sum_by-cons (λ (x : Event). cond (is_sent w x) 1 0) e es in
    omega (arith, rest, here, more)
  where
    no_sent : (s : Core) (e : Event) (w : ℕ) → allowed s e ≡ true → in_order s.order w ≡ false → ◌≡◌ {A = ℕ} (cond (is_sent w e) 1 0) 0
    no_sent s (Sent v remains) w may off = by_same (v == w) refl
      where
        by_same : (b : Bool) → (v == w) ≡ b → ◌≡◌ {A = ℕ} (cond (v == w) 1 0) 0
        by_same true same = absurd (let in_it = sent_in_order s v remains may in let is = ap (λ x. in_order s.order x) (is_same v w same) in let f : true ≡ false = sym in_it ∙ is ∙ off in cc)
        by_same false other = ap (λ b. cond b 1 0) other
    no_sent s (Command command) w may off = refl
    no_sent s (Notice v) w may off = refl
    no_sent s (Back v) w may off = refl
    no_sent s (Got t) w may off = refl
    no_sent s (RingFull v) w may off = refl
    no_sent s (Faulted v) w may off = refl
    no_sent s (Replaced v) w may off = refl
    no_sent s (Retired v) w may off = refl
    no_sent s (ListenerFailed t) w may off = refl
    no_sent s (ListenerEnded t) w may off = refl

pub no_some : (o : Option Bool) → o ≡ None → is_some o ≡ true → ⊥
no_some None none some = cc
no_some (Some x) none some = cc
