-- The links that the steps of a listener give, and what they answer.
use Rattle.std.proofs.Common.{◌≡◌, ◌<◌, ◌≤◌, ℕ, suc, ◌+◌, cond, Bool, false, List, [], ◌∷◌, ◌++◌, length, map, drop, get_or, refl, sym, ◌∙◌, ap, subst, arith, append_assoc, append-nil, length-append}
use Rattle.std.specs.List.{count_by}
use Rattle.std.proofs.lemmas.List.{at_drop_more, drop_all, map-append}
use Rattle.std.proofs.lemmas.List.Sums.{sum_by-drop_more}
use Rattle.service_core.specs.declared.link.Link.{Ghosts as LinkOf}
use Rattle.server_run.specs.declared.memory_link.MemoryLink.{MemoryLink}
use Rattle.server_run.specs.declared.memory_listener.MemoryListener.{MemoryListener}
use Rattle.server_run.specs.declared.listener_step.ListenerStep.{ListenerStep}
use Rattle.server_run.specs.declared.listener_step.ListenerStep.TheVariants.{Give, NotYet, Skip as Skips, Fail}
use Rattle.server_run.specs.Listener.{Mark, gives, fails}
use Rattle.server_run.specs.Memory.{links, marks}
use Rattle.script.specs.Offering.{AllOffer, AreFresh, IsFresh, Offers, coming_of, marks_of}
use Rattle.script.specs.Planned.{Listening, Planned, is_connection}
use Rattle.script.specs.declared.coming.Coming.{Coming}
use Rattle.script.specs.declared.coming.Coming.TheVariants.{Connection}

-- one step more comes last
links_more : (steps : List ListenerStep) (step : ListenerStep) → links (steps ++ step ∷ []) ≡ links steps ++ links (step ∷ [])
links_more [] step = refl
links_more (Give link ∷ steps) step = ap (λ (more : List MemoryLink). link ∷ more) (links_more steps step)
links_more (NotYet ∷ steps) step = links_more steps step
links_more (Skips ∷ steps) step = links_more steps step
links_more (Fail ∷ steps) step = links_more steps step

-- the connections and the failures among what the steps answer are theirs
pub marks_of_answers : (steps : List ListenerStep) → marks steps ≡ marks_of (map coming_of steps)
marks_of_answers [] = refl
marks_of_answers (Give link ∷ steps) = ap (λ (more : List Mark). gives ∷ more) (marks_of_answers steps)
marks_of_answers (NotYet ∷ steps) = marks_of_answers steps
marks_of_answers (Skips ∷ steps) = marks_of_answers steps
marks_of_answers (Fail ∷ steps) = ap (λ (more : List Mark). fails ∷ more) (marks_of_answers steps)

-- so many answers have their steps, and these connections are left, of which the first gets this name
pub record Gone (g : LinkOf MemoryLink) (comings : List Coming) (connections : List Planned) (i name : ℕ) (steps : List ListenerStep) (rest : List Planned) : Type 0 where
  pub linked : (more : List MemoryLink) → AreFresh g name rest more → AreFresh g 0 connections (links steps ++ more)
  pub answered : comings ≡ map coming_of steps ++ drop i comings
  pub counted : count_by is_connection (drop i comings) ≡ length rest

-- there are as many links as connections
pub as_many : (g : LinkOf MemoryLink) (name : ℕ) (connections : List Planned) (links : List MemoryLink) → AreFresh g name connections links → length links ≡ length connections
as_many g name [] [] fresh = refl
as_many g name [] (link ∷ links) fresh = absurd fresh
as_many g name (planned ∷ connections) [] fresh = absurd fresh
as_many g name (planned ∷ connections) (link ∷ links) fresh = ap suc (as_many g (name + 1) connections links fresh.1)

module _ (g : LinkOf MemoryLink) (comings : List Coming) (connections : List Planned) (i name : ℕ) (steps : List ListenerStep) (rest : List Planned)
    (gone : Gone g comings connections i name steps rest) where
  pub all_fresh : length comings ≤ i → AreFresh g 0 connections (links steps)
  all_fresh end =
      let left : length rest ≡ 0 = sym gone.counted ∙ ap (count_by is_connection) (drop_all i comings end) in
      rw append-nil at (gone.linked [] (none_left rest left))
    where
      none_left : (rest : List Planned) → length rest ≡ 0 → AreFresh g name rest []
      none_left [] none = tt
      none_left (planned ∷ rest) none = absurd (omega (arith, none))

  pub all_answered : length comings ≤ i → map coming_of steps ≡ comings
  all_answered end = sym (gone.answered ∙ ap (λ more. map coming_of steps ++ more) (drop_all i comings end) ∙ append-nil (map coming_of steps))

  module _ (d coming : Coming) (here : i < length comings) (is : get_or comings i d ≡ coming) where
    counted_here : count_by is_connection (drop i comings) ≡ cond (is_connection coming) 1 0 + count_by is_connection (drop (i + 1) comings)
    counted_here =
        sum_by-drop_more (λ x. cond (is_connection x) 1 0) comings i d here
        ∙ ap (λ x. cond (is_connection x) 1 0 + count_by is_connection (drop (i + 1) comings)) is

    -- a connection is left
    some_left : coming ≡ Connection → length rest ≡ suc (count_by is_connection (drop (i + 1) comings))
    some_left connection = sym gone.counted ∙ counted_here ∙ ap (λ x. cond (is_connection x) 1 0 + count_by is_connection (drop (i + 1) comings)) connection ∙ omega arith

    answered_more : (step : ListenerStep) → coming_of step ≡ coming → comings ≡ map coming_of (steps ++ step ∷ []) ++ drop (i + 1) comings
    answered_more step same =
        let left : List Coming = drop (i + 1) comings in
        gone.answered
        ∙ ap (λ more. map coming_of steps ++ more) (at_drop_more (λ xs. xs) comings i d here ∙ ap (λ x. x ∷ left) (is ∙ sym same))
        ∙ sym (append_assoc (map coming_of steps) (coming_of step ∷ []) left)
        ∙ ap (λ more. more ++ left) (sym (map-append coming_of steps (step ∷ [])))

    -- a step more, of a connection
    pub given_more : coming ≡ Connection → (planned : Planned) (link : MemoryLink) (after : List Planned) → rest ≡ planned ∷ after → IsFresh g name planned link
        → Gone g comings connections (i + 1) (name + 1) (steps ++ Give link ∷ []) after
    given_more connection planned link after first fresh = record {
      linked = λ more others.
          subst (λ given. AreFresh g 0 connections given) (sym (ap (λ given. given ++ more) (links_more steps (Give link)) ∙ append_assoc (links steps) (link ∷ []) more))
          (gone.linked (link ∷ more) (subst (λ left. AreFresh g name left (link ∷ more)) (sym first) (fresh, others)));
      answered = answered_more (Give link) (sym connection);
      counted = let left : length rest ≡ suc (count_by is_connection (drop (i + 1) comings)) = some_left connection in
          let one : length rest ≡ suc (length after) = ap length first in omega (arith, left, one);
    }

    -- a step more, of anything else
    pub passed_more : (step : ListenerStep) → links (step ∷ []) ≡ [] → coming_of step ≡ coming
        → is_connection coming ≡ false → Gone g comings connections (i + 1) name (steps ++ step ∷ []) rest
    passed_more step none same other = record {
      linked = λ more fresh.
          subst (λ given. AreFresh g 0 connections (given ++ more)) (sym (links_more steps step ∙ ap (λ given. links steps ++ given) none ∙ append-nil (links steps))) (gone.linked more fresh);
      answered = answered_more step same;
      counted = let all = counted_here in
          let none_here = ap (λ (t : Bool). cond t 1 0 + count_by is_connection (drop (i + 1) comings)) other in
          omega (arith, all, none_here, gone.counted);
    }

-- so many listeners are made, and these are left
pub record AreLeft (g : LinkOf MemoryLink) (listeners : List Listening) (made : List MemoryListener) (left : List Listening) : Type 0 where
  pub offered : (more : List MemoryListener) → AllOffer g left more → AllOffer g listeners (made ++ more)
  pub counted : length made + length left ≡ length listeners

module _ (g : LinkOf MemoryLink) (listeners : List Listening) (made : List MemoryListener) (left : List Listening) (so_far : AreLeft g listeners made left) where
  -- one more is made
  pub one_made : (listening : Listening) (listener : MemoryListener) (after : List Listening) → left ≡ listening ∷ after → Offers g listening listener
      → AreLeft g listeners (made ++ listener ∷ []) after
  one_made listening listener after first offer = record {
    offered = λ more others.
        subst (λ all. AllOffer g listeners all) (sym (append_assoc made (listener ∷ []) more))
        (so_far.offered (listener ∷ more) (subst (λ rest. AllOffer g rest (listener ∷ more)) (sym first) (offer, others)));
    counted = let one : length left ≡ suc (length after) = ap length first in simp length-append (omega (arith, one, so_far.counted));
  }

  pub all_made : length left ≡ 0 → AllOffer g listeners made
  all_made none = rw append-nil at (so_far.offered [] (none_left left none))
    where
      none_left : (rest : List Listening) → length rest ≡ 0 → AllOffer g rest []
      none_left [] empty = tt
      none_left (listening ∷ rest) empty = absurd (omega (arith, empty))
