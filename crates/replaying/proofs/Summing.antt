-- What a summary tells of connections that were made.
use Rattle.std.proofs.Common.{◌≡◌, ◌<◌, ◌≤◌, ◌+◌, ℕ, zero, suc, true, false, cond, List, [], ◌∷◌, All, Any, length, length-append, map, refl, sym, ap, subst, arith, inl, inr}
use Rattle.std.proofs.lemmas.List.Elements.{All-head, All-tail}
use Rattle.std.proofs.lemmas.List.Sums.{sum_by-cons}
use Rattle.http1_dispatcher.proofs.Written.{never_up}
use Rattle.report.specs.Told.{Told}
use Rattle.server_run.specs.Outcome.{is_served}
use Rattle.report.specs.Summary.{byte_count, served_count}
use Rattle.script.specs.Planned.{Planned, held_of}
use Rattle.script_service.specs.Sites.{Site, functions_at, rules_at}
use Rattle.server_run.specs.declared.outcome.Outcome.{Outcome}
use Rattle.server_run.specs.declared.outcome.Outcome.TheVariants as outcome
use Rattle.replaying.proofs.Plainly.{none_fails}
use Rattle.replaying.specs.Reported.{AreTold, GoesOn, Shows, answers_to}
use Rattle.replaying.specs.Summary.{answer_bytes}

-- one more connection

served_more : (t : Told) (told : List Told) → served_count (t ∷ told) ≡ cond (is_served t.0) 1 0 + served_count told
served_more t told = sum_by-cons (λ (x : Told). cond (is_served x.0) 1 0) t told

bytes_more : (t : Told) (told : List Told) → byte_count (t ∷ told) ≡ length t.1 + byte_count told
bytes_more t told = sum_by-cons (λ (x : Told). length x.1) t told

answers_more : (site : Site) (p : Planned) (planned : List Planned) → answer_bytes site (p ∷ planned) ≡ length (answers_to site p).0 + answer_bytes site planned
answers_more site p planned = sum_by-cons (λ (x : Planned). length (answers_to site x).0) p planned

one_at_most : (out : Outcome) → cond (is_served out) 1 0 ≤ 1
one_at_most outcome.Served = omega arith
one_at_most outcome.ReadFault = omega arith
one_at_most outcome.WriteFault = omega arith
one_at_most outcome.Upgraded = omega arith
one_at_most (outcome.Lost worker) = omega arith
one_at_most (outcome.Stopped forced) = omega arith
one_at_most outcome.Memory = omega arith

-- no more are served than there are
pub few_served : (told : List Told) → served_count told ≤ length told
few_served [] = omega arith
few_served (t ∷ told) =
    let more = served_more t told in
    let one = one_at_most t.0 in
    let few = few_served told in omega (arith, more, one, few)

memory_is_none : (out : Outcome) → out ≡ outcome.Memory → ◌≡◌ {A = ℕ} (cond (is_served out) 1 0) 0
memory_is_none out is = ap {B = ℕ} (λ (o : Outcome). cond (is_served o) 1 0) is

-- one in which memory ran out isn't served
pub fewer_served : (told : List Told) → Any (λ (t : Told). t.0 ≡ outcome.Memory) told → served_count told < length told
fewer_served [] (k, d, within, is, memory) = absurd (omega (arith, within))
fewer_served (t ∷ told) (zero, d, within, is, memory) =
    let more = served_more t told in
    let none = memory_is_none t.0 (subst (λ (x : Told). x.0 ≡ outcome.Memory) (sym is) memory) in
    let few = few_served told in omega (arith, more, none, few)
fewer_served (t ∷ told) (suc k, d, within, is, memory) =
    let more = served_more t told in
    let one = one_at_most t.0 in
    let few = fewer_served told (k, d, omega (arith, within), is, memory) in omega (arith, more, one, few)

module _ (site : Site) (upgrades : site.echoes_upgrades ≡ false) where
  -- no more is written than what is answered
  few_bytes_of : (planned : Planned) → GoesOn planned → (out : Outcome) (written : List ℕ) → Shows site planned out written → length written ≤ length (answers_to site planned).0
  few_bytes_of planned goes outcome.Served written is = let same = ap length is in omega (arith, same)
  few_bytes_of planned goes outcome.ReadFault written shows = absurd (none_fails _ goes.reads shows.0)
  few_bytes_of planned goes outcome.WriteFault written shows = absurd (none_fails _ goes.writes shows.0)
  few_bytes_of planned goes outcome.Upgraded written shows = absurd (not_both shows.0)
    where
      not_both : site.echoes_upgrades ≡ true → ⊥
      not_both yes_it = cc
  few_bytes_of planned goes (outcome.Lost worker) written shows = absurd shows
  few_bytes_of planned goes (outcome.Stopped forced) written shows = absurd shows
  few_bytes_of planned goes outcome.Memory written (inl front) = let all = simp length-append at (ap length front.is) in omega (arith, all)
  few_bytes_of planned goes outcome.Memory written (inr beyond) =
      let ends = never_up (rules_at site) planned.peer (functions_at site) (held_of planned) upgrades in
      let is_up = beyond.is_up in cc

  pub few_bytes : (planned : List Planned) (told : List Told) → All GoesOn planned → AreTold site planned told → byte_count told ≤ answer_bytes site planned
  few_bytes planned [] go are = omega arith
  few_bytes [] (t ∷ told) go are = absurd are
  few_bytes (p ∷ planned) (t ∷ told) go are =
      let more = bytes_more t told in
      let answered = answers_more site p planned in
      let one = few_bytes_of p (All-head GoesOn p planned go) t.0 t.1 are.0 in
      let few = few_bytes planned told (All-tail GoesOn p planned go) are.1 in omega (arith, more, answered, one, few)

  -- where all are served
  pub all_served : (planned : List Planned) → served_count (map (λ p. (outcome.Served, (answers_to site p).0)) planned) ≡ length planned
  all_served [] = refl
  all_served (p ∷ planned) =
      let more = served_more (outcome.Served, (answers_to site p).0) (map (λ x. (outcome.Served, (answers_to site x).0)) planned) in
      let rest = all_served planned in omega (arith, more, rest)

  pub all_bytes : (planned : List Planned) → byte_count (map (λ p. (outcome.Served, (answers_to site p).0)) planned) ≡ answer_bytes site planned
  all_bytes [] = refl
  all_bytes (p ∷ planned) =
      let more = bytes_more (outcome.Served, (answers_to site p).0) (map (λ x. (outcome.Served, (answers_to site x).0)) planned) in
      let answered = answers_more site p planned in
      let rest = all_bytes planned in omega (arith, more, answered, rest)
