-- Entries whose places are the numbers below a number, once each, are as many.
use Rattle.std.proofs.Common.{◌≡◌, ◌<◌, ◌≤◌, ◌+◌, ◌==◌, ◌&&◌, nat_lt, ℕ, zero, suc, Bool, true, false, cond, List, [], ◌∷◌, length, Some, slice_get, All, refl, sym, ap, ◌∙◌, eq-eqb, arith}
use Rattle.std.specs.List.{count_by}
use Rattle.std.proofs.Math.Decide.{dec_le}
use Rattle.std.proofs.lemmas.Bool.Decides.{nat_tests}
use Rattle.std.proofs.lemmas.List.Elements.{All-cons, All-head, All-nil, All-tail, All-weaker}
use Rattle.std.proofs.lemmas.List.Sums.{sum_by-cons}
use Rattle.std.proofs.lemmas.Option.{same_Some}
use Rattle.server_run.specs.Delivery.{once_below, place_count}
use Rattle.server_run.specs.Outcome.{is_served}
use Rattle.server_run.specs.Done.{served_count}
use Rattle.server_run.specs.declared.entry.Entry.{Entry}

one_more : (b : Bool) (place n : ℕ) → cond (b && nat_lt place (n + 1)) 1 0 ≡ cond (b && nat_lt place n) 1 0 + cond (b && (place == n)) 1 0
one_more true place n = grind (arith, nat_tests)
one_more false place n = refl

once_at : (n k : ℕ) → k < n → once_below n k ≡ 1
once_at n k less = grind (arith, nat_tests)

itself : (n : ℕ) → (n == n) ≡ true
itself n = eq-eqb n n refl

module _ {L : Type 0} where
  -- it stands below a place of the first listener
  abbrev stands_below : ℕ → Entry L → Bool
  stands_below n e = (e.token == 0) && nat_lt e.place n

  more_below : (n : ℕ) (es : List (Entry L)) → count_by (stands_below (n + 1)) es ≡ count_by (stands_below n) es + place_count 0 n es
  more_below n [] = refl
  more_below n (e ∷ es) =
      let wider = sum_by-cons (λ (x : Entry L). cond (stands_below (n + 1) x) 1 0) e es in
      let narrower = sum_by-cons (λ (x : Entry L). cond (stands_below n x) 1 0) e es in
      let here = sum_by-cons (λ (x : Entry L). cond ((x.token == 0) && (x.place == n)) 1 0) e es in
      let first = one_more (e.token == 0) e.place n in
      let rest = more_below n es in
      omega (arith, wider, narrower, here, first, rest)

  none_below : (es : List (Entry L)) → count_by (stands_below 0) es ≡ 0
  none_below [] = refl
  none_below (e ∷ es) =
      let more = sum_by-cons (λ (x : Entry L). cond (stands_below 0 x) 1 0) e es in
      let rest = none_below es in
      let here = not_here (e.token == 0) e.place in omega (arith, more, rest, here)
    where
      not_here : (b : Bool) (place : ℕ) → ◌≡◌ {A = ℕ} (cond (b && nat_lt place 0) 1 0) 0
      not_here b place = grind (arith, nat_tests)

  counted_below : (rise : ℕ) (es : List (Entry L)) → ((place : ℕ) → place_count 0 place es ≡ once_below rise place) → (n : ℕ) → n ≤ rise → count_by (stands_below n) es ≡ n
  counted_below rise es places zero few = none_below es
  counted_below rise es places (suc n) few =
      let more = more_below n es in
      let rest = counted_below rise es places n (omega (arith, few)) in
      let here = places n ∙ once_at rise n (omega (arith, few)) in
      ap (λ k. count_by (stands_below k) es) (suc_is n) ∙ more ∙ omega (arith, rest, here)
    where
      suc_is : (k : ℕ) → suc k ≡ k + 1
      suc_is k = omega arith

  -- all of them do
  all_below : (n : ℕ) (es : List (Entry L)) → All (λ e. (e.token ≡ 0) × (e.place < n)) es → count_by (stands_below n) es ≡ length es
  all_below n [] all = refl
  all_below n (e ∷ es) all =
      let more = sum_by-cons (λ (x : Entry L). cond (stands_below n x) 1 0) e es in
      let rest = all_below n es (All-tail (λ (x : Entry L). (x.token ≡ 0) × (x.place < n)) e es all) in
      let this = All-head (λ (x : Entry L). (x.token ≡ 0) × (x.place < n)) e es all in
      let here = is_here e.token e.place this.0 this.1 in omega (arith, more, rest, here)
    where
      is_here : (token place : ℕ) → token ≡ 0 → place < n → ◌≡◌ {A = ℕ} (cond ((token == 0) && nat_lt place n) 1 0) 1
      is_here token place is less = grind (arith, nat_tests)

  -- an entry is counted at its own place
  counted : (e : Entry L) (es : List (Entry L)) (k : ℕ) → slice_get es k ≡ Some e → 1 ≤ place_count e.token e.place es
  counted e [] k at = cc
  counted e (x ∷ es) zero at =
      let more = sum_by-cons (λ (y : Entry L). cond ((y.token == e.token) && (y.place == e.place)) 1 0) x es in
      let here = ap {B = ℕ} (λ (y : Entry L). cond ((y.token == e.token) && (y.place == e.place)) 1 0) (same_Some _ _ at) in
      let one = ap {B = ℕ} (λ (b : Bool). cond b 1 0) (stands_itself e) in omega (arith, more, here, one)
    where
      stands_itself : (y : Entry L) → ((y.token == y.token) && (y.place == y.place)) ≡ true
      stands_itself y = let t = itself y.token in let p = itself y.place in cc
  counted e (x ∷ es) (suc k) at =
      let more = sum_by-cons (λ (y : Entry L). cond ((y.token == e.token) && (y.place == e.place)) 1 0) x es in
      let rest = counted e es k at in omega (arith, more, rest)

  by_place : (P : Entry L → Type 0) (es : List (Entry L)) → ((k : ℕ) (e : Entry L) → slice_get es k ≡ Some e → P e) → All P es
  by_place P [] each = All-nil P
  by_place P (e ∷ es) each = All-cons P e es (each 0 e refl) (by_place P es (λ k x at. each (suc k) x at))

  -- no more are served than there are
  pub few_served : (es : List (Entry L)) → served_count es ≤ length es
  few_served [] = omega arith
  few_served (e ∷ es) =
      let more = sum_by-cons (λ (x : Entry L). cond (is_served x.outcome) 1 0) e es in
      let rest = few_served es in
      let here = at_most_one (is_served e.outcome) in omega (arith, more, rest, here)
    where
      at_most_one : (b : Bool) → cond b 1 0 ≤ 1
      at_most_one true = omega arith
      at_most_one false = omega arith

  -- the entries of the only listener, which gave so many connections
  module _ (given : ℕ → ℕ) (entries : List (Entry L)) (places : (token place : ℕ) → place_count token place entries ≡ once_below (given token) place) (alone : (n : ℕ) → given (suc n) ≡ 0) where
    stand : All (λ e. (e.token ≡ 0) × (e.place < given 0)) entries
    stand = by_place (λ (e : Entry L). (e.token ≡ 0) × (e.place < given 0)) entries (λ k e at. of e k at e.token refl)
      where
        within : (n place : ℕ) → 1 ≤ once_below n place → place < n
        within n place some = grind (arith, nat_tests)

        of : (e : Entry L) (k : ℕ) → slice_get entries k ≡ Some e → (token : ℕ) → e.token ≡ token → (e.token ≡ 0) × (e.place < given 0)
        of e k at zero is =
            let some = counted e entries k at in
            let told = places e.token e.place ∙ ap (λ (t : ℕ). once_below (given t) e.place) is in
            (is, within (given 0) e.place (omega (arith, some, told)))
        of e k at (suc n) is =
            let some = counted e entries k at in
            let told = places e.token e.place ∙ ap (λ (t : ℕ). once_below (given t) e.place) is ∙ ap (λ (r : ℕ). once_below r e.place) (alone n) in
            absurd (never e.place (omega (arith, some, told)))
          where
            never : (place : ℕ) → 1 ≤ once_below 0 place → ⊥
            never place one = let less = within 0 place one in omega (arith, less)

    -- are as many
    pub as_many : length entries ≡ given 0
    as_many = sym (all_below (given 0) entries stand) ∙ counted_below (given 0) entries (places 0) (given 0) (omega arith)

    pub first_alone : All (λ e. e.token ≡ 0) entries
    first_alone = All-weaker (λ (e : Entry L). (e.token ≡ 0) × (e.place < given 0)) (λ (e : Entry L). e.token ≡ 0) (λ e both. both.0) entries stand

    -- where each stands below n, there are no more than n
    pub few : (n : ℕ) → All (λ e. e.place < n) entries → length entries ≤ n
    few n below = elim (dec_le n (given 0)) [
      | yes less ↦
          let many = sym (all_below n entries (both first_alone below)) ∙ counted_below (given 0) entries (places 0) n less in omega (arith, many)
      | no more ↦ let many = as_many in omega (arith, many, more)
    ]
      where
        both : All (λ e. e.token ≡ 0) entries → All (λ e. e.place < n) entries → All (λ e. (e.token ≡ 0) × (e.place < n)) entries
        both tokens below k d inside = (tokens k d inside, below k d inside)
