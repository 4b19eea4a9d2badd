-- How a link in memory goes through its steps.
use Rattle.std.proofs.Common.{◌≡◌, ◌∙◌, sym, ap, refl, ℕ, suc, ◌+◌, ◌≤◌, ◌<◌, List, [], ◌∷◌, ◌++◌, length, take, drop, slice_get, Some, arith, add-one, length-append, drop-cons, length-drop, subst, min, ◌-◌, ◌^◌, IfSome, true, false, get_or, Option, Result, inl, inr}
use Rattle.std.specs.Option.{option_map_or}
use Rattle.std.proofs.lemmas.List.{append-nil, take_all, take_at, length-take, length-take-le, take_more, take-append-drop, take-append-le, drop-append-le}
use Rattle.std.proofs.lemmas.Grind.{flat_map-append}
use Rattle.std.proofs.lemmas.Bool.{cases_eq, eqb-true, eqb-false}
use Rattle.std.proofs.lemmas.Option.{slice_get_within, slice_get_past, slice_get_read, get_or_from_slice_get}
use Rattle.std.proofs.Math.Seq.{drop-append-add}
use Rattle.server_run.specs.declared.read_step.ReadStep.{ReadStep}
use Rattle.server_run.specs.declared.read_step.ReadStep.TheVariants.{Give, NotYet, Fail, Never}
use Rattle.futures.specs.declared.task.Poll.{Poll}
use Rattle.service_core.specs.declared.link.LinkFault.{LinkFault}
use Rattle.service_core.specs.Link.{HandsOver, Reads}
use Rattle.server_run.specs.Steps.{bytes_of, bytes_at, given_by, bytes_before, IsPlace, IsUnused, is_used_up, IsGive, PassesOver, MeetsRead, GoesByReads}

module _ {X : Type 0} (xs : List X) (i : ℕ) (x : X) (is : slice_get xs i ≡ Some x) where
  pub take_next : take (i + 1) xs ≡ take i xs ++ x ∷ []
  take_next = take_more xs i x (slice_get_within xs i x is) ∙ ap (λ y. take i xs ++ y ∷ []) (get_or_from_slice_get xs i x x is)

  pub drop_here : drop i xs ≡ x ∷ drop (i + 1) xs
  drop_here = rw add-one (drop-cons xs i x (slice_get_within xs i x is) ∙ ap (λ y. y ∷ drop (suc i) xs) (get_or_from_slice_get xs i x x is))

module _ (steps : List ReadStep) (at : ℕ) (step : ReadStep) (is : slice_get steps at ≡ Some step) where
  -- the bytes up to the next step
  pub given_next : given_by (take (at + 1) steps) ≡ given_by (take at steps) ++ bytes_of step
  given_next = ap given_by (take_next steps at step is) ∙ flat_map-append bytes_of (take at steps) (step ∷ []) ∙ ap (λ bytes. given_by (take at steps) ++ bytes) (append-nil (bytes_of step))

  -- all bytes, cut at this step
  pub given_cut : given_by steps ≡ given_by (take at steps) ++ (bytes_of step ++ given_by (drop (at + 1) steps))
  given_cut = ap given_by (sym (take-append-drop at steps)) ∙ flat_map-append bytes_of (take at steps) (drop at steps) ∙ ap (λ rest. given_by (take at steps) ++ given_by rest) (drop_here steps at step is)

  bytes_here : bytes_at steps at ≡ bytes_of step
  bytes_here = ap (λ found. option_map_or bytes_of found []) is

  module _ (offset : ℕ) (place : IsPlace steps at offset) where
    here : offset ≤ length (bytes_of step)
    here = subst (λ bytes. offset ≤ length bytes) bytes_here place.inside

    -- the place behind a step
    pub behind : IsPlace steps (at + 1) 0
    behind = record { within = let w = slice_get_within steps at step is in omega arith; inside = omega arith }

    -- a step whose bytes were handed over is passed
    pub as_many : length (bytes_of step) ≡ offset → bytes_before steps (at + 1) 0 ≡ bytes_before steps at offset
    as_many used = let n = ap length given_next in omega (arith, length-append (given_by (take at steps)) (bytes_of step))

    -- the next bytes of a step are the next ones of all
    hands_over : (before n : ℕ) (buf : List ℕ) → before ≡ bytes_before steps at offset → n ≤ length (drop offset (bytes_of step)) → 0 < n
        → take n buf ≡ take n (drop offset (bytes_of step)) → HandsOver (given_by steps) before (bytes_before steps at (offset + n)) n buf
    hands_over before n buf before_is fits some shown =
        record {
          exact = omega arith;
          within =
              let h = here in
              let l = length-drop offset (bytes_of step) in
              let c = ap length given_cut in
              omega (arith, length-append (given_by (take at steps)) (bytes_of step ++ given_by (drop (at + 1) steps)), length-append (bytes_of step) (given_by (drop (at + 1) steps)));
          shown =
              shown
              ∙ sym (
              ap (λ k. take n (drop k (given_by steps))) before_is
              ∙ ap (λ all. take n (drop (length (given_by (take at steps)) + offset) all)) given_cut
              ∙ ap (take n) (drop-append-add (given_by (take at steps)) (bytes_of step ++ given_by (drop (at + 1) steps)) offset)
              ∙ ap (take n) (drop-append-le offset (bytes_of step) (given_by (drop (at + 1) steps)) here)
              ∙ take-append-le n (drop offset (bytes_of step)) (given_by (drop (at + 1) steps)) fits
              );
          last = λ none. absurd (omega arith);
        }

-- what a used-up step is
pub used_up : (step : ReadStep) (offset : ℕ) → is_used_up step offset ≡ true → (length (bytes_of step) ≡ offset) × IsGive (Some step)
used_up (Give bytes) offset up = (eqb-true (length bytes) offset up, (bytes, refl))
used_up NotYet offset up = cc
used_up Fail offset up = cc
used_up Never offset up = cc

-- one Give more is passed over
pub passes_more : (steps : List ReadStep) (step at : ℕ) → PassesOver steps step at → IsGive (slice_get steps at) → PassesOver steps step (at + 1)
passes_more steps step at passes is = record {
  onward = let o = passes.onward in omega arith;
  gives = λ k from below. elim (cases_eq k at) [
    | inl here ↦ subst (λ k. IsGive (slice_get steps k)) (sym here) is
    | inr other ↦ passes.gives k from (omega arith)
  ];
}

-- a step of the loop that passes over used-up gives
pub passed : (steps : List ReadStep) (step at offset before : ℕ) (current : ReadStep)
    → IsPlace steps at offset → bytes_before steps at offset ≡ before → PassesOver steps step at → slice_get steps at ≡ Some current → is_used_up current offset ≡ true
    → IsPlace steps (at + 1) 0 × (bytes_before steps (at + 1) 0 ≡ before) × PassesOver steps step (at + 1)
passed steps step at offset before current place same passes is up =
    let used = used_up current offset up in
    (behind steps at current is offset place, as_many steps at current is offset place used.0 ∙ same, passes_more steps step at passes (subst IsGive (sym is) used.1))

-- the step that a reference to it was read from
pub step_read : (xs ys : List ReadStep) (at : ℕ) (x step : ReadStep) → xs ≡ ys → at < length xs → x ≡ get_or xs at x → x ≡ step → slice_get ys at ≡ Some step
step_read xs ys at x step same within read is =
    subst (λ (steps : List ReadStep). slice_get steps at ≡ Some step) same (slice_get_read xs _ at x refl within read ∙ ap Some is)

-- a read that goes by the step at which the passing ended
pub goes_by : (steps now : List ReadStep) (step at next : ℕ) (answer : Poll (Result ℕ LinkFault)) (found : Option ReadStep)
    → now ≡ steps → PassesOver steps step at → slice_get now at ≡ found → MeetsRead found at next answer → GoesByReads steps step next answer
goes_by steps now step at next answer found same passes is meets = record {
  at = at;
  passes = passes;
  meets = subst (λ (found : Option ReadStep). MeetsRead found at next answer) (sym is ∙ ap (λ (steps : List ReadStep). slice_get steps at) same) meets;
}

-- a Give that isn't used up has bytes left
bytes_left : (steps : List ReadStep) (at offset : ℕ) (bytes : List ℕ) → IsPlace steps at offset → slice_get steps at ≡ Some (Give bytes) → IsUnused steps at offset → offset < length bytes
bytes_left steps at offset bytes place is unused =
    let inside = here steps at (Give bytes) is offset place in
    let other = eqb-false (length bytes) offset (subst (λ found. IfSome found (λ current. is_used_up current offset ≡ false)) is unused) in
    omega arith

-- so a read of it hands over one byte or more
pub reads_some : (steps : List ReadStep) (at offset : ℕ) (bytes : List ℕ) (n : ℕ) (buf : List ℕ)
    → IsPlace steps at offset → slice_get steps at ≡ Some (Give bytes) → IsUnused steps at offset → 0 < length buf
    → n ≡ min (length (take (length bytes - offset) (drop offset bytes))) (length buf) → 0 < n
reads_some steps at offset bytes n buf place is unused room n_is =
    let left = bytes_left steps at offset bytes place is unused in
    let rest = length-drop offset bytes in
    let kept = length-take (length bytes - offset) (drop offset bytes) in
    omega arith

-- a read of a Give that isn't used up
pub reads_more : (steps : List ReadStep) (at offset : ℕ) (bytes : List ℕ) (before n : ℕ) (all buf copied : List ℕ)
    → given_by steps ≡ all → IsPlace steps at offset → slice_get steps at ≡ Some (Give bytes) → IsUnused steps at offset → length (given_by steps) < 2 ^ 64
    → before ≡ bytes_before steps at offset → 0 < length buf
    → n ≡ min (length (take (length bytes - offset) (drop offset bytes))) (length buf) → copied ≡ take n (take (length bytes - offset) (drop offset bytes))
    → Reads (Some all) before (bytes_before steps at (offset + n)) n (copied ++ drop n buf)
reads_more steps at offset bytes before n all buf copied same place is unused few before_is room n_is copied_is =
    let left = bytes_left steps at offset bytes place is unused in
    let long = length-drop offset bytes in
    let rest_is : take (length bytes - offset) (drop offset bytes) ≡ drop offset bytes = take_all _ _ (omega arith) in
    let n_fits : n ≡ min (length (drop offset bytes)) (length buf) = n_is ∙ ap (λ (rest : List ℕ). min (length rest) (length buf)) rest_is in
    let copied_now : copied ≡ take n (drop offset bytes) = copied_is ∙ ap (take n) rest_is in
    let copied_long : length copied ≡ n = ap length copied_now ∙ length-take-le n (drop offset bytes) (omega arith) in
    let shown : take n (copied ++ drop n buf) ≡ copied = take_at copied (drop n buf) n copied_long in
    let over = hands_over steps at (Give bytes) is offset place before n (copied ++ drop n buf) before_is (omega arith) (omega arith) (shown ∙ copied_now) in
    record {
      fits = let both = length-append copied (drop n buf) in omega arith;
      counted = let within = over.within in omega arith;
      bytes = subst (λ (all : List ℕ). HandsOver all before (bytes_before steps at (offset + n)) n (copied ++ drop n buf)) same over;
    }

-- a read past the last step
pub reads_none : (steps : List ReadStep) (at offset before : ℕ) (all buf : List ℕ)
    → given_by steps ≡ all → IsPlace steps at offset → length steps ≤ at → length (given_by steps) < 2 ^ 64 → before ≡ bytes_before steps at offset
    → Reads (Some all) before (bytes_before steps at offset) 0 buf
reads_none steps at offset before all buf same place past few before_is = record {
  fits = omega arith;
  counted = let n = whole in let given = ap length same in omega arith;
  bytes = record {
    exact = omega arith;
    within = let n = whole in omega arith;
    shown = refl;
    last = λ _. let n = whole in omega arith;
  };
}
  where
    no_offset : offset ≤ 0
    no_offset = subst (λ (bytes : List ℕ). offset ≤ length bytes) (ap (λ found. option_map_or bytes_of found []) (slice_get_past steps at past)) place.inside

    whole : length all ≡ bytes_before steps at offset
    whole =
        let kept = ap (λ kept. length (given_by kept)) (take_all at steps past) in
        let given = ap length same in
        let none = no_offset in
        omega arith
