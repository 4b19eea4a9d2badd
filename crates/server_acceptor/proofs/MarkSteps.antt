-- What the events tell that came of a listener.
use Rattle.std.proofs.Common.{◌≡◌, ◌++◌, ◌∷◌, [], ℕ, ◌+◌, Bool, true, false, cond, List, Option, Some, None, refl, sym, ◌∙◌, ap, ap₂, arith, append_assoc}
use Rattle.std.specs.Prelude.{count_by, nat_eq}
use Rattle.std.specs.Option.{option_map}
use Rattle.std.proofs.lemmas.List.Sums.{sum_by-append}
use Rattle.server_core.specs.declared.event.Event.{Event}
use Rattle.server_core.specs.declared.event.Event.TheVariants.{Command, Notice, Back, Got, Sent, RingFull, Faulted, Replaced, Retired, ListenerFailed, ListenerEnded}
use Rattle.server_run.specs.Listener.{Mark, fails, gives, in_a_row}
use Rattle.server_acceptor.specs.Accepting.{is_failed, is_got, mark_of, marks_of}

-- nothing came
pub marked_none : (told : Option (List Mark)) (came : List Mark) → came ≡ [] → told ≡ option_map (λ marks. came ++ marks) told
marked_none told came none = rw none (same told)
  where
    same : (told : Option (List Mark)) → told ≡ option_map (λ marks. [] ++ marks) told
    same None = refl
    same (Some marks) = refl

pub row_none : (before after : ℕ) (came : List Mark) → came ≡ [] → after ≡ before → after ≡ in_a_row before came
row_none before after came none same = same ∙ ap (in_a_row before) (sym none)

-- these came behind those
pub marked_trans : (told between left : Option (List Mark)) (xs ys all : List Mark) → all ≡ xs ++ ys
    → told ≡ option_map (λ marks. xs ++ marks) between → between ≡ option_map (λ marks. ys ++ marks) left → told ≡ option_map (λ marks. all ++ marks) left
marked_trans told between left xs ys all is first then_these =
    first ∙ ap (option_map (λ marks. xs ++ marks)) then_these ∙ both left ∙ ap (λ came. option_map (λ marks. came ++ marks) left) (sym is)
  where
    both : (left : Option (List Mark)) → option_map (λ marks. xs ++ marks) (option_map (λ marks. ys ++ marks) left) ≡ option_map (λ marks. (xs ++ ys) ++ marks) left
    both None = refl
    both (Some marks) = ap Some (sym (append_assoc xs ys marks))

pub row_append : (n : ℕ) (xs ys : List Mark) → in_a_row n (xs ++ ys) ≡ in_a_row (in_a_row n xs) ys
row_append n [] ys = refl
row_append n (gives ∷ xs) ys = row_append 0 xs ys
row_append n (fails ∷ xs) ys = row_append (n + 1) xs ys

pub marks_append : (t : ℕ) (xs ys : List Event) → marks_of t (xs ++ ys) ≡ marks_of t xs ++ marks_of t ys
marks_append t [] ys = refl
marks_append t (x ∷ xs) ys = ap (λ marks. mark_of t x ++ marks) (marks_append t xs ys) ∙ sym (append_assoc (mark_of t x) (marks_of t xs) (marks_of t ys))

-- what events tell that count for no connection and no failure
abbrev weight : Bool → ℕ
weight b = cond b 1 0

mark_without : (t : ℕ) (e : Event) → weight (is_got t e) ≡ 0 → weight (is_failed t e) ≡ 0 → mark_of t e ≡ []
mark_without t (Got s) got failed = by_test (nat_eq s t) got
  where
    by_test : (b : Bool) → weight b ≡ 0 → cond b (gives ∷ []) [] ≡ []
    by_test true one = absurd (omega (arith, one))
    by_test false one = refl
mark_without t (ListenerFailed s) got failed = by_test (nat_eq s t) failed
  where
    by_test : (b : Bool) → weight b ≡ 0 → cond b (fails ∷ []) [] ≡ []
    by_test true one = absurd (omega (arith, one))
    by_test false one = refl
mark_without t (Command c) got failed = refl
mark_without t (Notice w) got failed = refl
mark_without t (Back w) got failed = refl
mark_without t (Sent w r) got failed = refl
mark_without t (RingFull w) got failed = refl
mark_without t (Faulted w) got failed = refl
mark_without t (Replaced w) got failed = refl
mark_without t (Retired w) got failed = refl
mark_without t (ListenerEnded s) got failed = refl

pub marks_without : (t : ℕ) (events : List Event) → count_by (is_got t) events ≡ 0 → count_by (is_failed t) events ≡ 0 → marks_of t events ≡ []
marks_without t [] got failed = refl
marks_without t (e ∷ events) got failed =
    let gots = sum_by-append (λ x. cond (is_got t x) 1 0) (e ∷ []) events in
    let faults = sum_by-append (λ x. cond (is_failed t x) 1 0) (e ∷ []) events in
    ap₂ (λ xs ys. xs ++ ys) (mark_without t e (omega (arith, got, gots)) (omega (arith, failed, faults)))
    (marks_without t events (omega (arith, got, gots)) (omega (arith, failed, faults)))
