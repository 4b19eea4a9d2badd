-- That what one accept at a listener does is seen in the list of all listeners.
use Rattle.std.proofs.Common.{◌≡◌, ◌≢◌, ◌<◌, ◌≤◌, ◌+◌, ◌^◌, ◌∷◌, [], ℕ, zero, suc, Bool, List, length, get_or, set, Option, Some, IfSome, refl, sym, ◌∙◌, ap, arith, subst, get_or-set_same}
use Rattle.std.specs.Prelude.{◌↔◌, IsTrue, slice_get}
use Rattle.std.specs.Option.{option_and_then, option_map_or}
use Rattle.std.proofs.Math.ListN.{length-set}
use Rattle.std.proofs.lemmas.Option.{slice_get-get_or}
use Rattle.service_core.specs.Counts.{Rose}
use Rattle.server_run.specs.Delivery.{HasEnded, given_at, left_at, rest_at}
use Rattle.server_run.specs.Listener.{IsMarked, IsTakenFrom, Mark, OnGot, Rises}
use Rattle.server_run.specs.declared.listener.Accepted.{Accepted}
use Rattle.server_run.specs.declared.listener.Accepted.TheVariants.{Got, NotYet, Skipped, Failed, Ended}
use Rattle.server_acceptor.specs.Listening.{AsksAt, GivesNone, Listens, NeverFall}

others_at : {X : Type 0} (xs : List X) (w v : ℕ) (x : X) → v ≢ w → slice_get (set xs w x) v ≡ slice_get xs v
others_at [] w v x other = refl
others_at (y ∷ xs) zero zero x other = absurd (other refl)
others_at (y ∷ xs) zero (suc v) x other = refl
others_at (y ∷ xs) (suc w) zero x other = refl
others_at (y ∷ xs) (suc w) (suc v) x other = others_at xs w v x (λ e. other (ap (λ n. suc n) e))

module _ {Li : Type 0} (ls : List Li) (t : ℕ) (l m : Li) (inside : t < length ls) (is : l ≡ get_or ls t l) where
  was_at : slice_get ls t ≡ Some l
  was_at = slice_get-get_or ls t l inside ∙ ap Some (sym is)

  now_at : slice_get (set ls t m) t ≡ Some m
  now_at = slice_get-get_or (set ls t m) t m (omega (arith, length-set ls t m)) ∙ ap Some (get_or-set_same ls t m m inside)

  asks_at : AsksAt ls (set ls t m) t
  asks_at = record { as_many = length-set ls t m; others = λ v other. others_at ls t v m other }

  counted_was : (f : Li → ℕ) → given_at f ls t ≡ f l
  counted_was f = ap (λ o. option_map_or f o 0) was_at

  counted_now : (f : Li → ℕ) → given_at f (set ls t m) t ≡ f m
  counted_now f = ap (λ o. option_map_or f o 0) now_at

  -- a count that never falls
  pub falls_not : (f : Li → ℕ) → f l ≤ f m → given_at f ls t ≤ given_at f (set ls t m) t
  falls_not f up = omega (arith, up, counted_was f, counted_now f)

  rose_at : (f : Li → ℕ) → Rose (f l) (f m) → Rose (given_at f ls t) (given_at f (set ls t m) t)
  rose_at f rose = subst (λ n. Rose n (given_at f (set ls t m) t)) (sym (counted_was f)) (subst (λ n. Rose (f l) n) (sym (counted_now f)) rose)

  pub fall_neither : (waits skips : Li → ℕ) → waits l ≤ waits m → skips l ≤ skips m → NeverFall waits skips ls (set ls t m) t
  fall_neither waits skips waited skipped = record { waited = falls_not waits waited; skipped = falls_not skips skipped }

  pub ended_at : (ended : Li → Bool) → HasEnded ended (set ls t m) t → IsTrue (ended m)
  ended_at ended has = subst (λ o. IfSome o (λ x. IsTrue (ended x))) now_at has

  pub marked_at : {L : Type 0} (rest : Li → Option (List Mark)) (r : Accepted L) → IsMarked r (rest l) (rest m) → IsMarked r (rest_at rest ls t) (rest_at rest (set ls t m) t)
  marked_at rest r marked =
      subst (λ o. IsMarked r o (rest_at rest (set ls t m) t)) (sym (ap (λ o. option_and_then rest o) was_at)) (subst (λ o. IsMarked r (rest l) o) (sym (ap (λ o. option_and_then rest o) now_at)) marked)

  module _ {L : Type 0} (given : Li → ℕ) (left : Li → Option (List L)) where
    left_was : left_at left ls t ≡ left l
    left_was = ap (λ o. option_and_then left o) was_at

    left_now : left_at left (set ls t m) t ≡ left m
    left_now = ap (λ o. option_and_then left o) now_at

    gives_none : (left m ≡ left l) × (given m ≡ given l) → GivesNone given left ls (set ls t m) t
    gives_none none = record { asks = asks_at; given_same = counted_now given ∙ none.1 ∙ sym (counted_was given); left_same = left_now ∙ none.0 ∙ sym left_was }

    pub listens : (waits skips faults : Li → ℕ) (ended : Li → Bool) (r : Accepted L)
        → OnGot r (λ link. IsTakenFrom (left l) link (left m) × (given m ≡ given l + 1)) ((left m ≡ left l) × (given m ≡ given l)) → given m < 2 ^ 48 → (IsTrue (ended m) ↔ (r ≡ Ended))
        → Rises (waits l) (waits m) (r ≡ NotYet) → Rises (skips l) (skips m) (r ≡ Skipped) → Rises (faults l) (faults m) (r ≡ Failed) → Listens given left waits skips faults ended ls (set ls t m) t r
    listens waits skips faults ended (Got link) got small ends waited skipped failed = record {
      asks = asks_at;
      given_more = counted_now given ∙ got.1 ∙ ap (λ n. n + 1) (sym (counted_was given));
      taken = subst (λ o. IsTakenFrom o link (left_at left (set ls t m) t)) (sym left_was) (subst (λ o. IsTakenFrom (left l) link o) (sym left_now) got.0);
      small = omega (arith, small, counted_now given);
    }
    listens waits skips faults ended NotYet none small ends waited skipped failed = (gives_none none, rose_at waits (waited.cause refl))
    listens waits skips faults ended Skipped none small ends waited skipped failed = (gives_none none, rose_at skips (skipped.cause refl))
    listens waits skips faults ended Failed none small ends waited skipped failed = (gives_none none, rose_at faults (failed.cause refl))
    listens waits skips faults ended Ended none small ends waited skipped failed = (gives_none none, subst (λ o. IfSome o (λ x. IsTrue (ended x))) (sym now_at) (ends.1 refl))
