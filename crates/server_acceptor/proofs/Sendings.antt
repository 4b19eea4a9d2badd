-- What was sent to one worker, and which workers got a stop.
use Rattle.std.proofs.Common.{◌≡◌, ◌≢◌, ◌<◌, ℕ, zero, suc, ◌+◌, Bool, true, false, true≢false, cond, replicate, List, [], ◌∷◌, ◌++◌, length, map, get_or, set, refl, sym, ap, subst, ◌∙◌, arith, inl, inr, get_or-set_same, get_or-set_other}
use Rattle.std.specs.Prelude.{◌≤◌, IfErr, OnOk, Result, Ok, Err, count_by, slice_index_or}
use Rattle.std.proofs.lemmas.Bool.{cases_eq}
use Rattle.std.proofs.lemmas.List.Sums.{sum_by-cons, sum_by_push}
use Rattle.rtrb.specs.Ring.{known_free, sent, SameProducer}
use Rattle.rtrb.specs.declared.errors.PushError.{PushError}
use Rattle.rtrb.specs.declared.errors.PushError.TheVariants.{Full}
use Rattle.server_acceptor.proofs.PlaceSteps.{keeps_sent, puts_at}
use Rattle.rtrb.specs.declared.producer.Producer.{Producer}
use Rattle.server_jobs.specs.declared.parcel.Parcel.{Parcel}
use Rattle.server_jobs.specs.declared.parcel.Parcel.TheVariants.{Conn, Stop}
use Rattle.server_acceptor.specs.Placing.{KeepsSent, PutsAt}
use Rattle.server_acceptor.specs.Sending.{AreSent, IsForced, IsSent, IsStopped, sent_to}
use Rattle.server_jobs.specs.Parcels.{is_force, is_stop}

length_mapped : {X Y : Type 0} (h : X → Y) (xs : List X) → length (map h xs) ≡ length xs
length_mapped h [] = refl
length_mapped h (x ∷ xs) = ap suc (length_mapped h xs)

sent_as : {L A P : Type 0} (ps : List (Producer (Parcel L) A P)) (w : ℕ) → sent_to ps w ≡ slice_index_or (map (λ p. sent p) ps) w []
sent_as [] w = refl
sent_as (p ∷ ps) zero = refl
sent_as (p ∷ ps) (suc w) = sent_as ps w

module _ {L A P : Type 0} (ps qs : List (Producer (Parcel L) A P)) where
  pub sent_kept : KeepsSent ps qs → (v : ℕ) → sent_to qs v ≡ sent_to ps v
  sent_kept k v = sent_as qs v ∙ ap (λ xs. slice_index_or xs v []) k.sent_on ∙ sym (sent_as ps v)

  pub sent_elsewhere : (w v : ℕ) (item : Parcel L) → PutsAt ps qs w item → v ≢ w → sent_to qs v ≡ sent_to ps v
  sent_elsewhere w v item p other = sent_as qs v ∙ ap (λ xs. slice_index_or xs v []) p.sent_on
      ∙ get_or-set_other (map (λ p. sent p) ps) w v (slice_index_or (map (λ p. sent p) ps) w [] ++ item ∷ []) [] other ∙ sym (sent_as ps v)

  pub sent_there : (w : ℕ) (item : Parcel L) → PutsAt ps qs w item → sent_to qs w ≡ sent_to ps w ++ item ∷ []
  sent_there w item p = sent_as qs w ∙ ap (λ xs. slice_index_or xs w []) p.sent_on
      ∙ get_or-set_same (map (λ p. sent p) ps) w (slice_index_or (map (λ p. sent p) ps) w [] ++ item ∷ []) [] (omega (arith, p.inside, length_mapped (λ p. sent p) ps))
      ∙ ap (λ xs. xs ++ item ∷ []) (sym (sent_as ps w))

  module _ (test : Parcel L → Bool) where
    sent_back : KeepsSent ps qs → (v : ℕ) → IsSent qs test v → IsSent ps test v
    sent_back k v is = omega (arith, is, ap (count_by test) (sent_kept k v))

    counted_there : (w : ℕ) (item : Parcel L) → PutsAt ps qs w item → count_by test (sent_to qs w) ≡ count_by test (sent_to ps w) + cond (test item) 1 0
    counted_there w item p = omega (arith, ap (count_by test) (sent_there w item p), sum_by_push (λ x. cond (test x) 1 0) (sent_to ps w) item)

    -- only such a parcel makes one so
    sent_before : (w v : ℕ) (item : Parcel L) → test item ≡ false → PutsAt ps qs w item → IsSent qs test v → IsSent ps test v
    sent_before w v item none p is = elim (cases_eq v w) [
      | inl same ↦ rw same (omega (arith, subst (λ x. IsSent qs test x) same is, counted_there w item p, ap {B = ℕ} (λ b. cond b 1 0) none))
      | inr other ↦ omega (arith, is, ap (count_by test) (sent_elsewhere w v item p other))
    ]

    sent_now : (w : ℕ) (item : Parcel L) → test item ≡ true → PutsAt ps qs w item → IsSent qs test w
    sent_now w item is p = omega (arith, counted_there w item p, ap {B = ℕ} (λ b. cond b 1 0) is)

    sent_still : (w v : ℕ) (item : Parcel L) → PutsAt ps qs w item → IsSent ps test v → IsSent qs test v
    sent_still w v item p is = elim (cases_eq v w) [
      | inl same ↦ rw same (omega (arith, subst (λ x. IsSent ps test x) same is, counted_there w item p))
      | inr other ↦ omega (arith, is, ap (count_by test) (sent_elsewhere w v item p other))
    ]

    -- those that are marked stay so
    pub are_sent_kept : (marks : List Bool) → KeepsSent ps qs → AreSent ps test marks → AreSent qs test marks
    are_sent_kept marks k are v on = omega (arith, are v on, ap (count_by test) (sent_kept k v))

    pub are_sent_put : (marks : List Bool) (w : ℕ) (item : Parcel L) → PutsAt ps qs w item → AreSent ps test marks → AreSent qs test marks
    are_sent_put marks w item p are v on = sent_still w v item p (are v on)

  pub forced_kept : KeepsSent ps qs → (v : ℕ) → IsForced qs v → IsForced ps v
  forced_kept = sent_back is_force

  pub forced_put : (w v : ℕ) (item : Parcel L) → is_force item ≡ false → PutsAt ps qs w item → IsForced qs v → IsForced ps v
  forced_put = sent_before is_force

  pub stopped_kept : KeepsSent ps qs → (v : ℕ) → IsStopped qs v → IsStopped ps v
  stopped_kept = sent_back is_stop

  pub stopped_put : (w v : ℕ) (item : Parcel L) → is_stop item ≡ false → PutsAt ps qs w item → IsStopped qs v → IsStopped ps v
  stopped_put = sent_before is_stop

  pub forced_now : (w : ℕ) → PutsAt ps qs w (Stop false) → IsForced qs w
  forced_now w p = sent_now is_force w (Stop false) refl p

  pub stopped_now : (w : ℕ) (graceful : Bool) → PutsAt ps qs w (Stop graceful) → IsSent qs is_stop w
  stopped_now w graceful p = sent_now is_stop w (Stop graceful) refl p

-- one that is not graceful is one
pub stop_of_force : {L A P : Type 0} (ps : List (Producer (Parcel L) A P)) (w : ℕ) → IsForced ps w → IsSent ps is_stop w
stop_of_force {L = L} ps w is = at_least (sent_to ps w) is
  where
    at_least : (parcels : List (Parcel L)) → 0 < count_by is_force parcels → 0 < count_by is_stop parcels
    at_least [] is = absurd (omega (arith, is))
    at_least (Conn s t p link ∷ parcels) is =
        let more = sum_by-cons (λ (x : Parcel L). cond (is_force x) 1 0) (Conn s t p link) parcels in
        let as_many = sum_by-cons (λ (x : Parcel L). cond (is_stop x) 1 0) (Conn s t p link) parcels in
        let rest = at_least parcels (omega (arith, is, more)) in omega (arith, rest, as_many)
    at_least (Stop graceful ∷ parcels) is = let as_many = sum_by-cons (λ (x : Parcel L). cond (is_stop x) 1 0) (Stop graceful) parcels in omega (arith, as_many)

-- a push changes none of it
pub are_sent_pushed : {L A P : Type 0} (ps : List (Producer (Parcel L) A P)) (test : Parcel L → Bool) (marks : List Bool) (w : ℕ) (p q : Producer (Parcel L) A P) (item : Parcel L) (r : Result (Unit {0}) (PushError (Parcel L)))
    → w < length ps → p ≡ get_or ps w p → SameProducer p q → OnOk r ((sent q ≡ sent p ++ item ∷ []) × (known_free p ≤ known_free q + 1)) → IfErr r (λ e. (e ≡ Full item) × (sent q ≡ sent p) × (known_free q ≡ 0))
    → AreSent ps test marks → AreSent (set ps w q) test marks
are_sent_pushed ps test marks w p q item (Ok u) inside is same ok full are = are_sent_put ps (set ps w q) test marks w item (puts_at ps w p q item inside is same ok.0) are
are_sent_pushed ps test marks w p q item (Err e) inside is same ok full are = are_sent_kept ps (set ps w q) test marks (keeps_sent ps w p q is same full.1) are

pub are_sent_marked : {L A P : Type 0} (qs : List (Producer (Parcel L) A P)) (test : Parcel L → Bool) (marks : List Bool) (w : ℕ) → IsSent qs test w → AreSent qs test marks → AreSent qs test (set marks w true)
are_sent_marked qs test marks w here are v on = elim (cases_eq v w) [
  | inl same ↦ rw same here
  | inr other ↦ are v (sym (get_or-set_other marks w v true false other) ∙ on)
]

pub are_sent_none : {L A P : Type 0} (qs : List (Producer (Parcel L) A P)) (test : Parcel L → Bool) (marks : List Bool) (n : ℕ) → marks ≡ replicate n false → AreSent qs test marks
are_sent_none qs test marks n is v on = absurd (true≢false (sym on ∙ ap (λ xs. slice_index_or xs v false) is ∙ none n v))
  where
    none : (n v : ℕ) → slice_index_or {A = Bool} (replicate n false) v false ≡ false
    none zero v = refl
    none (suc n) zero = refl
    none (suc n) (suc v) = none n v
