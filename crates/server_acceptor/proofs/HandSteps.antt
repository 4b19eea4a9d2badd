-- What comes back from the workers, one note after the other.
use Rattle.std.proofs.Common.{◌≡◌, ◌≢◌, ℕ, zero, suc, ◌+◌, ◌-◌, ◌<◌, ◌≤◌, true, false, cond, List, [], ◌∷◌, ◌++◌, length, map, get_or, set, sum_by, All, Any, Contains, Some, IfSome, refl, sym, ap, subst, ◌∙◌, arith, nat_lt, inl, inr, get_or-set_same, get_or-set_other}
use Rattle.std.specs.Prelude.{◌||◌, Bool, Option, is_some, count_by, nat_eq, slice_get, slice_set, slice_index, sum}
use Rattle.std.specs.Option.{option_map_or}
use Rattle.std.specs.FinSet as set
use Rattle.std.proofs.lemmas.Bool.Decides.{nat_tests}
use Rattle.std.proofs.lemmas.Bool.{cases_eq}
use Rattle.std.proofs.Math.Seq.{map-set_same}
use Rattle.std.proofs.Math.ListN.{length-set}
use Rattle.std.proofs.lemmas.List.Sums.{sum_by-set, sum_by_push}
use Rattle.std.proofs.lemmas.List.Elements.{All-nil, All-cons, Contains-append_left, Contains-push}
use Rattle.std.proofs.lemmas.List.Quantifiers.{any-set}
use Rattle.std.proofs.lemmas.Option.{slice_get-get_or}
use Rattle.rtrb.specs.Ring.{known_items, received, SameConsumer}
use Rattle.rtrb.specs.declared.consumer.Consumer.{Consumer}
use Rattle.service_core.specs.Link.{Identity}
use Rattle.server_core.specs.Core.{Core, IsKept, held, in_order, is_worker, step}
use Rattle.server_core.specs.declared.event.Event.{Event}
use Rattle.server_core.specs.declared.event.Event.TheVariants.{Notice, Back as BackOf}
use Rattle.server_run.specs.Outcome.{is_stopped}
use Rattle.server_run.specs.declared.entry.Entry.{Entry}
use Rattle.server_jobs.specs.Cards.{Card, of_entry, of_note}
use Rattle.server_acceptor.specs.Carrying.{came_back}
use Rattle.server_acceptor.specs.Accepting.{is_back}
use Rattle.server_acceptor.specs.Handing.{AllReturn, MayTake}
use Rattle.server_acceptor.specs.Notes.{count_back}
use Rattle.server_acceptor.specs.Rings.{ring_out}
use Rattle.server_jobs.specs.declared.note.Note.{Note}
use Rattle.server_jobs.specs.declared.note.Note.TheVariants.{Back}
use Rattle.server_acceptor.specs.Logging.{Logs}
use Rattle.server_acceptor.proofs.LogSteps.{logs_one, logs_trans}
use Rattle.server_acceptor.proofs.PlaceSteps.{IsRuled, contains_inserted}

-- ---- the rule of the limit
ruled_back : (s : Core) (limit w v : ℕ) → IsRuled s limit → w < length s.out → (in_order s.order w ≡ true → slice_index s.out w ≢ limit) → 0 < slice_index s.out w → in_order s.order v ≡ true
    → set.contains s.free v ≡ nat_lt (slice_index (slice_set s.out w (slice_index s.out w - 1)) v) limit
ruled_back s limit w v ruled inside other some i =
    elim (cases_eq v w) [
      | inl same ↦ rw same (let there = subst (λ x. in_order s.order x ≡ true) same i in
          ruled w there ∙ lower (other there) ∙ ap (λ n. nat_lt n limit) (sym (get_or-set_same s.out w (slice_index s.out w - 1) 0 inside)))
      | inr differ ↦ ruled v i ∙ ap (λ n. nat_lt n limit) (sym (get_or-set_other s.out w v (slice_index s.out w - 1) 0 differ))
    ]
  where
    lower : slice_index s.out w ≢ limit → nat_lt (slice_index s.out w) limit ≡ nat_lt (slice_index s.out w - 1) limit
    lower unlike = grind (arith, nat_tests)

pub ruled_lower : (s t : Core) (limit w : ℕ) → IsRuled s limit → w < length s.out → (in_order s.order w ≡ true → slice_index s.out w ≢ limit) → 0 < slice_index s.out w → t ≡ step s (BackOf w) → IsRuled t limit
ruled_lower s t limit w ruled inside other some is = subst (λ u. IsRuled u limit) (sym is) (λ v i. ruled_back s limit w v ruled inside other some i)

ruled_notice : (s : Core) (limit w : ℕ) → IsRuled s limit → w < length s.out → slice_index s.out w ≡ limit → 0 < slice_index s.out w → in_order s.order w ≡ true
    → IsRuled (step (step s (BackOf w)) (Notice w)) limit
ruled_notice s limit w ruled inside full some there v i =
    rw there (contains_inserted s.free w v ∙ elim (cases_eq v w) [
      | inl same ↦ rw same (
          let e : nat_eq w w ≡ true = grind (arith, nat_tests) in
          let less : nat_lt (slice_index s.out w - 1) limit ≡ true = grind (arith, nat_tests) in
          ap (λ b. b || set.contains s.free w) e ∙ sym less ∙ ap (λ n. nat_lt n limit) (sym (get_or-set_same s.out w (slice_index s.out w - 1) 0 inside)))
      | inr differ ↦
          let unlike : nat_eq v w ≡ false = grind (arith, nat_tests) in
          ap (λ b. b || set.contains s.free v) unlike ∙ ruled v i ∙ ap (λ n. nat_lt n limit) (sym (get_or-set_other s.out w v (slice_index s.out w - 1) 0 differ))
    ])

pub ruled_freed : (s t : Core) (limit w : ℕ) → IsRuled s limit → w < length s.out → slice_index s.out w ≡ limit → 0 < slice_index s.out w → in_order s.order w ≡ true
    → t ≡ step (step s (BackOf w)) (Notice w) → IsRuled t limit
ruled_freed s t limit w ruled inside full some there is = subst (λ u. IsRuled u limit) (sym is) (ruled_notice s limit w ruled inside full some there)

-- a worker at its limit isn't free
pub full_not_free : (s : Core) (limit w : ℕ) → IsRuled s limit → in_order s.order w ≡ true → slice_index s.out w ≡ limit → set.contains s.free w ≡ false
full_not_free s limit w ruled there full = ruled w there ∙ grind (arith, nat_tests)

pub sum_lower : (xs : List ℕ) (w : ℕ) → w < length xs → 0 < slice_index xs w → sum (slice_set xs w (slice_index xs w - 1)) + 1 ≡ sum xs
sum_lower xs w inside some = omega (arith, sum_by-set (λ x. x) xs w (slice_index xs w - 1) 0 inside)

-- ---- one ring among those of all workers, from which a note was taken
module _ {L A P : Type 0} (ps : List (Consumer (Note L) A P)) (w : ℕ) (p q : Consumer (Note L) A P) (note : Note L)
    (inside : w < length ps) (is : p ≡ get_or ps w p) (more : received q ≡ received p ++ note ∷ []) where
  pub same_ends : SameConsumer p q → map ring_out (set ps w q) ≡ map ring_out ps
  same_ends same = map-set_same ring_out ps w q p ((λ i. (same.0.0 i, (same.0.1 i, (same.0.2 i, same.0.3 i)))) ∙ ap ring_out is)

  pub came_more : (identity : L → Identity) (h : Card → ℕ) → came_back identity h (set ps w q) ≡ came_back identity h ps + of_note identity h note
  came_more identity h = omega (
    arith,
    sum_by-set (λ c. sum_by (of_note identity h) (received c)) ps w q p inside,
    ap (λ c. sum_by (of_note identity h) (received c)) is,
    ap (sum_by (of_note identity h)) more,
    sum_by_push (of_note identity h) (received p) note,
  )

  at_w : (identity : L → Identity) → count_back identity ps w ≡ sum_by (of_note identity (λ x. 1)) (received p)
  at_w identity = ap (λ o. option_map_or (λ c. sum_by (of_note identity (λ x. 1)) (received c)) o 0) (slice_get-get_or ps w p inside) ∙ ap (λ c. sum_by (of_note identity (λ x. 1)) (received c)) (sym is)

  at_w_now : (identity : L → Identity) → count_back identity (set ps w q) w ≡ sum_by (of_note identity (λ x. 1)) (received q)
  at_w_now identity = ap (λ o. option_map_or (λ c. sum_by (of_note identity (λ x. 1)) (received c)) o 0)
      (slice_get-get_or (set ps w q) w q (omega (arith, length-set ps w q)) ∙ ap Some (get_or-set_same ps w q q inside))

  pub count_more : (identity : L → Identity) → count_back identity (set ps w q) w ≡ count_back identity ps w + of_note identity (λ x. 1) note
  count_more identity = omega (arith, at_w identity, at_w_now identity, ap (sum_by (of_note identity (λ x. 1))) more, sum_by_push (of_note identity (λ x. 1)) (received p) note)

  pub kept_notes : (n : Note L) → Any (λ c. Contains (received c) n) ps → Any (λ c. Contains (received c) n) (set ps w q)
  kept_notes n (k, c, below, at, has) = elim (cases_eq k w) [
    | inl same ↦
        let there : c ≡ p = sym at ∙ ap (λ i. get_or ps i c) same ∙ any_d ps w c p inside ∙ sym is in
        any-set (λ r. Contains (received r) n) ps w q inside (subst (λ ns. Contains ns n) (sym more) (Contains-append_left (received p) (note ∷ []) n (subst (λ r. Contains (received r) n) there has)))
    | inr differ ↦ (k, c, omega (arith, length-set ps w q, below), get_or-set_other ps w k q c differ ∙ at, has)
  ]
    where
      any_d : (xs : List (Consumer (Note L) A P)) (i : ℕ) (c d : Consumer (Note L) A P) → i < length xs → get_or xs i c ≡ get_or xs i d
      any_d [] i c d b = absurd (omega arith)
      any_d (x ∷ xs) zero c d b = refl
      any_d (x ∷ xs) (suc i) c d b = any_d xs i c d (omega arith)

  pub new_note : Any (λ c. Contains (received c) note) (set ps w q)
  new_note = any-set (λ r. Contains (received r) note) ps w q inside (subst (λ ns. Contains ns note) (sym more) (Contains-push (received p) note))

  set_other : (v : ℕ) → v ≢ w → slice_get (set ps w q) v ≡ slice_get ps v
  set_other v differ = others ps w v differ
    where
      others : (xs : List (Consumer (Note L) A P)) (w v : ℕ) → v ≢ w → slice_get (set xs w q) v ≡ slice_get xs v
      others [] w v differ = refl
      others (x ∷ xs) zero zero differ = absurd (differ refl)
      others (x ∷ xs) zero (suc v) differ = refl
      others (x ∷ xs) (suc w) zero differ = refl
      others (x ∷ xs) (suc w) (suc v) differ = others xs w v (λ e. differ (ap (λ n. suc n) e))

  -- a connection that came back is out no more
  pub balance_back : (identity : L → Identity) (before after : List ℕ) → of_note identity (λ x. 1) note ≡ 1 → w < length before → 0 < slice_index before w
      → after ≡ slice_set before w (slice_index before w - 1) → (v : ℕ) → count_back identity (set ps w q) v + slice_index after v ≡ count_back identity ps v + slice_index before v
  balance_back identity before after one within some now v = elim (cases_eq v w) [
    | inl same ↦ rw same (omega (arith, count_more identity, one, ap (λ xs. slice_index xs w) now, get_or-set_same before w (slice_index before w - 1) 0 within))
    | inr differ ↦ omega (
      arith,
      ap (λ o. option_map_or (λ c. sum_by (of_note identity (λ x. 1)) (received c)) o 0) (set_other v differ),
      ap (λ xs. slice_index xs v) now,
      get_or-set_other before w v (slice_index before w - 1) 0 differ,
    )
  ]

  pub balance_same : (identity : L → Identity) (before : List ℕ) → of_note identity (λ x. 1) note ≡ 0 → (v : ℕ) → count_back identity (set ps w q) v + slice_index before v ≡ count_back identity ps v + slice_index before v
  balance_same identity before none v = elim (cases_eq v w) [
    | inl same ↦ rw same (omega (arith, count_more identity, none))
    | inr differ ↦ omega (arith, ap (λ o. option_map_or (λ c. sum_by (of_note identity (λ x. 1)) (received c)) o 0) (set_other v differ))
  ]

pub back_logs : (s t : Core) (w : ℕ) (xs ys : List Event) → w < length s.out → 0 < slice_index s.out w → t ≡ step s (BackOf w) → ys ≡ xs ++ BackOf w ∷ [] → Logs s t xs ys
back_logs s t w xs ys below some is more =
    let number : is_worker s w ≡ true = grind (arith, nat_tests) in
    let out : nat_lt 0 (slice_index s.out w) ≡ true = grind (arith, nat_tests) in
    logs_one s t xs ys (BackOf w) (rw (number, out) refl) tt is more

pub freed_logs : (s t u : Core) (limit w : ℕ) (xs ys zs : List Event) → IsRuled s limit → in_order s.order w ≡ true → slice_index s.out w ≡ limit → w < length s.out → 0 < slice_index s.out w
    → t ≡ step s (BackOf w) → ys ≡ xs ++ BackOf w ∷ [] → u ≡ step t (Notice w) → zs ≡ ys ++ Notice w ∷ [] → Logs s u xs zs
freed_logs s t u limit w xs ys zs ruled there full below some is more then_is then_more =
    let number : is_worker t w ≡ true = ap (λ (c : Core). is_worker c w) is ∙ grind (arith, nat_tests, length-set s.out w (slice_index s.out w - 1)) in
    logs_trans (back_logs s t w xs ys below some is more)
    (logs_one t u ys zs (Notice w) number
    (ap (λ (c : Core). in_order c.order w) is ∙ there, ap (λ (c : Core). set.contains c.free w) is ∙ full_not_free s limit w ruled there full) then_is then_more)

-- the same, with what these events are
pub lowered_back : (s t : Core) (w : ℕ) (xs ys : List Event) → w < length s.out → 0 < slice_index s.out w → t ≡ step s (BackOf w) → ys ≡ xs ++ BackOf w ∷ []
    → (logs : Logs s t xs ys) × (AllReturn logs.more × ((v : ℕ) → count_by (is_back v) logs.more ≡ cond (nat_eq w v) 1 0))
unfolding back_logs
lowered_back s t w xs ys below some is more = (back_logs s t w xs ys below some is more, ((inl (w, refl), tt), λ v. omega arith))

pub lowered_freed : (s t u : Core) (limit w : ℕ) (xs ys zs : List Event) → IsRuled s limit → in_order s.order w ≡ true → slice_index s.out w ≡ limit → w < length s.out → 0 < slice_index s.out w
    → t ≡ step s (BackOf w) → ys ≡ xs ++ BackOf w ∷ [] → u ≡ step t (Notice w) → zs ≡ ys ++ Notice w ∷ []
    → (logs : Logs s u xs zs) × (AllReturn logs.more × ((v : ℕ) → count_by (is_back v) logs.more ≡ cond (nat_eq w v) 1 0))
unfolding freed_logs back_logs
lowered_freed s t u limit w xs ys zs ruled there full below some is more then_is then_more =
    (freed_logs s t u limit w xs ys zs ruled there full below some is more then_is then_more, ((inl (w, refl), (inr (w, refl), tt)), λ v. omega arith))

pub out_lowered : (s t : Core) (w out : ℕ) → w < length s.out → 0 < slice_index s.out w → out ≡ sum s.out → t.out ≡ slice_set s.out w (slice_index s.out w - 1) → out - 1 ≡ sum t.out
out_lowered s t w out below some is now = omega (arith, is, ap sum now, sum_lower s.out w below some)

-- a connection that comes back was given before
pub given_some : (s t : Core) (w serial : ℕ) → t ≡ step s (BackOf w) → IsKept t → serial ≡ s.given → 0 < serial
given_some s t w serial is kept counted = let k : IsKept (step s (BackOf w)) = subst IsKept is kept in omega (arith, counted, k.balance)

pub out_some : (out : List ℕ) (w held_now spare : ℕ) → w < length out → 0 < slice_index out w → sum out + held_now ≤ spare → 0 < spare
out_some out w held_now spare below some h = omega (arith, sum_lower out w below some)

pub spare_left : (s t : Core) (w before after : ℕ) → w < length s.out → 0 < slice_index s.out w → t.out ≡ slice_set s.out w (slice_index s.out w - 1) → t.waiting ≡ s.waiting
    → sum s.out + held s.waiting ≤ before → after + 1 ≡ before → sum t.out + held t.waiting ≤ after
spare_left s t w before after below some out waiting h is = omega (arith, sum_lower s.out w below some, ap sum out, ap held waiting)

-- Where the next note of a worker may be taken and is a connection, one is out at it, and a stop came where it was stopped.
pub may_back : {L A P : Type 0} (ps : List (Consumer (Note L) A P)) (w out : ℕ) (stopping : Option Bool) (p : Consumer (Note L) A P) (note : Note L) (rest : List (Note L)) (e : Entry L) → w < length ps → p ≡ get_or ps w p
    → known_items p ≡ note ∷ rest → note ≡ Back e → IfSome (slice_get ps w) (λ c. MayTake out stopping (known_items c)) → (0 < out) × (is_stopped e.outcome ≡ true → is_some stopping ≡ true)
may_back ps w out stopping p note rest e inside is known note_is may =
    let there : slice_get ps w ≡ Some p = slice_get-get_or ps w p inside ∙ ap Some (sym is) in
    let first : MayTake out stopping (known_items p) = rw there at may in
    subst (λ n. MayTake out stopping (n ∷ rest)) note_is (subst (MayTake out stopping) known first)

pub out_at_back : {L A P : Type 0} (ps : List (Consumer (Note L) A P)) (w out : ℕ) (stopping : Option Bool) (p : Consumer (Note L) A P) (note : Note L) (rest : List (Note L)) (e : Entry L) → w < length ps → p ≡ get_or ps w p
    → known_items p ≡ note ∷ rest → note ≡ Back e → IfSome (slice_get ps w) (λ c. MayTake out stopping (known_items c)) → 0 < out
out_at_back ps w out stopping p note rest e inside is known note_is may = (may_back ps w out stopping p note rest e inside is known note_is may).0

-- ---- the same, where the list of the ends is known by an equation
module _ {L A P : Type 0} (ns ps : List (Consumer (Note L) A P)) (w : ℕ) (p q : Consumer (Note L) A P) (note : Note L) (e : Entry L) (now : ns ≡ set ps w q)
    (inside : w < length ps) (is : p ≡ get_or ps w p) (more : received q ≡ received p ++ note ∷ []) (note_is : note ≡ Back e) where
  pub rings_then : SameConsumer p q → map ring_out ns ≡ map ring_out ps
  rings_then same = ap (map ring_out) now ∙ same_ends ps w p q note inside is more same

  pub came_then : (identity : L → Identity) (h : Card → ℕ) → came_back identity h ns ≡ came_back identity h ps + sum_by (of_entry identity h) (e ∷ [])
  came_then identity h = omega (arith, ap (came_back identity h) now, came_more ps w p q note inside is more identity h, ap (of_note identity h) note_is)

  pub noted_then : All (λ x. Any (λ c. Contains (received c) (Back x)) ns) (e ∷ [])
  noted_then = All-cons (λ x. Any (λ c. Contains (received c) (Back x)) ns) e []
      (subst (λ xs. Any (λ c. Contains (received c) (Back e)) xs) (sym now) (subst (λ n. Any (λ c. Contains (received c) n) (set ps w q)) note_is (new_note ps w p q note inside is more))) (All-nil _)

  pub kept_then : (x : Entry L) → Any (λ c. Contains (received c) (Back x)) ps → Any (λ c. Contains (received c) (Back x)) ns
  kept_then x any = subst (λ xs. Any (λ c. Contains (received c) (Back x)) xs) (sym now) (kept_notes ps w p q note inside is more (Back x) any)

  pub balance_then : (identity : L → Identity) (before after : List ℕ) → w < length before → 0 < slice_index before w
      → after ≡ slice_set before w (slice_index before w - 1) → (v : ℕ) → count_back identity ns v + slice_index after v ≡ count_back identity ps v + slice_index before v
  balance_then identity before after within some out v = ap (λ xs. count_back identity xs v + slice_index after v) now
      ∙ balance_back ps w p q note inside is more identity before after (ap (of_note identity (λ x. 1)) note_is) within some out v
