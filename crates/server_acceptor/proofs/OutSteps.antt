-- What the asking of listeners comes to, one after the other.
use Rattle.std.proofs.Common.{◌≡◌, ◌≢◌, ◌<◌, ◌≤◌, ◌⊎◌, ℕ, ◌+◌, ◌-◌, true, false, List, None, refl, sym, ◌∙◌, ap, arith, subst, inl, inr}
use Rattle.std.specs.Prelude.{count_by, nat_lt, slice_get, slice_index_or, IsSomeAnd}
use Rattle.std.specs.Option.{option_map_or}
use Rattle.std.proofs.lemmas.Bool.{cases_eq, cases_lt}
use Rattle.std.proofs.lemmas.Bool.Decides.{nat_tests}
use Rattle.service_core.specs.Counts.{Rose}
use Rattle.server_core.specs.Core.{is_open}
use Rattle.server_run.specs.Delivery.{given_at, rise}
use Rattle.server_acceptor.specs.Accepting.{AsksFrom, AsksInTurn, GaveOrSkipped, HasSettled, IsAskedOut, IsBackedOff, IsOutside, MayAsk, RoseBy, is_failed, turn_of}
use Rattle.server_acceptor.specs.Acceptors.{core_of, events_of, failed_of, first_of, listeners_of}
use Rattle.server_acceptor.specs.Listening.{NeverFall}
use Rattle.server_acceptor.specs.declared.acceptor.Acceptor.{Acceptor}
use Rattle.server_acceptor.proofs.LeaveSteps.{leaves_none, leaves_trans}

outside_other : (t v : ℕ) → v ≢ t → IsOutside t (t + 1) v
outside_other t v other = elim (cases_lt v t) [
  | inl below ↦ inl below
  | inr above ↦ inr (omega (arith, above, other))
]

-- ---- one listener
-- It was asked k times, and may be asked again.
pub record AskedSome {Li L : Type 0} (given waits skips : Li → ℕ) (l m : List Li) (a b : Acceptor L) (t k : ℕ) : Type 0 where
  pub asks : AsksFrom l m a b t (t + 1)
  pub failures : count_by (is_failed t) (events_of b) ≡ count_by (is_failed t) (events_of a)
  pub opened : is_open (core_of b) t ≡ true
  pub may : MayAsk b
  pub counts : NeverFall waits skips l m t
  pub rises : given_at given l t ≤ given_at given m t
  pub skipped : ℕ
  pub enough : k ≤ rise given l m t + skipped
  pub rose : RoseBy skipped (given_at skips l t) (given_at skips m t)

module _ {Li L : Type 0} (given waits skips : Li → ℕ) (l : List Li) (a : Acceptor L) (t : ℕ) where
  pub asked_none : is_open (core_of a) t ≡ true → MayAsk a → AskedSome given waits skips l l a a t 0
  asked_none opened may = record {
    asks = record { leaves = leaves_none a; first = refl; listeners = λ v out. refl; failed = λ v out. refl; ended = λ v out. refl; others = λ v out. refl; once = λ v. omega arith };
    failures = refl;
    opened = opened;
    may = may;
    counts = record { waited = omega arith; skipped = omega arith };
    rises = omega arith;
    skipped = 0;
    enough = omega arith;
    rose = omega arith;
  }

  module _ (m n : List Li) (b c : Acceptor L) (k : ℕ) (p : AskedSome given waits skips l m a b t k) (q : AsksFrom m n b c t (t + 1)) where
    pub asks_more : AsksFrom l n a c t (t + 1)
    asks_more = record {
      leaves = leaves_trans a b c p.asks.leaves q.leaves;
      first = q.first ∙ p.asks.first;
      listeners = λ v out. q.listeners v out ∙ p.asks.listeners v out;
      failed = λ v out. q.failed v out ∙ p.asks.failed v out;
      ended = λ v out. q.ended v out ∙ p.asks.ended v out;
      others = λ v out. q.others v out ∙ p.asks.others v out;
      once = λ v. elim (cases_eq v t) [
        | inl same ↦ rw same (omega (arith, q.once t, p.failures))
        | inr other ↦ omega (arith, q.others v (outside_other t v other), p.asks.others v (outside_other t v other))
      ];
    }

    -- it gave one more, or passed one over
    pub asked_more : NeverFall waits skips m n t → MayAsk c → is_open (core_of c) t ≡ true → count_by (is_failed t) (events_of c) ≡ count_by (is_failed t) (events_of b) → GaveOrSkipped given skips m n t
        → AskedSome given waits skips l n a c t (k + 1)
    asked_more counts may opened failures (inl gave) = record {
      asks = asks_more;
      failures = failures ∙ p.failures;
      opened = opened;
      may = may;
      counts = record { waited = omega (arith, p.counts.waited, counts.waited); skipped = omega (arith, p.counts.skipped, counts.skipped) };
      rises = omega (arith, p.rises, gave);
      skipped = p.skipped;
      enough = omega (arith, p.rises, gave, p.enough);
      rose = omega (arith, p.rose, counts.skipped);
    }
    asked_more counts may opened failures (inr passed) = record {
      asks = asks_more;
      failures = failures ∙ p.failures;
      opened = opened;
      may = may;
      counts = record { waited = omega (arith, p.counts.waited, counts.waited); skipped = omega (arith, p.counts.skipped, counts.skipped) };
      rises = omega (arith, p.rises, passed.0);
      skipped = p.skipped + 1;
      enough = omega (arith, p.rises, passed.0, p.enough);
      rose = let before = p.rose in let r = passed.1 in omega arith;
    }

    -- it settled
    pub asked_settled : (now : ℕ) → HasSettled waits m n c now t → IsAskedOut given waits skips l n c now t
    asked_settled now (inl over) = inl over
    asked_settled now (inr (inl rose)) = inr (inl (let r = rose in let w = p.counts.waited in omega arith))
    asked_settled now (inr (inr failed)) = inr (inr (inr failed))

  -- it was asked as often as it may be
  pub asked_enough : (m : List Li) (b : Acceptor L) (now : ℕ) → AskedSome given waits skips l m a b t 256 → IsAskedOut given waits skips l m b now t
  asked_enough m b now p = inr (inr (inl (p.skipped, p.enough, p.rose)))

-- ---- one listener after the other
module _ {Li L : Type 0} (given waits skips : Li → ℕ) (now : ℕ) where
  -- one that was not asked later is asked out still
  pub out_onward : (l m n : List Li) (b c : Acceptor L) (v : ℕ) → slice_get n v ≡ slice_get m v → slice_index_or (failed_of c) v None ≡ slice_index_or (failed_of b) v None
      → slice_index_or (core_of c).ended v true ≡ slice_index_or (core_of b).ended v true → IsAskedOut given waits skips l m b now v → IsAskedOut given waits skips l n c now v
  out_onward l m n b c v same failed ended (inl over) = inl (ended ∙ over)
  out_onward l m n b c v same failed ended (inr (inl rose)) = inr (inl (subst (λ o. Rose (given_at waits l v) (option_map_or waits o 0)) (sym same) rose))
  out_onward l m n b c v same failed ended (inr (inr (inl asked))) = inr (inr (inl (
    asked.0,
    subst (λ o. 256 ≤ (option_map_or given o 0 - given_at given l v) + asked.0) (sym same) asked.1,
    subst (λ o. RoseBy asked.0 (given_at skips l v) (option_map_or skips o 0)) (sym same) asked.2,
  )))
  out_onward l m n b c v same failed ended (inr (inr (inr backed))) = inr (inr (inr (subst (λ o. IsSomeAnd o (λ at. now < at + 500)) (sym failed) backed)))

  -- one that was not asked before
  pub out_before : (l m n : List Li) (c : Acceptor L) (v : ℕ) → slice_get m v ≡ slice_get l v → IsAskedOut given waits skips m n c now v → IsAskedOut given waits skips l n c now v
  out_before l m n c v same (inl over) = inl over
  out_before l m n c v same (inr (inl rose)) = inr (inl (subst (λ o. Rose (option_map_or waits o 0) (given_at waits n v)) same rose))
  out_before l m n c v same (inr (inr (inl asked))) = inr (inr (inl (
    asked.0,
    subst (λ o. 256 ≤ (given_at given n v - option_map_or given o 0) + asked.0) same asked.1,
    subst (λ o. RoseBy asked.0 (option_map_or skips o 0) (given_at skips n v)) same asked.2,
  )))
  out_before l m n c v same (inr (inr (inr backed))) = inr (inr (inr backed))

-- Those from one token on to another were asked, each in its turn, and each is asked out.
pub record AskedTo {Li L : Type 0} (given waits skips : Li → ℕ) (now : ℕ) (l m : List Li) (a b : Acceptor L) (from to : ℕ) : Type 0 where
  pub asks : AsksFrom l m a b from to
  pub rests : (v : ℕ) → IsBackedOff a now v → slice_get m v ≡ slice_get l v
  pub outs : (v : ℕ) → from ≤ v → v < to → IsAskedOut given waits skips l m b now v

module _ {Li L : Type 0} (given waits skips : Li → ℕ) (now : ℕ) (l : List Li) (a : Acceptor L) (from : ℕ) where
  pub to_none : AskedTo given waits skips now l l a a from from
  to_none = record {
    asks = record { leaves = leaves_none a; first = refl; listeners = λ v out. refl; failed = λ v out. refl; ended = λ v out. refl; others = λ v out. refl; once = λ v. omega arith };
    rests = λ v backed. refl;
    outs = λ v above below. absurd (omega arith);
  }

  module _ (m n : List Li) (b c : Acceptor L) (t : ℕ) (within : from ≤ t) (p : AskedTo given waits skips now l m a b from t) (q : AsksFrom m n b c t (t + 1)) where
    below_one : (v : ℕ) → IsOutside from (t + 1) v → IsOutside from t v × IsOutside t (t + 1) v
    below_one v (inl below) = (inl below, inl (omega arith))
    below_one v (inr above) = (inr (omega arith), inr above)

    pub to_asks : AsksFrom l n a c from (t + 1)
    to_asks = record {
      leaves = leaves_trans a b c p.asks.leaves q.leaves;
      first = q.first ∙ p.asks.first;
      listeners = λ v out. let o = below_one v out in q.listeners v o.1 ∙ p.asks.listeners v o.0;
      failed = λ v out. let o = below_one v out in q.failed v o.1 ∙ p.asks.failed v o.0;
      ended = λ v out. let o = below_one v out in q.ended v o.1 ∙ p.asks.ended v o.0;
      others = λ v out. let o = below_one v out in q.others v o.1 ∙ p.asks.others v o.0;
      once = λ v. elim (cases_eq v t) [
        | inl same ↦ rw same (omega (arith, q.once t, p.asks.others t (inr (omega arith))))
        | inr other ↦ omega (arith, q.others v (outside_other t v other), p.asks.once v)
      ];
    }

    backed_still : IsBackedOff a now t → IsBackedOff b now t
    backed_still backed = subst (λ o. IsSomeAnd o (λ at. now < at + 500)) (sym (p.asks.failed t (inr (omega arith)))) backed

    pub to_rests : (IsBackedOff b now t → n ≡ m) → (v : ℕ) → IsBackedOff a now v → slice_get n v ≡ slice_get l v
    to_rests rests v backed = elim (cases_eq v t) [
      | inl same ↦ rw same (ap (λ xs. slice_get xs t) (rests (backed_still (subst (λ x. IsBackedOff a now x) same backed))) ∙ p.asks.listeners t (inr (omega arith)))
      | inr other ↦ q.listeners v (outside_other t v other) ∙ p.rests v backed
    ]

    earlier : (v : ℕ) → from ≤ v → v < t → IsAskedOut given waits skips l n c now v
    earlier v above below = out_onward given waits skips now l m n b c v (q.listeners v (inl below)) (q.failed v (inl below)) (q.ended v (inl below)) (p.outs v above below)

    -- the order, also where it halted at t
    pub to_order : (v u : ℕ) → from ≤ v → v < u → (slice_get n u ≡ slice_get l u) ⊎ IsAskedOut given waits skips l n c now v
    to_order v u above less = elim (cases_lt t u) [
      | inl behind ↦ inl (q.listeners u (inr (omega (arith, behind))) ∙ p.asks.listeners u (inr (omega (arith, behind))))
      | inr before ↦ inr (earlier v above (omega (arith, less, before)))
    ]

    pub to_more : (IsBackedOff b now t → n ≡ m) → IsAskedOut given waits skips m n c now t → AskedTo given waits skips now l n a c from (t + 1)
    to_more rests out = record {
      asks = to_asks;
      rests = to_rests rests;
      outs = λ v above below. elim (cases_eq v t) [
        | inl same ↦ rw same (out_before given waits skips now l m n c t (p.asks.listeners t (inr (omega arith))) out)
        | inr other ↦ earlier v above (omega (arith, below, other))
      ];
    }

-- the same, of no more listeners than that
pub asks_within : {Li L : Type 0} (l m : List Li) (a b : Acceptor L) (from t to : ℕ) → (t ≤ to) ⊎ (t ≡ from) → AsksFrom l m a b from t → AsksFrom l m a b from to
asks_within l m a b from t to within p = record {
  leaves = p.leaves;
  first = p.first;
  listeners = λ v out. p.listeners v (outside v within out);
  failed = λ v out. p.failed v (outside v within out);
  ended = λ v out. p.ended v (outside v within out);
  others = λ v out. p.others v (outside v within out);
  once = p.once;
}
  where
    outside : (v : ℕ) → ((t ≤ to) ⊎ (t ≡ from)) → IsOutside from to v → IsOutside from t v
    outside v w (inl below) = inl below
    outside v (inl fits) (inr above) = inr (omega (arith, fits, above))
    outside v (inr none) (inr above) = elim (cases_lt v from) [
      | inl below ↦ inl below
      | inr behind ↦ inr (omega (arith, none, behind))
    ]

-- ---- all listeners, from the first one on and round
-- a part of the listeners was asked, each in its turn
pub record AskedPart {Li L : Type 0} (given waits skips : Li → ℕ) (now : ℕ) (l m : List Li) (a b : Acceptor L) (from to : ℕ) : Type 0 where
  pub asks : AsksFrom l m a b from to
  pub rests : (v : ℕ) → IsBackedOff a now v → slice_get m v ≡ slice_get l v
  pub order : (t u : ℕ) → from ≤ t → t < u → u < to → (slice_get m u ≡ slice_get l u) ⊎ IsAskedOut given waits skips l m b now t

turn_early : (first many t : ℕ) → t < first → turn_of first many t ≡ t + many - first
turn_early first many t below = let e : nat_lt t first ≡ true = grind (arith, nat_tests) in rw e refl

turn_late : (first many t : ℕ) → first ≤ t → turn_of first many t ≡ t - first
turn_late first many t above = let e : nat_lt t first ≡ false = grind (arith, nat_tests) in rw e refl

-- which of two is asked before the other
turns : (first many t u : ℕ) → t < many → u < many → turn_of first many t < turn_of first many u → ((first ≤ t) × (t < u)) ⊎ (((first ≤ t) × (u < first)) ⊎ ((t < u) × (u < first)))
turns first many t u inside within less = elim (cases_lt t first) [
  | inl early ↦ elim (cases_lt u first) [
    | inl then_early ↦ inr (inr (omega (arith, less, turn_early first many t early, turn_early first many u then_early), then_early))
    | inr then_late ↦ absurd (omega (arith, less, turn_early first many t early, turn_late first many u then_late, inside, within))
  ]
  | inr late ↦ elim (cases_lt u first) [
    | inl then_early ↦ inr (inl (late, then_early))
    | inr then_late ↦ inl (late, omega (arith, less, turn_late first many t late, turn_late first many u then_late))
  ]
]

module _ {Li L : Type 0} (given waits skips : Li → ℕ) (now : ℕ) (l m : List Li) (a b : Acceptor L) (first many : ℕ) (p : AskedPart given waits skips now l m a b first many) where
  -- it halted before it came round
  pub in_turn_halted : first ≡ first_of a → many ≡ listeners_of b → AsksInTurn given waits skips l m a b now
  in_turn_halted is_first is_many = record {
    order = λ t u inside within less. by_turns t u (omega (arith, within, is_many)) (turns first many t u (omega (arith, inside, is_many)) (omega (arith, within, is_many))
        (subst (λ k. turn_of k many t < turn_of k many u) (sym is_first) (subst (λ k. turn_of (first_of a) k t < turn_of (first_of a) k u) (sym is_many) less)));
    rests = p.rests;
  }
    where
      by_turns : (t u : ℕ) → u < many → ((first ≤ t) × (t < u)) ⊎ (((first ≤ t) × (u < first)) ⊎ ((t < u) × (u < first))) → (slice_get m u ≡ slice_get l u) ⊎ IsAskedOut given waits skips l m b now t
      by_turns t u within (inl both) = p.order t u both.0 both.1 within
      by_turns t u within (inr (inl both)) = inl (p.asks.listeners u (inl both.1))
      by_turns t u within (inr (inr both)) = inl (p.asks.listeners u (inl both.1))

  module _ (n : List Li) (c : Acceptor L) (outs : (t : ℕ) → first ≤ t → t < many → IsAskedOut given waits skips l m b now t) (q : AskedPart given waits skips now m n b c 0 first) where
    late_out : (t : ℕ) → first ≤ t → IsAskedOut given waits skips l m b now t → IsAskedOut given waits skips l n c now t
    late_out t late = out_onward given waits skips now l m n b c t (q.asks.listeners t (inr late)) (q.asks.failed t (inr late)) (q.asks.ended t (inr late))

    early_out : (t : ℕ) → t < first → IsAskedOut given waits skips m n c now t → IsAskedOut given waits skips l n c now t
    early_out t early = out_before given waits skips now l m n c t (p.asks.listeners t (inl early))

    -- it came round
    pub in_turn_round : first ≡ first_of a → many ≡ listeners_of c → AsksInTurn given waits skips l n a c now
    in_turn_round is_first is_many = record {
      order = λ t u inside within less. by_turns t u (omega (arith, inside, is_many)) (omega (arith, within, is_many)) (turns first many t u (omega (arith, inside, is_many)) (omega (arith, within, is_many))
          (subst (λ k. turn_of k many t < turn_of k many u) (sym is_first) (subst (λ k. turn_of (first_of a) k t < turn_of (first_of a) k u) (sym is_many) less)));
      rests = λ v backed. elim (cases_lt v first) [
        | inl early ↦ q.rests v (subst (λ o. IsSomeAnd o (λ at. now < at + 500)) (sym (p.asks.failed v (inl early))) backed) ∙ p.rests v backed
        | inr late ↦ q.asks.listeners v (inr late) ∙ p.rests v backed
      ];
    }
      where
        by_late : (t u : ℕ) → first ≤ t → t < u → (slice_get m u ≡ slice_get l u) ⊎ IsAskedOut given waits skips l m b now t → (slice_get n u ≡ slice_get l u) ⊎ IsAskedOut given waits skips l n c now t
        by_late t u late less (inl same) = inl (q.asks.listeners u (inr (omega (arith, late, less))) ∙ same)
        by_late t u late less (inr out) = inr (late_out t late out)

        by_early : (t u : ℕ) → t < u → u < first → (slice_get n u ≡ slice_get m u) ⊎ IsAskedOut given waits skips m n c now t → (slice_get n u ≡ slice_get l u) ⊎ IsAskedOut given waits skips l n c now t
        by_early t u less early (inl same) = inl (same ∙ p.asks.listeners u (inl early))
        by_early t u less early (inr out) = inr (early_out t (omega (arith, less, early)) out)

        by_turns : (t u : ℕ) → t < many → u < many → ((first ≤ t) × (t < u)) ⊎ (((first ≤ t) × (u < first)) ⊎ ((t < u) × (u < first))) → (slice_get n u ≡ slice_get l u) ⊎ IsAskedOut given waits skips l n c now t
        by_turns t u inside within (inl both) = by_late t u both.0 both.1 (p.order t u both.0 both.1 within)
        by_turns t u inside within (inr (inl both)) = inr (late_out t both.0 (outs t both.0 inside))
        by_turns t u inside within (inr (inr both)) = by_early t u both.0 both.1 (q.order t u (omega arith) both.0 both.1)

    pub round_once : (t : ℕ) → count_by (is_failed t) (events_of c) ≤ count_by (is_failed t) (events_of a) + 1
    round_once t = elim (cases_lt t first) [
      | inl early ↦ omega (arith, p.asks.others t (inl early), q.asks.once t)
      | inr late ↦ omega (arith, q.asks.others t (inr late), p.asks.once t)
    ]

    pub round_outs : ((t : ℕ) → 0 ≤ t → t < first → IsAskedOut given waits skips m n c now t) → (t : ℕ) → t < many → IsAskedOut given waits skips l n c now t
    round_outs again t inside = elim (cases_lt t first) [
      | inl early ↦ early_out t early (again t (omega arith) early)
      | inr late ↦ late_out t late (outs t late inside)
    ]
