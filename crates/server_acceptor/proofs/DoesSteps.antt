-- What the acceptor did, one part behind the other.
use Rattle.std.proofs.Common.{◌≡◌, ◌≢◌, ◌^◌, ◌≤◌, ◌<◌, ◌⊎◌, ◌++◌, [], ℕ, zero, suc, ◌+◌, Bool, true, false, true≢false, cond, List, Option, IfSome, refl, sym, ◌∙◌, ap, arith, subst, inl, inr, append_assoc}
use Rattle.std.specs.Prelude.{count_by, is_some, slice_get, slice_index, slice_index_or}
use Rattle.std.proofs.lemmas.List.{append-nil}
use Rattle.std.proofs.lemmas.List.Elements.{All-append, All-nil}
use Rattle.std.proofs.lemmas.List.Sums.{sum_by-append}
use Rattle.std.specs.Option.{option_map_or}
use Rattle.service_core.specs.Counts.{Rose}
use Rattle.service_core.specs.Link.{Identity}
use Rattle.server_core.specs.Runs.{AllAllowed, after_all}
use Rattle.server_core.specs.declared.event.Event.{Event}
use Rattle.server_run.specs.Serving.{Untouched}
use Rattle.server_run.specs.Delivery.{HasEnded, given_at, rest_at}
use Rattle.server_run.specs.Listener.{Mark, in_a_row}
use Rattle.server_run.specs.Outcome.{is_stopped}
use Rattle.server_run.specs.declared.entry.Entry.{Entry}
use Rattle.server_acceptor.proofs.PutSteps.{puts_same, puts_trans}
use Rattle.server_acceptor.proofs.Giving.{adds_none}
use Rattle.server_acceptor.specs.Accepting.{Acts, Does, EndsByFault, Logged, Proceeds, TellsEnds, is_back, is_failed, is_got, is_sent, marks_of}
use Rattle.server_acceptor.specs.Acceptors.{all_ready, core_of, events_of, retry_limit_of}
use Rattle.server_acceptor.specs.Carrying.{Carries}
use Rattle.server_acceptor.specs.Logging.{AllOfUse}
use Rattle.server_acceptor.proofs.LogSteps.{after_append, allowed_append, of_use_append}
use Rattle.server_acceptor.proofs.MarkSteps.{marked_none, marked_trans, marks_append, row_append}
use Rattle.server_acceptor.proofs.NoteSteps.{adds_trans, ends_later, receives_none, receives_trans}
use Rattle.server_acceptor.specs.declared.acceptor.Acceptor.{Acceptor}

-- a count rose in one part, and did not fall in the other
rose_either : (n m x y z : ℕ) → 0 < n + m → (0 < n → Rose x y) → (0 < m → Rose y z) → x ≤ y → y ≤ z → Rose x z
rose_either zero m x y z some f g e h = let r = g (omega arith) in omega arith
rose_either (suc n) m x y z some f g e h = let r = f (omega arith) in omega arith

module _ {Li L D : Type 0} (given : Li → ℕ) (left : Li → Option (List L)) (rest : Li → Option (List Mark)) (identity : L → Identity) (ended : Li → Bool) (faults : Li → ℕ)
    (taken : D → Option (List (Entry L))) (count served : D → ℕ) where
  pub untouched_none : (ls : List Li) (d : D) → Untouched given left taken count served ls ls d d
  untouched_none ls d = record { given_same = λ t. refl; left_same = λ t. refl; keeps = record { list = refl; number = refl; number_served = refl } }

  untouched_trans : (l m n : List Li) (x y z : D) → Untouched given left taken count served l m x y → Untouched given left taken count served m n y z → Untouched given left taken count served l n x z
  untouched_trans l m n x y z p q = record {
    given_same = λ t. q.given_same t ∙ p.given_same t;
    left_same = λ t. q.left_same t ∙ p.left_same t;
    keeps = record { list = q.keeps.list ∙ p.keeps.list; number = q.keeps.number ∙ p.keeps.number; number_served = q.keeps.number_served ∙ p.keeps.number_served };
  }

  -- nothing happened
  pub acts_none : (ls : List Li) (a : Acceptor L) (d : D) → (count d < 2 ^ 64) × (served d < 2 ^ 64) → Acts given left rest identity ended faults taken count served ls ls a a d d [] false
  acts_none ls a d fits = record {
    logged = record {
      allowed = tt;
      core = refl;
      got = λ t. omega arith;
      failed = λ t some. absurd (omega (arith, some));
      marked = λ t. marked_none (rest_at rest ls t) (marks_of t []) refl;
      failures = λ t. refl;
      sent_on = λ w. omega arith;
      back = λ w. omega arith;
    };
    passes = record {
      more = [];
      adds = adds_none taken count served d fits;
      founded = All-nil _;
      carries = λ none_left is first entries carries. subst (λ es. Carries given left identity none_left first ls a es) (sym (append-nil entries)) carries;
    };
    awaits = record { stays_ready = λ r. r; early = λ early. untouched_none ls d; noted = λ n. n };
    tells = record { ends = λ t before now. absurd (let e : false ≡ true = sym before ∙ now in cc); stays = λ t is. (refl, refl, is); rises = λ t. omega arith; marks = λ t has. inl has };
    rings = record { parcels = refl; notes = refl };
    puts = λ w. puts_same a a w refl;
    receives = λ w. receives_none a w;
    as_many = refl;
    workers = refl;
    listeners = refl;
    limit = refl;
    max = refl;
    lacks = λ is. is;
    stops = λ is. is;
  }

  pub does_none : (ls : List Li) (a : Acceptor L) (d : D) → (count d < 2 ^ 64) × (served d < 2 ^ 64) → Does given left rest identity ended faults taken count served ls ls a a d d []
  does_none ls a d fits = record { acts = acts_none ls a d fits; of_use = tt }

  pub proceeds_none : (ls : List Li) (a : Acceptor L) (d : D) → (count d < 2 ^ 64) × (served d < 2 ^ 64) → Proceeds given left rest identity ended faults taken count served ls ls a a d d
  proceeds_none ls a d fits = record { more = []; appended = sym (append-nil (events_of a)); does = does_none ls a d fits }

  module _ (l m n : List Li) (a b c : Acceptor L) (x y z : D) where
    early_trans : (all_ready b ≡ true → all_ready c ≡ true) → (all_ready b ≡ false → Untouched given left taken count served l m x y) → (all_ready c ≡ false → Untouched given left taken count served m n y z)
        → all_ready c ≡ false → Untouched given left taken count served l n x z
    early_trans stays p q lacks = by_middle (all_ready b) refl
      where
        by_middle : (r : Bool) → all_ready b ≡ r → Untouched given left taken count served l n x z
        by_middle true is = absurd (let e : false ≡ true = sym lacks ∙ stays is in cc)
        by_middle false is = untouched_trans l m n x y z (p is) (q lacks)

    ended_onward : (limit t : ℕ) → slice_get n t ≡ slice_get m t → slice_index (core_of c).failures t ≡ slice_index (core_of b).failures t
        → ((HasEnded ended m t × (slice_index (core_of b).failures t ≢ limit)) ⊎ ((slice_index (core_of b).failures t ≡ limit) × Rose (given_at faults l t) (given_at faults m t)))
        → (HasEnded ended n t × (slice_index (core_of c).failures t ≢ limit)) ⊎ ((slice_index (core_of c).failures t ≡ limit) × Rose (given_at faults l t) (given_at faults n t))
    ended_onward limit t same failures (inl has) = inl (subst (λ o. IfSome o (λ li. ended li ≡ true)) (sym same) has.0, λ is. has.1 (sym failures ∙ is))
    ended_onward limit t same failures (inr has) = inr (failures ∙ has.0, subst (λ o. Rose (given_at faults l t) (option_map_or faults o 0)) (sym same) has.1)

    rose_from : (limit t : ℕ) → given_at faults l t ≤ given_at faults m t → ((HasEnded ended n t × (slice_index (core_of c).failures t ≢ limit)) ⊎ ((slice_index (core_of c).failures t ≡ limit) × Rose (given_at faults m t) (given_at faults n t)))
        → (HasEnded ended n t × (slice_index (core_of c).failures t ≢ limit)) ⊎ ((slice_index (core_of c).failures t ≡ limit) × Rose (given_at faults l t) (given_at faults n t))
    rose_from limit t rises (inl has) = inl has
    rose_from limit t rises (inr has) = inr (has.0, (let r = has.1 in omega arith))

    pub tells_trans : (limit : ℕ) → TellsEnds ended faults limit l m (core_of a) (core_of b) → TellsEnds ended faults limit m n (core_of b) (core_of c) → TellsEnds ended faults limit l n (core_of a) (core_of c)
    tells_trans limit p q = record {
      ends = λ t before now. by_middle t before now (slice_index_or (core_of b).ended t false) refl;
      stays = λ t is.
          let u = p.stays t is in
          let v = q.stays t u.2 in
          (v.0 ∙ u.0, v.1 ∙ u.1, v.2);
      rises = λ t. let u = p.rises t in let v = q.rises t in omega arith;
      marks = λ t has. elim (q.marks t has) [
        | inl then_has ↦ elim (p.marks t then_has) [
          | inl had ↦ inl had
          | inr marked ↦ let v = q.stays t marked.0 in inr (v.2, λ is. marked.1 (sym v.1 ∙ is))
        ]
        | inr marked ↦ inr marked
      ];
    }
      where
        by_middle : (t : ℕ) → slice_index_or (core_of a).ended t false ≡ false → slice_index_or (core_of c).ended t false ≡ true → (e : Bool) → slice_index_or (core_of b).ended t false ≡ e
            → (HasEnded ended n t × (slice_index (core_of c).failures t ≢ limit)) ⊎ ((slice_index (core_of c).failures t ≡ limit) × Rose (given_at faults l t) (given_at faults n t))
        by_middle t before now true is = let v = q.stays t is in ended_onward limit t v.0 v.1 (p.ends t before is)
        by_middle t before now false is = rose_from limit t (p.rises t) (q.ends t is now)

    logged_trans : (xs ys : List Event) → ((t : ℕ) → given_at faults l t ≤ given_at faults m t) → ((t : ℕ) → given_at faults m t ≤ given_at faults n t)
        → Logged given rest faults identity l m a b xs → Logged given rest faults identity m n b c ys → Logged given rest faults identity l n a c (xs ++ ys)
    logged_trans xs ys first then_these p q = record {
      allowed = allowed_append (core_of a) xs ys p.allowed (subst (λ s. AllAllowed s ys) p.core q.allowed);
      core = q.core ∙ ap (λ s. after_all s ys) p.core ∙ sym (after_append (core_of a) xs ys);
      got = λ t. omega (arith, p.got t, q.got t, sum_by-append (λ e. cond (is_got t e) 1 0) xs ys);
      failed = λ t some. rose_either (count_by (is_failed t) xs) (count_by (is_failed t) ys) (given_at faults l t) (given_at faults m t) (given_at faults n t)
          (omega (arith, some, sum_by-append (λ e. cond (is_failed t e) 1 0) xs ys)) (p.failed t) (q.failed t) (first t) (then_these t);
      marked = λ t. marked_trans (rest_at rest l t) (rest_at rest m t) (rest_at rest n t) (marks_of t xs) (marks_of t ys) (marks_of t (xs ++ ys)) (marks_append t xs ys) (p.marked t) (q.marked t);
      failures = λ t.
          q.failures t ∙ ap (λ k. in_a_row k (marks_of t ys)) (p.failures t) ∙ sym (row_append (slice_index (core_of a).failures t) (marks_of t xs) (marks_of t ys))
          ∙ ap (in_a_row (slice_index (core_of a).failures t)) (sym (marks_append t xs ys));
      sent_on = λ w. omega (arith, p.sent_on w, q.sent_on w, sum_by-append (λ e. cond (is_sent w e) 1 0) xs ys);
      back = λ w. omega (arith, p.back w, q.back w, sum_by-append (λ e. cond (is_back w e) 1 0) xs ys);
    }

    -- one part behind the other, of which the last alone may end with no worker left
    pub acts_trans : (xs ys : List Event) (last : Bool) → Acts given left rest identity ended faults taken count served l m a b x y xs false → Acts given left rest identity ended faults taken count served m n b c y z ys last
        → Acts given left rest identity ended faults taken count served l n a c x z (xs ++ ys) last
    acts_trans xs ys last p q = record {
      logged = logged_trans xs ys p.tells.rises q.tells.rises p.logged q.logged;
      passes = record {
        more = p.passes.more ++ q.passes.more;
        adds = adds_trans taken count served x y z p.passes.more q.passes.more p.passes.adds q.passes.adds;
        founded = All-append (λ (e : Entry L). is_stopped e.outcome ≡ true → is_some (core_of c).stopping ≡ true) p.passes.more q.passes.more (λ i e inside stopped. q.stops (p.passes.founded i e inside stopped)) q.passes.founded;
        carries = λ none_left is first entries carries. subst (λ es. Carries given left identity none_left first n c es) (append_assoc entries p.passes.more q.passes.more)
            (q.passes.carries none_left is first (entries ++ p.passes.more) (p.passes.carries none_left (λ never. absurd (true≢false (sym never))) first entries carries));
      };
      awaits = record {
        stays_ready = λ r. q.awaits.stays_ready (p.awaits.stays_ready r);
        early = early_trans q.awaits.stays_ready p.awaits.early q.awaits.early;
        noted = λ r. q.awaits.noted (p.awaits.noted r);
      };
      tells = tells_trans (retry_limit_of a) p.tells (subst (λ k. TellsEnds ended faults k m n (core_of b) (core_of c)) p.limit q.tells);
      rings = record { parcels = q.rings.parcels ∙ p.rings.parcels; notes = q.rings.notes ∙ p.rings.notes };
      puts = λ w. puts_trans a b c w (p.puts w) (q.puts w);
      receives = λ w. receives_trans a b c w (p.receives w) (q.receives w);
      as_many = q.as_many ∙ p.as_many;
      workers = q.workers ∙ p.workers;
      listeners = q.listeners ∙ p.listeners;
      limit = q.limit ∙ p.limit;
      max = q.max ∙ p.max;
      lacks = λ is. q.lacks (p.lacks is);
      stops = λ is. q.stops (p.stops is);
    }

    pub does_trans : (xs ys : List Event) → Does given left rest identity ended faults taken count served l m a b x y xs → Does given left rest identity ended faults taken count served m n b c y z ys
        → Does given left rest identity ended faults taken count served l n a c x z (xs ++ ys)
    does_trans xs ys p q = record {
      acts = acts_trans xs ys false p.acts q.acts;
      of_use = of_use_append (core_of a) xs ys p.of_use (subst (λ s. AllOfUse s ys) p.acts.logged.core q.of_use);
    }

    pub proceeds_trans : Proceeds given left rest identity ended faults taken count served l m a b x y → Proceeds given left rest identity ended faults taken count served m n b c y z
        → Proceeds given left rest identity ended faults taken count served l n a c x z
    proceeds_trans p q = record {
      more = p.more ++ q.more;
      appended = q.appended ∙ ap (λ es. es ++ q.more) p.appended ∙ append_assoc (events_of a) p.more q.more;
      does = does_trans p.more q.more p.does q.does;
    }

    -- a worker that ends by a fault after that
    pub fault_after : (w : ℕ) → Proceeds given left rest identity ended faults taken count served l m a b x y → EndsByFault b c w → EndsByFault a c w
    fault_after w p e = ends_later a b c w (p.does.acts.receives w) e
