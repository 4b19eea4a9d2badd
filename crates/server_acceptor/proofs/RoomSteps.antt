-- That room was made, or was refused.
use Rattle.std.proofs.Common.{◌≡◌, ◌⊎◌, ◌^◌, ◌<◌, ◌≤◌, ◌++◌, ◌∷◌, [], ℕ, suc, ◌+◌, ◌*◌, Bool, true, false, List, length, map, All, Any, Contains, Option, Some, None, IfSome, refl, sym, ◌∙◌, ap, ap₂, arith, subst, inl}
use Rattle.std.specs.Prelude.{count_by, is_some, nat_lt, slice_get, slice_index, slice_index_or, sum}
use Rattle.std.specs.List.{list_all}
use Rattle.std.specs.Option.{option_map}
use Rattle.std.proofs.lemmas.Bool.Decides.{nat_tests}
use Rattle.std.proofs.lemmas.List.{append-nil}
use Rattle.std.proofs.lemmas.List.Elements.{All-nil}
use Rattle.std.proofs.lemmas.List.Sums.{sum_by-cons}
use Rattle.rtrb.specs.Ring.{received, sent}
use Rattle.service_core.specs.Link.{Identity}
use Rattle.server_core.specs.Core.{may_take}
use Rattle.server_run.specs.Delivery.{once_below, rest_at}
use Rattle.server_run.specs.Done.{Adds, Keeps}
use Rattle.server_run.specs.Listener.{Mark}
use Rattle.server_run.specs.declared.entry.Entry.{Entry}
use Rattle.server_jobs.specs.Cards.{Card}
use Rattle.server_jobs.specs.declared.note.Note.TheVariants.{Back, Ready}
use Rattle.server_jobs.specs.declared.waiting.Waiting.{Waiting}
use Rattle.server_acceptor.proofs.PutSteps.{puts_same}
use Rattle.server_acceptor.specs.Accepting.{AsksFrom, IsAccepting, MayAsk, Proceeds, is_failed, marks_of, received_at}
use Rattle.server_acceptor.specs.Acceptors.{events_of}
use Rattle.server_acceptor.specs.Asking.{MakesRoom}
use Rattle.server_acceptor.specs.Carrying.{Carries, IsInPlace, ParcelIsInPlace, came_back, each, has_place, has_serial, in_waiting, let_gone, put}
use Rattle.server_acceptor.specs.Notes.{count_back}
use Rattle.server_acceptor.specs.Rings.{count_put, ring_in, ring_out}
use Rattle.server_acceptor.specs.declared.acceptor.Acceptor.{Acceptor}
use Rattle.server_acceptor.proofs.LeaveSteps.{leaves_room}
use Rattle.server_acceptor.proofs.MarkSteps.{marked_none}

module _ {Li L : Type 0} (given : Li → ℕ) (left : Li → Option (List L)) (identity : L → Identity) (none_left : Bool) (first now : List Li) where
  carries_room : (a b : Acceptor L) (entries : List (Entry L)) → MakesRoom a b → Carries given left identity none_left first now a entries → Carries given left identity none_left first now b entries
  carries_room a b entries s c =
      let weigh : (h : Card → ℕ) → (put identity h b.parcels.items + in_waiting identity h b.waiting) + let_gone identity h c.gone ≡ (put identity h a.parcels.items + in_waiting identity h a.waiting) + let_gone identity h c.gone =
      λ h. ap₂ (λ v o. (put identity h v.items + in_waiting identity h o) + let_gone identity h c.gone) s.parcels s.waiting in
      record {
        gone = c.gone;
        let_go = c.let_go;
        count = weigh (λ c. 1) ∙ c.count ∙ sym s.serial;
        serials = λ k. weigh (each (has_serial k)) ∙ c.serials k ∙ ap (λ n. once_below n k) (sym s.serial);
        places = λ t k. weigh (each (has_place t k)) ∙ c.places t k;
        on_rings = subst (λ v. All (λ p. All (ParcelIsInPlace left first) (sent p)) v.items) (sym s.parcels) c.on_rings;
        waits = subst (λ o. IfSome o (λ w. IsInPlace left first w.token w.place w.link)) (sym s.waiting) c.waits;
        remains = c.remains;
        rises = c.rises;
        next_places = λ t below. ap (λ v. slice_index_or v.items t 0) s.places ∙ c.next_places t (subst (λ v. t < length v.items) s.places below);
        back = λ h. ap (λ v. came_back identity h v.items + let_gone identity h c.gone) s.notes ∙ c.back h;
        noted = subst (λ v. All (λ e. Any (λ r. Contains (received r) (Back e)) v.items ⊎ Contains c.gone e) entries) (sym s.notes) c.noted;
        out = λ v. ap (λ x. count_put identity x.items v) s.parcels ∙ c.out v ∙ sym (ap₂ (λ n o. count_back identity n.items v + slice_index o.out v) s.notes s.core);
      }

keeps_adds_list : {L : Type 0} (told : Option (List (Entry L))) → told ≡ option_map (λ before. before ++ []) told
keeps_adds_list None = refl
keeps_adds_list (Some xs) = ap Some (sym (append-nil xs))

module _ {L D : Type 0} (taken : D → Option (List (Entry L))) (count served : D → ℕ) where
  pub keeps_adds : (d e : D) → (count d < 2 ^ 64) × (served d < 2 ^ 64) → Keeps taken count served d e → Adds taken count served d e []
  keeps_adds d e fits k = record {
    list = k.list ∙ keeps_adds_list (taken d);
    number = let n = k.number in let f = fits.0 in omega arith;
    number_served = let n = k.number_served in let f = fits.1 in omega arith;
  }

module _ {Li L D : Type 0} (given : Li → ℕ) (left : Li → Option (List L)) (rest : Li → Option (List Mark)) (identity : L → Identity) (ended : Li → Bool) (faults : Li → ℕ)
    (taken : D → Option (List (Entry L))) (count served : D → ℕ) where
  pub room_proceeds : (ls : List Li) (a b : Acceptor L) (d e : D) → (count d < 2 ^ 64) × (served d < 2 ^ 64) → MakesRoom a b → Keeps taken count served d e
      → Proceeds given left rest identity ended faults taken count served ls ls a b d e
  room_proceeds ls a b d e fits s k = record {
    more = [];
    appended = ap (λ v. v.items) s.events ∙ sym (append-nil (events_of a));
    does = record {
      acts = record {
        logged = record {
          allowed = tt;
          core = s.core;
          got = λ t. omega arith;
          failed = λ t some. absurd (omega (arith, some));
          marked = λ t. marked_none (rest_at rest ls t) (marks_of t []) refl;
          failures = λ t. ap (λ k. slice_index k.failures t) s.core;
          sent_on = λ w. omega (arith, ap (λ v. count_put identity v.items w) s.parcels);
          back = λ w. omega (arith, ap (λ v. count_back identity v.items w) s.notes);
        };
        passes = record {
          more = [];
          adds = keeps_adds taken count served d e fits k;
          founded = All-nil _;
          carries = λ none_left is first entries carries. subst (λ es. Carries given left identity none_left first ls b es) (sym (append-nil entries)) (carries_room given left identity none_left first ls a b entries s carries);
        };
        awaits = record {
          stays_ready = λ r. ap (λ v. list_all (λ ready. ready) v.items) s.ready ∙ r;
          early = λ early. record { given_same = λ t. refl; left_same = λ t. refl; keeps = k };
          noted = λ n w marked. subst (λ v. IfSome (slice_get v.items w) (λ c. Contains (received c) Ready)) (sym s.notes) (n w (ap (λ v. slice_index_or v.items w false) (sym s.ready) ∙ marked));
        };
        tells = record {
          ends = λ t before now. absurd (let e : false ≡ true = sym before ∙ ap (λ k. slice_index_or k.ended t false) (sym s.core) ∙ now in cc);
          stays = λ t is. (refl, ap (λ k. slice_index k.failures t) s.core, ap (λ k. slice_index_or k.ended t false) s.core ∙ is);
          marks = λ t has. inl has;
          rises = λ t. omega arith;
        };
        rings = record { parcels = ap (λ v. map ring_in v.items) s.parcels; notes = ap (λ v. map ring_out v.items) s.notes };
        puts = λ w. puts_same a b w s.parcels;
        receives = λ w. record { more = []; came = ap (λ v. received_at v.items w) s.notes ∙ sym (append-nil _) };
        as_many = refl;
        workers = ap (λ k. length k.out) s.core;
        listeners = ap (λ k. length k.ended) s.core;
        limit = s.retry_limit;
        max = s.limit;
        lacks = s.lacks;
        stops = λ is. ap (λ k. is_some k.stopping) s.core ∙ is;
      };
      of_use = tt;
    };
  }

pub room_asks_none : {Li L : Type 0} (ls : List Li) (a b : Acceptor L) (from to : ℕ) → MakesRoom a b → AsksFrom ls ls a b from to
room_asks_none ls a b from to s = record {
  leaves = leaves_room a b s;
  first = s.first;
  listeners = λ t out. refl;
  failed = λ t out. ap (λ v. slice_index_or v.items t None) s.failed;
  ended = λ t out. ap (λ k. slice_index_or k.ended t true) s.core;
  others = λ t out. ap (λ v. count_by (is_failed t) v.items) s.events;
  once = λ t. omega (arith, ap (λ v. count_by (is_failed t) v.items) s.events);
}

-- ---- a connection may be taken
sum_within : (xs : List ℕ) → ((t : ℕ) → slice_index_or xs t 0 < 2 ^ 48) → sum xs ≤ length xs * 2 ^ 48
sum_within [] below = omega arith
sum_within (x ∷ xs) below = omega (arith, sum_by-cons (λ n. n) x xs, below 0, sum_within xs (λ t. below (suc t)))

pub few_given : {L : Type 0} (a : Acceptor L) → a.core.given < 2 ^ 60
few_given a = omega (arith, a.counted, a.placed, a.few, a.listeners.0, sum_within a.places.items a.small)

pub may_take_now : {L : Type 0} (a : Acceptor L) → MayAsk a → IsAccepting a.core → may_take a.core ≡ true
may_take_now a may accepts =
    let none : a.core.waiting ≡ None = a.waits ∙ ap (option_map (λ (w : Waiting _). w.token)) may.none in
    let few = few_given a in
    let less : nat_lt a.core.given (2 ^ 60) ≡ true = grind (arith, nat_tests) in
    rw (none, accepts.0, accepts.1, less) refl
