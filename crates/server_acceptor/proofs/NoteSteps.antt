-- Which note of a worker comes next, and what came back, one part after the other.
use Rattle.std.proofs.Common.{◌≡◌, ◌⊎◌, ℕ, zero, suc, ◌+◌, ◌*◌, ◌^◌, ◌<◌, ◌≤◌, cond, List, [], ◌∷◌, ◌++◌, length, map, get_or, set, sum_by, ◌≢◌, Any, Contains, Option, Some, None, refl, sym, ap, ap₂, subst, ◌∙◌, arith, inl, inr, append_assoc, length-append, get_or-set_same, get_or-set_other}
use Rattle.std.specs.Prelude.{is_some, slice_get, slice_index, true, vec_len}
use Rattle.std.specs.Option.{option_map, option_map_or}
use Rattle.std.proofs.Math.Seq.{map-set_same}
use Rattle.std.proofs.Math.ListN.{length-set}
use Rattle.std.proofs.lemmas.Bool.{cases_eq, cases_lt}
use Rattle.std.proofs.lemmas.List.Quantifiers.{any-set}
use Rattle.std.proofs.lemmas.Option.{slice_get-get_or, slice_get_past}
use Rattle.std.proofs.lemmas.List.Sums.{sum_by-append, sum_by-set}
use Rattle.std.proofs.lemmas.List.{append-nil}
use Rattle.std.proofs.lemmas.List.Elements.{All-nil, All-append, Contains-append_right}
use Rattle.rtrb.specs.Ring.{known_items, received, SameConsumer}
use Rattle.rtrb.specs.declared.consumer.Consumer.{Consumer}
use Rattle.service_core.specs.Link.{Identity}
use Rattle.server_run.specs.Done.{Adds}
use Rattle.server_run.specs.Outcome.{is_served}
use Rattle.server_run.specs.Outcome.{is_stopped}
use Rattle.server_run.specs.declared.entry.Entry.{Entry}
use Rattle.std.specs.Prelude.{sum}
use Rattle.std.specs.Global.{Vec}
use Rattle.server_core.specs.Core.{Core, held}
use Rattle.server_core.specs.declared.event.Event.{Event}
use Rattle.server_acceptor.specs.Logging.{Logs}
use Rattle.server_acceptor.proofs.LogSteps.{logs_none, logs_trans}
use Rattle.server_acceptor.proofs.Giving.{adds_none}
use Rattle.server_jobs.specs.Cards.{Card, of_entry, of_note}
use Rattle.server_acceptor.specs.Carrying.{came_back}
use Rattle.server_acceptor.specs.Rings.{ring_out}
use Rattle.server_acceptor.specs.Accepting.{EndsByFault, HasTold, IsShort, Receives, is_back, received_at, refused, refused_by}
use Rattle.server_acceptor.specs.Acceptors.{events_of}
use Rattle.server_acceptor.specs.Handing.{known_at, AllReturn, Hands, HandsBy}
use Rattle.server_acceptor.specs.Notes.{count_back}
use Rattle.server_acceptor.specs.declared.acceptor.Acceptor.{Acceptor}
use Rattle.server_jobs.specs.declared.note.Note.{Note}
use Rattle.server_jobs.specs.declared.note.Note.TheVariants.{Back}

-- ---- what was received, one part after the other
module _ {L : Type 0} where
  pub receives_none : (a : Acceptor L) (w : ℕ) → Receives a a w
  receives_none a w = record { more = []; came = sym (append-nil (received_at a.notes.items w)) }

  pub receives_trans : (a b c : Acceptor L) (w : ℕ) → Receives a b w → Receives b c w → Receives a c w
  receives_trans a b c w p q = record {
    more = p.more ++ q.more;
    came = q.came ∙ ap (λ xs. xs ++ q.more) p.came ∙ append_assoc (received_at a.notes.items w) p.more q.more;
  }

  pub ends_later : (a b c : Acceptor L) (w : ℕ) → Receives a b w → EndsByFault b c w → EndsByFault a c w
  ends_later a b c w p q = record {
    more = p.more ++ q.more;
    came = q.came ∙ ap (λ xs. xs ++ q.more) p.came ∙ append_assoc (received_at a.notes.items w) p.more q.more;
    faulted = Contains-append_right p.more q.more _ q.faulted;
  }

all_return_append : (xs ys : List Event) → AllReturn xs → AllReturn ys → AllReturn (xs ++ ys)
all_return_append [] ys first then_these = then_these
all_return_append (x ∷ xs) ys first then_these = (first.0, all_return_append xs ys first.1 then_these)

-- ---- holders that were given entries, one part after the other
module _ {L D : Type 0} (taken : D → Option (List (Entry L))) (count served : D → ℕ) where
  pub adds_trans : (a b c : D) (xs ys : List (Entry L)) → Adds taken count served a b xs → Adds taken count served b c ys → Adds taken count served a c (xs ++ ys)
  adds_trans a b c xs ys p q = record {
    list = q.list ∙ ap (λ told. option_map (λ before. before ++ ys) told) p.list ∙ joined (taken a);
    number = let n = p.number in let m = q.number in omega (arith, length-append xs ys);
    number_served = let n = p.number_served in let m = q.number_served in omega (arith, sum_by-append (λ (e : Entry L). cond (is_served e.outcome) 1 0) xs ys);
  }
    where
      joined : (told : Option (List (Entry L))) → option_map (λ before. before ++ ys) (option_map (λ before. before ++ xs) told) ≡ option_map (λ before. before ++ (xs ++ ys)) told
      joined None = refl
      joined (Some first) = ap Some (append_assoc first xs ys)

  pub hands_none : (identity : L → Identity) (a : Acceptor L) (d : D) → (count d < 2 ^ 64) × (served d < 2 ^ 64) → Hands identity taken count served a a d d
  hands_none identity a d small = record {
    entries = [];
    adds = adds_none taken count served d small;
    rings = refl;
    back = λ h. omega arith;
    noted = All-nil _;
    founded = All-nil _;
    kept = λ e k. k;
    balance = λ w. refl;
    ended = refl;
    core_waiting = refl;
    order = refl;
    paused = refl;
    stopping = refl;
    parcels = refl;
    waiting = refl;
    stopped = refl;
    forced = refl;
    stop = refl;
    shutdown_timeout = refl;
    serial = refl;
    places = refl;
    failed = refl;
    limit = refl;
    retry_limit = refl;
    lacks_room = refl;
    first = refl;
    failures = refl;
    logs = logs_none;
    returns = tt;
    backs = λ w. omega arith;
    ready = λ all. all;
    marks = λ told. told;
    early = λ none. refl;
    receives = λ w. receives_none a w;
  }

  pub hands_trans : (identity : L → Identity) (a b c : Acceptor L) (d e f : D) → Hands identity taken count served a b d e → Hands identity taken count served b c e f → Hands identity taken count served a c d f
  hands_trans identity a b c d e f p q = record {
    entries = p.entries ++ q.entries;
    adds = adds_trans d e f p.entries q.entries p.adds q.adds;
    rings = q.rings ∙ p.rings;
    back = λ h. omega (arith, p.back h, q.back h, sum_by-append (of_entry identity h) p.entries q.entries);
    noted = All-append (λ e. Any (λ r. Contains (received r) (Back e)) c.notes.items) p.entries q.entries (λ i x inside. q.kept _ (p.noted i x inside)) q.noted;
    founded = All-append (λ (e : Entry L). is_stopped e.outcome ≡ true → is_some c.core.stopping ≡ true) p.entries q.entries (λ i x inside stopped. ap (λ o. is_some o) q.stopping ∙ p.founded i x inside stopped) q.founded;
    kept = λ e k. q.kept e (p.kept e k);
    balance = λ w. q.balance w ∙ p.balance w;
    ended = q.ended ∙ p.ended;
    core_waiting = q.core_waiting ∙ p.core_waiting;
    order = q.order ∙ p.order;
    paused = q.paused ∙ p.paused;
    stopping = q.stopping ∙ p.stopping;
    parcels = q.parcels ∙ p.parcels;
    waiting = q.waiting ∙ p.waiting;
    stopped = q.stopped ∙ p.stopped;
    forced = q.forced ∙ p.forced;
    stop = q.stop ∙ p.stop;
    shutdown_timeout = q.shutdown_timeout ∙ p.shutdown_timeout;
    serial = q.serial ∙ p.serial;
    places = q.places ∙ p.places;
    failed = q.failed ∙ p.failed;
    limit = q.limit ∙ p.limit;
    retry_limit = q.retry_limit ∙ p.retry_limit;
    lacks_room = q.lacks_room ∙ p.lacks_room;
    first = q.first ∙ p.first;
    failures = q.failures ∙ p.failures;
    logs = logs_trans p.logs q.logs;
    returns = all_return_append p.logs.more q.logs.more p.returns q.returns;
    backs = λ w. omega (arith, p.backs w, q.backs w, sum_by-append (λ e. cond (is_back w e) 1 0) p.logs.more q.logs.more);
    ready = λ all. q.ready (p.ready all);
    marks = λ told. q.marks (p.marks told);
    early = λ none. ap₂ (λ xs ys. xs ++ ys) (p.early none) (q.early (p.serial ∙ none));
    receives = λ w. receives_trans a b c w (p.receives w) (q.receives w);
  }

-- ---- one ring was looked at
module _ {L A P : Type 0} (ps : List (Consumer (Note L) A P)) (w : ℕ) (p q : Consumer (Note L) A P) (inside : w < length ps) (is : p ≡ get_or ps w p) (same : received q ≡ received p) where
  pub looked_came : (identity : L → Identity) (h : Card → ℕ) → came_back identity h (set ps w q) ≡ came_back identity h ps + 0
  looked_came identity h = omega (
    arith,
    sum_by-set (λ c. sum_by (of_note identity h) (received c)) ps w q p inside,
    ap (λ c. sum_by (of_note identity h) (received c)) is,
    ap (sum_by (of_note identity h)) same,
  )

  pub looked_rings : SameConsumer p q → map ring_out (set ps w q) ≡ map ring_out ps
  looked_rings ends = map-set_same ring_out ps w q p ((λ i. (ends.0.0 i, (ends.0.1 i, (ends.0.2 i, ends.0.3 i)))) ∙ ap ring_out is)

  any_d : (xs : List (Consumer (Note L) A P)) (i : ℕ) (c d : Consumer (Note L) A P) → i < length xs → get_or xs i c ≡ get_or xs i d
  any_d [] i c d b = absurd (omega arith)
  any_d (x ∷ xs) zero c d b = refl
  any_d (x ∷ xs) (suc i) c d b = any_d xs i c d (omega arith)

  pub looked_kept : (n : Note L) → Any (λ c. Contains (received c) n) ps → Any (λ c. Contains (received c) n) (set ps w q)
  looked_kept n (k, c, below, at, has) = elim (cases_eq k w) [
    | inl here ↦
        let that : c ≡ p = sym at ∙ ap (λ i. get_or ps i c) here ∙ any_d ps w c p inside ∙ sym is in
        any-set (λ r. Contains (received r) n) ps w q inside (subst (λ ns. Contains ns n) (sym same) (subst (λ r. Contains (received r) n) that has))
    | inr differ ↦ (k, c, omega (arith, length-set ps w q, below), get_or-set_other ps w k q c differ ∙ at, has)
  ]

  others : (xs : List (Consumer (Note L) A P)) (w v : ℕ) → v ≢ w → slice_get (set xs w q) v ≡ slice_get xs v
  others [] w v differ = refl
  others (x ∷ xs) zero zero differ = absurd (differ refl)
  others (x ∷ xs) zero (suc v) differ = refl
  others (x ∷ xs) (suc w) zero differ = refl
  others (x ∷ xs) (suc w) (suc v) differ = others xs w v (λ e. differ (ap (λ n. suc n) e))

  pub looked_balance : (identity : L → Identity) (out : List ℕ) (v : ℕ) → count_back identity (set ps w q) v + slice_index out v ≡ count_back identity ps v + slice_index out v
  looked_balance identity out v = elim (cases_eq v w) [
    | inl here ↦ rw here (ap (λ m. m + slice_index out w)
        (ap (λ o. option_map_or (λ c. sum_by (of_note identity (λ x. 1)) (received c)) o 0) (slice_get-get_or (set ps w q) w q (omega (arith, length-set ps w q)) ∙ ap Some (get_or-set_same ps w q q inside))
        ∙ ap (sum_by (of_note identity (λ x. 1))) same
        ∙ sym (ap (λ o. option_map_or (λ c. sum_by (of_note identity (λ x. 1)) (received c)) o 0) (slice_get-get_or ps w p inside ∙ ap Some (sym is)))))
    | inr differ ↦ ap (λ m. m + slice_index out v) (ap (λ o. option_map_or (λ c. sum_by (of_note identity (λ x. 1)) (received c)) o 0) (others ps w v differ))
  ]

pub fewer_known : {L A P : Type 0} (ns ps : List (Consumer (Note L) A P)) (w : ℕ) (p q : Consumer (Note L) A P) (note : Note L) → ns ≡ set ps w q → w < length ps → p ≡ get_or ps w p
    → known_items p ≡ note ∷ known_items q → known_at ns w < known_at ps w
fewer_known ns ps w p q note now inside is known =
    let before : known_at ps w ≡ length (known_items p) = ap (λ o. option_map_or (λ c. length (known_items c)) o 0) (slice_get-get_or ps w p inside ∙ ap Some (sym is)) in
    let after : known_at ns w ≡ length (known_items q) = ap (λ xs. known_at xs w) now ∙ ap (λ o. option_map_or (λ c. length (known_items c)) o 0)
    (slice_get-get_or (set ps w q) w q (omega (arith, length-set ps w q)) ∙ ap Some (get_or-set_same ps w q q inside)) in
    omega (arith, before, after, ap (λ (xs : List (Note _)). length xs) known)

pub logs_same : (s t : Core) (xs ys : Vec Event) → t ≡ s → ys ≡ xs → Logs s t xs.items ys.items
logs_same s t xs ys is more = subst (λ u. Logs s u xs.items ys.items) (sym is) (subst (λ zs. Logs s s xs.items zs.items) (sym more) logs_none)

pub spare_same : {D : Type 0} (spare : D → ℕ) (s t : Core) (d e : D) → t ≡ s → e ≡ d → sum s.out + held s.waiting ≤ spare d → sum t.out + held t.waiting ≤ spare e
spare_same spare s t d e is same h = subst (λ u. sum u.out + held u.waiting ≤ spare e) (sym is) (subst (λ x. sum s.out + held s.waiting ≤ spare x) (sym same) h)

length_mapped : {X Y : Type 0} (h : X → Y) (xs : List X) → length (map h xs) ≡ length xs
length_mapped h [] = refl
length_mapped h (x ∷ xs) = ap suc (length_mapped h xs)

pub same_workers : {L D : Type 0} {xs ys : List Event} (identity : L → Identity) (taken : D → Option (List (Entry L))) (count served : D → ℕ) (a b : Acceptor L) (d e : D) → HandsBy identity taken count served a b d e xs ys → length b.core.out ≡ length a.core.out
same_workers identity taken count served a b d e hands =
    omega (arith, a.workers.1, b.workers.1, ap (λ xs. length xs) hands.rings, length_mapped (λ c. ring_out c) a.notes.items, length_mapped (λ c. ring_out c) b.notes.items)

-- ---- what becomes of the rest as notes are taken
refused_returns : (full : Option (List ℕ)) (events : List Event) → AllReturn events → refused full events ≡ full
refused_returns full [] all = refl
refused_returns None (e ∷ events) all = refused_returns None events all.1
refused_returns (Some full) (e ∷ events) all = elim all.0 [
  | inl back ↦ rw back.1 (refused_returns (Some full) events all.1)
  | inr notice ↦ rw notice.1 (refused_returns (Some full) events all.1)
]

pub refused_append : (full : Option (List ℕ)) (xs ys : List Event) → refused full (xs ++ ys) ≡ refused (refused full xs) ys
refused_append full [] ys = refl
refused_append full (x ∷ xs) ys = refused_append (refused_by full x) xs ys

pub refused_again : {L D : Type 0} (identity : L → Identity) (taken : D → Option (List (Entry L))) (count served : D → ℕ) (a b : Acceptor L) (d e : D) → Hands identity taken count served a b d e
    → refused (Some []) (events_of b) ≡ refused (Some []) (events_of a)
refused_again identity taken count served a b d e hands = ap (λ es. refused (Some []) es) hands.logs.appended ∙ refused_append (Some []) a.events.items hands.logs.more
    ∙ refused_returns (refused (Some []) a.events.items) hands.logs.more hands.returns

-- room for events gets no more
pub short_still : {L D : Type 0} (identity : L → Identity) (taken : D → Option (List (Entry L))) (count served : D → ℕ) (a b : Acceptor L) (d e : D) → Hands identity taken count served a b d e → IsShort a → IsShort b
short_still identity taken count served a b d e hands short =
    omega (arith, short, same_workers identity taken count served a b d e hands, ap (λ es. length es) hands.logs.appended, length-append a.events.items hands.logs.more)

pub told_or_short : {L : Type 0} (a : Acceptor L) (w : ℕ) → HasTold a w ⊎ (8 * length a.core.out + 600 < vec_len a.events + 2) → HasTold a w ⊎ IsShort a
told_or_short a w (inl told) = inl told
told_or_short a w (inr short) = inr (omega (arith, short, a.events.ok.0))

-- the notes of all workers up to one were taken
pub told_up_to : {L D : Type 0} (identity : L → Identity) (taken : D → Option (List (Entry L))) (count served : D → ℕ) (a b : Acceptor L) (d e : D) (w : ℕ) → Hands identity taken count served a b d e
    → ((v : ℕ) → v ≢ w → HasTold a v → HasTold b v) → HasTold b w ⊎ IsShort b → ((v : ℕ) → v < w → HasTold a v ⊎ IsShort a) → (v : ℕ) → v < w + 1 → HasTold b v ⊎ IsShort b
told_up_to identity taken count served a b d e w hands others this before v below = elim (cases_eq v w) [
  | inl same ↦ rw same this
  | inr differ ↦ elim (before v (omega (arith, below, differ))) [
    | inl told ↦ inl (others v differ told)
    | inr short ↦ inr (short_still identity taken count served a b d e hands short)
  ]
]

-- beyond them is none
pub told_all : {L : Type 0} (a : Acceptor L) (n : ℕ) → length a.notes.items ≤ n → ((v : ℕ) → v < n → HasTold a v ⊎ IsShort a) → (v : ℕ) → HasTold a v ⊎ IsShort a
told_all a n is before v = elim (cases_lt v n) [
  | inl below ↦ before v below
  | inr beyond ↦ inl (rw (slice_get_past a.notes.items v (omega (arith, is, beyond))) tt)
]
