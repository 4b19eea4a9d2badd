-- What the acceptor did where it took back what the workers handed it.
use Rattle.std.proofs.Common.{◌≡◌, ◌^◌, ◌<◌, ◌++◌, ◌∷◌, [], ℕ, Bool, false, true≢false, cond, List, length, map, Option, Some, None, refl, sym, ◌∙◌, ap, arith, subst, inl, inr}
use Rattle.std.specs.Prelude.{count_by, slice_index, slice_index_or}
use Rattle.std.specs.Option.{option_map}
use Rattle.std.proofs.lemmas.List.{append-nil}
use Rattle.std.proofs.lemmas.List.Sums.{sum_by-append}
use Rattle.service_core.specs.Link.{Identity}
use Rattle.server_core.specs.Core.{Core}
use Rattle.server_core.specs.declared.event.Event.{Event}
use Rattle.server_core.specs.declared.event.Event.TheVariants.{Notice, Back as BackOf}
use Rattle.server_run.specs.Delivery.{rest_at}
use Rattle.server_run.specs.Listener.{Mark}
use Rattle.server_run.specs.Serving.{Untouched}
use Rattle.server_run.specs.Done.{Adds}
use Rattle.server_run.specs.declared.entry.Entry.{Entry}
use Rattle.server_acceptor.proofs.PutSteps.{puts_same}
use Rattle.server_acceptor.specs.Accepting.{Acts, Does, Proceeds, TellsEnds, is_failed, is_got, is_sent, marks_of}
use Rattle.server_acceptor.specs.Acceptors.{all_ready}
use Rattle.server_acceptor.specs.Handing.{AllReturn, Hands, HandsBy}
use Rattle.server_acceptor.specs.Rings.{count_put, ring_in}
use Rattle.server_acceptor.specs.declared.acceptor.Acceptor.{Acceptor}
use Rattle.server_acceptor.proofs.CarrySteps.{carries_handed}
use Rattle.server_acceptor.proofs.LogSteps.{stops_later}
use Rattle.server_acceptor.proofs.MarkSteps.{marked_none, marks_without, row_none}
use Rattle.server_acceptor.proofs.NoteSteps.{same_workers}

-- no such event comes with those of what came back
pub count_returns : (test : Event → Bool) → ((w : ℕ) → test (BackOf w) ≡ false) → ((w : ℕ) → test (Notice w) ≡ false) → (events : List Event) → AllReturn events → count_by test events ≡ 0
count_returns test back notice [] all = refl
count_returns test back notice (e ∷ events) all =
    let one : test e ≡ false = elim all.0 [
      | inl is ↦ ap test is.1 ∙ back is.0
      | inr is ↦ ap test is.1 ∙ notice is.0
    ] in
    omega (arith, sum_by-append (λ x. cond (test x) 1 0) (e ∷ []) events, ap {B = ℕ} (λ b. cond b 1 0) one, count_returns test back notice events all.1)

pub none_got : (events : List Event) (t : ℕ) → AllReturn events → count_by (is_got t) events ≡ 0
none_got events t all = count_returns (is_got t) (λ w. refl) (λ w. refl) events all

pub none_failed : (events : List Event) (t : ℕ) → AllReturn events → count_by (is_failed t) events ≡ 0
none_failed events t all = count_returns (is_failed t) (λ w. refl) (λ w. refl) events all

pub none_sent : (events : List Event) (w : ℕ) → AllReturn events → count_by (is_sent w) events ≡ 0
none_sent events w all = count_returns (is_sent w) (λ w. refl) (λ w. refl) events all

none_marked : (events : List Event) (t : ℕ) → AllReturn events → marks_of t events ≡ []
none_marked events t all = marks_without t events (none_got events t all) (none_failed events t all)

-- the core tells no more of the listeners
pub tells_same : {Li : Type 0} (ended : Li → Bool) (faults : Li → ℕ) (retry_limit : ℕ) (ls : List Li) (s t : Core) → t.ended ≡ s.ended → t.failures ≡ s.failures → TellsEnds ended faults retry_limit ls ls s t
tells_same ended faults retry_limit ls s t over failures = record {
  ends = λ v before now. absurd (true≢false (sym now ∙ ap (λ xs. slice_index_or xs v false) over ∙ before));
  stays = λ v is. (refl, ap (λ xs. slice_index xs v) failures, ap (λ xs. slice_index_or xs v false) over ∙ is);
  marks = λ v has. inl has;
  rises = λ v. omega arith;
}

module _ {Li L D : Type 0} (given : Li → ℕ) (left : Li → Option (List L)) (rest : Li → Option (List Mark)) (identity : L → Identity) (ended : Li → Bool) (faults : Li → ℕ)
    (taken : D → Option (List (Entry L))) (count served : D → ℕ) (ls : List Li) (a b : Acceptor L) (old new : D) where
  -- nothing was handed on before all are ready
  early_hands : {xs ys : List Event} → (count old < 2 ^ 64) × (served old < 2 ^ 64) → HandsBy identity taken count served a b old new xs ys → all_ready b ≡ false → Untouched given left taken count served ls ls old new
  early_hands fits h less =
      let none : h.entries ≡ [] = h.early (sym h.serial ∙ b.early less) in
      let adds : Adds taken count served old new [] = subst (λ es. Adds taken count served old new es) none h.adds in
      let few = fits.0 in
      let few_served = fits.1 in
      record {
        given_same = λ t. refl;
        left_same = λ t. refl;
        keeps = record { list = adds.list ∙ same (taken old); number = omega (arith, adds.number, few); number_served = omega (arith, adds.number_served, few_served) };
      }
    where
      same : (told : Option (List (Entry L))) → option_map (λ before. before ++ []) told ≡ told
      same None = refl
      same (Some entries) = ap Some (append-nil entries)

  pub hands_acts : {xs ys : List Event} → (count old < 2 ^ 64) × (served old < 2 ^ 64) → (h : HandsBy identity taken count served a b old new xs ys) → Acts given left rest identity ended faults taken count served ls ls a b old new h.logs.more false
  hands_acts fits h = record {
    logged = record {
      allowed = h.logs.allowed;
      core = h.logs.core;
      got = λ t. omega (arith, none_got h.logs.more t h.returns);
      failed = λ t some. absurd (omega (arith, some, none_failed h.logs.more t h.returns));
      marked = λ t. marked_none (rest_at rest ls t) (marks_of t h.logs.more) (none_marked h.logs.more t h.returns);
      failures = λ t. row_none (slice_index a.core.failures t) (slice_index b.core.failures t) (marks_of t h.logs.more) (none_marked h.logs.more t h.returns) (ap (λ xs. slice_index xs t) h.failures);
      sent_on = λ w. omega (arith, none_sent h.logs.more w h.returns, ap (λ v. count_put identity v.items w) h.parcels);
      back = h.backs;
    };
    passes = record {
      more = h.entries;
      adds = h.adds;
      founded = h.founded;
      carries = λ none_left is first entries carries. carries_handed given left identity none_left first ls taken count served a b old new entries h carries;
    };
    awaits = record { stays_ready = h.ready; early = early_hands fits h; noted = h.marks };
    tells = tells_same ended faults a.retry_limit ls a.core b.core h.ended h.failures;
    rings = record { parcels = ap (λ v. map ring_in v.items) h.parcels; notes = h.rings };
    puts = λ w. puts_same a b w h.parcels;
    receives = h.receives;
    as_many = refl;
    workers = same_workers identity taken count served a b old new h;
    listeners = ap (λ xs. length xs) h.ended;
    limit = h.retry_limit;
    max = h.limit;
    lacks = λ is. h.lacks_room ∙ is;
    stops = stops_later a.core b.core h.logs.more h.logs.core;
  }

  hands_does : (count old < 2 ^ 64) × (served old < 2 ^ 64) → (h : Hands identity taken count served a b old new) → Does given left rest identity ended faults taken count served ls ls a b old new h.logs.more
  hands_does fits h = record { acts = hands_acts fits h; of_use = h.logs.of_use }

  pub hands_proceeds : (count old < 2 ^ 64) × (served old < 2 ^ 64) → Hands identity taken count served a b old new → Proceeds given left rest identity ended faults taken count served ls ls a b old new
  hands_proceeds fits h = record { more = h.logs.more; appended = h.logs.appended; does = hands_does fits h }
