-- What asking a listener once does.
use Rattle.std.proofs.Common.{◌≡◌, ◌≢◌, ◌^◌, ◌≤◌, ◌<◌, ◌⊎◌, ◌++◌, ◌∷◌, [], ℕ, zero, suc, ◌+◌, ◌-◌, Bool, true, false, true≢false, cond, List, map, length, Contains, Option, Some, None, IfSome, refl, sym, ◌∙◌, ap, ap₂, arith, subst, inl, inr, length-append, get_or-set_other}
use Rattle.std.specs.Prelude.{⊤, count_by, is_some, min, nat_eq, slice_get, slice_index, slice_index_or, slice_set, sum, IsSomeAnd}
use Rattle.std.specs.List.{list_all}
use Rattle.std.proofs.Math.ListN.{length-set}
use Rattle.std.proofs.lemmas.Bool.{cases_eq}
use Rattle.std.proofs.lemmas.Bool.Decides.{nat_tests}
use Rattle.std.proofs.lemmas.List.{append-nil, append_cancel_left}
use Rattle.std.proofs.lemmas.List.Elements.{All-nil}
use Rattle.std.proofs.lemmas.List.Sums.{sum_by-append}
use Rattle.std.specs.Option.{option_and_then, option_map, option_map_or}
use Rattle.rtrb.specs.Ring.{known_items, received}
use Rattle.service_core.specs.Counts.{Rose}
use Rattle.service_core.specs.Link.{Identity}
use Rattle.server_core.specs.Core.{Core, held, is_open, step}
use Rattle.server_core.specs.Runs.{AllAllowed, after_all}
use Rattle.server_core.specs.declared.event.Event.{Event}
use Rattle.server_core.specs.declared.event.Event.TheVariants.{Command, Notice, Back, Got as GotOf, Sent, RingFull, Faulted, Replaced, Retired, ListenerFailed, ListenerEnded}
use Rattle.server_run.specs.Delivery.{HasEnded, given_at, rest_at}
use Rattle.server_run.specs.Listener.{Mark, fails, gives, in_a_row}
use Rattle.server_run.specs.declared.entry.Entry.{Entry}
use Rattle.server_acceptor.proofs.PutSteps.{puts_same}
use Rattle.server_acceptor.proofs.Giving.{adds_none}
use Rattle.server_jobs.specs.declared.waiting.Waiting.{Waiting}
use Rattle.server_jobs.specs.declared.note.Note.TheVariants.{Ready as ReadyNote}
use Rattle.server_acceptor.specs.Accepting.{HasTaken, HasTold, IsOutside, IsShort, MayAsk, is_back, is_command, is_failed, is_got, is_sent, marks_of, received_at, refused}
use Rattle.server_acceptor.specs.Acceptors.{all_ready, core_of, events_of, notes_of, out_of, ready_of}
use Rattle.server_acceptor.specs.Asking.{AskDoes, ComesTo}
use Rattle.server_acceptor.specs.AskingListeners.{AsksOnly, IsAsked, IsMarkedAs, Leaves, TakesUp}
use Rattle.server_acceptor.specs.Carrying.{Carries}
use Rattle.server_acceptor.specs.Notes.{AreLeft, count_back}
use Rattle.server_acceptor.specs.Listening.{AsksAt}
use Rattle.server_acceptor.specs.Logging.{AllOfUse, Logs}
use Rattle.server_acceptor.specs.Rings.{count_put, ring_in, ring_out}
use Rattle.server_acceptor.specs.Sending.{IsForced, IsStopped}
use Rattle.server_acceptor.specs.declared.acceptor.Acceptor.{Acceptor}
use Rattle.server_acceptor.specs.declared.asked.Asked.{Asked}
use Rattle.server_acceptor.specs.declared.asked.Asked.TheVariants.{Got, NotYet, Skipped, Failed, Ended}
use Rattle.server_acceptor.proofs.AskSteps.{marked_at, opened_at, opened_below}
use Rattle.server_acceptor.proofs.MarkSteps.{marked_none, marks_without, row_none}
use Rattle.server_acceptor.proofs.NoteSteps.{refused_append}

-- ---- events of one listener alone
abbrev AreOf : ℕ → List Event → Type 0
AreOf t [] = ⊤
AreOf t (GotOf s ∷ es) = (s ≡ t) × AreOf t es
AreOf t (ListenerFailed s ∷ es) = (s ≡ t) × AreOf t es
AreOf t (ListenerEnded s ∷ es) = (s ≡ t) × AreOf t es
AreOf t (e ∷ es) = ⊥

abbrev weight : Bool → ℕ
weight b = cond b 1 0

unlike : (t v : ℕ) → v ≢ t → nat_eq t v ≡ false
unlike t v other = grind (arith, nat_tests)

alike : (t : ℕ) → nat_eq t t ≡ true
alike t = grind (arith, nat_tests)

count_one : (p : Event → Bool) (e : Event) (es : List Event) → count_by p (e ∷ es) ≡ cond (p e) 1 0 + count_by p es
count_one p e es = omega (arith, sum_by-append (λ x. cond (p x) 1 0) (e ∷ []) es)

none_of : (p : Event → Bool) (t : ℕ) → p (GotOf t) ≡ false → p (ListenerFailed t) ≡ false → p (ListenerEnded t) ≡ false → (es : List Event) → AreOf t es → count_by p es ≡ 0
none_of p t g f n [] are = refl
none_of p t g f n (GotOf s ∷ es) are = omega (arith, count_one p (GotOf s) es, ap (λ x. weight (p (GotOf x))) are.0, ap weight g, none_of p t g f n es are.1)
none_of p t g f n (ListenerFailed s ∷ es) are = omega (arith, count_one p (ListenerFailed s) es, ap (λ x. weight (p (ListenerFailed x))) are.0, ap weight f, none_of p t g f n es are.1)
none_of p t g f n (ListenerEnded s ∷ es) are = omega (arith, count_one p (ListenerEnded s) es, ap (λ x. weight (p (ListenerEnded x))) are.0, ap weight n, none_of p t g f n es are.1)
none_of p t g f n (Command c ∷ es) are = absurd are
none_of p t g f n (Notice w ∷ es) are = absurd are
none_of p t g f n (Back w ∷ es) are = absurd are
none_of p t g f n (Sent w r ∷ es) are = absurd are
none_of p t g f n (RingFull w ∷ es) are = absurd are
none_of p t g f n (Faulted w ∷ es) are = absurd are
none_of p t g f n (Replaced w ∷ es) are = absurd are
none_of p t g f n (Retired w ∷ es) are = absurd are

refused_same : (full : Option (List ℕ)) (t : ℕ) (es : List Event) → AreOf t es → refused full es ≡ full
refused_same full t [] are = refl
refused_same None t (GotOf s ∷ es) are = refused_same None t es are.1
refused_same None t (ListenerFailed s ∷ es) are = refused_same None t es are.1
refused_same None t (ListenerEnded s ∷ es) are = refused_same None t es are.1
refused_same (Some ws) t (GotOf s ∷ es) are = refused_same (Some ws) t es are.1
refused_same (Some ws) t (ListenerFailed s ∷ es) are = refused_same (Some ws) t es are.1
refused_same (Some ws) t (ListenerEnded s ∷ es) are = refused_same (Some ws) t es are.1
refused_same full t (Command c ∷ es) are = absurd are
refused_same full t (Notice w ∷ es) are = absurd are
refused_same full t (Back w ∷ es) are = absurd are
refused_same full t (Sent w r ∷ es) are = absurd are
refused_same full t (RingFull w ∷ es) are = absurd are
refused_same full t (Faulted w ∷ es) are = absurd are
refused_same full t (Replaced w ∷ es) are = absurd are
refused_same full t (Retired w ∷ es) are = absurd are

-- what they leave of the other listeners
record LeavesOthers (s u : Core) (t : ℕ) : Type 0 where
  ended : (v : ℕ) (d : Bool) → v ≢ t → slice_index_or u.ended v d ≡ slice_index_or s.ended v d
  failures : (v : ℕ) → v ≢ t → slice_index u.failures v ≡ slice_index s.failures v
  as_many : length u.ended ≡ length s.ended

leaves_trans : (s u w : Core) (t : ℕ) → LeavesOthers s u t → LeavesOthers u w t → LeavesOthers s w t
leaves_trans s u w t p q = record {
  ended = λ v d other. q.ended v d other ∙ p.ended v d other;
  failures = λ v other. q.failures v other ∙ p.failures v other;
  as_many = q.as_many ∙ p.as_many;
}

leaves_got : (s : Core) (t : ℕ) → LeavesOthers s (step s (GotOf t)) t
leaves_got s t = record { ended = λ v d other. refl; failures = λ v other. get_or-set_other s.failures t v 0 0 other; as_many = refl }

leaves_failed : (s : Core) (t : ℕ) → LeavesOthers s (step s (ListenerFailed t)) t
leaves_failed s t = record { ended = λ v d other. refl; failures = λ v other. get_or-set_other s.failures t v (min (slice_index s.failures t + 1) (2 ^ 64 - 1)) 0 other; as_many = refl }

leaves_ended : (s : Core) (t : ℕ) → LeavesOthers s (step s (ListenerEnded t)) t
leaves_ended s t = record { ended = λ v d other. get_or-set_other s.ended t v true d other; failures = λ v other. refl; as_many = length-set s.ended t true }

leaves_others : (s : Core) (t : ℕ) (es : List Event) → AreOf t es → LeavesOthers s (after_all s es) t
leaves_others s t [] are = record { ended = λ v d other. refl; failures = λ v other. refl; as_many = refl }
leaves_others s t (GotOf x ∷ es) are = leaves_trans s (step s (GotOf x)) _ t (subst (λ y. LeavesOthers s (step s (GotOf y)) t) (sym are.0) (leaves_got s t)) (leaves_others (step s (GotOf x)) t es are.1)
leaves_others s t (ListenerFailed x ∷ es) are = leaves_trans s (step s (ListenerFailed x)) _ t (subst (λ y. LeavesOthers s (step s (ListenerFailed y)) t) (sym are.0) (leaves_failed s t)) (leaves_others (step s (ListenerFailed x)) t es are.1)
leaves_others s t (ListenerEnded x ∷ es) are = leaves_trans s (step s (ListenerEnded x)) _ t (subst (λ y. LeavesOthers s (step s (ListenerEnded y)) t) (sym are.0) (leaves_ended s t)) (leaves_others (step s (ListenerEnded x)) t es are.1)
leaves_others s t (Command c ∷ es) are = absurd are
leaves_others s t (Notice w ∷ es) are = absurd are
leaves_others s t (Back w ∷ es) are = absurd are
leaves_others s t (Sent w r ∷ es) are = absurd are
leaves_others s t (RingFull w ∷ es) are = absurd are
leaves_others s t (Faulted w ∷ es) are = absurd are
leaves_others s t (Replaced w ∷ es) are = absurd are
leaves_others s t (Retired w ∷ es) are = absurd are

-- what they tell that came of it
marks_got : (t : ℕ) → marks_of t (GotOf t ∷ []) ≡ gives ∷ []
marks_got t = ap (λ b. cond b (gives ∷ []) [] ++ []) (alike t)

marks_failed : (t : ℕ) (es : List Event) → marks_of t es ≡ [] → marks_of t (ListenerFailed t ∷ es) ≡ fails ∷ []
marks_failed t es none = ap₂ (λ b marks. cond b (fails ∷ []) [] ++ marks) (alike t) none

at_zero : (xs : List ℕ) (t : ℕ) → slice_index (slice_set xs t 0) t ≡ 0
at_zero [] t = refl
at_zero (x ∷ xs) zero = refl
at_zero (x ∷ xs) (suc t) = at_zero xs t

any_default : (xs : List Bool) (t : ℕ) (c d : Bool) → t < length xs → slice_index_or xs t c ≡ slice_index_or xs t d
any_default [] t c d inside = absurd (omega arith)
any_default (x ∷ xs) zero c d inside = refl
any_default (x ∷ xs) (suc t) c d inside = any_default xs t c d (omega arith)

pub opened_false : (s : Core) (t : ℕ) → is_open s t ≡ true → slice_index_or s.ended t false ≡ false
opened_false s t opened = any_default s.ended t false true (opened_below s t opened) ∙ opened_at s t opened

marked_false : (s : Core) (t : ℕ) → is_open s t ≡ true → slice_index_or (slice_set s.ended t true) t false ≡ true
marked_false s t opened = any_default (slice_set s.ended t true) t false true (omega (arith, length-set s.ended t true, opened_below s t opened)) ∙ marked_at s.ended t

not_inside : (t v : ℕ) → IsOutside t (t + 1) v → v ≢ t
not_inside t v (inl below) same = absurd (omega arith)
not_inside t v (inr above) same = absurd (omega arith)

-- ---- the acceptor, before and after
module _ {Li L : Type 0} (given : Li → ℕ) (left : Li → Option (List L)) (rest : Li → Option (List Mark)) (identity : L → Identity) (ended : Li → Bool) (faults : Li → ℕ)
    (before after : List Li) (a b : Acceptor L) (t : ℕ)
    (opened : is_open (core_of a) t ≡ true) (ready : all_ready a ≡ true) (asks_at : AsksAt before after t)
    (never_falls : given_at faults before t ≤ given_at faults after t)
    (only : AsksOnly a b) (logs : Logs a.core b.core a.events.items b.events.items)
    (failed_others : (v : ℕ) → v ≢ t → slice_index_or b.failed.items v None ≡ slice_index_or a.failed.items v None)
    (carries : (none_left : Bool) (first : List Li) (entries : List (Entry L)) → Carries given left identity none_left first before a entries → Carries given left identity none_left first after b entries)
    (may : MayAsk a) where
  told_on : (w : ℕ) → HasTold a w → HasTold b w
  told_on w told =
      subst (λ out. IfSome (slice_get (notes_of b) w) (λ c. AreLeft (slice_index out w) (core_of b).stopping (known_items c))) (sym only.out)
      (subst (λ o. IfSome (slice_get (notes_of b) w) (λ c. AreLeft (slice_index (core_of a).out w) o (known_items c))) (sym only.stopping)
      (subst (λ ns. IfSome (slice_get ns.items w) (λ c. AreLeft (slice_index (core_of a).out w) (core_of a).stopping (known_items c))) (sym only.notes) told))

  short_on : IsShort a → IsShort b
  short_on short = omega (arith, short, ap (λ (xs : List ℕ). length xs) only.out, ap (λ (xs : List Event). length xs) logs.appended, length-append a.events.items logs.more)

  taken_on : HasTaken a → HasTaken b
  taken_on told w = by_both (told w)
    where
      by_both : (HasTold a w ⊎ IsShort a) → HasTold b w ⊎ IsShort b
      by_both (inl p) = inl (told_on w p)
      by_both (inr p) = inr (short_on p)

  module _ (es : List Event) (are : AreOf t es) (added : b.events.items ≡ a.events.items ++ es) where
    more_is : logs.more ≡ es
    more_is = append_cancel_left a.events.items logs.more es (sym logs.appended ∙ added)

    core_is : b.core ≡ after_all a.core es
    core_is = logs.core ∙ ap (λ xs. after_all a.core xs) more_is

    others : LeavesOthers a.core b.core t
    others = subst (λ u. LeavesOthers a.core u t) (sym core_is) (leaves_others a.core t es are)

    at_other : (f : Li → ℕ) (v : ℕ) → v ≢ t → given_at f after v ≡ given_at f before v
    at_other f v other = ap (λ o. option_map_or f o 0) (asks_at.others v other)

    got_other : (v : ℕ) → v ≢ t → count_by (is_got v) es ≡ 0
    got_other v other = none_of (is_got v) t (unlike t v other) refl refl es are

    failed_other : (v : ℕ) → v ≢ t → count_by (is_failed v) es ≡ 0
    failed_other v other = none_of (is_failed v) t refl (unlike t v other) refl es are

    none_other : (v : ℕ) → v ≢ t → marks_of v es ≡ []
    none_other v other = marks_without v es (got_other v other) (failed_other v other)

    refused_still : refused (Some []) (events_of b) ≡ refused (Some []) (events_of a)
    refused_still = ap (refused (Some [])) added ∙ refused_append (Some []) a.events.items es ∙ refused_same (refused (Some []) a.events.items) t es are

    does : {D : Type 0} (taken : D → Option (List (Entry L))) (count served : D → ℕ) (d : D) → (count d < 2 ^ 64) × (served d < 2 ^ 64)
        → given_at given after t ≡ given_at given before t + count_by (is_got t) es
        → rest_at rest before t ≡ option_map (λ marks. marks_of t es ++ marks) (rest_at rest after t)
        → slice_index b.core.failures t ≡ in_a_row (slice_index a.core.failures t) (marks_of t es)
        → (0 < count_by (is_failed t) es → Rose (given_at faults before t) (given_at faults after t))
        → (slice_index_or b.core.ended t false ≡ true → (HasEnded ended after t × (slice_index b.core.failures t ≢ a.retry_limit)) ⊎ ((slice_index b.core.failures t ≡ a.retry_limit) × Rose (given_at faults before t) (given_at faults after t)))
        → (HasEnded ended after t → (slice_index_or b.core.ended t false ≡ true) × (slice_index b.core.failures t ≢ a.retry_limit))
        → count_by (is_failed t) es ≤ 1
        → AskDoes given left rest identity ended faults taken count served before after a b t d
    does taken count served d fits got marked failures failed ends marks once = record {
      proceeds = record {
        more = es;
        appended = added;
        does = record {
          acts = record {
            logged = record {
              allowed = subst (λ xs. AllAllowed a.core xs) more_is logs.allowed;
              core = core_is;
              got = λ v. elim (cases_eq v t) [
                | inl same ↦ rw same got
                | inr other ↦ omega (arith, at_other given v other, got_other v other)
              ];
              failed = λ v some. elim (cases_eq v t) [
                | inl same ↦ subst (λ x. Rose (given_at faults before x) (given_at faults after x)) (sym same) (failed (subst (λ x. 0 < count_by (is_failed x) es) same some))
                | inr other ↦ absurd (omega (arith, some, failed_other v other))
              ];
              marked = λ v. elim (cases_eq v t) [
                | inl same ↦ rw same marked
                | inr other ↦ subst (λ o. option_and_then rest o ≡ option_map (λ marks. marks_of v es ++ marks) (rest_at rest after v)) (asks_at.others v other)
                    (marked_none (rest_at rest after v) (marks_of v es) (none_other v other))
              ];
              failures = λ v. elim (cases_eq v t) [
                | inl same ↦ rw same failures
                | inr other ↦ row_none (slice_index a.core.failures v) (slice_index b.core.failures v) (marks_of v es) (none_other v other) (others.failures v other)
              ];
              sent_on = λ w. omega (arith, ap (λ ps. count_put identity ps.items w) only.parcels, none_of (is_sent w) t refl refl refl es are);
              back = λ w. omega (arith, ap (λ ns. count_back identity ns.items w) only.notes, none_of (is_back w) t refl refl refl es are);
            };
            passes = record {
              more = [];
              adds = adds_none taken count served d fits;
              founded = All-nil _;
              carries = λ none_left is first entries before_this. subst (λ xs. Carries given left identity none_left first after b xs) (sym (append-nil entries)) (carries none_left first entries before_this);
            };
            awaits = record {
              stays_ready = λ r. ready_still;
              early = λ lacks. absurd (let e : false ≡ true = sym lacks ∙ ready_still in cc);
              noted = λ n. subst (λ rs. (w : ℕ) → slice_index_or rs.items w false ≡ true → IfSome (slice_get (notes_of b) w) (λ c. Contains (received c) ReadyNote)) (sym only.ready)
                  (subst (λ ns. (w : ℕ) → slice_index_or (ready_of a) w false ≡ true → IfSome (slice_get ns.items w) (λ c. Contains (received c) ReadyNote)) (sym only.notes) n);
            };
            tells = record {
              ends = λ v opened_then now. elim (cases_eq v t) [
                | inl same ↦ subst (λ x. (HasEnded ended after x × (slice_index b.core.failures x ≢ a.retry_limit)) ⊎ ((slice_index b.core.failures x ≡ a.retry_limit) × Rose (given_at faults before x) (given_at faults after x)))
                    (sym same) (ends (subst (λ x. slice_index_or b.core.ended x false ≡ true) same now))
                | inr other ↦ absurd (true≢false (sym now ∙ others.ended v false other ∙ opened_then))
              ];
              stays = λ v is.
                  let other : v ≢ t = λ same. true≢false (sym is ∙ ap (λ x. slice_index_or a.core.ended x false) same ∙ opened_false a.core t opened) in
                  (asks_at.others v other, others.failures v other, others.ended v false other ∙ is);
              rises = λ v. elim (cases_eq v t) [
                | inl same ↦ rw same never_falls
                | inr other ↦ omega (arith, at_other faults v other)
              ];
              marks = λ v has. elim (cases_eq v t) [
                | inl same ↦ inr (subst (λ x. (slice_index_or b.core.ended x false ≡ true) × (slice_index b.core.failures x ≢ a.retry_limit)) (sym same) (marks (subst (λ x. HasEnded ended after x) same has)))
                | inr other ↦ inl (subst (λ o. IfSome o (λ li. ended li ≡ true)) (asks_at.others v other) has)
              ];
            };
            rings = record { parcels = ap (λ v. map ring_in v.items) only.parcels; notes = ap (λ v. map ring_out v.items) only.notes };
            puts = λ w. puts_same a b w only.parcels;
            receives = λ w. record { more = []; came = ap (λ ns. received_at ns.items w) only.notes ∙ sym (append-nil _) };
            as_many = asks_at.as_many;
            workers = ap (λ (xs : List ℕ). length xs) only.out;
            listeners = others.as_many;
            limit = only.retry_limit;
            max = only.limit;
            lacks = λ is. only.lacks_room ∙ is;
            stops = λ is. ap (λ o. is_some o) only.stopping ∙ is;
          };
          of_use = subst (λ xs. AllOfUse a.core xs) more_is logs.of_use;
        };
      };
      asks = record {
        leaves = record {
          commands = omega (arith, ap (count_by is_command) added, sum_by-append (λ e. cond (is_command e) 1 0) a.events.items es, none_of is_command t refl refl refl es are);
          paused = only.paused;
          stopping = only.stopping;
          stop = only.stop;
          timeout = only.shutdown_timeout;
          forced = λ w is. subst (λ v. IsForced v.items w) only.parcels is;
          stopped = λ w is. subst (λ v. IsStopped v.items w) only.parcels is;
        };
        first = only.first;
        listeners = λ v out. asks_at.others v (not_inside t v out);
        failed = λ v out. failed_others v (not_inside t v out);
        ended = λ v out. others.ended v true (not_inside t v out);
        others = λ v out. omega (arith, counted_more v, failed_other v (not_inside t v out));
        once = λ v. elim (cases_eq v t) [
          | inl same ↦ rw same (omega (arith, counted_more t, once))
          | inr other ↦ omega (arith, counted_more v, failed_other v other)
        ];
      };
      same_refused = refused_still;
      told = taken_on may.told;
    }
      where
        ready_still : all_ready b ≡ true
        ready_still = ap (λ rs. list_all (λ r. r) rs.items) only.ready ∙ ready

        counted_more : (v : ℕ) → count_by (is_failed v) b.events.items ≡ count_by (is_failed v) a.events.items + count_by (is_failed v) es
        counted_more v = ap (count_by (is_failed v)) added ∙ sum_by-append (λ e. cond (is_failed v e) 1 0) a.events.items es

  module _ {D : Type 0} (taken : D → Option (List (Entry L))) (count served : D → ℕ) (d : D) (fits : (count d < 2 ^ 64) × (served d < 2 ^ 64)) where
    nothing : b.events.items ≡ a.events.items → given_at given after t ≡ given_at given before t → rest_at rest after t ≡ rest_at rest before t → (HasEnded ended after t → ⊥) → AskDoes given left rest identity ended faults taken count served before after a b t d
    nothing events same told going =
        let added : b.events.items ≡ a.events.items ++ [] = events ∙ sym (append-nil a.events.items) in
        does [] tt added taken count served d fits (omega (arith, same)) (sym told ∙ marked_none (rest_at rest after t) [] refl)
        (ap (λ (c : Core). slice_index c.failures t) (core_is [] tt added))
        (λ some. absurd (omega (arith, some)))
        (λ over. absurd (true≢false (sym over ∙ ap (λ (c : Core). slice_index_or c.ended t false) (core_is [] tt added) ∙ opened_false a.core t opened)))
        (λ has. absurd (going has))
        (omega arith)

    goes_by : (es : List Event) (came : List Mark) → marks_of t es ≡ came → rest_at rest before t ≡ option_map (λ marks. came ++ marks) (rest_at rest after t)
        → rest_at rest before t ≡ option_map (λ marks. marks_of t es ++ marks) (rest_at rest after t)
    goes_by es came is marked = marked ∙ ap (λ all. option_map (λ marks. all ++ marks) (rest_at rest after t)) (sym is)

    -- by what was answered
    pub ask_does : (waits skips : Li → ℕ) (now : ℕ) (asked : Asked) → slice_index a.core.failures t < a.retry_limit → (HasEnded ended after t → asked ≡ Ended) → IsMarkedAs asked (rest_at rest before t) (rest_at rest after t)
        → (asked ≡ Failed → slice_index b.core.failures t ≡ slice_index a.core.failures t + 1) → IsAsked given waits skips faults ended before after a b t now asked
        → AskDoes given left rest identity ended faults taken count served before after a b t d
    ask_does waits skips now Got fewer only_ended marked counted is =
        does (GotOf t ∷ []) (refl, tt) is.0 taken count served d fits (omega (arith, is.1, count_one (is_got t) (GotOf t) [], ap weight (alike t)))
        (goes_by (GotOf t ∷ []) (gives ∷ []) (marks_got t) marked)
        (ap (λ (c : Core). slice_index c.failures t) (core_is (GotOf t ∷ []) (refl, tt) is.0) ∙ at_zero a.core.failures t ∙ ap (in_a_row (slice_index a.core.failures t)) (sym (marks_got t)))
        (λ some. absurd (omega (arith, some, count_one (is_failed t) (GotOf t) [])))
        (λ over. absurd (true≢false (sym over ∙ ap (λ (c : Core). slice_index_or c.ended t false) (core_is (GotOf t ∷ []) (refl, tt) is.0) ∙ opened_false a.core t opened)))
        (λ has. absurd (let e : Got ≡ Ended = only_ended has in cc))
        (omega (arith, count_one (is_failed t) (GotOf t) []))
    ask_does waits skips now NotYet fewer only_ended marked counted is = nothing is.0 is.1 marked (λ has. let e : NotYet ≡ Ended = only_ended has in cc)
    ask_does waits skips now Skipped fewer only_ended marked counted is = nothing is.0 is.1 marked (λ has. let e : Skipped ≡ Ended = only_ended has in cc)
    ask_does waits skips now Failed fewer only_ended marked counted is = by_events is.0.events
      where
        by_events : ((b.events.items ≡ a.events.items ++ ListenerFailed t ∷ []) ⊎ ((b.events.items ≡ a.events.items ++ (ListenerFailed t ∷ ListenerEnded t ∷ [])) × (slice_index b.core.failures t ≡ b.retry_limit)))
            → AskDoes given left rest identity ended faults taken count served before after a b t d
        by_events (inl added) =
            does (ListenerFailed t ∷ []) (refl, tt) added taken count served d fits (omega (arith, is.1, count_one (is_got t) (ListenerFailed t) []))
            (goes_by (ListenerFailed t ∷ []) (fails ∷ []) (marks_failed t [] refl) marked)
            (counted refl ∙ ap (in_a_row (slice_index a.core.failures t)) (sym (marks_failed t [] refl)))
            (λ some. is.2)
            (λ over. absurd (true≢false (sym over ∙ ap (λ (c : Core). slice_index_or c.ended t false) (core_is (ListenerFailed t ∷ []) (refl, tt) added) ∙ opened_false a.core t opened)))
            (λ has. absurd (let e : Failed ≡ Ended = only_ended has in cc))
            (omega (arith, count_one (is_failed t) (ListenerFailed t) [], ap weight (alike t)))
        by_events (inr both) =
            does (ListenerFailed t ∷ ListenerEnded t ∷ []) (refl, (refl, tt)) both.0 taken count served d fits (omega (arith, is.1, count_one (is_got t) (ListenerFailed t) (ListenerEnded t ∷ []), count_one (is_got t) (ListenerEnded t) []))
            (goes_by (ListenerFailed t ∷ ListenerEnded t ∷ []) (fails ∷ []) (marks_failed t (ListenerEnded t ∷ []) refl) marked)
            (counted refl ∙ ap (in_a_row (slice_index a.core.failures t)) (sym (marks_failed t (ListenerEnded t ∷ []) refl)))
            (λ some. is.2)
            (λ over. inr (both.1 ∙ only.retry_limit, is.2))
            (λ has. absurd (let e : Failed ≡ Ended = only_ended has in cc))
            (omega (arith, count_one (is_failed t) (ListenerFailed t) (ListenerEnded t ∷ []), count_one (is_failed t) (ListenerEnded t) [], ap weight (alike t)))
    ask_does waits skips now Ended fewer only_ended marked counted is =
        does (ListenerEnded t ∷ []) (refl, tt) is.0 taken count served d fits (omega (arith, is.1, count_one (is_got t) (ListenerEnded t) []))
        (sym marked ∙ marked_none (rest_at rest after t) [] refl)
        same
        (λ some. absurd (omega (arith, some, count_one (is_failed t) (ListenerEnded t) [])))
        (λ over. inl (is.2, not_full))
        (λ has. (over_now, not_full))
        (omega (arith, count_one (is_failed t) (ListenerEnded t) []))
      where
        same : slice_index b.core.failures t ≡ slice_index a.core.failures t
        same = ap (λ (c : Core). slice_index c.failures t) (core_is (ListenerEnded t ∷ []) (refl, tt) is.0)

        not_full : slice_index b.core.failures t ≢ a.retry_limit
        not_full full = omega (arith, fewer, same, full)

        over_now : slice_index_or b.core.ended t false ≡ true
        over_now = ap (λ (c : Core). slice_index_or c.ended t false) (core_is (ListenerEnded t ∷ []) (refl, tt) is.0) ∙ marked_false a.core t opened

  -- ---- what the answer comes to
  out_kept : b.waiting ≡ a.waiting → out_of b ≡ out_of a
  out_kept same = omega (arith, ap (λ xs. sum xs) only.out, ap (λ x. held x) (b.waits ∙ ap (option_map (λ (w : Waiting L). w.token)) same ∙ sym a.waits))

  out_more : (link : L) → TakesUp a b t link → out_of b ≡ out_of a + 1
  out_more link u = omega (arith, ap (λ xs. sum xs) only.out, ap (λ x. held x) (b.waits ∙ ap (option_map (λ (w : Waiting L). w.token)) u.waiting), ap (λ x. held x) (a.waits ∙ ap (option_map (λ (w : Waiting L). w.token)) u.none))

  may_on : b.waiting ≡ a.waiting → refused (Some []) (events_of b) ≡ refused (Some []) (events_of a) → MayAsk b
  may_on same refused = record { none = same ∙ may.none; unrefused = refused ∙ may.unrefused; told = taken_on may.told }

  pub comes_to : (waits skips : Li → ℕ) (now : ℕ) (asked : Asked) → IsAsked given waits skips faults ended before after a b t now asked → Leaves a b t asked
      → ComesTo given waits skips before after a b t now asked
  comes_to waits skips now Got is leaves = (
    record {
      opened = ap (λ c. is_open c t) (core_is (GotOf t ∷ []) (refl, tt) is.0) ∙ opened;
      failures = omega (arith, ap (count_by (is_failed t)) is.0, sum_by-append (λ e. cond (is_failed t e) 1 0) a.events.items (GotOf t ∷ []), count_one (is_failed t) (GotOf t) []);
    },
    is.1,
    out_more leaves.0 leaves.1,
  )
  comes_to waits skips now NotYet is leaves = (inr (inl is.2), out_kept leaves.waiting, may_on leaves.waiting (refused_still [] tt (is.0 ∙ sym (append-nil a.events.items))))
  comes_to waits skips now Skipped is leaves = (
    record {
      opened = ap (λ c. is_open c t) (core_is [] tt (is.0 ∙ sym (append-nil a.events.items))) ∙ opened;
      failures = ap (count_by (is_failed t)) is.0;
    },
    inr (is.1, is.2),
    out_kept leaves.waiting,
    may_on leaves.waiting (refused_still [] tt (is.0 ∙ sym (append-nil a.events.items))),
  )
  comes_to waits skips now Failed is leaves =
      (inr (inr (subst (λ o. IsSomeAnd o (λ failed. now < failed + 500)) (sym is.0.failed) (omega arith))), out_kept leaves.waiting, may_on leaves.waiting (by_events is.0.events))
    where
      by_events : ((b.events.items ≡ a.events.items ++ ListenerFailed t ∷ []) ⊎ ((b.events.items ≡ a.events.items ++ (ListenerFailed t ∷ ListenerEnded t ∷ [])) × (slice_index b.core.failures t ≡ b.retry_limit)))
          → refused (Some []) (events_of b) ≡ refused (Some []) (events_of a)
      by_events (inl added) = refused_still (ListenerFailed t ∷ []) (refl, tt) added
      by_events (inr both) = refused_still (ListenerFailed t ∷ ListenerEnded t ∷ []) (refl, (refl, tt)) both.0
  comes_to waits skips now Ended is leaves =
      (inl (ap (λ (c : Core). slice_index_or c.ended t true) (core_is (ListenerEnded t ∷ []) (refl, tt) is.0) ∙ marked_at a.core.ended t), out_kept leaves.waiting, may_on leaves.waiting (refused_still (ListenerEnded t ∷ []) (refl, tt) is.0))

-- no listener gave fewer than it has places
pub given_on : {Li L : Type 0} (given : Li → ℕ) (before after : List Li) (a b : Acceptor L) (t : ℕ) → AsksAt before after t → (asked : Asked) → Leaves a b t asked → slice_index_or b.places.items t 0 ≤ given_at given after t
    → ((v : ℕ) → slice_index_or a.places.items v 0 ≤ given_at given before v) → (v : ℕ) → slice_index_or b.places.items v 0 ≤ given_at given after v
given_on given before after a b t asks_at asked leaves here all v = elim (cases_eq v t) [
  | inl same ↦ rw same here
  | inr other ↦ omega (arith, place_other asked leaves v other, ap (λ o. option_map_or given o 0) (asks_at.others v other), all v)
]
  where
    place_other : (asked : Asked) → Leaves a b t asked → (v : ℕ) → v ≢ t → slice_index_or b.places.items v 0 ≡ slice_index_or a.places.items v 0
    place_other Got leaves v other = ap (λ xs. slice_index_or xs v 0) leaves.1.places ∙ get_or-set_other a.places.items t v (slice_index_or a.places.items t 0 + 1) 0 other
    place_other NotYet leaves v other = ap (λ ps. slice_index_or ps.items v 0) leaves.places
    place_other Skipped leaves v other = ap (λ ps. slice_index_or ps.items v 0) leaves.places
    place_other Failed leaves v other = ap (λ ps. slice_index_or ps.items v 0) leaves.places
    place_other Ended leaves v other = ap (λ ps. slice_index_or ps.items v 0) leaves.places
