-- From a run over connections that were made to their summary.
use Rattle.std.proofs.Common.{◌≡◌, ◌<◌, ◌≤◌, ◌⊎◌, ◌==◌, ◌++◌, ℕ, zero, suc, Bool, true, false, cond, List, [], ◌∷◌, All, length, map, refl, sym, ◌∙◌, ap, subst, arith, eq-eqb, inl, inr}
use Rattle.std.proofs.lemmas.List.Elements.{All-cons, All-nil}
use Rattle.generator.specs.Generator.{connections, generated, request_count}
use Rattle.report.proofs.Placing.{as_many as as_many_entries}
use Rattle.report.proofs.Sorting.{sorted_entries}
use Rattle.report.proofs.Summing.{byte_count-IsPermutation, served_count-IsPermutation, entries_of-all}
use Rattle.report.specs.Report.{IsText, end_line, entries_of, entry_lines, state_lines}
use Rattle.report.specs.Summary.{byte_count, served_count, summary_of}
use Rattle.report.specs.Told.{Told, tellings_of, told_by}
use Rattle.script.specs.Planned.{Listening}
use Rattle.script.specs.Script.{Plan}
use Rattle.script_service.specs.Sites.{Site, site_of}
use Rattle.server_run.specs.Delivery.{given_at, rise}
use Rattle.server_run.specs.Report.{is_stop}
use Rattle.server_run.specs.contracts.memory_link.MemoryLinkLink.TheImpl.{ghosts}
use Rattle.server_run.specs.declared.entry.Entry.{Entry}
use Rattle.server_run.specs.declared.memory_link.MemoryLink.{MemoryLink}
use Rattle.server_run.specs.declared.memory_listener.MemoryListener.{MemoryListener}
use Rattle.server_run.specs.declared.outcome.Outcome.TheVariants as outcome
use Rattle.server_run.specs.declared.report.End.{End}
use Rattle.server_run.specs.declared.report.End.TheVariants.{Drained, Stopped, NoWorkers, Memory as NoRoom}
use Rattle.server_run.specs.declared.report.ListenerState.{ListenerState}
use Rattle.server_run.specs.declared.report.ListenerState.TheVariants.{Open}
use Rattle.server_run.specs.declared.report.Report.{Report}
use Rattle.replaying.proofs.Made.{all_go_on, as_many as as_many_made, listener_of, untroubled}
use Rattle.replaying.proofs.Plainly.{all_served, state_is}
use Rattle.replaying.proofs.Replays.{few_reads, few_writes}
use Rattle.replaying.proofs.Summing.{all_bytes, all_served as all_counted, few_bytes, few_served, fewer_served}
use Rattle.replaying.proofs.Telling.{are_telling, as_many, open_by, told_few}
use Rattle.replaying.specs.Reported.{AreTelling, IsTelling, answers_to}
use Rattle.replaying.specs.Running.{Runs, given_of}
use Rattle.replaying.specs.Summary.{IsSummaryOf, generated_bytes}

-- ---- there is one listener

fewer : (b : Bool) (e : Entry MemoryLink) (es : List (Entry MemoryLink)) → length (cond b (e ∷ es) es) ≡ 0 → length es ≡ 0
fewer true e es none = absurd (omega (arith, none))
fewer false e es none = none

-- where no other listener has an entry, each is of the first one
first_alone : (es : List (Entry MemoryLink)) → ((n : ℕ) → length (entries_of (suc n) es) ≡ 0) → All (λ (e : Entry MemoryLink). e.token ≡ 0) es
first_alone [] none = All-nil (λ (e : Entry MemoryLink). e.token ≡ 0)
first_alone (e ∷ es) none =
    All-cons (λ (x : Entry MemoryLink). x.token ≡ 0) e es (by_token e.token refl) (first_alone es (λ n. fewer (e.token == suc n) e (entries_of (suc n) es) (none n)))
  where
    by_token : (token : ℕ) → e.token ≡ token → e.token ≡ 0
    by_token zero is = is
    by_token (suc n) is =
        let some : length (e ∷ entries_of (suc n) es) ≡ 0 =
        subst (λ (b : Bool). length (cond b (e ∷ entries_of (suc n) es) (entries_of (suc n) es)) ≡ 0) (eq-eqb e.token (suc n) is) (none n) in
        absurd (omega (arith, some))

none_given : (listeners : List MemoryListener) → length listeners ≡ 1 → (n : ℕ) → given_at given_of listeners (suc n) ≡ 0
none_given [] one n = absurd (omega (arith, one))
none_given (listener ∷ []) one n = refl
none_given (listener ∷ other ∷ more) one n = absurd (omega (arith, one))

-- what is told of the one listener
one_telling : (site : Site) (retry_limit : ℕ) (l : Listening) (ordered : List (Entry MemoryLink)) (states : List ListenerState)
    → AreTelling site retry_limit (l ∷ []) (tellings_of 0 states ordered)
    → (s : ListenerState) × (states ≡ s ∷ []) × IsTelling site retry_limit l (map told_by (entries_of 0 ordered), s)
one_telling site retry_limit l ordered [] are = absurd are
one_telling site retry_limit l ordered (s ∷ []) are = (s, refl, are.0)
one_telling site retry_limit l ordered (s ∷ t ∷ more) are = absurd are.1

-- ---- a run

module _ (count seed : ℕ) (entries : List (Entry MemoryLink)) (report : Report) (runs : Runs ghosts (generated count seed) entries report) where
  abbrev plan : Plan
  plan = generated count seed

  abbrev site : Site
  site = site_of (generated count seed)

  abbrev ordered : List (Entry MemoryLink)
  ordered = (sorted_entries entries).0

  abbrev text_of : List ℕ
  text_of = entry_lines 0 (length report.listeners.items) ordered ++ (state_lines 0 report.listeners.items ++ end_line report.end)

  abbrev printed : IsText entries report text_of
  printed = record { ordered = ordered; same = (sorted_entries entries).1; by_place = (sorted_entries entries).2; is = refl }

  telling : (s : ListenerState) × (report.listeners.items ≡ s ∷ []) × IsTelling site plan.retry_limit (listener_of count seed) (map told_by (entries_of 0 ordered), s)
  telling = one_telling site plan.retry_limit (listener_of count seed) ordered report.listeners.items
      (are_telling ghosts (λ link. refl) (λ link. (few_reads link, few_writes link)) plan runs.faults_of entries report runs.old runs.new text_of runs.offer runs.same_count runs.delivers runs.told printed runs.unstopped runs.staffed runs.undisturbed)

  -- it is open only where memory ran out
  open_state : telling.0 ≡ Open → report.end ≡ NoRoom
  open_state is =
      let all = open_by ghosts (λ link. refl) (λ link. (few_reads link, few_writes link)) plan runs.faults_of entries report runs.old runs.new text_of runs.offer runs.same_count runs.delivers runs.told printed runs.unstopped runs.staffed runs.undisturbed in
      let first = subst (λ (states : List ListenerState). All (λ (t : _). t.1 ≡ Open → report.end ≡ NoRoom) (tellings_of 0 states ordered)) telling.1 all in
      first 0 (map told_by (entries_of 0 ordered), telling.0) (omega arith) is

  one_old : length runs.old ≡ 1
  one_old = as_many ghosts plan.listeners runs.old runs.offer

  alone : All (λ (e : Entry MemoryLink). e.token ≡ 0) ordered
  alone = first_alone ordered (λ n. as_many_entries printed (rise given_of runs.old runs.new) runs.delivers.places (suc n) ∙ none_rises n)
    where
      none_rises : (n : ℕ) → rise given_of runs.old runs.new (suc n) ≡ 0
      none_rises n =
          let before = none_given runs.old one_old n in
          let after = none_given runs.new (runs.same_count ∙ one_old) n in omega (arith, before, after)

  abbrev told : List Told
  told = map told_by (entries_of 0 ordered)

  is_told : map told_by (entries_of 0 ordered) ≡ map told_by ordered
  is_told = ap (λ (es : List (Entry MemoryLink)). map told_by es) (entries_of-all ordered alone)

  served_is : served_count (map told_by entries) ≡ served_count told
  served_is = served_count-IsPermutation entries ordered (sorted_entries entries).1 ∙ sym (ap served_count is_told)

  bytes_are : byte_count (map told_by entries) ≡ byte_count told
  bytes_are = byte_count-IsPermutation entries ordered (sorted_entries entries).1 ∙ sym (ap byte_count is_told)

  few : (served_count told ≤ count) × (byte_count told ≤ generated_bytes count seed)
  few = (all_of, few_bytes site refl (connections count seed) told (all_go_on count seed) telling.2.connections)
    where
      all_of : served_count told ≤ count
      all_of = let served = few_served told in let told_few = told_few' in let made = as_many_made count seed in omega (arith, served, told_few, made)
        where
          told_few' : length told ≤ length (connections count seed)
          told_few' = told_few site (connections count seed) told telling.2.connections

  module _ (text : List ℕ) (is : text ≡ summary_of count (request_count count seed) (served_count (map told_by entries)) (byte_count (map told_by entries)) report.end) where
    is_of : text ≡ summary_of count (request_count count seed) (served_count told) (byte_count told) report.end
    is_of = is ∙ ap (λ (n : ℕ). summary_of count (request_count count seed) n (byte_count (map told_by entries)) report.end) served_is
        ∙ ap (λ (n : ℕ). summary_of count (request_count count seed) (served_count told) n report.end) bytes_are

    short_by : (served_count told < count) ⊎ (report.end ≡ NoRoom) → IsSummaryOf count seed text
    short_by why = inr (record { served = served_count told; bytes = byte_count told; end = report.end; is = is_of; few = few; short = why })

    whole_by : report.end ≡ Drained → told ≡ map (λ p. (outcome.Served, (answers_to site p).0)) (connections count seed) → IsSummaryOf count seed text
    whole_by drained all =
        let counts = ap served_count all ∙ all_counted site refl (connections count seed) ∙ as_many_made count seed in
        let bytes = ap byte_count all ∙ all_bytes site refl (connections count seed) in
        inl (is_of ∙ ap (λ (n : ℕ). summary_of count (request_count count seed) n (byte_count told) report.end) counts
        ∙ ap (λ (n : ℕ). summary_of count (request_count count seed) count n report.end) bytes
        ∙ ap (λ (e : End). summary_of count (request_count count seed) count (generated_bytes count seed) e) drained)

    by_end : (end : End) → report.end ≡ end → IsSummaryOf count seed text
    by_end (Stopped graceful) stopped = absurd (let none = subst (λ (e : End). is_stop e ≡ false) stopped runs.unstopped in cc)
    by_end NoWorkers none = absurd (runs.staffed none)
    by_end NoRoom room = short_by (inr room)
    by_end Drained drained =
        let ended = state_is site refl plan.retry_limit runs.retries (listener_of count seed) (told, telling.0) (untroubled count seed) telling.2 (λ opens. not_both drained (open_state opens)) in
        let many = telling.2.ended ended in
        elim (all_served site refl (connections count seed) told (all_go_on count seed) telling.2.connections many) [
          | inl memory ↦ short_by (inl (let fewer = fewer_served told memory in let made = as_many_made count seed in omega (arith, fewer, many, made)))
          | inr all ↦ whole_by drained all
        ]
      where
        not_both : {e : End} → e ≡ Drained → e ≡ NoRoom → ⊥
        not_both d m = cc

    -- what is printed is the summary of these connections
    pub summed : IsSummaryOf count seed text
    summed = by_end report.end refl
