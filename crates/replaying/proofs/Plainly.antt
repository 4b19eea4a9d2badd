-- The report of a script that is plain.
use Rattle.std.proofs.Common.{◌≡◌, ◌≢◌, ◌≤◌, ◌⊎◌, ◌++◌, ℕ, suc, List, [], ◌∷◌, All, Any, length, map, true, false, cond, refl, sym, ◌∙◌, ap, subst, arith, inl, inr}
use Rattle.std.specs.List.{count_by}
use Rattle.std.proofs.lemmas.List.Elements.{All-head, All-tail}
use Rattle.std.proofs.lemmas.List.Sums.{sum_by-append}
use Rattle.http1_grammar.specs.Answers.{End as End', done, up}
use Rattle.http1_grammar.specs.Head.{Head}
use Rattle.report.specs.Told.{Telling, Told, text_of}
use Rattle.script.specs.Offering.{marks_of}
use Rattle.script.specs.Planned.{Listening, Planned}
use Rattle.script.specs.Script.{Plan}
use Rattle.script_service.specs.Sites.{Site, site_of}
use Rattle.server_run.specs.Listener.{Mark, fails, gives, in_a_row}
use Rattle.server_run.specs.Report.{is_stop}
use Rattle.server_run.specs.declared.outcome.Outcome.{Outcome}
use Rattle.server_run.specs.declared.outcome.Outcome.TheVariants as outcome
use Rattle.server_run.specs.declared.report.End.{End}
use Rattle.server_run.specs.declared.report.End.TheVariants.{Drained, Stopped, NoWorkers, Memory as NoRoom}
use Rattle.server_run.specs.declared.report.ListenerState.{ListenerState}
use Rattle.server_run.specs.declared.report.ListenerState.TheVariants.{Ended, Faulted, Open}
use Rattle.replaying.specs.Reported.{AreTelling, AreTold, GoesOn, IsPlain, IsTelling, IsUntroubled, Shows, ShowsMemory, answers_to, is_failure, report_text, wholly_told}

both : {X Y Z : Type 0} (f : X → Y → Z) {a b : X} {c d : Y} → a ≡ b → c ≡ d → f a c ≡ f b d
both f first second = cc

-- ---- elements of a list

any_head : {X : Type 0} (P : X → Type 0) (x : X) (xs : List X) → P x → Any P (x ∷ xs)
any_head P x xs p = (0, x, omega arith, refl, p)

any_tail : {X : Type 0} (P : X → Type 0) (x : X) (xs : List X) → Any P xs → Any P (x ∷ xs)
any_tail P x xs some = (suc some.0, some.1, omega (arith, some.2), some.3, some.4)

-- ---- connections

pub none_fails : (count : ℕ) → count ≡ 0 → 1 ≤ count → ⊥
none_fails count none some = omega arith

not_both : {b : _} → b ≡ false → b ≡ true → ⊥
not_both f t = cc

not_up : {end : End'} {head : Head} {rest : List ℕ} → end ≡ done → end ≡ up head rest → ⊥
not_up d u = cc

abbrev IsOfMemory : Told → Type 0
IsOfMemory told = told.0 ≡ outcome.Memory

module _ (site : Site) (upgrades : site.echoes_upgrades ≡ false) where
  -- what is told of a connection no step of which fails: it was served, or memory ran out
  served_or_memory : (planned : Planned) → GoesOn planned → (out : Outcome) (written : List ℕ) → Shows site planned out written
      → IsOfMemory (out, written) ⊎ (◌≡◌ {A = Told} (out, written) (outcome.Served, (answers_to site planned).0))
  served_or_memory planned goes outcome.Served written shows = inr (ap (λ w. (outcome.Served, w)) shows)
  served_or_memory planned goes outcome.ReadFault written shows = absurd (none_fails _ goes.reads shows.0)
  served_or_memory planned goes outcome.WriteFault written shows = absurd (none_fails _ goes.writes shows.0)
  served_or_memory planned goes outcome.Upgraded written shows = absurd (not_both upgrades shows.0)
  served_or_memory planned goes (outcome.Lost worker) written shows = absurd shows
  served_or_memory planned goes (outcome.Stopped forced) written shows = absurd shows
  served_or_memory planned goes outcome.Memory written shows = inl refl

  -- of all connections
  pub all_served : (connections : List Planned) (told : List Told) → All GoesOn connections → AreTold site connections told → length told ≡ length connections
      → Any IsOfMemory told ⊎ (told ≡ map (λ planned. (outcome.Served, (answers_to site planned).0)) connections)
  all_served [] [] go are many = inr refl
  all_served [] (t ∷ told) go are many = absurd are
  all_served (planned ∷ connections) [] go are many = absurd (omega (arith, many))
  all_served (planned ∷ connections) (t ∷ told) go are many =
      elim (served_or_memory planned (All-head GoesOn planned connections go) t.0 t.1 are.0) [
        | inl memory ↦ inl (any_head IsOfMemory t told memory)
        | inr served ↦ elim (all_served connections told (All-tail GoesOn planned connections go) are.1 (omega (arith, many))) [
          | inl memory ↦ inl (any_tail IsOfMemory t told memory)
          | inr all ↦ inr (both (λ (x : Told) (xs : List Told). x ∷ xs) served all)
        ]
      ]

-- ---- listeners

-- one that never fails doesn't fail in a row
never_in_a_row : (came back : List Mark) (all : List Mark) → all ≡ came ++ back → count_by is_failure all ≡ 0 → in_a_row 0 came ≡ 0
never_in_a_row [] back all is none = refl
never_in_a_row (gives ∷ came) back all is none =
    never_in_a_row came back (came ++ back) refl
    (let counted = subst (λ (ms : List Mark). count_by is_failure ms ≡ 0) is none in let more = sum_by-append (λ (m : Mark). cond (is_failure m) 1 0) (gives ∷ []) (came ++ back) in omega (arith, counted, more))
never_in_a_row (fails ∷ came) back all is none =
    let counted = subst (λ (ms : List Mark). count_by is_failure ms ≡ 0) is none in
    let more = sum_by-append (λ (m : Mark). cond (is_failure m) 1 0) (fails ∷ []) (came ++ back) in absurd (omega (arith, counted, more))

abbrev HasMemory : Telling → Type 0
HasMemory telling = Any IsOfMemory telling.0

module _ (site : Site) (upgrades : site.echoes_upgrades ≡ false) (retry_limit : ℕ) (some : retry_limit ≢ 0) where
  pub state_is : (listener : Listening) (telling : Telling) → IsUntroubled listener → IsTelling site retry_limit listener telling → (telling.1 ≡ Open → ⊥) → telling.1 ≡ Ended
  state_is listener telling untroubled is opens = by_state telling.1 refl
    where
      by_state : (state : ListenerState) → telling.1 ≡ state → telling.1 ≡ Ended
      by_state Ended at = at
      by_state (Faulted failures) at =
          let up = (is.faulted failures at).1 in
          absurd (some (sym up.in_row ∙ never_in_a_row up.came up.back (marks_of listener.comings) up.is untroubled.comings))
      by_state Open at = absurd (opens at)

  wholly : (listener : Listening) (telling : Telling) → IsUntroubled listener → IsTelling site retry_limit listener telling → (telling.1 ≡ Open → ⊥)
      → HasMemory telling ⊎ (telling ≡ wholly_told site listener)
  wholly listener telling untroubled is opens =
      let state = state_is listener telling untroubled is opens in
      elim (all_served site upgrades listener.connections telling.0 untroubled.connections is.connections (is.ended state)) [
        | inl memory ↦ inl memory
        | inr all ↦ inr (both (λ (told : List Told) (s : ListenerState). (told, s)) all state)
      ]

  all_wholly : (listeners : List Listening) (tellings : List Telling) → All IsUntroubled listeners → AreTelling site retry_limit listeners tellings
      → All (λ (telling : Telling). telling.1 ≡ Open → ⊥) tellings → Any HasMemory tellings ⊎ (tellings ≡ map (wholly_told site) listeners)
  all_wholly [] [] untroubled are opens = inr refl
  all_wholly [] (telling ∷ tellings) untroubled are opens = absurd are
  all_wholly (listener ∷ listeners) [] untroubled are opens = absurd are
  all_wholly (listener ∷ listeners) (telling ∷ tellings) untroubled are opens =
      elim (wholly listener telling (All-head IsUntroubled listener listeners untroubled) are.0 (All-head (λ (t : Telling). t.1 ≡ Open → ⊥) telling tellings opens)) [
        | inl memory ↦ inl (any_head HasMemory telling tellings memory)
        | inr one ↦ elim (all_wholly listeners tellings (All-tail IsUntroubled listener listeners untroubled) are.1 (All-tail (λ (t : Telling). t.1 ≡ Open → ⊥) telling tellings opens)) [
          | inl memory ↦ inl (any_tail HasMemory telling tellings memory)
          | inr all ↦ inr (both (λ (t : Telling) (ts : List Telling). t ∷ ts) one all)
        ]
      ]

not_drained : {end : End} → end ≡ Drained → end ≡ NoRoom → ⊥
not_drained d m = cc

-- the report of a plain script, unless memory ran out
pub by_plain : (plan : Plan) (retry : plan.retry_limit ≢ 0) (tellings : List Telling) (end : End) (text : List ℕ) → text ≡ text_of tellings end → is_stop end ≡ false → end ≢ NoWorkers
    → AreTelling (site_of plan) plan.retry_limit plan.listeners tellings → All (λ (telling : Telling). telling.1 ≡ Open → end ≡ NoRoom) tellings
    → IsPlain plan → (text ≡ report_text plan) ⊎ ShowsMemory tellings end
by_plain plan retry tellings (Stopped graceful) text is unstopped staffed are opens plain = absurd (cc)
by_plain plan retry tellings NoWorkers text is unstopped staffed are opens plain = absurd (staffed refl)
by_plain plan retry tellings NoRoom text is unstopped staffed are opens plain = inr (inl refl)
by_plain plan retry tellings Drained text is unstopped staffed are opens plain =
    elim (all_wholly (site_of plan) plain.upgrades plan.retry_limit retry plan.listeners tellings plain.goes_on are (λ k d within at. not_drained refl (opens k d within at))) [
      | inl memory ↦ inr (inr memory)
      | inr all ↦ inl (is ∙ ap (λ (ts : List Telling). text_of ts Drained) all)
    ]
