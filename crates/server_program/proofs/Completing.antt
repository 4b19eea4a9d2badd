-- A good script is served.
use Rattle.std.proofs.Common.{◌≡◌, ◌≢◌, ◌≤◌, ◌⊎◌, ℕ, zero, suc, List, Option, Result, Ok, Err, length, inl, inr, refl, subst, arith}
use Rattle.listening.specs.declared.heard.Heard.{Heard}
use Rattle.replaying.specs.Reported.{IsReportOf}
use Rattle.replaying.specs.Summary.{IsSummaryOf}
use Rattle.script.specs.Script.{Plan, plan_of}
use Rattle.server_program.specs.Statuses.{IsHeard, SaysOfGenerate, SaysOfListen, SaysOfReplay, StartRefused, Starts, Written, most_of_script}
use Rattle.server_program.specs.Stream.{Gains}

same_plan : {a b : Plan} {p : Result Plan ℕ} → p ≡ Ok a → p ≡ Ok b → a ≡ b
same_plan first second = cc

no_bad_line : {plan : Plan} {number : ℕ} {p : Result Plan ℕ} → p ≡ Ok plan → p ≡ Err number → ⊥
no_bad_line good bad = cc

not_refused : (plan : Plan) (text : List ℕ) → Starts plan → StartRefused plan text → ⊥
not_refused plan text starts (inl none) = let yes_it = starts.0 in let no_it = none.0 in cc
not_refused plan text starts (inr policy) = let sound = starts.1 in let refused = policy.1.1 in cc

-- the numbers that a status may have
numbers : (status : ℕ) → status ≤ 8 → status ≢ 1 → status ≢ 2 → status ≢ 6
    → (status ≡ 0) ⊎ ((status ≡ 3) ⊎ ((status ≡ 4) ⊎ ((status ≡ 5) ⊎ ((status ≡ 7) ⊎ (status ≡ 8)))))
numbers zero few one two six = inl refl
numbers (suc zero) few one two six = absurd (one refl)
numbers (suc (suc zero)) few one two six = absurd (two refl)
numbers (suc (suc (suc zero))) few one two six = inr (inl refl)
numbers (suc (suc (suc (suc zero)))) few one two six = inr (inr (inl refl))
numbers (suc (suc (suc (suc (suc zero))))) few one two six = inr (inr (inr (inl refl)))
numbers (suc (suc (suc (suc (suc (suc zero)))))) few one two six = absurd (six refl)
numbers (suc (suc (suc (suc (suc (suc (suc zero))))))) few one two six = inr (inr (inr (inr (inl refl))))
numbers (suc (suc (suc (suc (suc (suc (suc (suc zero)))))))) few one two six = inr (inr (inr (inr (inr refl))))
numbers (suc (suc (suc (suc (suc (suc (suc (suc (suc n))))))))) few one two six = absurd (omega (arith, few))

module _ (before after : Option (List ℕ)) (read_fault : Type 0) (started : ℕ → Type 0) (start_refused : Type 0)
    (text : List ℕ) (plan : Plan) (status : ℕ) (says : SaysOfReplay before after read_fault started start_refused status text)
    (short : length says.bytes ≤ most_of_script) (good : plan_of says.bytes ≡ Ok plan) (starts : Starts plan)
    (reads : read_fault → ⊥) (starting : start_refused → ⊥) where
  not_bad : status ≡ 3 → ⊥
  not_bad three = elim (says.bad three) [
    | inl long ↦ let longer = long.0 in omega (arith, short, longer)
    | inr of ↦ let found = of.1.bad three in no_bad_line good found.1
  ]

  not_policy : status ≡ 4 → ⊥
  not_policy four =
      let found = (says.refused four).1.refused four in
      not_refused plan text starts (subst (λ (p : Plan). StartRefused p text) (same_plan found.1 good) found.2)

  served : status ≡ 0 → IsReportOf plan text
  served zero_status =
      let found = (says.report zero_status).1.report zero_status in
      subst (λ (p : Plan). IsReportOf p text) (same_plan found.1 good) found.4

  pub served_or_memory : ((status ≡ 0) × IsReportOf plan text) ⊎ (status ≡ 7)
  served_or_memory = elim (numbers status says.known.0 says.known.1 says.known.2 says.known.3) [
    | inl at ↦ inl (at, served at)
    | inr (inl at) ↦ absurd (not_bad at)
    | inr (inr (inl at)) ↦ absurd (not_policy at)
    | inr (inr (inr (inl at))) ↦ absurd (reads (says.read_failed at).0)
    | inr (inr (inr (inr (inl at)))) ↦ inr at
    | inr (inr (inr (inr (inr at)))) ↦ absurd (starting ((says.no_worker at).1.no_worker at).0)
  ]

-- so are connections that are made
module _ (before after : Option (List ℕ)) (started : ℕ → Type 0) (start_refused : Type 0) (count seed status : ℕ) (text : List ℕ)
    (says : SaysOfGenerate before after started start_refused count seed status text) (starting : start_refused → ⊥) where
  pub summed_or_memory : ((status ≡ 0) × IsSummaryOf count seed text) ⊎ (status ≡ 7)
  summed_or_memory = elim says.known [
    | inl at ↦ inl (at, (says.summary at).1)
    | inr (inl at) ↦ inr at
    | inr (inr at) ↦ absurd (starting (says.no_worker at).0)
  ]

-- and connections that come
module _ (before after : Option (List ℕ)) (started : ℕ → Type 0) (start_refused unrefused bind_refused : Type 0) (listened : Heard → Type 0) (status : ℕ) (text : List ℕ)
    (says : SaysOfListen before after started start_refused unrefused bind_refused listened status text) (starting : start_refused → ⊥) (binding : bind_refused → ⊥) where
  pub heard_or_memory : ((status ≡ 0) × IsHeard listened text) ⊎ (status ≡ 7)
  heard_or_memory = elim says.known [
    | inl at ↦ inl (at, (says.summary at).1)
    | inr (inl at) ↦ inr at
    | inr (inr (inl at)) ↦ absurd (starting (says.no_worker at).0)
    | inr (inr (inr at)) ↦ absurd (binding (says.cannot_listen at).0)
  ]

module _ (before after : Option (List ℕ)) (write_fault : Type 0) (status : ℕ) (text : List ℕ) (result : ℕ)
    (written : Written before after write_fault status text result) (writes : write_fault → ⊥) where
  not_six : result ≢ 6
  not_six six = writes (written.cut_short six).0

  pub whole : (result ≡ status) × Gains before text after
  whole = written.whole not_six
