-- What is told of the listeners at the end.
use Rattle.std.proofs.Common.{◌≡◌, ◌≢◌, ◌⊎◌, ◌<◌, ◌≤◌, ◌∷◌, [], zero, suc, ℕ, Bool, true, false, List, length, replicate, Option, Some, IfSome, slice_get, slice_index, slice_index_or, refl, sym, ◌∙◌, ap, arith, subst, inl, inr}
use Rattle.std.specs.Prelude.{◌↔◌}
use Rattle.std.proofs.lemmas.Bool.{cases_lt}
use Rattle.std.proofs.lemmas.Option.{slice_get_within}
use Rattle.service_core.specs.Counts.{Rose}
use Rattle.server_core.specs.Core.{Core}
use Rattle.server_run.specs.Delivery.{HasEnded, given_at}
use Rattle.server_run.specs.Listener.{Mark}
use Rattle.server_run.specs.Report.{EndedMeanwhile, HasFailed, IsTold, Tells}
use Rattle.server_run.specs.declared.report.End.{End}
use Rattle.server_run.specs.declared.report.End.TheVariants.{Drained, Stopped, NoWorkers, Memory}
use Rattle.server_run.specs.declared.report.ListenerState.{ListenerState}
use Rattle.server_run.specs.declared.report.ListenerState.TheVariants.{Ended, Faulted, Open}
use Rattle.server_run.specs.declared.report.Report.{Report}
use Rattle.server_acceptor.specs.Accepting.{TellsEnds}
use Rattle.server_acceptor.specs.Acceptors.{core_of, listeners_of, retry_limit_of}
use Rattle.server_acceptor.specs.States.{IsStateOf}
use Rattle.server.specs.Accepting.{Ends}
use Rattle.server_acceptor.proofs.Failing.{faulted_exactly}
use Rattle.server_acceptor.specs.declared.acceptor.Acceptor.{Acceptor}

-- none has ended at the start
pub none_ended : (n t : ℕ) → slice_index_or (replicate n false) t false ≡ false
none_ended zero t = refl
none_ended (suc n) zero = refl
none_ended (suc n) (suc t) = none_ended n t

-- there is one
there : {X : Type 0} (xs : List X) (t : ℕ) → t < length xs → (x : X) × (slice_get xs t ≡ Some x)
there [] t inside = absurd (omega arith)
there (x ∷ xs) zero inside = (x, refl)
there (x ∷ xs) (suc t) inside = there xs t (omega arith)

-- past the end it holds
past : {X : Type 0} (xs : List X) (t : ℕ) (P : X → Type 0) → length xs ≤ t → IfSome (slice_get xs t) P
past [] t P beyond = tt
past (x ∷ xs) zero P beyond = absurd (omega arith)
past (x ∷ xs) (suc t) P beyond = past xs t P (omega arith)

-- where it finished drained, each listener has ended
drained_all : {L : Type 0} (may_fault : Type 0) (a : Acceptor L) (end : End) → Ends may_fault a end → end ≡ Drained → (t : ℕ) → t < listeners_of a → slice_index_or (core_of a).ended t false ≡ true
drained_all may_fault a Drained f is = f.0
drained_all may_fault a (Stopped graceful) f is = absurd (cc)
drained_all may_fault a NoWorkers f is = absurd (cc)
drained_all may_fault a Memory f is = absurd (cc)

-- one is told as given up exactly where the core counts as many failures as it may have
pub told_exactly : {L : Type 0} (a : Acceptor L) (report : Report) (t limit : ℕ) → retry_limit_of a ≡ limit → t < listeners_of a → t < length report.listeners.items
    → IfSome (slice_get report.listeners.items t) (IsStateOf (core_of a) (retry_limit_of a) t) → IsTold report t (Faulted limit) ↔ (slice_index (core_of a).failures t ≡ limit)
told_exactly a report t limit same inside within state =
    let here = there report.listeners.items t within in
    let exactly = faulted_exactly a t here.0 inside (subst (λ o. IfSome o (IsStateOf (core_of a) (retry_limit_of a) t)) here.1 state) in (
      λ told. exactly.0 (let both : Some here.0 ≡ Some (Faulted limit) = sym here.1 ∙ told in let one : here.0 ≡ Faulted limit = cc in one ∙ ap Faulted (sym same)) ∙ same,
      λ full. here.1 ∙ ap Some (exactly.1 (full ∙ sym same)) ∙ ap (λ n. Some (Faulted n)) same,
    )

module _ {Li L : Type 0} (rest : Li → Option (List Mark)) (ended : Li → Bool) (faults : Li → ℕ) (limit : ℕ) (before after : List Li) (core : Core) (a : Acceptor L) (report : Report) (may_fault : Type 0)
    (fresh_core : (t : ℕ) → slice_index_or core.ended t false ≡ false)
    (tells : TellsEnds ended faults limit before after core (core_of a)) (finishes : Ends may_fault a report.end)
    (length_same : length after ≡ length before) (many : length report.listeners.items ≡ length after) (all : listeners_of a ≡ length after)
    (states : (t : ℕ) → IfSome (slice_get report.listeners.items t) (IsStateOf (core_of a) limit t))
    (by_rest : (t : ℕ) → t < length after → HasFailed rest limit before after t (IsTold report t (Faulted limit))) where
  state_at : (t : ℕ) (s : ListenerState) → IsTold report t s → IsStateOf (core_of a) limit t s
  state_at t s told = subst (λ o. IfSome o (IsStateOf (core_of a) limit t)) told (states t)

  by_end : (t : ℕ) → slice_index_or (core_of a).ended t false ≡ true
      → (HasEnded ended after t × (slice_index (core_of a).failures t ≢ limit)) ⊎ ((slice_index (core_of a).failures t ≡ limit) × Rose (given_at faults before t) (given_at faults after t))
  by_end t now = tells.ends t (fresh_core t) now

  is_ended : (t : ℕ) → IsTold report t Ended → HasEnded ended after t
  is_ended t told =
      let s = state_at t Ended told in
      elim (by_end t s.0) [
        | inl has ↦ has.0
        | inr gone ↦ absurd (s.1 gone.0)
      ]

  is_faulted : (t failures : ℕ) → IsTold report t (Faulted failures) → (failures ≡ limit) × Rose (given_at faults before t) (given_at faults after t)
  is_faulted t failures told =
      let s = state_at t (Faulted failures) told in
      elim (by_end t s.0) [
        | inl has ↦ absurd (has.1 s.1)
        | inr gone ↦ (s.2, gone.1)
      ]

  -- what is told of one that has ended
  of_ended : (t : ℕ) (s : ListenerState) → slice_index_or (core_of a).ended t false ≡ true → IsTold report t s → IsTold report t Ended ⊎ IsTold report t (Faulted limit)
  of_ended t Ended now told = inl told
  of_ended t (Faulted failures) now told = inr (told ∙ ap (λ n. Some (Faulted n)) (state_at t (Faulted failures) told).2)
  of_ended t Open now told = absurd (let e : true ≡ false = sym now ∙ state_at t Open told in cc)

  of_marked : (t : ℕ) (s : ListenerState) → slice_index_or (core_of a).ended t false ≡ true → slice_index (core_of a).failures t ≢ limit → IsTold report t s → IsTold report t Ended
  of_marked t Ended now other told = told
  of_marked t (Faulted failures) now other told = absurd (other (state_at t (Faulted failures) told).1)
  of_marked t Open now other told = absurd (let e : true ≡ false = sym now ∙ state_at t Open told in cc)

  told_ended : (t : ℕ) → EndedMeanwhile ended before after t → IsTold report t Ended
  told_ended t meanwhile = elim (tells.marks t meanwhile.1) [
    | inl had ↦ absurd (meanwhile.0 had)
    | inr marked ↦ elim (cases_lt t (length before)) [
      | inl inside ↦ let here = there report.listeners.items t (omega (arith, many, length_same, inside)) in of_marked t here.0 marked.0 marked.1 here.1
      | inr beyond ↦ absurd (meanwhile.0 (past before t (λ listener. ended listener ≡ true) beyond))
    ]
  ]

  pub tells_all : Tells rest ended faults limit before after report
  tells_all = record {
    as_many = many;
    ended_meanwhile = told_ended;
    state_ended = is_ended;
    state_faulted = is_faulted;
    state_by_rest = by_rest;
    state_open = λ t told is.
        let now = drained_all may_fault a report.end finishes is t (omega (arith, all, many, slice_get_within report.listeners.items t Open told)) in
        let e : true ≡ false = sym now ∙ state_at t Open told in
        absurd (cc);
    drained = λ is t inside.
        let here = there report.listeners.items t (omega (arith, many, inside)) in
        let now = drained_all may_fault a report.end finishes is t (omega (arith, all, inside)) in
        elim (of_ended t here.0 now here.1) [
          | inl told ↦ inl (is_ended t told)
          | inr told ↦ inr told
        ];
  }
