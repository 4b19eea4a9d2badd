-- What was stopped by force had been told so.
use Rattle.std.proofs.Common.{◌≡◌, ◌≤◌, ◌<◌, ◌∷◌, [], ℕ, zero, suc, ◌+◌, ◌*◌, true, false, cond, List, length, Option, None, Some, IfSome, refl, sym, ◌∙◌, ap, arith, subst, inl, inr}
use Rattle.std.specs.Prelude.{◌⊎◌, IsSomeAnd, count_by, slice_index_or}
use Rattle.std.specs.List.{list_any}
use Rattle.std.specs.Option.{option_map}
use Rattle.std.proofs.lemmas.List.Sums.{sum_by-cons}
use Rattle.std.specs.declared.alloc.Global.{Global}
use Rattle.rtrb.specs.declared.AnyItems.{AnyItems}
use Rattle.rtrb.specs.declared.consumer.Consumer.{Consumer}
use Rattle.rtrb.specs.declared.producer.Producer.{Producer}
use Rattle.rtrb.specs.Ring.{sent}
use Rattle.server_run.specs.declared.report.End.{End}
use Rattle.server_run.specs.declared.report.End.TheVariants.{Drained, Stopped, NoWorkers, Memory}
use Rattle.server_jobs.specs.declared.note.Note.{Note}
use Rattle.server_jobs.specs.declared.parcel.Parcel.{Parcel}
use Rattle.server_jobs.specs.declared.parcel.Parcel.TheVariants.{Conn, Stop}
use Rattle.server_jobs.specs.declared.running.Running.{Running}
use Rattle.server_jobs.specs.Parcels.{is_force}
use Rattle.server_acceptor.specs.Acceptors.{core_of, shutdown_timeout_of, stop_of}
use Rattle.server_acceptor.specs.Sending.{IsForced}
use Rattle.server_acceptor.specs.declared.acceptor.Acceptor.{Acceptor}
use Rattle.server_acceptor.specs.declared.stop.Stop.{Stop as FirstStop}
use Rattle.server.specs.Accepting.{Ends}
use Rattle.server.specs.Rows.{Row, rows_of}
use Rattle.server.specs.Stopping.{InTime}

-- one is among these parcels
any_counts : {L : Type 0} (parcels : List (Parcel L)) → list_any is_force parcels ≡ true → 0 < count_by is_force parcels
any_counts [] is = cc
any_counts (Conn s t p link ∷ parcels) is =
    let rest = any_counts parcels is in
    let more = sum_by-cons (λ (x : Parcel _). cond (is_force x) 1 0) (Conn s t p link) parcels in omega (arith, rest, more)
any_counts (Stop true ∷ parcels) is =
    let rest = any_counts parcels is in
    let more = sum_by-cons (λ (x : Parcel _). cond (is_force x) 1 0) (Stop true) parcels in omega (arith, rest, more)
any_counts (Stop false ∷ parcels) is =
    let more = sum_by-cons (λ (x : Parcel _). cond (is_force x) 1 0) (Stop false) parcels in omega (arith, more)

-- a worker to whom one was put
forced_line : {L J O : Type 0} (ps : List (Producer (Parcel L) Global AnyItems)) (ns : List (Consumer (Note L) Global AnyItems)) (rs : List (Option (Running J O))) (l : Row L J O) (k : ℕ)
    → k < length (rows_of ps ns rs) → slice_index_or (rows_of ps ns rs) k l ≡ l → list_any is_force (sent l.parcels) ≡ true → (w : ℕ) × IsForced ps w
forced_line [] ns rs l k inside at is = absurd (omega (arith, inside))
forced_line (p ∷ ps) [] rs l k inside at is = absurd (omega (arith, inside))
forced_line (p ∷ ps) (n ∷ ns) [] l k inside at is = absurd (omega (arith, inside))
forced_line (p ∷ ps) (n ∷ ns) (r ∷ rs) l zero inside at is =
    (zero, any_counts (sent p) (subst (λ (x : Row _ _ _). list_any is_force (sent x.parcels) ≡ true) (sym at) is))
forced_line (p ∷ ps) (n ∷ ns) (r ∷ rs) l (suc k) inside at is =
    let later = forced_line ps ns rs l k (omega (arith, inside)) at is in (suc later.0, later.1)

module _ {L : Type 0} (may_fault : Type 0) (a : Acceptor L) (timeout start now : ℕ) (in_time : InTime a timeout start now) (end : End) (finishes : Ends may_fault a end) where
  -- a force message was due: the stop was not graceful, or its time was over
  by_stop : (stop : Option FirstStop) → stop_of a ≡ stop → IsSomeAnd stop (λ s. (s.graceful ≡ false) ⊎ (s.since + 1000 * shutdown_timeout_of a ≤ now)) → (end ≡ Stopped false) ⊎ (start + 1000 * timeout ≤ now)
  by_stop None is due = absurd due
  by_stop (Some s) is (inl forced) = inl (as_core end finishes)
    where
      stopping : (core_of a).stopping ≡ Some false
      stopping = a.agrees ∙ ap (option_map (λ (x : FirstStop). x.graceful)) is ∙ ap Some forced

      as_core : (e : End) → Ends may_fault a e → e ≡ Stopped false
      as_core Drained f = absurd (let some : Some false ≡ None = sym stopping ∙ f.4 in cc)
      as_core (Stopped graceful) f = (let both : Some graceful ≡ Some false = sym f.0 ∙ stopping in let same : graceful ≡ false = cc in ap Stopped same)
      as_core NoWorkers f = absurd (let some : Some false ≡ None = sym stopping ∙ f.2 in cc)
      as_core Memory f = absurd (let some : Some false ≡ None = sym stopping ∙ f.4 in cc)
  by_stop (Some s) is (inr late) =
      let from : start ≤ s.since = subst (λ (o : Option FirstStop). IfSome o (λ x. start ≤ x.since)) is in_time.since in
      let same = in_time.same_timeout in
      inr (omega (arith, from, late, same))

  pub forced_in_time : (w : ℕ) → IsForced a.parcels.items w → (end ≡ Stopped false) ⊎ (start + 1000 * timeout ≤ now)
  forced_in_time w is = by_stop (stop_of a) refl (in_time.forced w is)

  pub forced_on_line : {J O : Type 0} (ns : List (Consumer (Note L) Global AnyItems)) (rs : List (Option (Running J O))) (l : Row L J O) (k : ℕ) → k < length (rows_of a.parcels.items ns rs) → slice_index_or (rows_of a.parcels.items ns rs) k l ≡ l
      → list_any is_force (sent l.parcels) ≡ true → (end ≡ Stopped false) ⊎ (start + 1000 * timeout ≤ now)
  forced_on_line ns rs l k inside at is = let found = forced_line a.parcels.items ns rs l k inside at is in forced_in_time found.0 found.1
