-- What notes of a worker's place tell stays true as more goes over its ring.
use Rattle.std.proofs.Common.{◌≡◌, ◌++◌, ◌∷◌, [], ℕ, zero, suc, false, true, List, All, Contains, Some, refl, sym, ◌∙◌, arith, subst, inr}
use Rattle.std.proofs.lemmas.List.Elements.{All-append, All-cons, All-head, All-nil, All-tail, Contains-append_left}
use Rattle.service_core.specs.Link.{Identity}
use Rattle.service_core.specs.declared.ended.Ended.{Ended}
use Rattle.server_run.specs.Delivery.{IsLeftAs}
use Rattle.server_run.specs.declared.entry.Entry.{Entry}
use Rattle.server_run.specs.declared.outcome.Outcome.{Outcome}
use Rattle.server_run.specs.declared.outcome.Outcome.TheVariants as outcome
use Rattle.server_run.specs.Outcome.{is_lost}
use Rattle.server_jobs.specs.Parcels.{is_force}
use Rattle.server_jobs.specs.Returning.{entries_of, entry_of_note, entry_of_waiting, one_or_none}
use Rattle.server_jobs.specs.declared.note.Note.{Note}
use Rattle.server_jobs.specs.declared.note.Note.TheVariants.{Ready, Back, Faulted}
use Rattle.server_jobs.specs.declared.parcel.Parcel.{Parcel}
use Rattle.server_jobs.specs.declared.parcel.Parcel.TheVariants.{Conn, Stop}
use Rattle.server_jobs.specs.declared.waiting.Waiting.{Waiting}
use Rattle.server_worker.proofs.TakeSteps.{any_onward}
use Rattle.server_worker.specs.Leaving.{HasStayed}
use Rattle.server_worker.specs.Sound.{IsTold}
use Rattle.server_worker.specs.Stops.{is_forced}
use Rattle.server.specs.Replacing.{backs, entry_left}
use Rattle.server.specs.Tales.{IsFrom, IsLostHere, IsTale}

-- one that is not lost needs no cause for it
unlost_here : (workers : ℕ) (may_fault : Type 0) (o : Outcome) → is_lost o ≡ false → IsLostHere workers may_fault o
unlost_here workers may_fault outcome.Served is = tt
unlost_here workers may_fault outcome.ReadFault is = tt
unlost_here workers may_fault outcome.WriteFault is = tt
unlost_here workers may_fault outcome.Upgraded is = tt
unlost_here workers may_fault (outcome.Lost worker) is = absurd (cc)
unlost_here workers may_fault (outcome.Stopped forced) is = tt
unlost_here workers may_fault outcome.Memory is = tt

module _ {L : Type 0} (workers : ℕ) (may_fault : Type 0) (may_serve : ℕ → L → Ended L → Type 0) (may_leave : ℕ → L → L → Type 0) where
  module _ (before more after : List (Parcel L)) (is : after ≡ before ++ more) where
    pub from_onward : (e : Entry L) → IsFrom workers may_fault may_serve may_leave before e → IsFrom workers may_fault may_serve may_leave after e
    from_onward e from = record {
      link = from.link;
      came = subst (λ ps. Contains ps (Conn e.serial e.token e.place from.link)) (sym is) (Contains-append_left before more _ from.came);
      comes_back = from.comes_back;
      force = λ forced. any_onward before more after is is_force (from.force forced);
      lost = from.lost;
    }

    pub tale_onward : (may_make : ℕ → Type 0) (listeners : ℕ) (n : Note L) → IsTale workers may_fault may_serve may_leave may_make listeners before n → IsTale workers may_fault may_serve may_leave may_make listeners after n
    tale_onward may_make listeners Ready told = told
    tale_onward may_make listeners (Back e) told = from_onward e told
    tale_onward may_make listeners Faulted told = told

  -- what a worker told is true
  pub tale_told : (may_make : ℕ → Type 0) (listeners : ℕ) (parcels : List (Parcel L)) (n : Note L) → IsTold may_serve may_leave may_make listeners parcels n → IsTale workers may_fault may_serve may_leave may_make listeners parcels n
  tale_told may_make listeners parcels Ready told = told
  tale_told may_make listeners parcels (Back e) told = record { link = told.link; came = told.came; comes_back = told.comes_back; force = told.force; lost = unlost_here workers may_fault e.outcome told.unlost }
  tale_told may_make listeners parcels Faulted told = tt

  module _ (parcels : List (Parcel L)) where
    abbrev From : List (Entry L) → Type 0
    From es = All (IsFrom workers may_fault may_serve may_leave parcels) es

    -- what true notes hand back
    module _ (may_make : ℕ → Type 0) (listeners : ℕ) where
      from_note : (n : Note L) → IsTale workers may_fault may_serve may_leave may_make listeners parcels n → From (one_or_none (entry_of_note n))
      from_note Ready told = All-nil (IsFrom workers may_fault may_serve may_leave parcels)
      from_note (Back e) told = All-cons (IsFrom workers may_fault may_serve may_leave parcels) e [] told (All-nil (IsFrom workers may_fault may_serve may_leave parcels))
      from_note Faulted told = All-nil (IsFrom workers may_fault may_serve may_leave parcels)

      pub from_notes : (ns : List (Note L)) → All (IsTale workers may_fault may_serve may_leave may_make listeners parcels) ns → From (entries_of entry_of_note ns)
      from_notes [] told = All-nil (IsFrom workers may_fault may_serve may_leave parcels)
      from_notes (n ∷ ns) told = All-append (IsFrom workers may_fault may_serve may_leave parcels) (one_or_none (entry_of_note n)) (entries_of entry_of_note ns)
          (from_note n (All-head (IsTale workers may_fault may_serve may_leave may_make listeners parcels) n ns told)) (from_notes ns (All-tail (IsTale workers may_fault may_serve may_leave may_make listeners parcels) n ns told))

      -- entries that are true make true notes
      pub tales_back : (es : List (Entry L)) → From es → All (IsTale workers may_fault may_serve may_leave may_make listeners parcels) (backs es)
      tales_back [] from = All-nil (IsTale workers may_fault may_serve may_leave may_make listeners parcels)
      tales_back (e ∷ es) from = All-cons (IsTale workers may_fault may_serve may_leave may_make listeners parcels) (Back e) (backs es)
          (All-head (IsFrom workers may_fault may_serve may_leave parcels) e es from) (tales_back es (All-tail (IsFrom workers may_fault may_serve may_leave parcels) e es from))

    -- what is left in the ring comes back as it came
    module _ (o : Outcome) (left : (token : ℕ) (link : L) → IsLeftAs (may_leave token) link link o) (unforced : is_forced o ≡ false) (lost : IsLostHere workers may_fault o) where
      from_parcel : (p : Parcel L) → Contains parcels p → From (one_or_none (entry_left o p))
      from_parcel (Conn s t k link) came = All-cons (IsFrom workers may_fault may_serve may_leave parcels) _ []
          (record { link = link; came = came; comes_back = inr (left t link); force = λ forced. absurd (let f : false ≡ true = sym unforced ∙ forced in cc); lost = lost }) (All-nil (IsFrom workers may_fault may_serve may_leave parcels))
      from_parcel (Stop graceful) came = All-nil (IsFrom workers may_fault may_serve may_leave parcels)

      pub from_parcels : (ps : List (Parcel L)) → ((p : Parcel L) → Contains ps p → Contains parcels p) → From (entries_of (entry_left o) ps)
      from_parcels [] inside = All-nil (IsFrom workers may_fault may_serve may_leave parcels)
      from_parcels (p ∷ ps) inside = All-append (IsFrom workers may_fault may_serve may_leave parcels) (one_or_none (entry_left o p)) (entries_of (entry_left o) ps)
          (from_parcel p (inside p (zero, omega arith, refl))) (from_parcels ps (λ q has. inside q (suc has.0, omega (arith, has.1), has.2)))

    -- what had not ended is lost by its worker, as it stands
    module _ (identity : L → Identity) (worker : ℕ) (lost : IsLostHere workers may_fault (outcome.Lost (Some worker))) where
      from_stayed : (w : Waiting L) → HasStayed identity may_leave parcels w → From (one_or_none (entry_of_waiting worker w))
      from_stayed w stayed = All-cons (IsFrom workers may_fault may_serve may_leave parcels) _ []
          (record { link = stayed.link; came = stayed.came; comes_back = inr stayed.stands; force = λ forced. absurd (let f : false ≡ true = forced in cc); lost = lost }) (All-nil (IsFrom workers may_fault may_serve may_leave parcels))

      pub from_rest : (ws : List (Waiting L)) → All (HasStayed identity may_leave parcels) ws → From (entries_of (entry_of_waiting worker) ws)
      from_rest [] stayed = All-nil (IsFrom workers may_fault may_serve may_leave parcels)
      from_rest (w ∷ ws) stayed = All-append (IsFrom workers may_fault may_serve may_leave parcels) (one_or_none (entry_of_waiting worker w)) (entries_of (entry_of_waiting worker) ws)
          (from_stayed w (All-head (HasStayed identity may_leave parcels) w ws stayed)) (from_rest ws (All-tail (HasStayed identity may_leave parcels) w ws stayed))
