use Rattle.std.proofs.Common.{◌≡◌, ◌<◌, ◌⊎◌, ◌∷◌, ℕ, zero, suc, Bool, true, false, List, length, get_or, Option, Some, None, IfSome, inl, inr, refl, sym, ◌∙◌, ap, arith, subst}
use Rattle.std.specs.Prelude.{is_some, nat_lt, not, slice_get, slice_index}
use Rattle.std.proofs.lemmas.Option.{slice_get-get_or}
use Rattle.rtrb.specs.Ring.{known_items}
use Rattle.rtrb.specs.declared.consumer.Consumer.{Consumer}
use Rattle.server_run.specs.Outcome.{is_stopped}
use Rattle.server_run.specs.declared.entry.Entry.{Entry}
use Rattle.server_jobs.specs.declared.note.Note.{Note}
use Rattle.server_jobs.specs.declared.note.Note.TheVariants.{Ready, Back, Faulted}
use Rattle.server_acceptor.specs.Handing.{MayTake}
use Rattle.server_acceptor.specs.Notes.{AreLeft}
use Rattle.server_acceptor.proofs.acceptor.Acceptor.may_take.Goals as goal

known_there : {L A P : Type 0} (ps : List (Consumer (Note L) A P)) (w : ℕ) (p : Consumer (Note L) A P) (Q : List (Note L) → Type 0) → w < length ps → p ≡ get_or ps w p → Q (known_items p) → IfSome (slice_get ps w) (λ c. Q (known_items c))
known_there ps w p Q inside is q = subst (λ o. IfSome o (λ c. Q (known_items c))) (sym (slice_get-get_or ps w p inside ∙ ap Some (sym is))) q

module _ {L : Type 0} (out : ℕ) (stopping : Option Bool) (notes rest : List (Note L)) (note : Note L) (first : note ∷ rest ≡ notes) where
  takes_other : (note ≡ Ready) ⊎ (note ≡ Faulted) → MayTake out stopping notes
  takes_other (inl is) = subst (λ ns. MayTake out stopping ns) (ap (λ n. n ∷ rest) (sym is) ∙ first) tt
  takes_other (inr is) = subst (λ ns. MayTake out stopping ns) (ap (λ n. n ∷ rest) (sym is) ∙ first) tt

  module _ (e : Entry L) (is : note ≡ Back e) where
    takes_back : 0 < out → (is_stopped e.outcome ≡ true → is_some stopping ≡ true) → MayTake out stopping notes
    takes_back some founded = subst (λ ns. MayTake out stopping ns) (ap (λ n. n ∷ rest) (sym is) ∙ first) (some, founded)

    left_none_out : out ≡ 0 → AreLeft out stopping notes
    left_none_out none = subst (λ ns. AreLeft out stopping ns) (ap (λ n. n ∷ rest) (sym is) ∙ first) (inr (inl (none, tt)))

    left_stopped : stopping ≡ None → is_stopped e.outcome ≡ true → AreLeft out stopping notes
    left_stopped none stopped = subst (λ ns. AreLeft out stopping ns) (ap (λ n. n ∷ rest) (sym is) ∙ first) (inr (inr (none, stopped)))

none_there : (o : Option Bool) (r : Bool) → r ≡ is_some o → r ≡ false → o ≡ None
none_there None r is not_so = refl
none_there (Some b) r is not_so = absurd (let e : true ≡ false = sym is ∙ not_so in cc)

unlike : (r : Bool) (P : Type 0) → r ≡ true → r ≡ false → P
unlike r P so never = absurd (let e : true ≡ false = sym so ∙ never in cc)

stopped_so : (r : Bool) → not r ≡ false → r ≡ true
stopped_so true e = refl
stopped_so false e = absurd (let x : true ≡ false = e in cc)

stopped_not : (r : Bool) → not r ≡ true → r ≡ false
stopped_not false e = refl
stopped_not true e = absurd (let x : false ≡ true = e in cc)

pos_of : (n : ℕ) → nat_lt 0 n ≡ true → 0 < n
pos_of zero e = absurd (let x : false ≡ true = e in cc)
pos_of (suc n) e = omega arith

pub returns-in-Ready : goal.returns-in-Ready
returns-in-Ready g c =
    let inside : c.args.w < length c.args.self.now.notes.items = omega (arith, c.requires.number, c.args.self.now.workers.1) in
    record {
      yes = λ _. known_there c.args.self.now.notes.items c.args.w c.index-notes.result.now (λ ns. MayTake (slice_index c.args.self.now.core.out c.args.w) c.args.self.now.core.stopping ns) inside c.index-notes.ensures
          (takes_other (slice_index c.args.self.now.core.out c.args.w) c.args.self.now.core.stopping _ c.peek_known.ensures.0 c.peek_known.result.now c.peek_known.ensures.1 c.in-Ready.is);
      no = λ f. unlike true _ refl f;
      room = λ _. omega (arith, c.if-event_room-lt2.false, c.event_room.ensures);
    }

pub returns-in-Ready-2 : goal.returns-in-Ready-2
returns-in-Ready-2 g c =
    let inside : c.args.w < length c.args.self.now.notes.items = omega (arith, c.requires.number, c.args.self.now.workers.1) in
    record {
      yes = λ _. known_there c.args.self.now.notes.items c.args.w c.index-notes.result.now (λ ns. MayTake (slice_index c.args.self.now.core.out c.args.w) c.args.self.now.core.stopping ns) inside c.index-notes.ensures
          (takes_other (slice_index c.args.self.now.core.out c.args.w) c.args.self.now.core.stopping _ c.peek_known.ensures.0 c.peek_known.result.now c.peek_known.ensures.1 c.in-Ready.is);
      no = λ f. unlike true _ refl f;
      room = λ _. omega (arith, c.if-event_room-lt2.false, c.event_room.ensures);
    }

pub returns-else-out-gt0 : goal.returns-else-out-gt0
returns-else-out-gt0 g c =
    let inside : c.args.w < length c.args.self.now.notes.items = omega (arith, c.requires.number, c.args.self.now.workers.1) in
    let left = known_there c.args.self.now.notes.items c.args.w c.index-notes.result.now (λ ns. AreLeft (slice_index c.args.self.now.core.out c.args.w) c.args.self.now.core.stopping ns) inside c.index-notes.ensures
    (left_none_out (slice_index c.args.self.now.core.out c.args.w) c.args.self.now.core.stopping _ c.peek_known.ensures.0 c.peek_known.result.now c.peek_known.ensures.1 c.in-Back.entry c.in-Back.is (omega (arith, c.if-out-gt0.false, c.out.ensures))) in
    record {
      yes = λ is. absurd (omega (arith, pos_of c.out.result is, c.if-out-gt0.false));
      no = λ _. inl left;
      room = λ _. omega (arith, c.if-event_room-lt2.false, c.event_room.ensures);
    }

pub returns-then-stopping : goal.returns-then-stopping
returns-then-stopping g c =
    let inside : c.args.w < length c.args.self.now.notes.items = omega (arith, c.requires.number, c.args.self.now.workers.1) in
    record {
      yes = λ is. known_there c.args.self.now.notes.items c.args.w c.index-notes.result.now (λ ns. MayTake (slice_index c.args.self.now.core.out c.args.w) c.args.self.now.core.stopping ns) inside c.index-notes.ensures
          (takes_back (slice_index c.args.self.now.core.out c.args.w) c.args.self.now.core.stopping _ c.peek_known.ensures.0 c.peek_known.result.now c.peek_known.ensures.1 c.in-Back.entry c.in-Back.is (omega (arith, c.if-out-gt0.true, c.out.ensures)) (λ _. sym c.stopping.ensures ∙ is));
      no = λ f. unlike c.stopping.result _ c.if-stopping.true f;
      room = λ _. omega (arith, c.if-event_room-lt2.false, c.event_room.ensures);
    }

pub returns-else-stopping : goal.returns-else-stopping
returns-else-stopping g c =
    let inside : c.args.w < length c.args.self.now.notes.items = omega (arith, c.requires.number, c.args.self.now.workers.1) in
    record {
      yes = λ is. known_there c.args.self.now.notes.items c.args.w c.index-notes.result.now (λ ns. MayTake (slice_index c.args.self.now.core.out c.args.w) c.args.self.now.core.stopping ns) inside c.index-notes.ensures
          (takes_back (slice_index c.args.self.now.core.out c.args.w) c.args.self.now.core.stopping _ c.peek_known.ensures.0 c.peek_known.result.now c.peek_known.ensures.1 c.in-Back.entry c.in-Back.is (omega (arith, c.if-out-gt0.true, c.out.ensures)) (λ stopped. unlike c.is_stopped.result _ (c.is_stopped.ensures ∙ stopped) (stopped_not c.is_stopped.result is)));
      no = λ f. inl (known_there c.args.self.now.notes.items c.args.w c.index-notes.result.now (λ ns. AreLeft (slice_index c.args.self.now.core.out c.args.w) c.args.self.now.core.stopping ns) inside c.index-notes.ensures
          (left_stopped (slice_index c.args.self.now.core.out c.args.w) c.args.self.now.core.stopping _ c.peek_known.ensures.0 c.peek_known.result.now c.peek_known.ensures.1 c.in-Back.entry c.in-Back.is (none_there _ c.stopping.result c.stopping.ensures c.if-stopping.false) (sym c.is_stopped.ensures ∙ stopped_so c.is_stopped.result f)));
      room = λ _. omega (arith, c.if-event_room-lt2.false, c.event_room.ensures);
    }
