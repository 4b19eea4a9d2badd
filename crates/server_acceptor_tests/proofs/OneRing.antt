-- One worker, of whose rings both ends are here.
use Rattle.std.proofs.Common.{◌≡◌, ◌++◌, ◌∷◌, [], ◌<◌, ℕ, zero, suc, false, List, Contains, IfSome, length, length-append, get_or, map, slice_get, slice_index, refl, sym, ◌∙◌, ap, arith, subst}
use Rattle.std.specs.Prelude.{slice_index_or}
use Rattle.std.specs.FinSet as set
use Rattle.std.proofs.lemmas.Bool.Decides.{nat_tests}
use Rattle.std.proofs.lemmas.List.Elements.{Contains-append_right}
use Rattle.rtrb.specs.Ring.{IsPair, SameConsumer, SameProducer, known_items, received}
use Rattle.rtrb.specs.declared.consumer.Consumer.{Consumer}
use Rattle.rtrb.specs.declared.producer.Producer.{Producer}
use Rattle.server_acceptor.specs.Accepting.{EndsByFault, received_at}
use Rattle.server_acceptor.specs.Logging.{AllOfUse, IsOfUse}
use Rattle.server_acceptor.specs.Rings.{ring_in, ring_out}
use Rattle.server_acceptor.specs.declared.acceptor.Acceptor.{Acceptor}
use Rattle.server_core.specs.Core.{Core, allowed, in_order, step}
use Rattle.server_core.specs.Runs.{after_all}
use Rattle.server_core.specs.declared.command.Command.TheVariants.{Pause, Resume, Stop}
use Rattle.server_core.specs.declared.event.Event.{Event}
use Rattle.server_core.specs.declared.event.Event.TheVariants.{Command, Notice, Back, Got, Sent, RingFull, Faulted as FaultedEvent, Replaced, Retired, ListenerFailed, ListenerEnded}
use Rattle.server_jobs.specs.declared.note.Note.{Note}
use Rattle.server_jobs.specs.declared.note.Note.TheVariants.{Ready, Faulted}

-- ---- two ends of one ring
module _ {T A P : Type 0} where
  pub one_name : (p : Producer T A P) (c : Consumer T A P) → IsPair p c → ring_in p ≡ ring_out c
  one_name p c pair = let a = pair.0 in let b = pair.1 in let d = pair.2 in let e = pair.3 in cc

  pub same_in : (p q : Producer T A P) → SameProducer p q → ring_in q ≡ ring_in p
  same_in p q same = let a = same.0.0 in let b = same.0.1 in let d = same.0.2 in let e = same.0.3 in cc

  pub same_out : (p q : Consumer T A P) → SameConsumer p q → ring_out q ≡ ring_out p
  same_out p q same = let a = same.0.0 in let b = same.0.1 in let d = same.0.2 in let e = same.0.3 in cc

  pub pair_from : (p : Producer T A P) (cs : List (Consumer T A P)) → map ring_out cs ≡ ring_in p ∷ [] → IfSome (slice_get cs 0) (λ c. IsPair p c)
  pair_from p [] is = absurd (cc)
  pair_from p (c ∷ cs) is = let e : ring_out c ≡ ring_in p = cc in (ap (λ r. r.0) e, ap (λ r. r.1.0) e, ap (λ r. r.1.1.0) e, ap (λ r. r.1.1.1) e)

  pub pair_to : (c : Consumer T A P) (ps : List (Producer T A P)) → map ring_in ps ≡ ring_out c ∷ [] → IfSome (slice_get ps 0) (λ p. IsPair p c)
  pair_to c [] is = absurd (cc)
  pair_to c (p ∷ ps) is = let e : ring_in p ≡ ring_out c = cc in (sym (ap (λ r. r.0) e), sym (ap (λ r. r.1.0) e), sym (ap (λ r. r.1.1.0) e), sym (ap (λ r. r.1.1.1) e))

-- ---- what a turn leaves as it is
retired_step : (s : Core) (e : Event) → IsOfUse s e → (step s e).retired ≡ s.retired
retired_step s (Command Pause) of_use = refl
retired_step s (Command Resume) of_use = refl
retired_step s (Command (Stop graceful)) of_use = refl
retired_step s (Notice w) of_use = refl
retired_step s (Back w) of_use = refl
retired_step s (Got t) of_use = refl
retired_step s (Sent w remains) of_use = refl
retired_step s (RingFull w) of_use = refl
retired_step s (FaultedEvent w) of_use = absurd of_use
retired_step s (Replaced w) of_use = absurd of_use
retired_step s (Retired w) of_use = absurd of_use
retired_step s (ListenerFailed t) of_use = refl
retired_step s (ListenerEnded t) of_use = refl

pub retired_all : (s : Core) (es : List Event) → AllOfUse s es → (after_all s es).retired ≡ s.retired
retired_all s [] of_use = refl
retired_all s (e ∷ es) of_use = retired_all (step s e) es of_use.1 ∙ retired_step s e of_use.0

-- ---- the notes of a worker that told of a fault
is_it : {L : Type 0} (x : Note L) (k : ℕ) → k < 1 → get_or (x ∷ []) k Faulted ≡ Faulted → x ≡ Faulted
is_it x zero inside is = is
is_it x (suc k) inside is = absurd (omega arith)

pub whole : {L : Type 0} (xs ys : List (Note L)) → xs ++ ys ≡ Ready ∷ Faulted ∷ [] → Contains xs Faulted → xs ≡ Ready ∷ Faulted ∷ []
whole [] ys is has = absurd (let inside = has.1 in omega (arith, inside))
whole {L} (x ∷ []) ys is has = absurd (let it = is_it x has.0 has.1 has.2 in let here : x ≡ Ready = cc in let both : ◌≡◌ {A = Note L} Ready Faulted = sym here ∙ it in cc)
whole (x ∷ y ∷ []) ys is has = let here : x ≡ Ready = cc in let there : y ≡ Faulted = cc in cc
whole (x ∷ y ∷ z ∷ zs) ys is has = absurd (let l = ap length is in let m = length-append zs ys in omega (arith, l, m))

-- all that was sent came, once a fault did
pub all_came : {L A P : Type 0} (cs : List (Consumer (Note L) A P)) (told : List (Note L)) → IfSome (slice_get cs 0) (λ c. received c ++ known_items c ≡ told) → told ≡ Ready ∷ Faulted ∷ [] → Contains (received_at cs 0) Faulted
    → received_at cs 0 ≡ told
all_came [] told all is has = absurd (let inside = has.1 in omega (arith, inside))
all_came (c ∷ cs) told all is has = whole (received c) (known_items c) (all ∙ is) has ∙ sym is

pub still_came : {L : Type 0} (came more now : List (Note L)) → now ≡ came ++ more → Contains more Faulted → Contains now Faulted
still_came came more now is has = subst (λ ns. Contains ns Faulted) (sym is) (Contains-append_right came more Faulted has)

-- where it may not return, and neither is in order nor retired, something is out
pub some_out : (s : Core) → 0 < length s.out → in_order s.order 0 ≡ false → set.contains s.retired 0 ≡ false → allowed s (Replaced 0) ≡ false → 0 < slice_index s.out 0
some_out s some off kept refused = grind (arith, nat_tests)

-- the only worker is the first one
pub only_first : {L : Type 0} (a b : Acceptor L) (w : ℕ) → (w < 1) × EndsByFault a b w → EndsByFault a b 0
only_first a b zero ended = ended.1
only_first a b (suc w) ended = absurd (let inside = ended.0 in omega (arith, inside))

pub zeros : (t : ℕ) → ◌≡◌ {A = ℕ} (slice_index_or (0 ∷ []) t 0) 0
zeros zero = refl
zeros (suc t) = refl
