-- One ring among those of all workers, of which both ends are here.
use Rattle.std.proofs.Common.{◌≡◌, ◌<◌, ◌++◌, ◌∷◌, [], ℕ, List, length, map, get_or, set, Some, IfSome, refl, sym, ◌∙◌, ap, arith, get_or-set_same, zero, suc}
use Rattle.std.specs.Prelude.{slice_get, slice_set}
use Rattle.std.specs.Option.{option_map_or}
use Rattle.std.proofs.Math.ListN.{length-set}
use Rattle.std.proofs.Math.Seq.{map-set_same}
use Rattle.std.proofs.lemmas.List.{map-set}
use Rattle.std.proofs.lemmas.Option.{slice_get-get_or}
use Rattle.rtrb.specs.Ring.{IsPair, SameConsumer, SameProducer, received, sent}
use Rattle.rtrb.specs.declared.consumer.Consumer.{Consumer}
use Rattle.rtrb.specs.declared.producer.Producer.{Producer}
use Rattle.server_jobs.specs.declared.note.Note.{Note}
use Rattle.server_jobs.specs.declared.parcel.Parcel.{Parcel}
use Rattle.server_acceptor.specs.Accepting.{received_at}
use Rattle.server_acceptor.specs.Sending.{sent_to}
use Rattle.server_acceptor.proofs.PlaceSteps.{where_some}

set_there : {X : Type 0} (xs : List X) (w : ℕ) (x : X) → w < length xs → slice_get (set xs w x) w ≡ Some x
set_there xs w x inside = slice_get-get_or (set xs w x) w x (omega (arith, length-set xs w x)) ∙ ap Some (get_or-set_same xs w x x inside)

pub if_there : {X : Type 0} (P : X → Type 0) (xs : List X) (w : ℕ) (x : X) → w < length xs → P x → IfSome (slice_get (set xs w x) w) P
if_there P xs w x inside p = where_some P (slice_get (set xs w x) w) x (set_there xs w x inside) p

pub was_there : {X : Type 0} (P : X → Type 0) (xs : List X) (w : ℕ) (x : X) → w < length xs → x ≡ get_or xs w x → IfSome (slice_get xs w) P → P x
was_there P xs w x inside is p = let there : slice_get xs w ≡ Some x = slice_get-get_or xs w x inside ∙ ap Some (sym is) in rw there at p

-- two ends stay those of one ring
pub still_pair : {T A P : Type 0} (p q : Producer T A P) (c d : Consumer T A P) → IsPair p c → SameProducer p q → SameConsumer c d → IsPair q d
still_pair p q c d pair sends takes = (
  takes.0.0 ∙ pair.0 ∙ sym sends.0.0,
  takes.0.1 ∙ pair.1 ∙ sym sends.0.1,
  takes.0.2 ∙ pair.2 ∙ sym sends.0.2,
  takes.0.3 ∙ pair.3 ∙ sym sends.0.3,
)

pub sent_there : {L A P : Type 0} (ps : List (Producer (Parcel L) A P)) (w : ℕ) (p : Producer (Parcel L) A P) → w < length ps → sent_to (set ps w p) w ≡ sent p
sent_there ps w p inside = ap (λ o. option_map_or (λ r. sent r) o []) (set_there ps w p inside)

module _ {L A P : Type 0} (ns : List (Consumer (Note L) A P)) (w : ℕ) (p q : Consumer (Note L) A P) (is : p ≡ get_or ns w p) where
  -- nothing was taken
  pub received_same : received q ≡ received p → map (λ c. received c) (set ns w q) ≡ map (λ c. received c) ns
  received_same same = map-set_same (λ c. received c) ns w q p (same ∙ ap (λ c. received c) is)

  -- one note more was taken, where all that was sent was taken before
  module _ (note : Note L) (before after : List (Note L)) (inside : w < length ns) (more : received q ≡ received p ++ note ∷ []) (all : received_at ns w ≡ before) (sends : after ≡ before ++ note ∷ []) where
    all_taken : received q ≡ after
    all_taken = more ∙ ap (λ xs. xs ++ note ∷ []) (sym (ap (λ o. option_map_or (λ c. received c) o []) (slice_get-get_or ns w p inside ∙ ap Some (sym is))) ∙ all) ∙ sym sends

    pub received_all : map (λ c. received c) (set ns w q) ≡ slice_set (map (λ c. received c) ns) w after
    received_all = map-set (λ c. received c) ns w q ∙ ap (set (map (λ c. received c) ns) w) all_taken

    pub received_there : received_at (set ns w q) w ≡ after
    received_there = ap (λ o. option_map_or (λ c. received c) o []) (set_there ns w q inside) ∙ all_taken

pub received_set : {L A P : Type 0} (ns : List (Consumer (Note L) A P)) (w : ℕ) (c : Consumer (Note L) A P) → w < length ns → received_at (set ns w c) w ≡ received c
received_set ns w c inside = ap (λ o. option_map_or (λ r. received r) o []) (set_there ns w c inside)

received_as : {L A P : Type 0} (ns : List (Consumer (Note L) A P)) (v : ℕ) → received_at ns v ≡ get_or (map (λ c. received c) ns) v []
received_as [] v = refl
received_as (n ∷ ns) zero = refl
received_as (n ∷ ns) (suc v) = received_as ns v

pub received_both : {L A P : Type 0} (ns ms : List (Consumer (Note L) A P)) (v : ℕ) → map (λ c. received c) ms ≡ map (λ c. received c) ns → received_at ms v ≡ received_at ns v
received_both ns ms v same = received_as ms v ∙ ap (λ xs. get_or xs v []) same ∙ sym (received_as ns v)
