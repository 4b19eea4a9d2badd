-- How workers are joined, the last one first.
use Rattle.std.proofs.Common.{◌≡◌, ◌∷◌, ◌++◌, [], ℕ, List, length, All, Option, Some, None, IfSome, refl, sym, ◌∙◌, ap, subst, append_assoc}
use Rattle.std.specs.Prelude.{slice_get}
use Rattle.std.proofs.lemmas.List.{append-nil}
use Rattle.std.proofs.lemmas.List.Elements.{All-pop}
use Rattle.service_core.specs.Link.{Identity}
use Rattle.server_jobs.specs.declared.handed.Handed.{Handed}
use Rattle.worker_job.specs.declared.departure.Departure.{Departure}
use Rattle.server.specs.Joining.{IsJoinable, IsUnstarted}
use Rattle.server.specs.Rows.{Row, row_of}
use Rattle.rtrb.specs.declared.AnyItems.{AnyItems}
use Rattle.rtrb.specs.declared.consumer.Consumer.{Consumer}
use Rattle.rtrb.specs.declared.producer.Producer.{Producer}
use Rattle.std.specs.declared.alloc.Global.{Global}
use Rattle.server_jobs.specs.declared.note.Note.{Note}
use Rattle.server_jobs.specs.declared.parcel.Parcel.{Parcel}
use Rattle.server_jobs.specs.declared.running.Running.{Running}
use Rattle.server.specs.declared.unstarted.Unstarted.{Unstarted}

-- Of these workers the ones behind those that are left were joined, and what was found of them is known.
pub record JoinedFrom {L F E I J O : Type 0} (identity : L → Identity) (promise : J → O → Type 0) (handed : O → Handed L F (Departure E I)) (rows left : List (Row L J O)) (found : Option (Unstarted I)) : Type 0 where
  pub last : List (Row L J O)
  pub whole : rows ≡ left ++ last
  pub joinable : All (IsJoinable identity promise handed) left
  pub unstarted : IfSome found (λ u. IsUnstarted promise handed rows u.worker u.token u.error)

get_behind : {X : Type 0} (xs ys : List X) (x : X) → slice_get (xs ++ x ∷ ys) (length xs) ≡ Some x
get_behind [] ys x = refl
get_behind (y ∷ xs) ys x = get_behind xs ys x

module _ {L F E I J O : Type 0} (identity : L → Identity) (promise : J → O → Type 0) (handed : O → Handed L F (Departure E I)) where
  pub joined_none : (rows : List (Row L J O)) → All (IsJoinable identity promise handed) rows → JoinedFrom identity promise handed rows rows None
  joined_none rows all = record { last = []; whole = sym (append-nil rows); joinable = all; unstarted = tt }

  -- the last one of those that are left can be joined
  pub joined_next : (rows now left : List (Row L J O)) (row : Row L J O) (found : Option (Unstarted I)) → now ≡ left ++ row ∷ [] → JoinedFrom identity promise handed rows now found → IsJoinable identity promise handed row
  joined_next rows now left row found is so_far = (All-pop (IsJoinable identity promise handed) now left (Some row) is so_far.joinable).1

  -- it was joined, or none ran
  pub joined_more : (rows now left : List (Row L J O)) (row : Row L J O) (found : Option (Unstarted I)) → now ≡ left ++ row ∷ [] → JoinedFrom identity promise handed rows now found
      → JoinedFrom identity promise handed rows left found
  joined_more rows now left row found is so_far = record {
    last = row ∷ so_far.last;
    whole = so_far.whole ∙ ap (λ xs. xs ++ so_far.last) is ∙ append_assoc left (row ∷ []) so_far.last;
    joinable = (All-pop (IsJoinable identity promise handed) now left (Some row) is so_far.joinable).0;
    unstarted = so_far.unstarted;
  }

  -- and a service of its could not be made
  pub joined_found : (rows now left : List (Row L J O)) (row : Row L J O) (found : Option (Unstarted I)) (u : Unstarted I) → now ≡ left ++ row ∷ [] → u.worker ≡ length left → JoinedFrom identity promise handed rows now found
      → IsUnstarted promise handed (row ∷ []) 0 u.token u.error → JoinedFrom identity promise handed rows left (Some u)
  joined_found rows now left row found u is many so_far why = record {
    last = more.last;
    whole = more.whole;
    joinable = more.joinable;
    unstarted = record {
      row = why.row;
      at = ap (slice_get rows) many ∙ ap (λ xs. slice_get xs (length left)) (so_far.whole ∙ ap (λ xs. xs ++ so_far.last) is ∙ append_assoc left (row ∷ []) so_far.last) ∙ get_behind left so_far.last row ∙ why.at;
      running = why.running;
      runs = why.runs;
      out = why.out;
      promised = why.promised;
      departed = why.departed;
    };
  }
    where
      more : JoinedFrom identity promise handed rows left found
      more = joined_more rows now left row found is so_far

  -- what its job tells is of the worker's place
  pub found_at : (p : Producer (Parcel L) Global AnyItems) (n : Consumer (Note L) Global AnyItems) (last : Option (Running J O)) (r : Running J O) (token : ℕ) (error : I) → last ≡ Some r
      → IsUnstarted promise handed (row_of p n (Some r) ∷ []) 0 token error → IsUnstarted promise handed (row_of p n last ∷ []) 0 token error
  found_at p n last r token error is u = subst (λ o. IsUnstarted promise handed (row_of p n o ∷ []) 0 token error) (sym is) u
