-- What joins bring back.
use Rattle.std.proofs.Common.{◌≡◌, ◌≤◌, ◌^◌, ◌<◌, ◌++◌, ◌∷◌, [], ℕ, ◌+◌, List, All, length, length-append, None, Option, Some, sum_by, refl, sym, ◌∙◌, ap, arith, subst, append_assoc}
use Rattle.std.proofs.lemmas.List.{append-nil}
use Rattle.std.proofs.lemmas.List.Sums.{sum_by-append, sum_by-cons}
use Rattle.std.proofs.lemmas.List.Elements.{All-head, All-pop, All-tail}
use Rattle.rtrb.specs.Ring.{known_items, received, sent}
use Rattle.service_core.specs.Link.{Identity}
use Rattle.server_run.specs.declared.entry.Entry.{Entry}
use Rattle.server_jobs.specs.Cards.{Card, of_entry, of_note, of_parcel, of_waiting}
use Rattle.server_jobs.specs.Joins.{EachOnce}
use Rattle.server_jobs.specs.Returning.{HandsOn, brought_back, entries_of, entry_of_note, entry_of_parcel, entry_of_waiting, one_or_none}
use Rattle.server_jobs.specs.declared.handed.Handed.{Handed}
use Rattle.server_jobs.specs.declared.line.Joined.{Joined}
use Rattle.server_jobs.specs.declared.line.Line.{Line}
use Rattle.server_jobs.specs.declared.note.Note.{Note}
use Rattle.server_jobs.specs.declared.note.Note.TheVariants.{Ready, Back, Faulted}
use Rattle.server_jobs.specs.declared.parcel.Parcel.{Parcel}
use Rattle.server_jobs.specs.declared.parcel.Parcel.TheVariants.{Conn, Stop}
use Rattle.server_jobs.specs.declared.running.Running.{Running}
use Rattle.server_jobs.specs.declared.waiting.Waiting.{Waiting}
use Rattle.server_jobs.proofs.ReturnSteps.{hands_none, hands_trans}
use Rattle.server.specs.Joining.{IsJoinable, IsJoined}
use Rattle.server.specs.Returning.{BringBack, Brings, Returned, ReturnsBy, many_back, many_put}
use Rattle.server.specs.Rows.{Row, line_of}
use Rattle.server.proofs.Delivering.{ones}

-- ---- the weight of what a join brings back
module _ {L : Type 0} (identity : L → Identity) (h : Card → ℕ) where
  pub note_weighs : (n : Note L) → sum_by (of_entry identity h) (one_or_none (entry_of_note n)) ≡ of_note identity h n
  note_weighs Ready = refl
  note_weighs (Back e) = omega arith
  note_weighs Faulted = refl

  parcel_weighs : (p : Parcel L) → sum_by (of_entry identity h) (one_or_none (entry_of_parcel p)) ≡ of_parcel identity h p
  parcel_weighs (Conn s t p link) = omega arith
  parcel_weighs (Stop graceful) = refl

  pub waiting_weighs : (worker : ℕ) (w : Waiting L) → sum_by (of_entry identity h) (one_or_none (entry_of_waiting worker w)) ≡ of_waiting identity h w
  waiting_weighs worker w = omega arith

  pub entries_weigh : {X : Type 0} (entry_of : X → Option (Entry L)) (f : X → ℕ) → ((x : X) → sum_by (of_entry identity h) (one_or_none (entry_of x)) ≡ f x)
      → (xs : List X) → sum_by (of_entry identity h) (entries_of entry_of xs) ≡ sum_by f xs
  entries_weigh entry_of f each [] = refl
  entries_weigh entry_of f each (x ∷ xs) =
      let here = each x in
      let rest = entries_weigh entry_of f each xs in
      let both = sum_by-append (of_entry identity h) (one_or_none (entry_of x)) (entries_of entry_of xs) in
      let more = sum_by-cons f x xs in
      both ∙ omega (arith, here, rest, more)

  pub brought_weighs : {F D : Type 0} (worker : ℕ) (j : Joined L F D) → sum_by (of_entry identity h) (brought_back worker j)
      ≡ sum_by (of_note identity h) (known_items j.notes) + (sum_by (of_note identity h) j.handed.owed.items
      + (sum_by (of_waiting identity h) j.handed.rest.items + sum_by (of_parcel identity h) (known_items j.handed.parcels)))
  brought_weighs worker j =
      let a = entries_weigh entry_of_note (of_note identity h) note_weighs (known_items j.notes) in
      let b = entries_weigh entry_of_note (of_note identity h) note_weighs j.handed.owed.items in
      let c = entries_weigh (entry_of_waiting worker) (of_waiting identity h) (waiting_weighs worker) j.handed.rest.items in
      let d = entries_weigh entry_of_parcel (of_parcel identity h) parcel_weighs (known_items j.handed.parcels) in
      let first = sum_by-append (of_entry identity h) (entries_of entry_of_note (known_items j.notes)) (entries_of entry_of_note j.handed.owed.items ++ (entries_of (entry_of_waiting worker) j.handed.rest.items ++ entries_of entry_of_parcel (known_items j.handed.parcels))) in
      let second = sum_by-append (of_entry identity h) (entries_of entry_of_note j.handed.owed.items) (entries_of (entry_of_waiting worker) j.handed.rest.items ++ entries_of entry_of_parcel (known_items j.handed.parcels)) in
      let third = sum_by-append (of_entry identity h) (entries_of (entry_of_waiting worker) j.handed.rest.items) (entries_of entry_of_parcel (known_items j.handed.parcels)) in
      omega (arith, a, b, c, d, first, second, third)

module _ {L : Type 0} (identity : L → Identity) where
  -- what was put on the ring came back over the other, or is brought back
  pub brought_once : {F D : Type 0} (worker : ℕ) (j : Joined L F D) → EachOnce identity j → (h : Card → ℕ)
      → sum_by (of_parcel identity h) (sent j.parcels) ≡ sum_by (of_note identity h) (received j.notes) + sum_by (of_entry identity h) (brought_back worker j)
  brought_once worker j once h = let o = once h in let b = brought_weighs identity h worker j in omega (arith, o, b)

  pub brought_many : {F D : Type 0} (worker : ℕ) (j : Joined L F D) → EachOnce identity j
      → length (brought_back worker j) + sum_by (of_note identity (λ c. 1)) (received j.notes) ≡ sum_by (of_parcel identity (λ c. 1)) (sent j.parcels)
  brought_many worker j once =
      let all : sum_by (of_parcel identity (λ c. 1)) (sent j.parcels) ≡ sum_by (of_note identity (λ c. 1)) (received j.notes) + sum_by (λ (e : Entry L). 1) (brought_back worker j) = brought_once worker j once (λ c. 1) in
      let many = ones (brought_back worker j) in omega (arith, all, many)

  module _ {F D J O : Type 0} (promise : J → O → Type 0) (handed : O → Handed L F D) where
    abbrev pub put_on : Line L J O → ℕ
    put_on line = sum_by (of_parcel identity (λ c. 1)) (sent line.parcels)

    abbrev pub back_from : Line L J O → ℕ
    back_from line = sum_by (of_note identity (λ c. 1)) (received line.notes)

    -- there is room for what the join of a line brings back
    pub room_for : (worker : ℕ) (j : Joined L F D) (line : Line L J O) (spare : ℕ) → EachOnce identity j → sent j.parcels ≡ sent line.parcels → received j.notes ≡ received line.notes
        → put_on line ≤ back_from line + spare → length (brought_back worker j) ≤ spare
    room_for worker j line spare once same_sent same_received room =
        let many = brought_many worker j once in
        let p = ap (sum_by (of_parcel identity (λ c. 1))) same_sent in
        let q = ap (sum_by (of_note identity (λ c. 1))) same_received in
        omega (arith, many, p, q, room)

    many_of : (worker : ℕ) (line : Line L J O) (it : IsJoined identity promise handed line) → length (brought_back worker it.joined) + back_from line ≡ put_on line
    many_of worker line it =
        let many = brought_many worker it.joined it.once in
        let p = ap (sum_by (of_parcel identity (λ c. 1))) it.same_sent in
        let q = ap (sum_by (of_note identity (λ c. 1))) it.same_received in
        omega (arith, many, p, q)

    -- ---- workers are joined, the last one first
    module _ {T : Type 0} (taken : T → Option (List (Entry L))) (count served spare : T → ℕ) where
      -- no more came back from workers than was put on their rings
      no_more : (rows : List (Row L J O)) → All (λ row. many_back identity row ≤ many_put identity row) rows → sum_by (many_back identity) rows ≤ sum_by (many_put identity) rows
      no_more [] fewer = omega arith
      no_more (row ∷ rows) fewer =
          let here = All-head (λ row. many_back identity row ≤ many_put identity row) row rows fewer in
          let rest = no_more rows (All-tail (λ row. many_back identity row ≤ many_put identity row) row rows fewer) in
          let a = sum_by-cons (many_back identity) row rows in
          let b = sum_by-cons (many_put identity) row rows in omega (arith, here, rest, a, b)

      -- of these workers the ones behind those that are left were joined, and there is room for what the others bring back
      pub record ReturnedFrom (rows left : List (Row L J O)) (old new : T) : Type 0 where
        pub last : List (Row L J O)
        pub whole : rows ≡ left ++ last
        pub joinable : All (IsJoinable identity promise handed) left
        pub fewer : All (λ row. many_back identity row ≤ many_put identity row) left
        pub room : sum_by (many_put identity) left ≤ sum_by (many_back identity) left + spare new
        pub entries : List (Entry L)
        pub brought : BringBack identity promise handed (length left) last entries
        pub hands : HandsOn taken count served spare old new entries

      pub returned_none : (rows : List (Row L J O)) (d : T) → (count d < 2 ^ 64) × (served d < 2 ^ 64) → All (IsJoinable identity promise handed) rows
          → All (λ row. many_back identity row ≤ many_put identity row) rows → sum_by (many_put identity) rows ≤ sum_by (many_back identity) rows + spare d → ReturnedFrom rows rows d d
      returned_none rows d small all fewer room = record {
        last = [];
        whole = sym (append-nil rows);
        joinable = all;
        fewer = fewer;
        room = room;
        entries = [];
        brought = refl;
        hands = hands_none taken count served spare d small;
      }

      -- the last one of those that are left can be joined
      pub returned_next : (rows now left : List (Row L J O)) (row : Row L J O) (old new : T) → now ≡ left ++ row ∷ [] → ReturnedFrom rows now old new → IsJoinable identity promise handed row
      returned_next rows now left row old new is so_far = (All-pop (IsJoinable identity promise handed) now left (Some row) is so_far.joinable).1

      -- there is room for what it brings back
      pub returned_room : (rows now left : List (Row L J O)) (row : Row L J O) (old new : T) → now ≡ left ++ row ∷ [] → ReturnedFrom rows now old new → many_put identity row ≤ many_back identity row + spare new
      returned_room rows now left row old new is so_far =
          let a = ap (sum_by (many_put identity)) is in
          let b = ap (sum_by (many_back identity)) is in
          let c = sum_by-append (many_put identity) left (row ∷ []) in
          let d = sum_by-append (many_back identity) left (row ∷ []) in
          let e = no_more left (All-pop (λ row. many_back identity row ≤ many_put identity row) now left (Some row) is so_far.fewer).0 in
          let r = so_far.room in omega (arith, a, b, c, d, e, r)

      module _ (rows now left : List (Row L J O)) (row : Row L J O) (old new : T) (is : now ≡ left ++ row ∷ []) (so_far : ReturnedFrom rows now old new) where
        longer : length now ≡ length left + 1
        longer = ap length is ∙ length-append left (row ∷ [])

        -- these came back at its join
        more : (next : T) (here : List (Entry L)) → Brings identity promise handed (length left) row row.running here → HandsOn taken count served spare new next here
            → length here + many_back identity row ≤ many_put identity row → ReturnedFrom rows left old next
        more next here brings hands weighs = record {
          last = row ∷ so_far.last;
          whole = so_far.whole ∙ ap (λ xs. xs ++ so_far.last) is ∙ append_assoc left (row ∷ []) so_far.last;
          joinable = (All-pop (IsJoinable identity promise handed) now left (Some row) is so_far.joinable).0;
          fewer = (All-pop (λ row. many_back identity row ≤ many_put identity row) now left (Some row) is so_far.fewer).0;
          room =
              let a = ap (sum_by (many_put identity)) is in
              let b = ap (sum_by (many_back identity)) is in
              let c = sum_by-append (many_put identity) left (row ∷ []) in
              let d = sum_by-append (many_back identity) left (row ∷ []) in
              let h = hands.room in
              let r = so_far.room in omega (arith, a, b, c, d, weighs, h, r);
          entries = so_far.entries ++ here;
          brought = (so_far.entries, subst (λ n. BringBack identity promise handed n so_far.last so_far.entries) longer so_far.brought, here, brings, refl);
          hands = hands_trans taken count served spare old new next so_far.entries here so_far.hands hands;
        }

        -- its line was joined
        pub returned_more : (next : T) (r : Running J O) → row.running ≡ Some r → Returned identity promise handed taken count served spare (length left) (line_of row.parcels row.notes r) new next → ReturnedFrom rows left old next
        returned_more next r runs returned =
            let m = many_of (length left) (line_of row.parcels row.notes r) returned.joined in
            more next (brought_back (length left) returned.joined.joined)
            (subst (λ o. Brings identity promise handed (length left) row o (brought_back (length left) returned.joined.joined)) (sym runs) (returned.joined, refl)) returned.hands (omega (arith, m))

        -- it was retired
        pub returned_same : (count new < 2 ^ 64) × (served new < 2 ^ 64) → row.running ≡ None → ReturnedFrom rows left old new
        returned_same small none = more new [] (subst (λ o. Brings identity promise handed (length left) row o []) (sym none) refl) (hands_none taken count served spare new small)
            (let f = (All-pop (λ row. many_back identity row ≤ many_put identity row) now left (Some row) is so_far.fewer).1 in omega (arith, f))

      -- all were joined
      pub returned_all : (rows now : List (Row L J O)) (old new : T) → now ≡ [] → ReturnedFrom rows now old new → ReturnsBy identity promise handed taken count served spare rows old new
      returned_all rows now old new none so_far = record {
        entries = so_far.entries;
        brought = subst (λ ls. BringBack identity promise handed 0 ls so_far.entries) (sym (so_far.whole ∙ ap (λ xs. xs ++ so_far.last) none))
            (subst (λ n. BringBack identity promise handed n so_far.last so_far.entries) (ap length none) so_far.brought);
        hands = so_far.hands;
      }
