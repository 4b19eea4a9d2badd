-- Once all workers are joined: what the listeners gave is what was handed on, each once, with its link.
use Rattle.std.proofs.Common.{zero, suc, get_or, ◌≡◌, ◌<◌, ◌∷◌, ◌++◌, ◌+◌, [], ℕ, ◌==◌, ◌&&◌, Bool, true, false, List, All, Any, Contains, Option, None, length, map, sum_by, count_by, refl, sym, ◌∙◌, ap, arith, subst, inl, inr}
use Rattle.std.specs.Prelude.{◌⊎◌}
use Rattle.std.proofs.lemmas.List.Sums.{sum_by-append, sum_by-cons}
use Rattle.std.proofs.lemmas.List.Elements.{All-append, All-contains, All-cons, All-head, All-nil, All-tail, All-weaker}
use Rattle.rtrb.specs.Ring.{received, sent}
use Rattle.service_core.specs.Link.{Identity}
use Rattle.service_core.specs.declared.ended.Ended.{Ended}
use Rattle.server_run.specs.Delivery.{ComesBack, Delivers, IsServedFrom, left_at, once_below}
use Rattle.server_run.specs.declared.entry.Entry.{Entry}
use Rattle.server_run.specs.declared.outcome.Outcome.TheVariants.{Lost, Stopped}
use Rattle.server_run.proofs.Standing.{same_link}
use Rattle.server_jobs.specs.Cards.{Card, of_entry}
use Rattle.server_jobs.specs.declared.note.Note.TheVariants.{Back}
use Rattle.server_jobs.specs.declared.parcel.Parcel.TheVariants.{Conn}
use Rattle.server_acceptor.specs.Carrying.{Carries, IsLetGo, ParcelIsInPlace, came_back, each, in_waiting, has_place, has_serial, let_gone, put}
use Rattle.server_acceptor.specs.declared.acceptor.Acceptor.{Acceptor}
use Rattle.server.specs.Rows.{Row}
use Rattle.server.specs.Tales.{IsFrom, IsTale}

pub ones : {X : Type 0} (xs : List X) → sum_by (λ x. 1) xs ≡ length xs
ones [] = refl
ones (x ∷ xs) = omega (arith, sum_by-cons (λ y. 1) x xs, ones xs)

any_map_at : {X Y : Type 0} (f : X → Y) (P : Y → Type 0) (xs : List X) (k : ℕ) (y : Y) → k < length (map f xs) → get_or (map f xs) k y ≡ y → P y → Any (λ x. P (f x)) xs
any_map_at f P [] k y inside is p = absurd (omega arith)
any_map_at f P (x ∷ xs) zero y inside is p = (0, x, omega arith, refl, subst P (sym is) p)
any_map_at f P (x ∷ xs) (suc k) y inside is p = let r = any_map_at f P xs k y (omega arith) is p in (suc r.0, r.1, (let l = r.2 in omega arith), r.3, r.4)

any_map : {X Y : Type 0} (f : X → Y) (P : Y → Type 0) (xs : List X) → Any P (map f xs) → Any (λ x. P (f x)) xs
any_map f P xs has = any_map_at f P xs has.0 has.1 has.2 has.3 has.4

module _ {L J O : Type 0} (identity : L → Identity) (workers : ℕ) (may_fault : Type 0) (may_serve : ℕ → L → Ended L → Type 0) (may_leave : ℕ → L → L → Type 0) (may_make : ℕ → Type 0) (listeners : ℕ) where
  on_rows : {Li : Type 0} (left : Li → Option (List L)) (old : List Li) (rows : List (Row L J O))
      → All (λ p. All (ParcelIsInPlace left old) (sent p)) (map (λ l. l.parcels) rows) → All (λ l. All (ParcelIsInPlace left old) (sent l.parcels)) rows
  on_rows left old [] all = All-nil (λ l. All (ParcelIsInPlace left old) (sent l.parcels))
  on_rows left old (l ∷ ls) all =
      All-cons (λ l. All (ParcelIsInPlace left old) (sent l.parcels)) l ls (All-head (λ p. All (ParcelIsInPlace left old) (sent p)) l.parcels (map (λ l. l.parcels) ls) all)
      (on_rows left old ls (All-tail (λ p. All (ParcelIsInPlace left old) (sent p)) l.parcels (map (λ l. l.parcels) ls) all))

  module _ {Li : Type 0} (given : Li → ℕ) (left : Li → Option (List L)) (old new : List Li) (a : Acceptor L) (entries back : List (Entry L)) (rows : List (Row L J O))
      (same_served : (token : ℕ) (link : L) (ended : Ended L) → may_serve token link ended → identity ended.link ≡ identity link)
      (same_left : (token : ℕ) (link back : L) → may_leave token link back → identity back ≡ identity link)
      (none_left : Bool) (carries : Carries given left identity none_left old new a entries) (nothing : a.waiting ≡ None)
      (parcels : a.parcels.items ≡ map (λ l. l.parcels) rows) (notes : a.notes.items ≡ map (λ l. l.notes) rows)
      (weighs : (h : Card → ℕ) → put identity h (map (λ (l : Row L J O). l.parcels) rows) ≡ came_back identity h (map (λ (l : Row L J O). l.notes) rows) + sum_by (of_entry identity h) back)
      (told : All (λ l. All (IsTale workers may_fault may_serve may_leave may_make listeners (sent l.parcels)) (received l.notes)) rows)
      (brought : All (λ e. (l : Row L J O) × Contains rows l × IsFrom workers may_fault may_serve may_leave (sent l.parcels) e) back) where
    handed_on : (h : Card → ℕ) → put identity h a.parcels.items + let_gone identity h carries.gone ≡ sum_by (of_entry identity h) (entries ++ back)
    handed_on h =
        let p = ap (put identity h) parcels in
        let w = weighs h in
        let n = ap (came_back identity h) notes in
        let b = carries.back h in
        let s = sum_by-append (of_entry identity h) entries back in
        omega (arith, p, w, n, b, s)

    many : length (entries ++ back) ≡ a.serial
    many =
        let w = ap (λ o. in_waiting identity (λ c. 1) o) nothing in
        let h : put identity (λ c. 1) a.parcels.items + let_gone identity (λ c. 1) carries.gone ≡ sum_by (λ (e : Entry L). 1) (entries ++ back) = handed_on (λ c. 1) in
        omega (arith, ones (entries ++ back), h, carries.count, w)

    abbrev OfARow : Entry L → Type 0
    OfARow e = (l : Row L J O) × Contains rows l × IsFrom workers may_fault may_serve may_leave (sent l.parcels) e

    -- or the acceptor let it go
    abbrev Returned : Entry L → Type 0
    Returned e = OfARow e ⊎ IsLetGo left old none_left e

    -- by the acceptor's notes
    noted : All Returned entries
    noted i d inside = by_note _ (carries.noted i d inside)
      where
        answered : (e : Entry L) → Any (λ c. Contains (received c) (Back e)) a.notes.items → OfARow e
        answered e has_note =
            let n = any_map (λ (l : Row L J O). l.notes) (λ c. Contains (received c) (Back e)) rows (subst (Any (λ c. Contains (received c) (Back e))) notes has_note) in
            let has : Contains rows n.1 = (n.0, n.2, n.3) in
            let true_of = All-contains (λ (l : Row L J O). All (IsTale workers may_fault may_serve may_leave may_make listeners (sent l.parcels)) (received l.notes)) rows n.1 told has in
            let from : IsFrom workers may_fault may_serve may_leave (sent n.1.parcels) e = All-contains (IsTale workers may_fault may_serve may_leave may_make listeners (sent n.1.parcels)) (received n.1.notes) (Back e) true_of n.4 in
            (n.1, has, from)

        by_note : (e : Entry L) → (Any (λ c. Contains (received c) (Back e)) a.notes.items ⊎ Contains carries.gone e) → Returned e
        by_note e (inl has_note) = inl (answered e has_note)
        by_note e (inr gone) = inr (All-contains (IsLetGo left old none_left) carries.gone e carries.let_go gone)

    pub all_from : All Returned (entries ++ back)
    all_from = All-append Returned entries back noted (All-weaker OfARow Returned (λ e of. inl of) back brought)

    in_place : (e : Entry L) → Returned e → IsServedFrom identity may_serve may_leave (left_at left old e.token) e
    in_place e (inr gone) = record {
      link = e.link;
      in_place = gone.1;
      same = refl;
      comes_back = as_it_came gone.0;
    }
      where
        as_it_came : ((e.outcome ≡ Stopped false) ⊎ ((e.outcome ≡ Lost None) × (none_left ≡ true))) → ComesBack (may_serve e.token) (may_leave e.token) e.link e.link e.outcome
        as_it_came (inl is) = subst (ComesBack (may_serve e.token) (may_leave e.token) e.link e.link) (sym is) (inr refl)
        as_it_came (inr lost) = subst (ComesBack (may_serve e.token) (may_leave e.token) e.link e.link) (sym lost.0) (inr refl)
    in_place e (inl x) =
        let rings : All (λ l. All (ParcelIsInPlace left old) (sent l.parcels)) rows = on_rows left old rows (subst (All (λ p. All (ParcelIsInPlace left old) (sent p))) parcels carries.on_rings) in
        let ring : All (ParcelIsInPlace left old) (sent x.0.parcels) = All-contains (λ l. All (ParcelIsInPlace left old) (sent l.parcels)) rows x.0 rings x.1 in
        let answer = x.2 in
        record {
          link = answer.link;
          in_place = All-contains (ParcelIsInPlace left old) (sent x.0.parcels) (Conn e.serial e.token e.place answer.link) ring answer.came;
          same = same_link identity (may_serve e.token) (may_leave e.token) answer.link e.link e.outcome (same_served e.token answer.link) (same_left e.token answer.link) answer.comes_back;
          comes_back = answer.comes_back;
        }

    -- by the acceptor's notes and the joins
    pub delivers : Delivers given left identity may_serve may_leave old new (entries ++ back)
    delivers = record {
      serials = λ k.
          let w = ap (λ o. in_waiting identity (each (has_serial k)) o) nothing in
          let h : put identity (each (has_serial k)) a.parcels.items + let_gone identity (each (has_serial k)) carries.gone ≡ count_by (λ e. e.serial == k) (entries ++ back) = handed_on (each (has_serial k)) in
          let c = carries.serials k in
          sym h ∙ (omega (arith, c, w)) ∙ ap (λ n. once_below n k) (sym many);
      places = λ t k.
          let w = ap (λ o. in_waiting identity (each (has_place t k)) o) nothing in
          let h : put identity (each (has_place t k)) a.parcels.items + let_gone identity (each (has_place t k)) carries.gone ≡ count_by (λ e. (e.token == t) && (e.place == k)) (entries ++ back) = handed_on (each (has_place t k)) in
          let c = carries.places t k in
          sym h ∙ (omega (arith, c, w));
      links = λ i d inside. in_place _ (all_from i d inside);
      remains = carries.remains;
      rises = carries.rises;
    }
