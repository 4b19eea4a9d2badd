-- What the acceptor counts, worker by worker.
use Rattle.std.proofs.Common.{◌≡◌, ◌≤◌, ◌∷◌, [], ℕ, zero, suc, ◌+◌, List, All, length, map, Option, slice_index, sum_by, refl, arith}
use Rattle.std.specs.Prelude.{sum}
use Rattle.std.proofs.lemmas.List.Sums.{sum_by-cons}
use Rattle.std.proofs.lemmas.List.Elements.{All-cons, All-nil}
use Rattle.std.specs.declared.alloc.Global.{Global}
use Rattle.rtrb.specs.declared.AnyItems.{AnyItems}
use Rattle.rtrb.specs.declared.consumer.Consumer.{Consumer}
use Rattle.rtrb.specs.declared.producer.Producer.{Producer}
use Rattle.service_core.specs.Link.{Identity}
use Rattle.server_jobs.specs.declared.note.Note.{Note}
use Rattle.server_jobs.specs.declared.parcel.Parcel.{Parcel}
use Rattle.server_jobs.specs.declared.running.Running.{Running}
use Rattle.server_acceptor.specs.Notes.{count_back}
use Rattle.server_acceptor.specs.Rings.{count_put}
use Rattle.server.specs.Returning.{many_back, many_put}
use Rattle.server.specs.Rows.{row_of, rows_of}

pub sum_map : {X Y : Type 0} (f : Y → ℕ) (g : X → Y) (xs : List X) → sum_by f (map g xs) ≡ sum_by (λ x. f (g x)) xs
sum_map f g [] = refl
sum_map f g (x ∷ xs) =
    let rest = sum_map f g xs in
    let a = sum_by-cons f (g x) (map g xs) in
    let b = sum_by-cons (λ y. f (g y)) x xs in omega (arith, rest, a, b)

module _ {L J O : Type 0} (identity : L → Identity) where
  -- no more came back from a worker than was put on its ring
  pub rows_fewer : (ps : List (Producer (Parcel L) Global AnyItems)) (ns : List (Consumer (Note L) Global AnyItems)) (rs : List (Option (Running J O))) (outs : List ℕ)
      → ((w : ℕ) → count_put identity ps w ≡ count_back identity ns w + slice_index outs w) → All (λ row. many_back identity row ≤ many_put identity row) (rows_of ps ns rs)
  rows_fewer [] ns rs outs even = All-nil (λ row. many_back identity row ≤ many_put identity row)
  rows_fewer (p ∷ ps) [] rs outs even = All-nil (λ row. many_back identity row ≤ many_put identity row)
  rows_fewer (p ∷ ps) (n ∷ ns) [] outs even = All-nil (λ row. many_back identity row ≤ many_put identity row)
  rows_fewer (p ∷ ps) (n ∷ ns) (r ∷ rs) [] even =
      All-cons (λ row. many_back identity row ≤ many_put identity row) (row_of p n r) (rows_of ps ns rs) (let here = even zero in omega (arith, here)) (rows_fewer ps ns rs [] (λ w. even (suc w)))
  rows_fewer (p ∷ ps) (n ∷ ns) (r ∷ rs) (o ∷ outs) even =
      All-cons (λ row. many_back identity row ≤ many_put identity row) (row_of p n r) (rows_of ps ns rs) (let here = even zero in omega (arith, here)) (rows_fewer ps ns rs outs (λ w. even (suc w)))

  -- what is out is what was put on the rings and has not come back
  pub rows_out : (ps : List (Producer (Parcel L) Global AnyItems)) (ns : List (Consumer (Note L) Global AnyItems)) (rs : List (Option (Running J O))) (outs : List ℕ)
      → ((w : ℕ) → count_put identity ps w ≡ count_back identity ns w + slice_index outs w) → length ps ≡ length rs → length ns ≡ length rs → length outs ≡ length rs
      → sum_by (many_put identity) (rows_of ps ns rs) ≡ sum_by (many_back identity) (rows_of ps ns rs) + sum outs
  rows_out [] ns [] [] even same too also = refl
  rows_out [] ns [] (o ∷ outs) even same too also = absurd (omega (arith, also))
  rows_out [] ns (r ∷ rs) outs even same too also = absurd (omega (arith, same))
  rows_out (p ∷ ps) ns [] outs even same too also = absurd (omega (arith, same))
  rows_out (p ∷ ps) [] (r ∷ rs) outs even same too also = absurd (omega (arith, too))
  rows_out (p ∷ ps) (n ∷ ns) (r ∷ rs) [] even same too also = absurd (omega (arith, also))
  rows_out (p ∷ ps) (n ∷ ns) (r ∷ rs) (o ∷ outs) even same too also =
      let here = even zero in
      let rest = rows_out ps ns rs outs (λ w. even (suc w)) (omega (arith, same)) (omega (arith, too)) (omega (arith, also)) in
      let a = sum_by-cons (many_put identity) (row_of p n r) (rows_of ps ns rs) in
      let b = sum_by-cons (many_back identity) (row_of p n r) (rows_of ps ns rs) in
      let c = sum_by-cons (λ x. x) o outs in
      omega (arith, here, rest, a, b, c)
