-- The turns of decoding a body in chunks.
use Rattle.std.proofs.Common.{◌≡◌, ◌≤◌, ◌+◌, ◌-◌, ℕ, List, [], ◌++◌, length, take, drop, arith, sym, ap, ◌∙◌, subst, refl, append-nil, length-append, length-take, length-drop}
use Rattle.std.proofs.lemmas.List.{take_rest, drop-drop}
use Rattle.http1_grammar.specs.Limits.{Limits}
use Rattle.http1_grammar.specs.Lines.{cut_at}
use Rattle.http1_grammar.specs.Body.{Body, unfinished, malformed, whole, Piece, undecided, refused, chunk, last, sized_chunk, piece, trailer, after_piece, chunks}
use Rattle.http1_grammar.specs.Reading.{settle, settled}
use Rattle.http1_grammar.proofs.AnswerLemmas.{chunks_step}
use Rattle.http1_grammar.proofs.SettledLemmas.{settled_step}
use Rattle.http1_plain.specs.Kept.{Kept}
use Rattle.http1_plain.proofs.KeptSteps.{kept_same, kept_trans, kept_more}
use Rattle.http1_head.specs.Passing.{HasSeen}
use Rattle.http1_head.proofs.ScanSteps.{from}
use Rattle.http1_reader.specs.Pieces.{IsPassed, IsSized, IsLast}
use Rattle.http1_reader.specs.Decoding.{room, IsAt, Gains, Waits, IsOpen}
use Rattle.http1_reader.specs.declared.decode.Part.{Part}
use Rattle.http1_reader.specs.declared.decode.Part.TheVariants.{Line, Content, Trailer}

-- ---- the piece at the front, now

sized_now : (n : ℕ) (left : List ℕ) (line size : ℕ) → IsSized n left line size → piece n left ≡ sized_chunk size (drop line left)
sized_now n left line size h = ap (piece n) (sym (append-nil left)) ∙ h.is [] ∙ ap (sized_chunk size) (append-nil (drop line left))

last_now : (n : ℕ) (left : List ℕ) (line : ℕ) → IsLast n left line → piece n left ≡ last (drop line left)
last_now n left line h = ap (piece n) (sym (append-nil left)) ∙ h.is [] ∙ ap (λ x. last x) (append-nil (drop line left))

module _ (limits : Limits) (left before : List ℕ) where
  chunks_by : (p : Piece) → piece (room limits before) left ≡ p → chunks limits before left ≡ after_piece limits (chunks limits) before p
  chunks_by p e = chunks_step limits before left ∙ ap (after_piece limits (chunks limits) before) e

  settled_by : (p : Piece) → piece (room limits before) left ≡ p → settled limits before left ≡ settle (settled limits) before left p
  settled_by p e = settled_step limits before left ∙ ap (settle (settled limits) before left) e

  open_waits : (part : Part) → piece (room limits before) left ≡ undecided → IsAt limits left before part → Waits limits left before before part
  open_waits part e at = record { same = refl; pending = chunks_by undecided e; settles = settled_by undecided e; at = at }

  refuses : (status : ℕ) → piece (room limits before) left ≡ refused status → chunks limits before left ≡ malformed status
  refuses status e = chunks_by (refused status) e

  -- ---- a chunk

  module _ (line size : ℕ) (sized : IsSized (room limits before) left line size) where
    chunk_is : (p : Piece) → sized_chunk size (from line left) ≡ p → piece (room limits before) left ≡ p
    chunk_is p e = sized_now (room limits before) left line size sized ∙ ap (sized_chunk size) (sym (take_rest left line)) ∙ e

    pub content_waits : sized_chunk size (from line left) ≡ undecided → Waits limits left before before (Content line size)
    content_waits e = open_waits (Content line size) (chunk_is undecided e) sized

    pub content_refused : sized_chunk size (from line left) ≡ refused 400 → chunks limits before left ≡ malformed 400
    content_refused e = refuses 400 (chunk_is (refused 400) e)

    behind_len : length (from line left) ≡ length left - line
    behind_len = omega (arith, length-take (length left - line) (drop line left), length-drop line left)

    pub content_gains : (data' : List ℕ) → length before ≤ limits.body
        → (size + 2 ≤ length (from line left)) × (sized_chunk size (from line left) ≡ chunk (take size (from line left)) (drop (size + 2) (from line left)))
        → data' ≡ before ++ take size (from line left) → Gains limits left before data' (line + size + 2)
    content_gains data' fits e grown = record {
      content = take size (from line left);
      is = chunk_is (chunk (take size (from line left)) (drop (size + 2) (from line left))) e.1
          ∙ ap (λ x. chunk (take size (from line left)) x) (ap (drop (size + 2)) (take_rest left line) ∙ drop-drop (size + 2) line left ∙ ap (λ n. drop n left) sum);
      grown = grown;
      above = omega arith;
      within = let w = e.0 in let i = sized.within in omega (arith, behind_len);
      fits = let f = sized.fits in subst (λ d. length d ≤ limits.body) (sym grown)
          (omega (arith, length-append before (take size (from line left)), length-take size (from line left)));
    }
      where
        sum : line + (size + 2) ≡ line + size + 2
        sum = omega arith

  -- ---- the trailer part

  module _ (line : ℕ) (is_last : IsLast (room limits before) left line) where
    last_is : chunks limits before left ≡ trailer limits before (from line left)
    last_is =
        chunks_by (last (drop line left)) (last_now (room limits before) left line is_last) ∙ ap (trailer limits before) (sym (take_rest left line))

    last_settles : settled limits before left ≡ (before, left)
    last_settles = settled_by (last (drop line left)) (last_now (room limits before) left line is_last)

    pub trailer_waits : (n : ℕ) → n ≡ length (from line left)
        → ((data' : List ℕ) → trailer limits data' (from line left) ≡ unfinished) × HasSeen limits (from line left) (length (from line left))
        → Waits limits left before before (Trailer line n)
    trailer_waits n l h = record {
      same = refl;
      pending = last_is ∙ h.0 before;
      settles = last_settles;
      at = (is_last, subst (λ (x : List ℕ). HasSeen limits x n) (take_rest left line) (subst (λ k. HasSeen limits (from line left) k) (sym l) h.1));
    }

    pub trailer_refused : ((data' : List ℕ) → trailer limits data' (from line left) ≡ malformed 431) → chunks limits before left ≡ malformed 431
    trailer_refused h = last_is ∙ h before

    pub trailer_done : (n : ℕ) → (n ≤ length (from line left)) × ((data' : List ℕ) → trailer limits data' (from line left) ≡ whole data' (drop n (from line left)))
        → (line + n ≤ length left) × (chunks limits before left ≡ whole before (drop (line + n) left))
    trailer_done n h = (
      let w = h.0 in let i = is_last.within in
          omega (arith, length-take (length left - line) (drop line left), length-drop line left),
      last_is ∙ h.1 before ∙ ap (λ x. whole before x) (ap (drop n) (take_rest left line) ∙ drop-drop n line left),
    )

-- ---- a line

pub room_is : (limits : Limits) (before : List ℕ) (a b : ℕ) → a ≡ limits.body → b ≡ length before → a - b ≡ room limits before
room_is limits before a b p q = cc

pub line_waits : (limits : Limits) (left before : List ℕ) (n k : ℕ) → n ≡ room limits before → k ≡ length left
    → (piece n left ≡ undecided) × IsPassed left (length left) → Waits limits left before before (Line k)
line_waits limits left before n k e l h =
    open_waits limits left before (Line k) (ap (λ m. piece m left) (sym e) ∙ h.0) (subst (IsPassed left) (sym l) h.1)

pub line_refused : (limits : Limits) (left before : List ℕ) (n status : ℕ) → n ≡ room limits before → piece n left ≡ refused status
    → chunks limits before left ≡ malformed status
line_refused limits left before n status e h = refuses limits left before status (ap (λ m. piece m left) (sym e) ∙ h)

-- ---- the loop

-- where decoding stands: so many bytes of chunks gave these data
pub record Going (limits : Limits) (bytes before data' : List ℕ) (at : ℕ) (part : Part) : Type 0 where
  pub within : at ≤ length bytes
  pub kept : Kept before data'
  pub fits : length data' ≤ limits.body
  pub same : chunks limits before bytes ≡ chunks limits data' (drop at bytes)
  pub settles : settled limits before bytes ≡ settled limits data' (drop at bytes)
  pub stands : IsAt limits (drop at bytes) data' part

pub going_begun : (limits : Limits) (bytes before : List ℕ) (part : Part) → length before ≤ limits.body → IsAt limits bytes before part
    → Going limits bytes before before 0 part
going_begun limits bytes before part f at = record {
  within = omega arith;
  kept = kept_same refl;
  fits = f;
  same = refl;
  settles = refl;
  stands = at;
}

pub none_passed : (left : List ℕ) → IsPassed left 0
unfolding cut_at
none_passed left = record { within = omega arith; limited = omega arith; no_feed = refl }

module _ (limits : Limits) (bytes before data' : List ℕ) (at : ℕ) (part : Part) (g : Going limits bytes before data' at part) where
  pub stands_from : IsAt limits (from at bytes) data' part
  stands_from = subst (λ x. IsAt limits x data' part) (sym (take_rest bytes at)) g.stands

  left_len : length (from at bytes) ≡ length bytes - at
  left_len = omega (arith, length-take (length bytes - at) (drop at bytes), length-drop at bytes)

  now : (b : Body) → chunks limits data' (from at bytes) ≡ b → chunks limits before bytes ≡ b
  now b e = g.same ∙ ap (chunks limits data') (sym (take_rest bytes at)) ∙ e

  rest_is : (used : ℕ) → drop used (from at bytes) ≡ drop (at + used) bytes
  rest_is used = ap (drop used) (take_rest bytes at) ∙ drop-drop used at bytes

  pub going_on : (new : List ℕ) (used : ℕ) → Gains limits (from at bytes) data' new used → Going limits bytes before new (at + used) (Line 0)
  going_on new used e =
      let one : piece (room limits data') (drop at bytes) ≡ chunk e.content (drop (at + used) bytes) =
      ap (piece (room limits data')) (sym (take_rest bytes at)) ∙ e.is ∙ ap (λ x. chunk e.content x) (rest_is used) in record {
        within = let w = e.within in let i = g.within in omega (arith, left_len);
        kept = kept_trans g.kept (kept_more e.content e.grown);
        fits = e.fits;
        same = g.same ∙ chunks_by limits (drop at bytes) data' (chunk e.content (drop (at + used) bytes)) one
            ∙ ap (λ d. chunks limits d (drop (at + used) bytes)) (sym e.grown);
        settles = g.settles ∙ settled_by limits (drop at bytes) data' (chunk e.content (drop (at + used) bytes)) one
            ∙ ap (λ d. settled limits d (drop (at + used) bytes)) (sym e.grown);
        stands = none_passed (drop (at + used) bytes);
      }

  pub going_waits : (new : List ℕ) (next : Part) → Waits limits (from at bytes) data' new next → IsOpen limits bytes before new at next
  going_waits new next e = record {
    within = g.within;
    fits = subst (λ d. length d ≤ limits.body) (sym e.same) g.fits;
    pending = now unfinished e.pending;
    settles = g.settles ∙ ap (settled limits data') (sym (take_rest bytes at)) ∙ e.settles
        ∙ pair data' new (from at bytes) (drop at bytes) (sym e.same) (take_rest bytes at);
    at = subst (λ d. IsAt limits (drop at bytes) d next) (sym e.same) (subst (λ x. IsAt limits x data' next) (take_rest bytes at) e.at);
  }
    where
      pair : (a b c d : List ℕ) → a ≡ b → c ≡ d → ◌≡◌ {A = List ℕ × List ℕ} (a, c) (b, d)
      pair a b c d p q = cc

  pub going_refused : (status : ℕ) → chunks limits data' (from at bytes) ≡ malformed status → chunks limits before bytes ≡ malformed status
  going_refused status e = now (malformed status) e

  pub going_done : (new : List ℕ) (used : ℕ)
      → (new ≡ data') × ((used ≤ length (from at bytes)) × (chunks limits data' (from at bytes) ≡ whole data' (drop used (from at bytes))))
      → (at + used ≤ length bytes) × (chunks limits before bytes ≡ whole new (drop (at + used) bytes))
  going_done new used e = (
    let w = e.1.0 in let i = g.within in omega (arith, left_len),
    now (whole data' (drop used (from at bytes))) e.1.1 ∙ ap (λ x. whole data' x) (rest_is used) ∙ ap (λ d. whole d (drop (at + used) bytes)) (sym e.0),
  )
