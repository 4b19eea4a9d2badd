-- Where the places of each listener are the numbers below some number, once each, a text tells a listener's entries in the order of their places.
use Rattle.std.proofs.Common.{◌≡◌, ◌<◌, ◌≤◌, ◌+◌, ◌==◌, ◌&&◌, ◌++◌, ℕ, suc, Bool, true, false, cond, List, [], ◌∷◌, map, length, get_or, Some, slice_get, All, refl, sym, ap, ◌∙◌, arith}
use Rattle.std.specs.List.{filter, flat_map, range_with_len}
use Rattle.std.specs.List.Sorted.{IsNonDecreasingBy}
use Rattle.std.proofs.lemmas.Bool.{ltb-false, eqb-true}
use Rattle.std.proofs.lemmas.Bool.Decides.{nat_tests}
use Rattle.std.proofs.lemmas.List.{get_or-map, length-map}
use Rattle.std.proofs.lemmas.List.Elements.{All-filter, filter_passes}
use Rattle.std.proofs.lemmas.List.FromFn.{get_or-range_with_len, length-range_with_len}
use Rattle.std.proofs.lemmas.List.Sorted.{All-permutation, IsNonDecreasingBy-from_all_adjacent, sum_by-IsPermutation}
use Rattle.std.proofs.lemmas.List.Sums.{sum_by-cons}
use Rattle.std.proofs.lemmas.Option.{get_or_from_slice_get, slice_get_within}
use Rattle.server_run.specs.declared.entry.Entry.{Entry}
use Rattle.server_run.specs.declared.memory_link.MemoryLink.{MemoryLink}
use Rattle.server_run.specs.declared.report.ListenerState.{ListenerState}
use Rattle.server_run.specs.declared.report.Report.{Report}
use Rattle.server_run.specs.Delivery.{once_below, place_count}
use Rattle.report.specs.Report.{IsByPlace, IsText, end_line, entries_of, entry_line, entry_lines, line_of, state_lines}
use Rattle.report.specs.Told.{Telling, all_lines, lines_of, tellings_of, text_of, told_by}
use Rattle.report.proofs.Rising.{RisesFrom, RisesFrom-weaker, is_range, once_within, times, times-cons}

abbrev place_of : Entry MemoryLink → ℕ
place_of entry = entry.place

abbrev places_of : List (Entry MemoryLink) → List ℕ
places_of entries = map place_of entries

-- the places rise, and go on rising where entries are left out

rises : (low : ℕ) (es : List (Entry MemoryLink)) → ((d : Entry MemoryLink) → 0 < length es → low ≤ (get_or es 0 d).place) → IsNonDecreasingBy place_of es → RisesFrom low (places_of es)
rises low [] first up = tt
rises low (e ∷ es) first up =
    (first e (omega arith), rises e.place es (λ d some. up 0 1 d (omega arith) (omega arith)) (λ i j d le within. up (suc i) (suc j) d (omega arith) (omega arith)))

all_rise : (es : List (Entry MemoryLink)) → IsByPlace es → RisesFrom 0 (places_of es)
all_rise es up = rises 0 es (λ d some. omega arith) (IsNonDecreasingBy-from_all_adjacent place_of es (λ k d within. ltb-false _ _ (up k d (omega arith) within)))

kept_if : (low : ℕ) (b : Bool) (e : Entry MemoryLink) (es : List (Entry MemoryLink)) → low ≤ e.place → RisesFrom e.place (places_of es) → RisesFrom low (places_of (cond b (e ∷ es) es))
kept_if low true e es from up = (from, up)
kept_if low false e es from up = RisesFrom-weaker low e.place (places_of es) from up

some_rise : (test : Entry MemoryLink → Bool) (low : ℕ) (es : List (Entry MemoryLink)) → RisesFrom low (places_of es) → RisesFrom low (places_of (filter test es))
some_rise test low [] up = tt
some_rise test low (e ∷ es) up = kept_if low (test e) e (filter test es) up.0 (some_rise test e.place es up.1)

-- a place stands among those of a listener's entries as often as it is counted

counted_if : (b : Bool) (place : ℕ) (e : Entry MemoryLink) (es : List (Entry MemoryLink))
    → times place (places_of (cond b (e ∷ es) es)) ≡ cond (b && (e.place == place)) 1 0 + times place (places_of es)
counted_if true place e es = times-cons place e.place (places_of es)
counted_if false place e es = omega arith

counted : (token place : ℕ) (es : List (Entry MemoryLink)) → times place (places_of (entries_of token es)) ≡ place_count token place es
counted token place [] = refl
counted token place (e ∷ es) =
    let kept = counted_if (e.token == token) place e (entries_of token es) in
    let rest = counted token place es in
    let more = sum_by-cons (λ (x : Entry MemoryLink). cond ((x.token == token) && (x.place == place)) 1 0) e es in
    kept ∙ ap (λ (n : ℕ). cond ((e.token == token) && (e.place == place)) 1 0 + n) rest ∙ sym more

within_below : (n place : ℕ) → once_below n place ≡ once_within 0 n place
within_below n place = grind (arith, nat_tests)

as_long : (low many : ℕ) (es : List (Entry MemoryLink)) → places_of es ≡ range_with_len low many → length es ≡ many
as_long low many es range = sym (length-map es place_of) ∙ ap (λ (ns : List ℕ). length ns) range ∙ length-range_with_len low many

-- each of these is of this listener, and its place is this number more than its place in the list
abbrev StandFrom : ℕ → ℕ → List (Entry MemoryLink) → Type 0
StandFrom token low es = (i : ℕ) (e : Entry MemoryLink) → slice_get es i ≡ Some e → (e.token ≡ token) × (e.place ≡ low + i)

stand : (token low many : ℕ) (es : List (Entry MemoryLink)) → All (λ e. (e.token == token) ≡ true) es → places_of es ≡ range_with_len low many → StandFrom token low es
stand token low many es all range i e at =
    let inside = slice_get_within es i e at in
    let itself : e ≡ get_or es i e = sym (get_or_from_slice_get es i e e at) in
    let long = as_long low many es range in (
      ap (λ (x : Entry MemoryLink). x.token) itself ∙ eqb-true _ _ (all i e inside),
      ap place_of itself ∙ sym (get_or-map place_of es i e 0 inside) ∙ ap (λ (ns : List ℕ). get_or ns i 0) range ∙ get_or-range_with_len low many i 0 (omega arith),
    )

-- lines of entries that stand so are those of what they tell

line_is : (token place : ℕ) (e : Entry MemoryLink) → e.token ≡ token → e.place ≡ place → entry_line e ≡ line_of token place (told_by e).0 (told_by e).1
line_is token place e of at =
    ap (λ (t : ℕ). line_of t e.place e.outcome e.link.written) of ∙ ap (λ (p : ℕ). line_of token p e.outcome e.link.written) at

lines_are : (token low : ℕ) (es : List (Entry MemoryLink)) → StandFrom token low es → flat_map entry_line es ≡ lines_of token low (map told_by es)
lines_are token low [] at = refl
lines_are token low (e ∷ es) at =
    let this = at 0 e refl in
    let line = line_is token low e this.0 (this.1 ∙ omega arith) in
    let rest = lines_are token (low + 1) es (λ i x is. let further = at (suc i) x is in (further.0, further.1 ∙ omega arith)) in
    ap (λ (l : List ℕ). l ++ flat_map entry_line es) line ∙ ap (λ (l : List ℕ). line_of token low (told_by e).0 (told_by e).1 ++ l) rest

all_lines_are : (token : ℕ) (states : List ListenerState) (es : List (Entry MemoryLink)) → ((t : ℕ) → StandFrom t 0 (entries_of t es))
    → entry_lines token (length states) es ≡ all_lines token (tellings_of token states es)
all_lines_are token [] es at = refl
all_lines_are token (state ∷ states) es at =
    let this = lines_are token 0 (entries_of token es) (at token) in
    let rest = all_lines_are (token + 1) states es at in
    ap (λ (l : List ℕ). l ++ entry_lines (token + 1) (length states) es) this
    ∙ ap (λ (l : List ℕ). lines_of token 0 (map told_by (entries_of token es)) ++ l) rest

states_told : (token : ℕ) (states : List ListenerState) (es : List (Entry MemoryLink)) → map (λ (telling : Telling). telling.1) (tellings_of token states es) ≡ states
states_told token [] es = refl
states_told token (state ∷ states) es = ap (λ (l : List ListenerState). state ∷ l) (states_told (token + 1) states es)

module _ {entries : List (Entry MemoryLink)} {report : Report} {text : List ℕ} (t : IsText entries report text) where
  -- what holds of all entries holds of those of a listener
  pub All-entries_of : (P : Entry MemoryLink → Type 0) → All P entries → (token : ℕ) → All P (entries_of token t.ordered)
  All-entries_of P all token = All-filter (λ (e : Entry MemoryLink). e.token == token) P t.ordered (All-permutation P entries t.ordered t.same all)

  -- each listener's places are the numbers below this number of its, once each
  module _ (given : ℕ → ℕ) (places : (token place : ℕ) → place_count token place entries ≡ once_below (given token) place) where
    in_range : (token : ℕ) → places_of (entries_of token t.ordered) ≡ range_with_len 0 (given token)
    in_range token =
        is_range 0 (given token) (places_of (entries_of token t.ordered)) (some_rise (λ (e : Entry MemoryLink). e.token == token) 0 t.ordered (all_rise t.ordered t.by_place))
        (λ place. counted token place t.ordered
        ∙ sum_by-IsPermutation (λ (e : Entry MemoryLink). cond ((e.token == token) && (e.place == place)) 1 0) entries t.ordered t.same
        ∙ places token place ∙ within_below (given token) place)

    -- a listener has as many entries as connections
    pub as_many : (token : ℕ) → length (entries_of token t.ordered) ≡ given token
    as_many token = as_long 0 (given token) (entries_of token t.ordered) (in_range token)

    stands : (token : ℕ) → StandFrom token 0 (entries_of token t.ordered)
    stands token = stand token 0 (given token) (entries_of token t.ordered) (filter_passes (λ (e : Entry MemoryLink). e.token == token) t.ordered) (in_range token)

    -- each at its place
    pub placed : (token i : ℕ) (e : Entry MemoryLink) → slice_get (entries_of token t.ordered) i ≡ Some e → (e.token ≡ token) × (e.place ≡ i)
    placed token i e at = let this = stands token i e at in (this.0, this.1 ∙ omega arith)

    -- the text tells the entries of each listener in the order of their places
    pub tells_in_place : text ≡ text_of (tellings_of 0 report.listeners.items t.ordered) report.end
    tells_in_place =
        let states = report.listeners.items in
        t.is ∙ ap (λ (l : List ℕ). l ++ (state_lines 0 states ++ end_line report.end)) (all_lines_are 0 states t.ordered stands)
        ∙ ap (λ (l : List ListenerState). all_lines 0 (tellings_of 0 states t.ordered) ++ (state_lines 0 l ++ end_line report.end)) (sym (states_told 0 states t.ordered))
