-- The lines of the entries, listener by listener, and the order in which a sort by place leaves what references lend.
use Rattle.std.proofs.Common.{◌≡◌, ◌<◌, ◌+◌, ◌-◌, ◌++◌, ℕ, suc, List, [], ◌∷◌, map, arith}
use Rattle.std.specs.List.{flat_map}
use Rattle.std.specs.List.Sorted.{IsNonDecreasingBy}
use Rattle.std.proofs.lemmas.Bool.{le-ltb}
use Rattle.std.proofs.lemmas.List.{get_or-map, length-map}
use Rattle.server_run.specs.declared.entry.Entry.{Entry}
use Rattle.server_run.specs.declared.memory_link.MemoryLink.{MemoryLink}
use Rattle.report.specs.Report.{IsByPlace, entries_of, entry_line, entry_lines}

-- from what a sort by place ensures of references
pub IsByPlace-map : {X : Type 0} (read : X → Entry MemoryLink) (xs : List X) → IsNonDecreasingBy (λ x. (read x).place) xs → IsByPlace (map read xs)
IsByPlace-map read [] up k d low high = absurd (omega arith)
IsByPlace-map read (x ∷ xs) up k d low high =
    let long = length-map (x ∷ xs) read in
    let next = get_or-map read (x ∷ xs) (k + 1) x d (omega arith) in
    let this = get_or-map read (x ∷ xs) k x d (omega arith) in
    rw (next, this) (le-ltb _ _ (up k (k + 1) x (omega arith) (omega arith)))

-- the lines of one more listener
pub entry_lines_more : (token count : ℕ) (es : List (Entry MemoryLink)) → token < count
    → entry_lines token (count - token) es ≡ flat_map entry_line (entries_of token es) ++ entry_lines (token + 1) (count - (token + 1)) es
entry_lines_more token count es inside =
    let more : count - token ≡ suc (count - (token + 1)) = omega arith in
    rw more
