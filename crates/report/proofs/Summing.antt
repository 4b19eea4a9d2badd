-- How many connections were served, and by how many bytes, does not depend on the order of the entries; the entries of one listener alone are all of them.
use Rattle.std.proofs.Common.{◌≡◌, cond, List, [], ◌∷◌, map, length, All, IsPermutation, refl, sym, ap, eq-eqb}
use Rattle.std.proofs.lemmas.List.Elements.{All-head, All-tail}
use Rattle.std.proofs.lemmas.List.Sorted.{IsPermutation-map, sum_by-IsPermutation}
use Rattle.server_run.specs.declared.entry.Entry.{Entry}
use Rattle.server_run.specs.declared.memory_link.MemoryLink.{MemoryLink}
use Rattle.report.specs.Report.{entries_of}
use Rattle.server_run.specs.Outcome.{is_served}
use Rattle.report.specs.Summary.{byte_count, served_count}
use Rattle.report.specs.Told.{Told, told_by}

-- as many were served in any order
pub served_count-IsPermutation : (es ordered : List (Entry MemoryLink)) → IsPermutation es ordered → served_count (map told_by es) ≡ served_count (map told_by ordered)
served_count-IsPermutation es ordered same =
    sym (sum_by-IsPermutation (λ (t : Told). cond (is_served t.0) 1 0) (map told_by es) (map told_by ordered) (IsPermutation-map told_by es ordered same))

-- and by as many bytes
pub byte_count-IsPermutation : (es ordered : List (Entry MemoryLink)) → IsPermutation es ordered → byte_count (map told_by es) ≡ byte_count (map told_by ordered)
byte_count-IsPermutation es ordered same =
    sym (sum_by-IsPermutation (λ (t : Told). length t.1) (map told_by es) (map told_by ordered) (IsPermutation-map told_by es ordered same))

-- where there is no other listener, its entries are all of them
pub entries_of-all : (es : List (Entry MemoryLink)) → All (λ (e : Entry MemoryLink). e.token ≡ 0) es → entries_of 0 es ≡ es
entries_of-all [] all = refl
entries_of-all (e ∷ es) all =
    let first = eq-eqb e.token 0 (All-head (λ (x : Entry MemoryLink). x.token ≡ 0) e es all) in
    let rest = entries_of-all es (All-tail (λ (x : Entry MemoryLink). x.token ≡ 0) e es all) in
    rw first (ap (λ (l : List (Entry MemoryLink)). e ∷ l) rest)
