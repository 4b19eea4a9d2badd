-- The summary of a run.
use Rattle.std.specs.Prelude.{ℕ, List, ◌∷◌, ◌++◌, length, codes, decimal}
use Rattle.std.specs.List.{count_by, sum_by}
use Rattle.server_run.specs.Outcome.{is_served}
use Rattle.server_run.specs.declared.report.End.{End}
use Rattle.report.specs.Report.{end_line}
use Rattle.report.specs.Told.{Told}

-- how many of these connections were served
abbrev pub served_count : List Told → ℕ
served_count told = count_by (λ (t : Told). is_served t.0) told

-- how many bytes were written on all of these connections
abbrev pub byte_count : List Told → ℕ
byte_count told = sum_by (λ (t : Told). length t.1) told

-- so many connections with so many requests, of which so many were served by so many bytes, and the end
abbrev pub summary_of : (connections requests served bytes : ℕ) → End → List ℕ
summary_of connections requests served bytes end =
    codes "connections " ++ (decimal connections ++ (10 ∷ (codes "requests " ++ (decimal requests ++ (10 ∷ (codes "served " ++ (decimal served ++ (10 ∷
    (codes "answer-bytes " ++ (decimal bytes ++ (10 ∷ end_line end)))))))))))

-- the same without requests and bytes
abbrev pub short_summary_of : (connections served : ℕ) → End → List ℕ
short_summary_of connections served end =
    codes "connections " ++ (decimal connections ++ (10 ∷ (codes "served " ++ (decimal served ++ (10 ∷ end_line end)))))
