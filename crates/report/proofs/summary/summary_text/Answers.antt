use Rattle.std.proofs.Common.{◌≡◌, [], ◌∷◌, ◌++◌, ℕ, List, append_assoc}
use Rattle.std.specs.Prelude.{codes, decimal}
use Rattle.report.proofs.summary.summary_text.Goals as goal

-- four lines and what stands behind them
four : (w0 w1 w2 w3 : List ℕ) (n0 n1 n2 n3 : ℕ) (o a b c d z text : List ℕ) → o ≡ [] → a ≡ o ++ (w0 ++ (decimal n0 ++ 10 ∷ []))
    → b ≡ a ++ (w1 ++ (decimal n1 ++ 10 ∷ [])) → c ≡ b ++ (w2 ++ (decimal n2 ++ 10 ∷ [])) → d ≡ c ++ (w3 ++ (decimal n3 ++ 10 ∷ [])) → text ≡ d ++ z
    → text ≡ w0 ++ (decimal n0 ++ 10 ∷ (w1 ++ (decimal n1 ++ 10 ∷ (w2 ++ (decimal n2 ++ 10 ∷ (w3 ++ (decimal n3 ++ 10 ∷ z)))))))
four w0 w1 w2 w3 n0 n1 n2 n3 o a b c d z text none p0 p1 p2 p3 p = rw (p, p3, p2, p1, p0, none) (simp append_assoc)

pub returns : goal.returns
returns c =
    rw (← c.from.ensures, ← c.served_count.ensures, ← c.byte_count.ensures, ← c.end_line.ensures) (
    four (codes "connections ") (codes "requests ") (codes "served ") (codes "answer-bytes ") c.args.connections c.from.result c.served_count.result c.byte_count.result
    _ _ _ _ _ _ _ c.new-out.ensures c.in_ok-push_line.ensures c.in_ok-push_line-2.ensures c.in_ok-push_line-3.ensures c.in_ok-push_line-4.ensures c.in_ok-push_all.ensures.ok
    )
