use Rattle.std.proofs.Common.{◌≡◌, ◌++◌, ℕ, List, append_assoc}
use Rattle.report.proofs.peer_words.push_address.Goals as goal

eight : (o a b c d e f g h w0 w1 w2 w3 w4 w5 w6 w7 : List ℕ) → w0 ≡ o ++ a → w1 ≡ w0 ++ b → w2 ≡ w1 ++ c → w3 ≡ w2 ++ d → w4 ≡ w3 ++ e
    → w5 ≡ w4 ++ f → w6 ≡ w5 ++ g → w7 ≡ w6 ++ h → w7 ≡ o ++ (a ++ (b ++ (c ++ (d ++ (e ++ (f ++ (g ++ h)))))))
eight o a b c d e f g h w0 w1 w2 w3 w4 w5 w6 w7 p0 p1 p2 p3 p4 p5 p6 p7 = rw (p7, p6, p5, p4, p3, p2, p1, p0) (simp append_assoc)

pub returns : goal.returns
returns c =
    eight _ _ _ _ _ _ _ _ _ _ _ _ _ _ _ _ _ c.in_ok-push_group.ensures c.in_ok-push_next.ensures c.in_ok-push_next-2.ensures c.in_ok-push_next-3.ensures
    c.in_ok-push_next-4.ensures c.in_ok-push_next-5.ensures c.in_ok-push_next-6.ensures c.in_ok-push_next-7.ensures
