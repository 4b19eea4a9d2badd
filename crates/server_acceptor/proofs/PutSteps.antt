-- What went to each worker.
use Rattle.std.proofs.Common.{◌≡◌, ◌∷◌, [], ℕ, ◌++◌, sym, ◌∙◌, ap, inl, inr, append_assoc}
use Rattle.std.proofs.lemmas.Bool.{cases_eq}
use Rattle.std.proofs.lemmas.List.{append-nil}
use Rattle.server_jobs.specs.declared.parcel.Parcel.{Parcel}
use Rattle.server_acceptor.specs.Accepting.{Puts}
use Rattle.server_acceptor.specs.Placing.{KeepsSent, PutsAt}
use Rattle.server_acceptor.specs.Sending.{sent_to}
use Rattle.server_acceptor.specs.declared.acceptor.Acceptor.{Acceptor}
use Rattle.server_acceptor.proofs.Sendings.{sent_elsewhere, sent_kept, sent_there}

module _ {L : Type 0} where
  pub puts_same : (a b : Acceptor L) (w : ℕ) → b.parcels ≡ a.parcels → Puts a b w
  puts_same a b w same = record { more = []; went = ap (λ v. sent_to v.items w) same ∙ sym (append-nil (sent_to a.parcels.items w)) }

  pub puts_kept : (a b : Acceptor L) (w : ℕ) → KeepsSent a.parcels.items b.parcels.items → Puts a b w
  puts_kept a b w keeps = record { more = []; went = sent_kept a.parcels.items b.parcels.items keeps w ∙ sym (append-nil (sent_to a.parcels.items w)) }

  pub puts_at : (a b : Acceptor L) (w v : ℕ) (item : Parcel L) → PutsAt a.parcels.items b.parcels.items v item → Puts a b w
  puts_at a b w v item puts = elim (cases_eq w v) [
    | inl same ↦ rw same (record { more = item ∷ []; went = sent_there a.parcels.items b.parcels.items v item puts })
    | inr other ↦ record { more = []; went = sent_elsewhere a.parcels.items b.parcels.items v w item puts other ∙ sym (append-nil (sent_to a.parcels.items w)) }
  ]

  pub puts_trans : (a b c : Acceptor L) (w : ℕ) → Puts a b w → Puts b c w → Puts a c w
  puts_trans a b c w p q = record {
    more = p.more ++ q.more;
    went = q.went ∙ ap (λ ps. ps ++ q.more) p.went ∙ append_assoc (sent_to a.parcels.items w) p.more q.more;
  }
