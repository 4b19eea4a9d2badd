-- A line that is kept has the same rings and the same job.
use Rattle.std.proofs.Common.{refl, ◌∙◌, sym, subst}
use Rattle.service_core.specs.Link.{Identity}
use Rattle.server_edge_tests.specs.Lines.{KeepsLine}
use Rattle.server_jobs.specs.Jobs.{job_of}
use Rattle.server_jobs.specs.Joins.{Accounts, IsLine}
use Rattle.server_jobs.specs.declared.handed.Handed.{Handed}
use Rattle.server_jobs.specs.declared.line.Line.{Line}
use Rattle.server_jobs.specs.declared.running.Running.{Running}

pub keeps_none : {L J O : Type 0} (a : Line L J O) → KeepsLine a a
keeps_none a = record {
  to_it = ((refl, refl, refl, refl), refl);
  from_it = ((refl, refl, refl, refl), refl);
  running = refl;
}

pub keeps_more : {L J O : Type 0} (a b c : Line L J O) → KeepsLine a b → KeepsLine b c → KeepsLine a c
keeps_more a b c k l = record {
  to_it = ((l.to_it.0.0 ∙ k.to_it.0.0, l.to_it.0.1 ∙ k.to_it.0.1, l.to_it.0.2 ∙ k.to_it.0.2, l.to_it.0.3 ∙ k.to_it.0.3), l.to_it.1 ∙ k.to_it.1);
  from_it = ((l.from_it.0.0 ∙ k.from_it.0.0, l.from_it.0.1 ∙ k.from_it.0.1, l.from_it.0.2 ∙ k.from_it.0.2, l.from_it.0.3 ∙ k.from_it.0.3), l.from_it.1 ∙ k.from_it.1);
  running = l.running ∙ k.running;
}

pub kept_line : {L F D J O : Type 0} (identity : L → Identity) (promise : J → O → Type 0) (handed : O → Handed L F D) (a b : Line L J O)
    → KeepsLine a b → IsLine identity promise handed a → IsLine identity promise handed b
kept_line {L} {F} {D} {J} {O} identity promise handed a b k line = record {
  inward = line.inward;
  outward = line.outward;
  to_it = (line.to_it.0 ∙ sym k.to_it.0.0, line.to_it.1 ∙ sym k.to_it.0.1, line.to_it.2 ∙ sym k.to_it.0.2, line.to_it.3 ∙ sym k.to_it.0.3);
  from_it = (k.from_it.0.0 ∙ line.from_it.0, k.from_it.0.1 ∙ line.from_it.1, k.from_it.0.2 ∙ line.from_it.2, k.from_it.0.3 ∙ line.from_it.3);
  balanced = line.balanced;
  accounts = subst (λ (r : Running J O). (out : O) → promise (job_of r) out → Accounts identity line.inward line.outward (handed out))
      (sym k.running) line.accounts;
}
