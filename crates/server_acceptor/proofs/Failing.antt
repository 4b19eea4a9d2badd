-- How often a listener failed in a row, where the acceptor was new.
use Rattle.std.proofs.Common.{◌≡◌, ◌<◌, ℕ, true, false, List, Option, sym, ◌∙◌, ap, arith, subst}
use Rattle.std.specs.Prelude.{◌↔◌, slice_index}
use Rattle.std.proofs.lemmas.List.{get_or_default}
use Rattle.service_core.specs.Link.{Identity}
use Rattle.server_core.specs.Core.{fresh}
use Rattle.server_core.specs.declared.event.Event.{Event}
use Rattle.server_run.specs.Listener.{Mark, in_a_row}
use Rattle.server_run.specs.Report.{HasFailed}
use Rattle.server_run.specs.declared.report.ListenerState.{ListenerState}
use Rattle.server_run.specs.declared.report.ListenerState.TheVariants.{Ended, Faulted, Open}
use Rattle.server_acceptor.specs.Accepting.{Logged, marks_of}
use Rattle.server_acceptor.specs.Acceptors.{core_of, listeners_of, retry_limit_of}
use Rattle.server_acceptor.specs.States.{IsStateOf}
use Rattle.server_acceptor.specs.declared.acceptor.Acceptor.{Acceptor}
use Rattle.server_acceptor.proofs.NewSteps.{zero_at}

module _ {Li L : Type 0} (given : Li → ℕ) (rest : Li → Option (List Mark)) (faults : Li → ℕ) (identity : L → Identity) (before after : List Li) (a b : Acceptor L) (events : List Event) (workers listeners : ℕ)
    (new : core_of a ≡ fresh workers listeners) (logged : Logged given rest faults identity before after a b events) (t : ℕ) where
  -- the core counts the failures that came of it last
  pub counts_failures : slice_index (core_of b).failures t ≡ in_a_row 0 (marks_of t events)
  counts_failures = logged.failures t ∙ ap (λ n. in_a_row n (marks_of t events)) (ap (λ s. slice_index s.failures t) new ∙ zero_at listeners t)

  pub has_failed : (limit : ℕ) (told : Type 0) → told ↔ (slice_index (core_of b).failures t ≡ limit) → HasFailed rest limit before after t told
  has_failed limit told exactly = record {
    came = marks_of t events;
    gone = logged.marked t;
    exactly = (λ is. sym counts_failures ∙ exactly.0 is, λ full. exactly.1 (counts_failures ∙ full));
  }

-- one is told as given up exactly where the core counts so many failures
pub faulted_exactly : {L : Type 0} (b : Acceptor L) (t : ℕ) (state : ListenerState) → t < listeners_of b → IsStateOf (core_of b) (retry_limit_of b) t state
    → (state ≡ Faulted (retry_limit_of b)) ↔ (slice_index (core_of b).failures t ≡ retry_limit_of b)
faulted_exactly b t state inside is = (λ same. (subst (λ s. IsStateOf (core_of b) (retry_limit_of b) t s) same is).1, by_state state is)
  where
    by_state : (state : ListenerState) → IsStateOf (core_of b) (retry_limit_of b) t state → slice_index (core_of b).failures t ≡ retry_limit_of b → state ≡ Faulted (retry_limit_of b)
    by_state Ended is full = absurd (is.1 full)
    by_state (Faulted failures) is full = ap Faulted is.2
    by_state Open is full = absurd (omega (arith, b.patient t (get_or_default b.core.ended t true false inside ∙ is), full))
