-- What the system's answers mean.
use Rattle.std.specs.Prelude.{◌≡◌, ◌≢◌, ◌⊎◌, ℕ, zero, suc, Result, Ok, Err}
use Rattle.std.specs.IoError.{error_kind}
use Rattle.std.specs.declared.io.Error.{Error}
use Rattle.std.specs.declared.io.ErrorKind.{ErrorKind}
use Rattle.std.specs.declared.io.ErrorKind.TheVariants.{WouldBlock, Interrupted, ConnectionRefused, ConnectionAborted, ConnectionReset}
use Rattle.futures.specs.declared.task.Poll.{Poll}
use Rattle.futures.specs.declared.task.Poll.TheVariants.{Ready, Pending}
use Rattle.service_core.specs.declared.link.LinkFault.{LinkFault}
use Rattle.service_core.specs.declared.link.LinkFault.TheVariants as Fault
use Rattle.service_core.specs.Link.{raised}
use Rattle.server_run.specs.declared.listener.Accepted.{Accepted}
use Rattle.server_run.specs.declared.listener.Accepted.TheVariants as Accepts
use Rattle.server_sockets.specs.declared.answer.Answer.{Answer}
use Rattle.server_sockets.specs.declared.answer.Answer.TheVariants.{Moved, NotYet, Failed}
use Rattle.server_sockets.specs.declared.refusal.Refusal.{Refusal}
use Rattle.server_sockets.specs.declared.refusal.Refusal.TheVariants as Refused

-- a read or a write moved nothing, and is to be tried again
abbrev pub IsForLater : ErrorKind → Type 0
IsForLater kind = (kind ≡ WouldBlock) ⊎ (kind ≡ Interrupted)

-- what an error of a read or a write means
pub record MeansOfError (kind : ErrorKind) (answer : Answer) : Type 0 where
  pub later : IsForLater kind → answer ≡ NotYet
  pub failed : (IsForLater kind → ⊥) → answer ≡ Failed

-- what the system's answer to a read or a write means
abbrev pub MeansOf : Result ℕ Error → Answer → Type 0
MeansOf (Ok n) answer = answer ≡ Moved n
MeansOf (Err error) answer = MeansOfError (error_kind error) answer

-- the count of bytes rises by those that were handed over
abbrev pub TakenCount : ℕ → ℕ → Poll (Result ℕ LinkFault) → Type 0
TakenCount before after (Ready (Ok n)) = after ≡ raised before n
TakenCount before after (Ready (Err fault)) = after ≡ before
TakenCount before after Pending = after ≡ before

-- what a link answers to a read that did this
abbrev pub TellsRead : Answer → Poll (Result ℕ LinkFault) → Type 0
TellsRead (Moved n) result = result ≡ Ready (Ok n)
TellsRead NotYet result = result ≡ Pending
TellsRead Failed result = result ≡ Ready (Err Fault.Failed)

-- what a link answers to a write that did this: one that takes no byte has failed
abbrev pub TellsWrite : Answer → Poll (Result ℕ LinkFault) → Type 0
TellsWrite (Moved zero) result = result ≡ Ready (Err Fault.Failed)
TellsWrite (Moved (suc n)) result = result ≡ Ready (Ok (suc n))
TellsWrite NotYet result = result ≡ Pending
TellsWrite Failed result = result ≡ Ready (Err Fault.Failed)

-- one connection failed before it was accepted
abbrev pub IsOfOneConnection : ErrorKind → Type 0
IsOfOneConnection kind = (kind ≡ ConnectionRefused) ⊎ ((kind ≡ ConnectionAborted) ⊎ (kind ≡ ConnectionReset))

-- what an error of an accept means
pub record MeansOfRefusal (kind : ErrorKind) (refusal : Refusal) : Type 0 where
  pub none_came : kind ≡ WouldBlock → refusal ≡ Refused.NotYet
  pub one_failed : IsOfOneConnection kind → refusal ≡ Refused.Skipped
  pub all_fail : kind ≢ WouldBlock → (IsOfOneConnection kind → ⊥) → refusal ≡ Refused.Failed

-- what a listener answers where an accept gave no connection
abbrev pub TellsRefusal : {L : Type 0} → Refusal → Accepted L → Type 0
TellsRefusal Refused.NotYet result = result ≡ Accepts.NotYet
TellsRefusal Refused.Skipped result = result ≡ Accepts.Skipped
TellsRefusal Refused.Failed result = result ≡ Accepts.Failed
