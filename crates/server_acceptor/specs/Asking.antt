-- What the asking of one listener means for a turn.
use Rattle.std.specs.Prelude.{◌≡◌, ℕ, ◌+◌, Bool, [], List, Option, Some, true, count_by}
use Rattle.service_core.specs.Link.{Identity}
use Rattle.server_core.specs.Core.{is_open}
use Rattle.server_run.specs.Delivery.{given_at}
use Rattle.server_run.specs.Listener.{Mark}
use Rattle.server_run.specs.declared.entry.Entry.{Entry}
use Rattle.server_acceptor.specs.Accepting.{AsksFrom, GaveOrSkipped, HasSettled, HasTaken, MayAsk, Proceeds, is_failed, refused}
use Rattle.server_acceptor.specs.Acceptors.{core_of, events_of, out_of}
use Rattle.server_acceptor.specs.declared.acceptor.Acceptor.{Acceptor}
use Rattle.server_acceptor.specs.declared.asked.Asked.{Asked}
use Rattle.server_acceptor.specs.declared.asked.Asked.TheVariants.{Got, NotYet, Skipped, Failed, Ended}

-- it goes on from before, and asked this listener alone; no ring refused anything, and no note came
pub record AskDoes {Li L D : Type 0} (given : Li → ℕ) (left : Li → Option (List L)) (rest : Li → Option (List Mark)) (identity : L → Identity) (ended : Li → Bool) (faults : Li → ℕ)
    (taken : D → Option (List (Entry L))) (count served : D → ℕ) (before after : List Li) (a b : Acceptor L) (t : ℕ) (d : D) : Type 0 where
  pub proceeds : Proceeds given left rest identity ended faults taken count served before after a b d d
  pub asks : AsksFrom before after a b t (t + 1)
  pub same_refused : refused (Some []) (events_of b) ≡ refused (Some []) (events_of a)
  pub told : HasTaken b

-- a listener that may be asked again
pub record StaysOpen {L : Type 0} (a b : Acceptor L) (t : ℕ) : Type 0 where
  pub opened : is_open (core_of b) t ≡ true
  pub failures : count_by (is_failed t) (events_of b) ≡ count_by (is_failed t) (events_of a)

-- what its answer comes to
abbrev pub ComesTo : {Li L : Type 0} → (Li → ℕ) → (Li → ℕ) → (Li → ℕ) → List Li → List Li → Acceptor L → Acceptor L → ℕ → ℕ → Asked → Type 0
ComesTo given waits skips before after a b t now Got = StaysOpen a b t × (given_at given after t ≡ given_at given before t + 1) × (out_of b ≡ out_of a + 1)
ComesTo given waits skips before after a b t now Skipped = StaysOpen a b t × GaveOrSkipped given skips before after t × (out_of b ≡ out_of a) × MayAsk b
ComesTo given waits skips before after a b t now NotYet = HasSettled waits before after b now t × (out_of b ≡ out_of a) × MayAsk b
ComesTo given waits skips before after a b t now Failed = HasSettled waits before after b now t × (out_of b ≡ out_of a) × MayAsk b
ComesTo given waits skips before after a b t now Ended = HasSettled waits before after b now t × (out_of b ≡ out_of a) × MayAsk b

-- what the making of room leaves as it was
pub record MakesRoom {L : Type 0} (a b : Acceptor L) : Type 0 where
  pub core : b.core ≡ a.core
  pub events : b.events ≡ a.events
  pub parcels : b.parcels ≡ a.parcels
  pub notes : b.notes ≡ a.notes
  pub ready : b.ready ≡ a.ready
  pub waiting : b.waiting ≡ a.waiting
  pub serial : b.serial ≡ a.serial
  pub places : b.places ≡ a.places
  pub failed : b.failed ≡ a.failed
  pub first : b.first ≡ a.first
  pub limit : b.limit ≡ a.limit
  pub retry_limit : b.retry_limit ≡ a.retry_limit
  pub forced : b.forced ≡ a.forced
  pub stop : b.stop ≡ a.stop
  pub shutdown_timeout : b.shutdown_timeout ≡ a.shutdown_timeout
  pub lacks : a.lacks_room ≡ true → b.lacks_room ≡ true
