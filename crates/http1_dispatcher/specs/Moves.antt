-- What writing and reading do to a link.
use Rattle.std.specs.Prelude.{◌≡◌, ℕ, ◌+◌, ◌⊎◌, List, [], ◌++◌, length, drop, IfSome}
use Rattle.futures.specs.declared.task.Poll.{Poll}
use Rattle.futures.specs.declared.task.Poll.TheVariants.{Ready, Pending}
use Rattle.http1_grammar.specs.Reading.{Reading, fed}
use Rattle.service_core.specs.Counts.{Rose}
use Rattle.service_core.specs.declared.ended.How.TheVariants.{Served, ReadFault, WriteFault, Memory}
use Rattle.service_core.specs.declared.link.Link.{Ghosts as LinkOf}
use Rattle.http_flow.specs.Upgrading.{Grew}
use Rattle.http1_dispatcher.specs.declared.turn.Turn.{Turn}
use Rattle.http1_dispatcher.specs.declared.turn.Turn.TheVariants.{On, Out}
use Rattle.http1_dispatcher.specs.declared.turn.Exit.TheVariants.{Ended}

module _ {L : Type 0} (g : LinkOf L) (old new : L) where
  -- these bytes were written, and nothing was read
  pub record Wrote (put : List ℕ) : Type 0 where
    pub same : g.identity new ≡ g.identity old
    pub grew : Grew (g.written old) (g.written new) put
    pub taken : g.taken new ≡ g.taken old
    pub read_faults : g.read_faults new ≡ g.read_faults old
    pub read_waits : g.read_waits new ≡ g.read_waits old

  -- a front of what waits was written
  pub record Flushed (before after : List ℕ) : Type 0 where
    pub put : List ℕ
    pub is : before ≡ put ++ after
    pub wrote : Wrote put

  -- how it was left
  abbrev pub FlushAnswer : List ℕ → Poll Turn → Type 0
  FlushAnswer after (Ready On) =
      (after ≡ []) × (g.write_faults new ≡ g.write_faults old) × (g.write_waits new ≡ g.write_waits old)
  FlushAnswer after (Ready (Out exit)) =
      ((exit ≡ Ended WriteFault) × Rose (g.write_faults old) (g.write_faults new)) ⊎ (exit ≡ Ended Memory)
  FlushAnswer after Pending = Rose (g.write_waits old) (g.write_waits new) × (g.write_faults new ≡ g.write_faults old)

  -- nothing was written
  pub record KeptWriting : Type 0 where
    pub same : g.identity new ≡ g.identity old
    pub written : g.written new ≡ g.written old
    pub write_faults : g.write_faults new ≡ g.write_faults old
    pub write_waits : g.write_waits new ≡ g.write_waits old

  -- these bytes were taken
  pub record Gave (bytes all : List ℕ) : Type 0 where
    pub count : g.taken new ≡ g.taken old + length bytes
    pub bytes_are : bytes ++ drop (g.taken new) all ≡ drop (g.taken old) all

  -- what one read gave, before and after which the reader is this
  abbrev pub FillAnswer : Reading → Reading → Poll Turn → Type 0
  FillAnswer before after (Ready On) = (bytes : List ℕ) × (after ≡ fed before bytes)
      × IfSome (g.identity old).held (Gave bytes) × Rose (g.taken old) (g.taken new) × (g.read_faults new ≡ g.read_faults old)
  FillAnswer before after (Ready (Out (Ended Served))) =
      IfSome (g.identity old).held (λ all. drop (g.taken old) all ≡ []) × (g.read_faults new ≡ g.read_faults old)
  FillAnswer before after (Ready (Out (Ended ReadFault))) = (g.taken new ≡ g.taken old) × Rose (g.read_faults old) (g.read_faults new)
  FillAnswer before after (Ready (Out (Ended Memory))) = Unit {0}
  FillAnswer before after (Ready (Out exit)) = ⊥
  FillAnswer before after Pending = (after ≡ before) × (g.taken new ≡ g.taken old)
      × Rose (g.read_waits old) (g.read_waits new) × (g.read_faults new ≡ g.read_faults old)
