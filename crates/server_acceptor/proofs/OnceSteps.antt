-- That other steps stand before and behind the asking of a listener.
use Rattle.std.proofs.Common.{◌≡◌, ◌^◌, ◌<◌, ℕ, ◌+◌, Bool, true, List, Option, length, ◌∙◌, ap₂, arith, inr}
use Rattle.std.specs.Prelude.{◌&&◌, not, count_by, nat_lt}
use Rattle.server_core.specs.Core.{is_open}
use Rattle.service_core.specs.Link.{Identity}
use Rattle.server_run.specs.Done.{Keeps}
use Rattle.server_run.specs.Listener.{Mark}
use Rattle.server_run.specs.declared.entry.Entry.{Entry}
use Rattle.server_acceptor.specs.Accepting.{AsksFrom, IsOutside, Proceeds, is_failed}
use Rattle.server_acceptor.specs.Acceptors.{core_of, events_of}
use Rattle.server_acceptor.specs.Asking.{AskDoes, MakesRoom}
use Rattle.server_acceptor.specs.declared.acceptor.Acceptor.{Acceptor}
use Rattle.server_acceptor.proofs.DoesSteps.{proceeds_trans}
use Rattle.server_acceptor.proofs.LeaveSteps.{leaves_trans}
use Rattle.server_acceptor.proofs.RoomSteps.{room_asks_none, room_proceeds}

nowhere : (t : ℕ) → IsOutside 0 0 t
nowhere t = inr (omega arith)

module _ {Li L : Type 0} (l m n : List Li) (a b c : Acceptor L) (from to : ℕ) where
  -- after it nothing was asked
  pub asks_then : AsksFrom l m a b from to → AsksFrom m n b c 0 0 → AsksFrom l n a c from to
  asks_then p q = record {
    leaves = leaves_trans a b c p.leaves q.leaves;
    first = q.first ∙ p.first;
    listeners = λ t out. q.listeners t (nowhere t) ∙ p.listeners t out;
    failed = λ t out. q.failed t (nowhere t) ∙ p.failed t out;
    ended = λ t out. q.ended t (nowhere t) ∙ p.ended t out;
    others = λ t out. q.others t (nowhere t) ∙ p.others t out;
    once = λ t. omega (arith, q.others t (nowhere t), p.once t);
  }

  -- nothing was asked before
  pub asks_after : AsksFrom l m a b 0 0 → AsksFrom m n b c from to → AsksFrom l n a c from to
  asks_after p q = record {
    leaves = leaves_trans a b c p.leaves q.leaves;
    first = q.first ∙ p.first;
    listeners = λ t out. q.listeners t out ∙ p.listeners t (nowhere t);
    failed = λ t out. q.failed t out ∙ p.failed t (nowhere t);
    ended = λ t out. q.ended t out ∙ p.ended t (nowhere t);
    others = λ t out. q.others t out ∙ p.others t (nowhere t);
    once = λ t. omega (arith, q.once t, p.others t (nowhere t));
  }

-- a listener that is open stays so where nothing is asked
pub open_then : {Li L : Type 0} (l m : List Li) (a b : Acceptor L) (t : ℕ) → AsksFrom l m a b 0 0 → length (core_of b).ended ≡ length (core_of a).ended → is_open (core_of a) t ≡ true → is_open (core_of b) t ≡ true
open_then l m a b t p as_many opened = ap₂ (λ k e. nat_lt t k && not e) as_many (p.ended t (nowhere t)) ∙ opened

pub failures_then : {Li L : Type 0} (l m : List Li) (a b : Acceptor L) (t : ℕ) → AsksFrom l m a b 0 0 → count_by (is_failed t) (events_of b) ≡ count_by (is_failed t) (events_of a)
failures_then l m a b t p = p.others t (nowhere t)

module _ {Li L D : Type 0} (given : Li → ℕ) (left : Li → Option (List L)) (rest : Li → Option (List Mark)) (identity : L → Identity) (ended : Li → Bool) (faults : Li → ℕ)
    (taken : D → Option (List (Entry L))) (count served : D → ℕ) (l m : List Li) (a r b : Acceptor L) (d e : D) (t : ℕ)
    (fits : (count d < 2 ^ 64) × (served d < 2 ^ 64)) (room : MakesRoom a r) (keeps : Keeps taken count served d e)
    (did : AskDoes given left rest identity ended faults taken count served l m r b t e) where
  -- room was made, and the listener was asked
  pub once_proceeds : Proceeds given left rest identity ended faults taken count served l m a b d e
  once_proceeds = proceeds_trans given left rest identity ended faults taken count served l l m a r b d e e
      (room_proceeds given left rest identity ended faults taken count served l a r d e fits room keeps) did.proceeds

  pub once_asks : AsksFrom l m a b t (t + 1)
  once_asks = asks_after l l m a r b t (t + 1) (room_asks_none l a r 0 0 room) did.asks

  module _ (c : Acceptor L) (f : D) (placed : Proceeds given left rest identity ended faults taken count served m m b c e f) (none : AsksFrom m m b c 0 0) where
    -- and what came was put on a ring
    pub once_placed : Proceeds given left rest identity ended faults taken count served l m a c d f
    once_placed = proceeds_trans given left rest identity ended faults taken count served l m m a b c d e f once_proceeds placed

    pub once_asked : AsksFrom l m a c t (t + 1)
    once_asked = asks_then l m m a b c t (t + 1) once_asks none
