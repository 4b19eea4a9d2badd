-- Turns of the acceptor, one behind the other.
use Rattle.std.proofs.Common.{◌≡◌, ◌^◌, ◌<◌, ◌≤◌, ℕ, ◌++◌, Bool, false, [], List, Option, slice_index_or, None, Some, IfSome, true, refl, ap, subst, sym, ◌∙◌}
use Rattle.service_core.specs.Link.{Identity}
use Rattle.server_acceptor.proofs.DoesSteps.{acts_none, acts_trans}
use Rattle.server_acceptor.specs.Accepting.{Acts, Finishes}
use Rattle.server_acceptor.specs.Acceptors.{all_ready, out_of, places_of}
use Rattle.server_acceptor.specs.Parting.{LeavesRest}
use Rattle.server_acceptor.specs.declared.acceptor.Acceptor.{Acceptor}
use Rattle.server_core.specs.declared.event.Event.{Event}
use Rattle.server_run.specs.Listener.{Mark}
use Rattle.server_run.specs.Report.{is_stop}
use Rattle.server_run.specs.Delivery.{given_at}
use Rattle.server_run.specs.declared.entry.Entry.{Entry}
use Rattle.server.specs.Accepting.{Accepts, CanAccept, Ends, ends_alone}
use Rattle.server_run.specs.declared.report.End.{End}
use Rattle.server_run.specs.declared.report.End.TheVariants.{Drained, Stopped, NoWorkers, Memory}

module _ {Li L D : Type 0} (given : Li → ℕ) (left : Li → Option (List L)) (rest : Li → Option (List Mark)) (identity : L → Identity) (ended : Li → Bool) (faults : Li → ℕ)
    (taken : D → Option (List (Entry L))) (count served : D → ℕ) where
  -- it made no turn yet
  pub accepts_none : (ls : List Li) (a : Acceptor L) (d : D) → (count d < 2 ^ 64) × (served d < 2 ^ 64) → Accepts given left rest identity ended faults taken count served ls ls a a d d false
  accepts_none ls a d fits = record { events = []; acts = acts_none given left rest identity ended faults taken count served ls a d fits }

  -- it made one turn more
  pub accepts_more : (l m n : List Li) (a b c : Acceptor L) (x y z : D) (events : List Event) (last : Bool) → Accepts given left rest identity ended faults taken count served l m a b x y false
      → Acts given left rest identity ended faults taken count served m n b c y z events last → Accepts given left rest identity ended faults taken count served l n a c x z last
  accepts_more l m n a b c x y z events last p q = record {
    events = p.events ++ events;
    acts = acts_trans given left rest identity ended faults taken count served l m n a b c x y z p.events events last p.acts q;
  }

  pub accepts_as : (l m : List Li) (a b : Acceptor L) (x y : D) (last other : Bool) → other ≡ last → Accepts given left rest identity ended faults taken count served l m a b x y last → Accepts given left rest identity ended faults taken count served l m a b x y other
  accepts_as l m a b x y last other same accepts = subst (Accepts given left rest identity ended faults taken count served l m a b x y) (sym same) accepts

  -- it may make a turn after one
  pub can_accept_on : (m n : List Li) (b c : Acceptor L) (y z : D) (before spare : ℕ) (events : List Event) (last : Bool) → CanAccept given m b before → Acts given left rest identity ended faults taken count served m n b c y z events last
      → ((t : ℕ) → slice_index_or (places_of c) t 0 ≤ given_at given n t) → out_of c ≤ spare → CanAccept given n c spare
  can_accept_on m n b c y z before spare events last can does more room = record {
    as_many = does.as_many ∙ can.as_many ∙ sym does.listeners;
    given_more = more;
    room = room;
  }

  -- and after workers were joined
  pub can_accept_leaves : (m : List Li) (b c : Acceptor L) (before spare : ℕ) → CanAccept given m b before → LeavesRest b c → out_of c ≤ spare → CanAccept given m c spare
  can_accept_leaves m b c before spare can rest room = record {
    as_many = can.as_many ∙ sym rest.listeners;
    given_more = λ t. subst (λ ps. slice_index_or ps t 0 ≤ given_at given m t) (sym rest.places) (can.given_more t);
    room = room;
  }

-- the acceptor does not say that no worker is left
not_alone : {L : Type 0} (a : Acceptor L) (end : End) → Finishes a end → ends_alone (Some end) ≡ false
not_alone a Drained f = refl
not_alone a (Stopped graceful) f = refl
not_alone a NoWorkers f = absurd f
not_alone a Memory f = refl

ends_so : {L : Type 0} (may_fault : Type 0) (a : Acceptor L) (end : End) → Finishes a end → Ends may_fault a end
ends_so may_fault a Drained f = f
ends_so may_fault a (Stopped graceful) f = f
ends_so may_fault a NoWorkers f = absurd f
ends_so may_fault a Memory f = f

-- the same of how the run ends where the acceptor finished so
pub found_alone : {L : Type 0} (a : Acceptor L) (end : End) (o : Option End) (X : Type 0) → Finishes a end → IfSome o (λ found. (found ≡ end) × X) → ends_alone o ≡ false
found_alone a end None X finishes some = refl
found_alone a end (Some found) X finishes some = ap (λ e. ends_alone (Some e)) some.0 ∙ not_alone a end finishes

pub found_ends : {L : Type 0} (may_fault : Type 0) (a : Acceptor L) (end : End) (o : Option End) → Finishes a end → IfSome o (λ found. (found ≡ end) × (is_stop end ≡ false → all_ready a ≡ true))
    → IfSome o (λ e. (is_stop e ≡ false → all_ready a ≡ true) × Ends may_fault a e)
found_ends may_fault a end None finishes some = tt
found_ends may_fault a end (Some found) finishes some = subst (λ e. (is_stop e ≡ false → all_ready a ≡ true) × Ends may_fault a e) (sym some.0) (some.1, ends_so may_fault a end finishes)
