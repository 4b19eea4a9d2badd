-- A dispatcher at its start, and how it goes on and ends.
use Rattle.std.proofs.Common.{◌≡◌, ◌⊎◌, ℕ, List, [], ap, refl, inl, inr, Option, Some, None}
use Rattle.std.specs.Prelude.{Result, Ok, Err, IfSome}
use Rattle.std.specs.Arc.{arc_value}
use Rattle.std.specs.Prelude.{drop}
use Rattle.futures.specs.declared.future.Future.{Ghosts as FutureOf}
use Rattle.http1_grammar.specs.Wire.{Response}
use Rattle.http1_plain.specs.declared.request.Request.{Request}
use Rattle.http_flow.specs.Upgrading.{Asked}
use Rattle.http_flow.specs.declared.framed.Handed.{Handed}
use Rattle.service_core.specs.declared.ended.Ended.{Ended}
use Rattle.service_core.specs.declared.ended.How.TheVariants.{Memory}
use Rattle.service_core.specs.declared.link.Link.{Ghosts as LinkOf}
use Rattle.service_core.specs.declared.peer.Peer.{Peer}
use Rattle.service_core.specs.declared.service.Service.{Ghosts as ServiceOf}
use Rattle.http1_dispatcher.specs.Requests.{Functions, Relations, served}
use Rattle.http1_dispatcher.specs.Connecting.{EndsUntouched, MayServe, MayUpgrade, hands_of, relations_of}
use Rattle.http1_dispatcher.specs.Connection.{IsPaused, Pauses, TookLittle}
use Rattle.http1_dispatcher.specs.Ending.{WroteBeyond, WroteSome}
use Rattle.http1_dispatcher.specs.Going.{Paused}
use Rattle.http1_dispatcher.specs.Dispatching.{GivesBy, Goes, IsKept, IsServing, MayCall, MayGive, connection_of, start_of}
use Rattle.http1_dispatcher.specs.declared.inner_dispatcher.InnerDispatcher.{InnerDispatcher}
use Rattle.http1_dispatcher.specs.declared.rules.Rules.{Rules}
use Rattle.http1_dispatcher.specs.declared.state.State.{State}
use Rattle.http1_dispatcher.specs.declared.state.State.TheVariants.{Answering, Upgraded, Refused, Over}
use Rattle.http1_dispatcher.specs.declared.terms.Terms.{Terms}
use Rattle.http1_dispatcher.proofs.GoingSteps.{memory_ends, quiet_answered, unmoved}
use Rattle.http1_dispatcher.proofs.Ways.{grew_none}

-- a link that was not touched is one that may be left for want of memory
pub refused_serves : {L E XE X : Type 0} (g : LinkOf L) (r : Relations E XE) (hands : Asked L → Handed L → Type 0) (rules : Rules) (peer : Peer)
    (link : L) (x : Result (Ended L) X) → EndsUntouched link x → MayServe g r hands rules peer link x
refused_serves g r hands rules peer link (Ok ended) u = rw (u.0, u.1) (record {
  ends = record { same = refl; faults = tt; wrote = λ f are. untouched f (g.identity link).held };
  upgraded = λ e. cc;
})
  where
    untouched : (f : Functions) (o : Option (List ℕ)) → IfSome o (λ all. WroteSome g (served rules peer f) link link (drop (g.taken link) all)
        ⊎ WroteBeyond g (served rules peer f) link link (drop (g.taken link) all))
    untouched f None = tt
    untouched f (Some all) =
        inl (record { front = []; back = (served rules peer f (drop (g.taken link) all)).0; grew = grew_none (g.written link); is = refl })
refused_serves g r hands rules peer link (Err e) u = absurd u

module _ {L S X U E XE UE F XF UF : Type 0} (g : LinkOf L) (sg : ServiceOf S Request Response E F) (meaning : E → Option Response)
    (xg : ServiceOf X Request Request XE XF) (refusing : XE → Option Response) (ug : ServiceOf U (Asked L) (Handed L) UE UF) where
  pub kept_serves : (sf : FutureOf F (Result Response E)) (xf : FutureOf XF (Result Request XE)) (uf : FutureOf UF (Result (Handed L) UE))
      (may_stand : UF → L → Type 0) (state : State L S X U Response E F Request XE XF (Handed L) UE UF)
      (inner : InnerDispatcher L S X U Response E F Request XE XF) → IsKept inner state
      → Goes g sg meaning sf xg refusing xf inner → MayCall sg xg inner.terms → MayUpgrade ug g may_stand (arc_value inner.terms.flow)
      → IsServing g sg meaning xg refusing ug sf xf uf may_stand state
  kept_serves sf xf uf may_stand (Answering box) inner k goes can up = rw k (goes, can, up)
  kept_serves sf xf uf may_stand (Upgraded upgrade) inner k goes can up = absurd k
  kept_serves sf xf uf may_stand (Refused link) inner k goes can up = tt
  kept_serves sf xf uf may_stand Over inner k goes can up = absurd k

  pub kept_gives : {A : Type 0} (state : State L S X U Response E F Request XE XF (Handed L) UE UF)
      (inner : InnerDispatcher L S X U Response E F Request XE XF) → IsKept inner state → inner.terms.before.value ≡ inner.link
      → (x : Result (Ended L) A) → MayGive g sg meaning xg refusing ug state x → GivesBy g sg meaning xg refusing ug inner.terms x
  kept_gives (Answering box) inner k b x given = rw k at given
  kept_gives (Upgraded upgrade) inner k b x given = absurd k
  kept_gives (Refused link) inner k b x given =
      rw b (refused_serves g (relations_of sg meaning xg refusing (arc_value inner.terms.flow)) (hands_of ug (arc_value inner.terms.flow))
      inner.terms.rules inner.terms.peer inner.link x (rw k at given))
  kept_gives Over inner k b x given = absurd k

module _ {L S X U E XE F XF : Type 0} (g : LinkOf L) (sg : ServiceOf S Request Response E F) (meaning : E → Option Response)
    (sf : FutureOf F (Result Response E)) (xg : ServiceOf X Request Request XE XF) (refusing : XE → Option Response)
    (xf : FutureOf XF (Result Request XE)) where
  -- a connection may be left as it stands
  pub leaves : {UE UF : Type 0} (ug : ServiceOf U (Asked L) (Handed L) UE UF) (inner : InnerDispatcher L S X U Response E F Request XE XF)
      → Goes g sg meaning sf xg refusing xf inner
      → GivesBy g sg meaning xg refusing ug {A = UE} inner.terms (Ok (record { link = inner.link; how = Memory }))
  leaves ug inner goes =
      let functions = relations_of sg meaning xg refusing (arc_value inner.terms.flow) in
      record {
        ends = memory_ends g functions (start_of inner.terms) sf xf inner.link inner.link inner.exchange inner.awaited
            (unmoved g functions (start_of inner.terms) sf xf inner.link) goes;
        upgraded = λ e. cc;
      }

  -- a poll that waits while requests are answered
  pub pauses : (old new : InnerDispatcher L S X U Response E F Request XE XF) → new.terms ≡ old.terms
      → Goes g sg meaning sf xg refusing xf new → Paused g old.link new.link new.exchange old.waits new.waits
      → TookLittle g old.link new.link
      → Pauses g (relations_of {U = U} sg meaning xg refusing) (connection_of old) (connection_of new)
  pauses old new t goes p little = record {
    start = ap start_of t;
    flow = ap (λ (terms : Terms L S X U). arc_value terms.flow) t;
    paused = by p;
    little = little;
  }
    where
      by : Paused g old.link new.link new.exchange old.waits new.waits
          → IsPaused g (relations_of {U = U} sg meaning xg refusing) (connection_of old) (connection_of new)
      by (inl writes) = inl writes
      by (inr (inl waited)) = inr (inl waited)
      by (inr (inr quiet)) = inr (inr (
        quiet_answered g (relations_of sg meaning xg refusing (arc_value new.terms.flow)) (start_of new.terms) sf xf new.link new.exchange new.awaited quiet.0 goes,
        quiet.1,
      ))
