-- How a link is handed over to another protocol, and how it comes back.
use Rattle.std.proofs.Common.{◌≡◌, ◌⊎◌, ℕ, List, [], ◌++◌, drop, sym, ap, ◌∙◌, refl, inl, inr, Option, Some, None, append-nil}
use Rattle.std.specs.Prelude.{Result, Ok, IfSome}
use Rattle.futures.specs.declared.future.Future.{Ghosts as FutureOf}
use Rattle.http1_grammar.specs.Answers.{Answers, after, up}
use Rattle.http1_grammar.specs.Wire.{Response}
use Rattle.http1_plain.specs.Views.{view}
use Rattle.http1_plain.specs.declared.request.Request.{Request}
use Rattle.http1_plain.specs.declared.request_head.RequestHead.{RequestHead}
use Rattle.http_flow.specs.Creating.{OfPart, OfSomePart}
use Rattle.http_flow.specs.Upgrading.{Asked, HandsBack, IsLater, IsUpgrade}
use Rattle.http_flow.specs.declared.framed.Handed.{Handed}
use Rattle.http_flow.specs.declared.framed.HandedEnd.{HandedEnd}
use Rattle.http_flow.specs.declared.framed.HandedEnd.TheVariants.{Done, Fault, Memory as OutOfMemory}
use Rattle.service_core.specs.Meaning.{GivesOnly}
use Rattle.service_core.specs.declared.ended.How.TheVariants.{Upgraded, Memory}
use Rattle.service_core.specs.declared.link.Link.{Ghosts as LinkOf}
use Rattle.service_core.specs.declared.service.Service.{Ghosts as ServiceOf}
use Rattle.http1_dispatcher.specs.Requests.{Functions, Relations, served}
use Rattle.http1_dispatcher.specs.Ending.{EndsIn, EndsWith, HandsOver, WroteBeyond}
use Rattle.http1_dispatcher.specs.Progress.{Progress, Took, owed}
use Rattle.http1_dispatcher.specs.Going.{IsGoing, Start}
use Rattle.http1_dispatcher.specs.Dispatching.{IsUpgrading, how_of}
use Rattle.http1_dispatcher.specs.declared.awaited.Awaited.{Awaited}
use Rattle.http1_dispatcher.specs.declared.exchange.Exchange.{Exchange}
use Rattle.http1_dispatcher.specs.declared.exchange.Stage.TheVariants.{Upgrading}
use Rattle.http1_dispatcher.proofs.Ways.{grew_more, if_some}

-- ---- how it is handed over

-- the answers end in an upgrade, where those still owed are an upgrade alone
ends_in : {L : Type 0} (g : LinkOf L) (served owes : List ℕ → Answers) (before : L) (asked : Asked L)
    → ((more : List ℕ) → owes more ≡ ([], up (view asked.0.head) (asked.1.unread ++ more)))
    → Progress g before asked.1.link served owes → IfSome (g.identity before).held (EndsIn g served before asked)
ends_in g served owes before asked e p = if_some _ _ (g.identity before).held (λ all t. record {
  wrote = rw (whole all t) p.wrote;
  is_up = rw (whole all t) refl;
}) p.took
  where
    whole : (all : List ℕ) → Took g before asked.1.link p.got all
        → served (drop (g.taken before) all) ≡ (p.put, up (view asked.0.head) (asked.1.unread ++ drop (g.taken asked.1.link) all))
    whole all t = ap served (sym t.bytes) ∙ p.goes (drop (g.taken asked.1.link) all)
        ∙ ap (after p.put) (e (drop (g.taken asked.1.link) all))
        ∙ ap (λ x. (x, up (view asked.0.head) (asked.1.unread ++ drop (g.taken asked.1.link) all))) (append-nil p.put)

module _ {L E XE F XF : Type 0} (g : LinkOf L) (r : Relations E XE) (start : Start L) (sf : FutureOf F (Result Response E))
    (xf : FutureOf XF (Result Request XE)) where
  pub hands_over : (link : L) (exchange : Exchange) (awaited : Awaited F XF) (head : RequestHead) (asked : Asked L)
      → exchange.stage ≡ Upgrading head → exchange.out ≡ []
      → asked ≡ (record { head = head; body = []; peer = start.peer }, record { link = link; unread = exchange.reader.unread })
      → IsGoing g r start sf xf link exchange awaited → HandsOver g r start.rules start.peer start.link asked
  hands_over link exchange awaited head asked s o is going = rw is (record {
    is_bare = refl;
    same = going.sound.same;
    given = λ f are. ends_in g (served start.rules start.peer f) (owed start.rules start.peer f exchange) start.link
        (record { head = head; body = []; peer = start.peer }, record { link = link; unread = exchange.reader.unread })
        (λ more. rw (s, o) refl) (going.goes f are);
  })

-- the upgrade service was asked
pub upgrading : {L E XE U UE UF : Type 0} (g : LinkOf L) (r : Relations E XE) (start : Start L)
    (ug : ServiceOf U (Asked L) (Handed L) UE UF) (uf : FutureOf UF (Result (Handed L) UE)) (may_stand : UF → L → Type 0)
    (asked : Asked L) (future : UF) (part : Option U) (u : U) → part ≡ Some u
    → OfPart part (λ v. ug.can_call v × IsUpgrade g (ug.may v) (ug.may_begin v) may_stand)
    → ug.may_begin u asked future → GivesOnly uf future (ug.may u asked)
    → HandsOver g r start.rules start.peer start.link asked
    → IsUpgrading g r start (λ q x. OfSomePart part (λ v. ug.may v q x)) uf may_stand asked future
upgrading g r start ug uf may_stand asked future None u e m b f h = cc
upgrading g r start ug uf may_stand asked future (Some v) u e m b f h =
    let same : v ≡ u = cc in
    record {
      given = h;
      fits = rw same f;
      hands = λ x given. m.1.hands asked x given;
      stands = λ link stands. m.1.leaves asked future link (rw same b) stands;
    }

-- ---- how it comes back

module _ {L E XE UE : Type 0} (g : LinkOf L) (r : Relations E XE) (start : Start L) (may : Asked L → Result (Handed L) UE → Type 0)
    (asked : Asked L) (given : HandsOver g r start.rules start.peer start.link asked) where
  beyond : (link : L) (f : Functions) (all : List ℕ) → IsLater g asked.1.link link
      → EndsIn g (served start.rules start.peer f) start.link asked all
      → WroteBeyond g (served start.rules start.peer f) start.link link (drop (g.taken start.link) all)
  beyond link f all later e = record {
    head = view asked.0.head;
    rest = asked.1.unread ++ drop (g.taken asked.1.link) all;
    is_up = e.is_up;
    more = later.put;
    grew = grew_more _ _ _ _ _ e.wrote later.grew;
  }

  -- memory ran out once it was handed over
  pub later_ends : (link : L) → IsLater g asked.1.link link
      → EndsWith g r start.rules start.peer start.link (λ q handed. may q (Ok handed)) link Memory
  later_ends link later = record {
    ends = record {
      same = later.same ∙ given.same;
      faults = tt;
      wrote = λ f are. if_some _ _ (g.identity start.link).held (λ all e. inr (beyond link f all later e)) (given.given f are);
    };
    upgraded = λ e. cc;
  }

  back_ends : (handed : Handed L) → (handed.end ≡ Done) ⊎ (handed.end ≡ Fault) → may asked (Ok handed)
      → IsLater g asked.1.link handed.link
      → EndsWith g r start.rules start.peer start.link (λ q handed. may q (Ok handed)) handed.link Upgraded
  back_ends handed end m later = record {
    ends = record {
      same = later.same ∙ given.same;
      faults = tt;
      wrote = λ f are. if_some _ _ (g.identity start.link).held (λ all e. beyond handed.link f all later e) (given.given f are);
    };
    upgraded = λ e. record {
      asked = asked;
      handed = handed;
      given = given;
      hands_back = m;
      link_is = refl;
      end_is = end;
    };
  }

  pub handed_ends : (link : L) (end : HandedEnd) → may asked (Ok (record { link = link; end = end }))
      → HandsBack {E = UE} g asked.1.link (Ok (record { link = link; end = end }))
      → EndsWith g r start.rules start.peer start.link (λ q handed. may q (Ok handed)) link (how_of end)
  handed_ends link Done m back = back_ends (record { link = link; end = Done }) (inl refl) m back.0
  handed_ends link Fault m back = back_ends (record { link = link; end = Fault }) (inr refl) m back.0
  handed_ends link OutOfMemory m back = later_ends link back.0
