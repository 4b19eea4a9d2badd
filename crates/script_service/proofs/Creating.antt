-- What the services of a replayed script's connections give.
use Rattle.std.proofs.Common.{◌≡◌, ℕ, List, Bool, true, Option, Some, None, Result, Ok, Err, sym, subst}
use Rattle.std.specs.Option.{is_some}
use Rattle.http_flow.specs.Creating.{FailsInOrder, OfPart, OfSomePart}
use Rattle.cors_answer.specs.Transforms.{Refuses}
use Rattle.cors_answer.specs.declared.init_error.CorsInitError.{CorsInitError}
use Rattle.cors_rules.specs.Policy.{Builder}
use Rattle.handlers.specs.Echoing.{BeginsEcho, EchoGives, Echoed, MayEcho}
use Rattle.handlers.specs.declared.echo.Echo.{Echo}
use Rattle.http_flow.specs.Upgrading.{Asked, EndFits, HandsBack, IsLater, IsUpgrade}
use Rattle.http_flow.specs.declared.framed.HandedEnd.{HandedEnd}
use Rattle.http_flow.specs.declared.framed.HandedEnd.TheVariants.{Done, Fault, Memory as OutOfMemory}
use Rattle.http_flow.specs.declared.http_init_error.HttpInitError.{HttpInitError}
use Rattle.http_flow.specs.declared.http_init_error.HttpInitError.TheVariants as init
use Rattle.http_flow.specs.declared.never.Never.{Never}
use Rattle.script.specs.declared.policy.script_rule.ScriptRule.{ScriptRule}
use Rattle.script_service.specs.Factories.{RefusesSite}
use Rattle.http_flow.specs.declared.framed.Handed.{Handed}
use Rattle.http1_dispatcher.specs.Ending.{EndsWith, WroteBy}
use Rattle.http1_dispatcher.specs.Requests.{AreFunctions, served}
use Rattle.http1_dispatcher.specs.declared.rules.Rules.{Rules}
use Rattle.http_service.specs.Serving.{Leaves, Serves, Serving}
use Rattle.script_service.specs.Serving.{LeavesScript, ServesScript}
use Rattle.script_service.specs.Sites.{Site, functions_at, rules_at}
use Rattle.server_run.specs.Creating.{OnlyEnds}
use Rattle.service_core.specs.declared.ended.Ended.{Ended}
use Rattle.service_core.specs.declared.ended.How.TheVariants.{Memory}
use Rattle.service_core.specs.declared.link.Link.{Ghosts as LinkOf}

module _ {L E XE : Type 0} (g : LinkOf L) (site : Site) (s : Serving L E XE) (are : AreFunctions s.relations (functions_at site))
    (rules : s.rules ≡ rules_at site) (echoes : (asked : Asked L) (handed : Handed L) → s.hands asked handed → site.echoes_upgrades ≡ true) (link : L) where
  ends_as : (ended : Ended L) → EndsWith g s.relations s.rules (g.identity link).peer link s.hands ended.link ended.how → ServesScript site g link ended
  ends_as ended e = record {
    same = e.ends.same;
    faults = e.ends.faults;
    wrote = subst (λ (x : Rules). WroteBy g (served x (g.identity link).peer (functions_at site)) link ended.link ended.how) rules
        (e.ends.wrote (functions_at site) are);
    upgraded = λ u. let taken = e.upgraded u in echoes taken.asked taken.handed taken.hands_back;
  }

  -- an end that the service of connections may give
  serves_script : {A : Type 0} (r : Result (Ended L) A) → Serves g s (g.identity link).peer link r → OnlyEnds (ServesScript site g link) r
  serves_script (Ok ended) e = ends_as ended e
  serves_script (Err error) e = e

  -- a link that it may leave
  leaves_script : (left : L) → Leaves g s (g.identity link).peer link left → LeavesScript site g link left
  leaves_script left e = ends_as (record { link = left; how = Memory }) e

-- the same, by what such a service may give or leave
pub serves_from : {L E XE A : Type 0} (s : Serving L E XE) (g : LinkOf L) (site : Site) (link : L) (r : Result (Ended L) A)
    → Serves g s (g.identity link).peer link r → AreFunctions s.relations (functions_at site) → s.rules ≡ rules_at site
    → ((asked : Asked L) (handed : Handed L) → s.hands asked handed → site.echoes_upgrades ≡ true) → OnlyEnds (ServesScript site g link) r
serves_from s g site link r given are rules echoes = serves_script g site s are rules echoes link r given

pub leaves_from : {L E XE : Type 0} (s : Serving L E XE) (g : LinkOf L) (site : Site) (link left : L)
    → Leaves g s (g.identity link).peer link left → AreFunctions s.relations (functions_at site) → s.rules ≡ rules_at site
    → ((asked : Asked L) (handed : Handed L) → s.hands asked handed → site.echoes_upgrades ≡ true) → LeavesScript site g link left
leaves_from s g site link left given are rules echoes = leaves_script g site s are rules echoes link left given

-- what a part hands back that is there
pub echoes_by : {V : Type 0} (part : Option V) (P : V → Type 0) (b : Bool) → is_some part ≡ b → OfSomePart part P → b ≡ true
echoes_by None P b is p = absurd p
echoes_by (Some v) P b is p = sym is

-- ---- what a factory of a script's connections may be asked, and why it makes none

pub all_parts : {V : Type 0} (part : Option V) (P : V → Type 0) → ((v : V) → P v) → OfPart part P
all_parts None P all = tt
all_parts (Some v) P all = all v

pub no_part : {V : Type 0} (part : Option V) (P : V → Type 0) → ((v : V) → P v → ⊥) → OfSomePart part P → ⊥
no_part None P none p = p
no_part (Some v) P none p = none v p

-- an echo is an upgrade service
module _ {L : Type 0} (g : LinkOf L) where
  echo_later : (given : L) (unread : List ℕ) (handed : Handed L) → Echoed g given unread handed → IsLater g given handed.link
  echo_later given unread handed e = record { put = e.echoes.put; same = e.echoes.same; grew = e.echoes.grew }

  echo_fits : (given : L) (unread : List ℕ) (link : L) (end : HandedEnd) → Echoed g given unread (record { link = link; end = end })
      → EndFits g given link end
  echo_fits given unread link Done e = tt
  echo_fits given unread link Fault e = e.ends
  echo_fits given unread link OutOfMemory e = tt

  echo_hands : (asked : Asked L) (r : Result (Handed L) Never) → MayEcho g asked r → HandsBack g asked.1.link r
  echo_hands asked (Ok handed) m =
      (echo_later asked.1.link asked.1.unread handed m, echo_fits asked.1.link asked.1.unread handed.link handed.end m)
  echo_hands asked (Err e) m = absurd m

  echo_leaves : (asked : Asked L) (f : Echo L) (link : L) → BeginsEcho asked f
      → EchoGives {E = Never} g f (Ok (record { link = link; end = OutOfMemory })) → IsLater g asked.1.link link
  echo_leaves asked f link b stands =
      let same : stands.value ≡ asked.1.link = cc (stands.is, b.link) in
      subst (λ (given : L). IsLater g given link) same (echo_later stands.value f.waiting (record { link = link; end = OutOfMemory }) stands.holds)

  pub echo_upgrades : IsUpgrade {E = Never} g (MayEcho g) BeginsEcho (λ f link. EchoGives {E = Never} g f (Ok (record { link = link; end = OutOfMemory })))
  echo_upgrades = record { hands = echo_hands; leaves = echo_leaves }

pub refuses_from : (builder : Builder ScriptRule) (service_init : CorsInitError → Type 0) (expect_makes : Type 0) (expect_init : Never → Type 0)
    (upgrade_makes : Type 0) (upgrade_init : Never → Type 0) (error : HttpInitError CorsInitError Never Never)
    → FailsInOrder service_init expect_makes expect_init upgrade_makes upgrade_init error → ((e : CorsInitError) → service_init e → Refuses builder e)
    → ((e : Never) → expect_init e → ⊥) → ((e : Never) → upgrade_init e → ⊥) → RefusesSite builder error
refuses_from builder service_init expect_makes expect_init upgrade_makes upgrade_init (init.Expect e) p serving expecting upgrading = expecting e p
refuses_from builder service_init expect_makes expect_init upgrade_makes upgrade_init (init.Upgrade e) p serving expecting upgrading = upgrading e p.1
refuses_from builder service_init expect_makes expect_init upgrade_makes upgrade_init (init.Service e) p serving expecting upgrading = serving e p.2
refuses_from builder service_init expect_makes expect_init upgrade_makes upgrade_init init.Memory p serving expecting upgrading = tt
