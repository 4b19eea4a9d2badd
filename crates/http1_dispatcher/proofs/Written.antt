-- What a connection that ended as served has written.
use Rattle.std.proofs.Common.{◌≡◌, ◌&&◌, ◌++◌, ◌∙◌, ap, refl, ℕ, zero, suc, true, false, cond, List, [], length, Some}
use Rattle.std.proofs.lemmas.Bool.{and_right}
use Rattle.http1_grammar.specs.Head.{Head}
use Rattle.http1_grammar.specs.Next.{Next, nothing, refuse, found, next}
use Rattle.http1_grammar.specs.Body.{Body, unfinished, malformed, whole, body}
use Rattle.http1_grammar.specs.Tokens.{closes, upgrades, expects}
use Rattle.http1_grammar.specs.Wire.{continue_line}
use Rattle.http1_grammar.specs.Answers.{Answers, Expected, Request, Settings, after, answers_within, bare, done, goes_on, is_answered, on_body, on_expected, on_head, on_next, wire}
use Rattle.http_flow.specs.Upgrading.{Asked}
use Rattle.http_flow.specs.declared.framed.Handed.{Handed}
use Rattle.service_core.specs.declared.ended.Ended.{Ended}
use Rattle.service_core.specs.declared.ended.How.TheVariants.{Served}
use Rattle.service_core.specs.declared.link.Link.{Ghosts as LinkOf}
use Rattle.service_core.specs.declared.peer.Peer.{Peer}
use Rattle.http1_dispatcher.specs.Requests.{AreFunctions, Functions, Relations, served, settings_of}
use Rattle.http1_dispatcher.specs.Ending.{EndsWith, WroteBy}
use Rattle.http1_dispatcher.specs.declared.rules.Rules.{Rules}

-- over a link of which nothing was taken and to which nothing was written, all answers to what it held were written
pub served_writes : {L E XE : Type 0} (g : LinkOf L) (r : Relations E XE) (hands : Asked L → Handed L → Type 0) (rules : Rules) (peer : Peer) (link : L) (ended : Ended L)
    → EndsWith g r rules peer link hands ended.link ended.how → ended.how ≡ Served
    → (f : Functions) → AreFunctions r f
    → (held : List ℕ) → (g.identity link).held ≡ Some held → g.taken link ≡ 0 → g.written link ≡ Some []
    → g.written ended.link ≡ Some (served rules peer f held).0
served_writes g r hands rules peer link ended serves served_how f are held holds taken written =
    let wrote : WroteBy g (served rules peer f) link ended.link Served = rw served_how at (serves.ends.wrote f are) in
    rw (holds, taken, written) at wrote.wrote

module _ (settings : Settings Peer) (peer : Peer) (inner : List ℕ → Answers) (ends : (rest : List ℕ) → (inner rest).1 ≡ done)
    (plain : settings.has_upgrade ≡ false) where
  body_ends : (head : Head) (before : List ℕ) (request : Request Peer) (b : Body) → (on_body settings inner head before request b).1 ≡ done
  body_ends head before request unfinished = refl
  body_ends head before request (malformed status) = refl
  body_ends head before request (whole data' rest) =
      elim (closes settings.keeps_alive head) as (λ v.
      (cond {A = Answers} v (before ++ wire head (settings.handler (record request { body = data' })) v, done)
      (after (before ++ wire head (settings.handler (record request { body = data' })) v) (inner rest))).1 ≡ done) [
        | true ↦ refl
        | false ↦ ends rest
      ]

  expected_ends : (head : Head) (rest : List ℕ) (answer : Expected Peer) → (on_expected settings inner head rest answer).1 ≡ done
  expected_ends head rest (is_answered response) = refl
  expected_ends head rest (goes_on request) = body_ends head continue_line request (body settings.limits head rest)

  not_upgraded : (head : Head) → (upgrades head && settings.has_upgrade) ≡ false
  not_upgraded head = ap (λ b. upgrades head && b) plain ∙ and_right (upgrades head) false refl

  head_ends : (head : Head) (rest : List ℕ) → (on_head settings inner peer head rest).1 ≡ done
  head_ends head rest =
      rw (not_upgraded head) (elim (expects head) as (λ v.
      (cond {A = Answers} v (on_expected settings inner head rest (settings.expect (bare head peer)))
      (on_body settings inner head [] (bare head peer) (body settings.limits head rest))).1 ≡ done) [
        | true ↦ expected_ends head rest (settings.expect (bare head peer))
        | false ↦ body_ends head [] (bare head peer) (body settings.limits head rest)
      ])

  next_ends : (s : Next) → (on_next settings inner peer s).1 ≡ done
  next_ends nothing = refl
  next_ends (refuse status) = refl
  next_ends (found head rest) = head_ends head rest

-- without an upgrade service the answers end as done
ends_done : (count : ℕ) (settings : Settings Peer) (peer : Peer) (bytes : List ℕ) → settings.has_upgrade ≡ false
    → (answers_within count settings peer bytes).1 ≡ done
unfolding answers_within
ends_done zero settings peer bytes plain = refl
ends_done (suc count) settings peer bytes plain =
    next_ends settings peer (answers_within count settings peer) (λ rest. ends_done count settings peer rest plain) plain (next settings.limits bytes)

pub never_up : (rules : Rules) (peer : Peer) (f : Functions) (bytes : List ℕ) → rules.has_upgrade ≡ false → (served rules peer f bytes).1 ≡ done
never_up rules peer f bytes plain = ends_done (suc (length bytes)) (settings_of rules f) peer bytes plain
