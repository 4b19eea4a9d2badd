-- What the steps of a connection owe.
use Rattle.std.proofs.Common.{◌≡◌, ◌<◌, ◌≤◌, ◌-◌, ◌&&◌, inl, inr, ℕ, Bool, true, false, cond, List, [], ◌∷◌, ◌++◌, length, arith, sym, ap, ◌∙◌, subst, refl, append_assoc, append-nil}
use Rattle.http1_grammar.specs.Limits.{Limits}
use Rattle.http1_grammar.specs.Lines.{skip_empty_lines}
use Rattle.http1_grammar.specs.Head.{Head}
use Rattle.http1_grammar.specs.Next.{Next, nothing, refuse, found, extended, next}
use Rattle.http1_grammar.specs.Body.{Body, unfinished, malformed, whole, body}
use Rattle.http1_grammar.specs.Tokens.{closes, upgrades, expects}
use Rattle.http1_grammar.specs.Wire.{Response, refusal, continue_line}
use Rattle.http1_grammar.specs.Answers as grammar
use Rattle.http1_grammar.specs.Answers.{Answers, Expected, goes_on, is_answered, done, up, after, wire, bare, on_body, on_expected, on_head, on_next}
use Rattle.http1_grammar.specs.Reading as reading
use Rattle.http1_grammar.specs.Reading.{Reading, Decision, needs_more, refuses, a_head, a_body, of_next, of_body, decision_at, decision, behind, kept, fed, extended_decision, IsAtBody}
use Rattle.http1_grammar.proofs.StepLemmas.{next_append}
use Rattle.http1_grammar.proofs.ReadingLemmas.{skip_next, decided_stays, open_waits, body_follows}
use Rattle.http1_grammar.proofs.StageLemmas.{head_follows, body_waits}
use Rattle.http1_grammar.proofs.AnswerLemmas.{answers_step, nothing_empty, Leaves, next_leaves}
use Rattle.http1_plain.specs.Views.{view}
use Rattle.http1_plain.specs.declared.request_head.RequestHead.{RequestHead}
use Rattle.service_core.specs.declared.peer.Peer.{Peer}
use Rattle.http1_dispatcher.specs.Requests.{Functions, MayCome, settings_of, served}
use Rattle.http1_dispatcher.specs.Progress.{answered, owed_behind, owed_expected, Stands, IsPlaced}
use Rattle.http1_dispatcher.specs.Steps.{Begins, IsAwaiting, BeginsHead, IsCallWith, IsHeaded, PutsBy, awaiting, reply_to}
use Rattle.http1_dispatcher.specs.declared.begin.Begun.{Begun}
use Rattle.http1_dispatcher.specs.declared.begin.Begun.TheVariants.{NeedMore, On, Called}
use Rattle.http1_dispatcher.specs.declared.exchange.Exchange.{Exchange}
use Rattle.http1_dispatcher.specs.declared.exchange.Reply.{Reply}
use Rattle.http1_dispatcher.specs.declared.exchange.Stage.{Stage}
use Rattle.http1_dispatcher.specs.declared.exchange.Stage.TheVariants as stage
use Rattle.http1_dispatcher.specs.declared.rules.Rules.{Rules}
use Rattle.http1_dispatcher.proofs.Shorter.{body_shorter}

pub after_after : (a b : List ℕ) (c : Answers) → after (a ++ b) c ≡ after a (after b c)
after_after a b c = ap (λ x. (x, c.1)) (append_assoc a b c.0)

-- a reader that gets nothing is as it was
pub fed_nothing : (r : Reading) → r ≡ fed r []
fed_nothing r = ap (λ bytes. record r { unread = bytes }) (sym (append-nil r.unread))

module _ (rules : Rules) (peer : Peer) (f : Functions) where
  -- the answers from a body on, behind what stands before them, where the response is written by this head
  from_body : (head : RequestHead) (before : List ℕ) (request : grammar.Request Peer) (b : Body)
      → on_body (settings_of rules f) (served rules peer f) (view head) before request b
      ≡ after before (owed_behind rules peer f request (reply_to rules head) (of_body b))
  from_body head before request unfinished = ap (λ x. (x, done)) (sym (append-nil before))
  from_body head before request (malformed status) = refl
  from_body head before request (whole data' rest) =
      elim (closes rules.keeps_alive (view head)) as (λ v.
      cond {A = Answers} v (before ++ wire (view head) (f.handler (record request { body = data' })) v, done)
      (after (before ++ wire (view head) (f.handler (record request { body = data' })) v) (served rules peer f rest))
      ≡ after before (answered rules peer f (wire (view head) (f.handler (record request { body = data' })) v) v rest)) [
        | true ↦ refl
        | false ↦ after_after before (wire (view head) (f.handler (record request { body = data' })) false) (served rules peer f rest)
      ]

  from_expected : (head : RequestHead) (rest : List ℕ) (answer : Expected Peer)
      → on_expected (settings_of rules f) (served rules peer f) (view head) rest answer
      ≡ owed_expected rules peer f (reply_to rules head) (of_body (body rules.limits (view head) rest)) answer
  from_expected head rest (goes_on request) = from_body head continue_line request (body rules.limits (view head) rest)
  from_expected head rest (is_answered response) = refl

  -- what a head leads to, where its body is awaited, is asked for, or another protocol is
  head_goes : (head : RequestHead) (rest : List ℕ) → (upgrades (view head) && rules.has_upgrade) ≡ false → expects (view head) ≡ false
      → on_head (settings_of rules f) (served rules peer f) peer (view head) rest
      ≡ owed_behind rules peer f (bare (view head) peer) (reply_to rules head) (of_body (body rules.limits (view head) rest))
  head_goes head rest u e = rw (u, e) (from_body head [] (bare (view head) peer) (body rules.limits (view head) rest))

  head_asks : (head : RequestHead) (rest : List ℕ) → (upgrades (view head) && rules.has_upgrade) ≡ false → expects (view head) ≡ true
      → on_head (settings_of rules f) (served rules peer f) peer (view head) rest
      ≡ owed_expected rules peer f (reply_to rules head) (of_body (body rules.limits (view head) rest)) (f.expect (bare (view head) peer))
  head_asks head rest u e = rw (u, e) (from_expected head rest (f.expect (bare (view head) peer)))

  head_upgrades : (head : Head) (rest : List ℕ) → (upgrades head && rules.has_upgrade) ≡ true
      → on_head (settings_of rules f) (served rules peer f) peer head rest ≡ ([], up head rest)
  head_upgrades head rest u = rw u refl

  served_step : (bytes : List ℕ) → 0 < rules.limits.head
      → served rules peer f bytes ≡ on_next (settings_of rules f) (served rules peer f) peer (next rules.limits bytes)
  served_step bytes p = answers_step (settings_of rules f) bytes peer p

  served_by : (bytes : List ℕ) (s : Next) → 0 < rules.limits.head → next rules.limits bytes ≡ s
      → served rules peer f bytes ≡ on_next (settings_of rules f) (served rules peer f) peer s
  served_by bytes s p e = served_step bytes p ∙ ap (on_next (settings_of rules f) (served rules peer f) peer) e

  pub served_nothing : (bytes : List ℕ) → 0 < rules.limits.head → next rules.limits bytes ≡ nothing → served rules peer f bytes ≡ ([], done)
  served_nothing bytes p e = served_by bytes nothing p e

  pub served_refused : (bytes : List ℕ) (status : ℕ) → 0 < rules.limits.head → next rules.limits bytes ≡ refuse status
      → served rules peer f bytes ≡ (refusal status, done)
  served_refused bytes status p e = served_by bytes (refuse status) p e

  pub served_found : (bytes rest : List ℕ) (head : Head) → 0 < rules.limits.head → next rules.limits bytes ≡ found head rest
      → served rules peer f bytes ≡ on_head (settings_of rules f) (served rules peer f) peer head rest
  served_found bytes rest head p e = served_by bytes (found head rest) p e

  pub served_upgraded : (head : Head) (bytes rest : List ℕ) → 0 < rules.limits.head → next rules.limits bytes ≡ found head rest
      → (upgrades head && rules.has_upgrade) ≡ true → served rules peer f bytes ≡ ([], up head rest)
  served_upgraded head bytes rest p e u = served_found bytes rest head p e ∙ head_upgrades head rest u

  pub served_kept : (bytes more : List ℕ) → 0 < rules.limits.head → served rules peer f (skip_empty_lines bytes ++ more) ≡ served rules peer f (bytes ++ more)
  served_kept bytes more p =
      served_step (skip_empty_lines bytes ++ more) p
      ∙ ap (on_next (settings_of rules f) (served rules peer f) peer) (skip_next rules.limits bytes more)
      ∙ sym (served_step (bytes ++ more) p)

-- the step of bytes that are decided, behind which more follow
stays : (limits : Limits) (bytes more : List ℕ) (s : Next) → 0 < limits.head → next limits bytes ≡ s → (s ≡ nothing → ⊥)
    → next limits (bytes ++ more) ≡ extended s more
stays limits bytes more s p e n = next_append limits bytes more p (λ u. n (sym e ∙ u)) ∙ ap (λ x. extended x more) e

-- ---- the answers to a request and to the bytes behind it

module _ (rules : Rules) (peer : Peer) (f : Functions) (head : Head) (request : grammar.Request Peer) (bytes rest told : List ℕ)
    (p : 0 < rules.limits.head) (is : next rules.limits bytes ≡ found head rest) (u : (upgrades head && rules.has_upgrade) ≡ false)
    (come : MayCome f.expect peer head request told) where
  -- the answers go on with the body, behind what is told before it
  comes : on_head (settings_of rules f) (served rules peer f) peer head rest
      ≡ on_body (settings_of rules f) (served rules peer f) head told request (body rules.limits head rest)
  comes = by come
    where
      by : MayCome f.expect peer head request told → on_head (settings_of rules f) (served rules peer f) peer head rest
          ≡ on_body (settings_of rules f) (served rules peer f) head told request (body rules.limits head rest)
      by (inl c) = rw (u, c.0, c.1, c.2) refl
      by (inr c) = rw (u, c.0, c.1, c.2) refl

  serves : served rules peer f bytes
      ≡ on_body (settings_of rules f) (served rules peer f) head told request (body rules.limits head rest)
  serves = served_found rules peer f bytes rest head p is ∙ comes

  pub refused_body_is_last : (status : ℕ) → body rules.limits head rest ≡ malformed status → served rules peer f bytes ≡ (told ++ refusal status, done)
  refused_body_is_last status e = serves ∙ ap (on_body (settings_of rules f) (served rules peer f) head told request) e

  module _ (data' behind : List ℕ) (is_whole : body rules.limits head rest ≡ whole data' behind) where
    served_whole : served rules peer f bytes
        ≡ on_body (settings_of rules f) (served rules peer f) head told request (whole data' behind)
    served_whole = serves ∙ ap (on_body (settings_of rules f) (served rules peer f) head told request) is_whole

    abbrev ending : (v : Bool) → Answers
    ending v =
        cond {A = Answers} v (told ++ wire head (f.handler (record request { body = data' })) v, done)
        (after (told ++ wire head (f.handler (record request { body = data' })) v) (served rules peer f behind))

    pub order : closes rules.keeps_alive head ≡ false → served rules peer f bytes
        ≡ after (told ++ wire head (f.handler (record request { body = data' })) false) (served rules peer f behind)
    order e = served_whole ∙ ap ending e

    pub closing_is_last : closes rules.keeps_alive head ≡ true → served rules peer f bytes
        ≡ (told ++ wire head (f.handler (record request { body = data' })) true, done)
    closing_is_last e = served_whole ∙ ap ending e

pub refused_expectation_is_last : (rules : Rules) (peer : Peer) (f : Functions) (head : Head) (response : Response) (bytes rest : List ℕ)
    → 0 < rules.limits.head → next rules.limits bytes ≡ found head rest → (upgrades head && rules.has_upgrade) ≡ false
    → expects head ≡ true → f.expect (bare head peer) ≡ is_answered response
    → served rules peer f bytes ≡ (wire head response true, done)
refused_expectation_is_last rules peer f head response bytes rest p is u e a =
    served_found rules peer f bytes rest head p is ∙ rw (u, e, a) refl

-- ---- what a decision says

and_right_true : (a b : Bool) → (a && b) ≡ true → b ≡ true
and_right_true true b e = e
and_right_true false b e = absurd (differ e)
  where
    differ : false ≡ true → ⊥
    differ k = cc

head_is : (s : Next) (head : Head) (rest : List ℕ) → a_head head rest ≡ of_next s → s ≡ found head rest
head_is nothing head rest e = cc
head_is (refuse status) head rest e = cc
head_is (found g r) head rest e = cc

refusal_is : (s : Next) (status : ℕ) → refuses status ≡ of_next s → s ≡ refuse status
refusal_is nothing status e = cc
refusal_is (refuse other) status e = cc
refusal_is (found g r) status e = cc

nothing_is : (s : Next) → needs_more ≡ of_next s → s ≡ nothing
nothing_is nothing e = refl
nothing_is (refuse other) e = cc
nothing_is (found g r) e = cc

no_body : (s : Next) (data' rest : List ℕ) → a_body data' rest ≡ of_next s → ⊥
no_body nothing data' rest e = cc
no_body (refuse other) data' rest e = cc
no_body (found g r) data' rest e = cc

found_shorter : (limits : Limits) (bytes : List ℕ) (head : Head) (rest : List ℕ) → 0 < limits.head → next limits bytes ≡ found head rest → length rest < length bytes
found_shorter limits [] head rest p e = absurd (differ (sym (nothing_empty limits p) ∙ e))
  where
    differ : nothing ≡ found head rest → ⊥
    differ k = cc
found_shorter limits (b ∷ bytes) head rest p e = let l = subst (Leaves (length (b ∷ bytes) - 1)) e (next_leaves limits (b ∷ bytes)) in omega arith

-- a reader that waits still waits with what it kept
still_waits : (r : Reading) → decision r ≡ needs_more → decision (behind r needs_more) ≡ needs_more
still_waits r e =
    ap decision (fed_nothing (behind r needs_more)) ∙ open_waits r [] ∙ ap decision (sym (fed_nothing r)) ∙ e

head_decides : (r : Reading) → r.stage ≡ reading.at_head → decision r ≡ of_next (next r.limits r.unread)
head_decides r at = ap (λ s. decision_at r.limits s r.unread) at

-- nothing is answered to bytes that decide nothing
pub served_waits : (rules : Rules) (peer : Peer) (f : Functions) (r : Reading) → 0 < rules.limits.head → r.limits ≡ rules.limits → r.stage ≡ reading.at_head
    → decision r ≡ needs_more → served rules peer f r.unread ≡ ([], done)
served_waits rules peer f r p l at e =
    served_nothing rules peer f r.unread p
    (ap (λ (x : Limits). next x r.unread) (sym l) ∙ nothing_is (next r.limits r.unread) (sym e ∙ head_decides r at))

-- what begins at a stage that was begun
begins_through : (rules : Rules) (peer : Peer) (old middle new : Exchange) (begun : Begun)
    → Begins rules peer old middle On → Begins rules peer middle new begun → Begins rules peer old new begun
begins_through rules peer old middle new NeedMore a b = (λ f more. b.0 f more ∙ a.0 f more, b.1, b.2)
begins_through rules peer old middle new On a b = (λ f more. b.0 f more ∙ a.0 f more, b.1, b.2, omega (arith, a.3, b.3))
begins_through rules peer old middle new Called a b = (λ f more. b.0 f more ∙ a.0 f more, b.1, b.2, omega (arith, a.3, b.3))

-- ---- at a head

module _ (rules : Rules) (peer : Peer) (old : Exchange) (reader : Reading) (at : old.stage ≡ stage.Reading) (placed : IsPlaced rules old)
    (positive : 0 < rules.limits.head) (leaves : reader ≡ behind old.reader (decision old.reader)) where
  at_head : old.reader.stage ≡ reading.at_head
  at_head = subst (λ s. Stands rules.has_upgrade s old.reader.stage) at placed.stands

  decides : decision old.reader ≡ of_next (next rules.limits old.reader.unread)
  decides = head_decides old.reader at_head ∙ ap (λ l. of_next (next l old.reader.unread)) placed.limits_are

  pub no_body_here : (data' : List ℕ) → a_body data' reader.unread ≡ decision old.reader → ⊥
  no_body_here data' d = no_body (next rules.limits old.reader.unread) data' reader.unread (d ∙ decides)

  module _ (head : RequestHead) (d : a_head (view head) reader.unread ≡ decision old.reader) where
    behind_head : reader ≡ behind old.reader (a_head (view head) reader.unread)
    behind_head = leaves ∙ ap (behind old.reader) (sym d)

    pub limits_behind : reader.limits ≡ rules.limits
    limits_behind = ap (λ (r : Reading). r.limits) behind_head ∙ placed.limits_are

    pub body_behind : IsAtBody reader.stage
    body_behind = subst (λ (r : Reading). IsAtBody r.stage) (sym behind_head) (head_follows old.reader (view head) reader.unread (sym d)).1

    head_leads : (new : Exchange) (begun : Begun)
        → IsHeaded rules peer head new.stage begun → PutsBy begun new → new.reader ≡ reader → new.out ≡ old.out → Begins rules peer old new begun
    head_leads new begun headed_is put r o = by new.stage begun refl headed_is put
      where
        is_found : next rules.limits old.reader.unread ≡ found (view head) reader.unread
        is_found = head_is (next rules.limits old.reader.unread) (view head) reader.unread (d ∙ decides)

        reads : (more : List ℕ) → decision (fed reader more) ≡ of_body (body rules.limits (view head) (reader.unread ++ more))
        reads more =
            ap (λ l. decision_at l reader.stage (reader.unread ++ more)) limits_behind
            ∙ ap (λ s. decision_at rules.limits s (reader.unread ++ more)) (ap (λ (r : Reading). r.stage) behind_head)
            ∙ body_follows rules.limits (view head) (reader.unread ++ more)

        goes : (f : Functions) (more : List ℕ) → served rules peer f (old.reader.unread ++ more)
            ≡ on_head (settings_of rules f) (served rules peer f) peer (view head) (reader.unread ++ more)
        goes f more =
            served_found rules peer f (old.reader.unread ++ more) (reader.unread ++ more) (view head) positive
            (stays rules.limits old.reader.unread more (found (view head) reader.unread) positive is_found (λ n. differ n))
          where
            differ : found (view head) reader.unread ≡ nothing → ⊥
            differ k = cc

        shorter : length reader.unread < length old.reader.unread
        shorter = found_shorter rules.limits old.reader.unread (view head) reader.unread positive is_found

        by : (s : Stage) (b : Begun) → new.stage ≡ s → IsHeaded rules peer head s b → PutsBy b new → Begins rules peer old new b
        by (stage.Upgrading other) On e h p = (
          λ f more. rw (r, o, e, at, h.1) (ap (after old.out) (sym (goes f more ∙ head_upgrades rules peer f (view head) (reader.unread ++ more) h.0))),
          record { limits_are = rw r limits_behind; stands = rw e (and_right_true (upgrades (view head)) rules.has_upgrade h.0) },
          rw e tt,
          rw (e, at) (omega arith),
        )
        by (stage.Asking request reply) Called e h p = (
          λ f more. rw (r, o, e, at, h.2, h.3, reads more)
              (ap (after old.out) (sym (goes f more ∙ head_asks rules peer f head (reader.unread ++ more) h.0 h.1))),
          record { limits_are = rw r limits_behind; stands = rw (e, r) body_behind },
          p,
          rw (e, r, at) (omega (arith, shorter)),
        )
        by (stage.Awaiting other from reply) On e h p = (
          λ f more. rw (r, o, e, at, h.2, h.3, h.4, reads more)
              (ap (after old.out) (sym (goes f more ∙ head_goes rules peer f head (reader.unread ++ more) h.0 h.1))),
          record { limits_are = rw r limits_behind; stands = rw (e, r) body_behind },
          rw e tt,
          rw (e, r, at) (omega (arith, shorter)),
        )
        by stage.Reading b e h p = absurd h
        by (stage.Asking request reply) NeedMore e h p = absurd h
        by (stage.Asking request reply) On e h p = absurd h
        by (stage.Awaiting other from reply) NeedMore e h p = absurd h
        by (stage.Awaiting other from reply) Called e h p = absurd h
        by (stage.Calling request reply) b e h p = absurd h
        by (stage.Upgrading other) NeedMore e h p = absurd h
        by (stage.Upgrading other) Called e h p = absurd h
        by stage.Closing b e h p = absurd h

    -- what the head begins, as what it leads to begins it
    pub head_begins : (new : Exchange) (begun : Begun) → BeginsHead rules peer head (record old { reader = reader }) new begun → Begins rules peer old new begun
    head_begins new begun (inl h) = head_leads new begun h.0 h.1 h.2 h.3
    head_begins new begun (inr h) =
        let middle : Exchange = awaiting head peer (reply_to rules head) (record old { reader = reader }) in
        begins_through rules peer old middle new begun (head_leads middle On h.0 tt refl refl) (h.1 peer)

  pub refusal_begins : (status : ℕ) → refuses status ≡ decision old.reader
      → Begins rules peer old (record old { reader = reader; out = old.out ++ refusal status; stage = stage.Closing }) On
  refusal_begins status d =
      let is = refusal_is (next rules.limits old.reader.unread) status (d ∙ decides) in
      let same = leaves ∙ ap (behind old.reader) (sym d) in (
        λ f more. rw at (ap (λ x. (x, done)) (append-nil (old.out ++ refusal status))
            ∙ ap (after old.out) (sym (served_refused rules peer f (old.reader.unread ++ more) status positive
            (stays rules.limits old.reader.unread more (refuse status) positive is (λ n. differ n))))),
        record { limits_are = ap (λ (r : Reading). r.limits) same ∙ placed.limits_are; stands = tt },
        tt,
        rw at (omega arith),
      )
    where
      differ : refuse status ≡ nothing → ⊥
      differ k = cc

  pub head_waits : needs_more ≡ decision old.reader
      → Begins rules peer old (record old { reader = reader }) NeedMore
  head_waits d =
      let same = leaves ∙ ap (behind old.reader) (sym d) in
      let unread : reader.unread ≡ skip_empty_lines old.reader.unread =
      ap (λ (r : Reading). r.unread) same ∙ ap (λ s. kept old.reader.limits s old.reader.unread) at_head in
      let still : reader.stage ≡ reading.at_head =
      ap (λ (r : Reading). r.stage) same ∙ ap (λ s. reading.waiting old.reader.limits s old.reader.unread) at_head in (
        λ f more. rw (at, unread) (ap (after old.out) (served_kept rules peer f old.reader.unread more positive)),
        record { limits_are = ap (λ (r : Reading). r.limits) same ∙ placed.limits_are; stands = rw at still },
        record { is_open = rw at tt; waits = ap decision same ∙ still_waits old.reader (sym d) },
      )

-- ---- at a body

pub awaiting_is : (s : Stage) → IsAwaiting s → (head : RequestHead) × (from : Peer) × (reply : Reply) × (s ≡ stage.Awaiting head from reply)
awaiting_is stage.Reading a = absurd a
awaiting_is (stage.Asking request reply) a = absurd a
awaiting_is (stage.Awaiting head from reply) a = (head, from, reply, refl)
awaiting_is (stage.Calling request reply) a = absurd a
awaiting_is (stage.Upgrading head) a = absurd a
awaiting_is stage.Closing a = absurd a

module _ (rules : Rules) (peer : Peer) (old : Exchange) (reader : Reading) (head : RequestHead) (from : Peer) (reply : Reply)
    (at : old.stage ≡ stage.Awaiting head from reply)
    (placed : IsPlaced rules old) (positive : 0 < rules.limits.head)
    (leaves : reader ≡ behind old.reader (decision old.reader)) where
  at_body : IsAtBody old.reader.stage
  at_body = subst (λ s. Stands rules.has_upgrade s old.reader.stage) at placed.stands

  pub no_head_here : (other : Head) → a_head other reader.unread ≡ decision old.reader → ⊥
  no_head_here other d = subst IsAtBody (head_follows old.reader other reader.unread (sym d)).0 at_body

  -- what is decided where more bytes follow
  body_stays : (d : Decision) (more : List ℕ) → d ≡ decision old.reader → (d ≡ needs_more → ⊥)
      → decision (fed old.reader more) ≡ extended_decision d more
  body_stays d more e n =
      decided_stays old.reader more (rw placed.limits_are positive) (λ u. n (e ∙ u)) ∙ ap (λ x. extended_decision x more) (sym e)

  pub body_refused : (status : ℕ) → refuses status ≡ decision old.reader
      → Begins rules peer old (record old { reader = reader; out = old.out ++ refusal status; stage = stage.Closing }) On
  body_refused status d =
      let same = leaves ∙ ap (behind old.reader) (sym d) in (
        λ f more. rw (at, body_stays (refuses status) more d (λ u. differ u)) (ap (λ x. (x, done)) (append-nil (old.out ++ refusal status))),
        record { limits_are = ap (λ (r : Reading). r.limits) same ∙ placed.limits_are; stands = tt },
        tt,
        rw at (omega arith),
      )
    where
      differ : refuses status ≡ needs_more → ⊥
      differ k = cc

  pub body_pauses : needs_more ≡ decision old.reader
      → Begins rules peer old (record old { reader = reader }) NeedMore
  body_pauses d =
      let same = leaves ∙ ap (behind old.reader) (sym d) in (
        λ f more. rw at (ap (λ x. after old.out (owed_behind rules peer f (bare (view head) from) reply x))
            (ap (λ (r : Reading). decision (fed r more)) same ∙ open_waits old.reader more)),
        record {
          limits_are = ap (λ (r : Reading). r.limits) same ∙ placed.limits_are;
          stands = rw at (subst (λ (r : Reading). IsAtBody r.stage) (sym same) (body_waits old.reader at_body));
        },
        record { is_open = rw at tt; waits = ap decision same ∙ still_waits old.reader (sym d) },
      )

  pub body_called : (data' : List ℕ) (new : Exchange) (begun : Begun) → a_body data' reader.unread ≡ decision old.reader
      → IsCallWith (record { head = head; body = data'; peer = from }) reply new.stage begun → PutsBy begun new → new.reader ≡ reader → new.out ≡ old.out → Begins rules peer old new begun
  body_called data' new begun d w put r o = by new.stage begun refl w put
    where
      differ : a_body data' reader.unread ≡ needs_more → ⊥
      differ k = cc

      same : reader ≡ behind old.reader (a_body data' reader.unread)
      same = leaves ∙ ap (behind old.reader) (sym d)

      shorter : length reader.unread ≤ length old.reader.unread
      shorter = body_shorter old.reader data' reader.unread (sym d)

      by : (s : Stage) (b : Begun) → new.stage ≡ s → IsCallWith (record { head = head; body = data'; peer = from }) reply s b → PutsBy b new → Begins rules peer old new b
      by (stage.Calling request later) Called e h p = (
        λ f more. rw (r, o, e, at, h.0, h.1, body_stays (a_body data' reader.unread) more d (λ u. differ u)) refl,
        record {
          limits_are = rw r (ap (λ (r : Reading). r.limits) same ∙ placed.limits_are);
          stands = rw (e, r) (ap (λ (r : Reading). r.stage) same);
        },
        p,
        rw (e, r, at) (omega (arith, shorter)),
      )
      by stage.Reading b e h p = absurd h
      by (stage.Asking request later) b e h p = absurd h
      by (stage.Awaiting other other_from later) b e h p = absurd h
      by (stage.Calling request later) NeedMore e h p = absurd h
      by (stage.Calling request later) On e h p = absurd h
      by (stage.Upgrading other) b e h p = absurd h
      by stage.Closing b e h p = absurd h
