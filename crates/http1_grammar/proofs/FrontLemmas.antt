-- The answers to a front of a connection's bytes begin those to all of them.
use Rattle.std.proofs.Common.{◌≡◌, ◌<◌, ◌-◌, ℕ, zero, suc, true, false, cond, List, [], ◌∷◌, ◌++◌, length, arith, sym, ap, ◌∙◌, subst, refl, append_assoc, append-nil}
use Rattle.std.specs.Prelude.{◌&&◌}
use Rattle.http1_grammar.specs.Head.{Head}
use Rattle.http1_grammar.specs.Next as step
use Rattle.http1_grammar.specs.Next.{Next, extended, next}
use Rattle.http1_grammar.specs.Body.{Body, unfinished, malformed, whole, extended_body, body}
use Rattle.http1_grammar.specs.Tokens.{closes, upgrades, expects}
use Rattle.http1_grammar.specs.Wire.{continue_line, refusal}
use Rattle.http1_grammar.specs.Answers.{done, up, Request, Expected, goes_on, is_answered, Settings, Answers, after, wire, bare, on_body, on_expected, on_head, on_next, answers}
use Rattle.http1_grammar.specs.Fronts.{GoesOn}
use Rattle.http1_grammar.proofs.StepLemmas.{next_append}
use Rattle.http1_grammar.proofs.BodyLemmas.{body_append}
use Rattle.http1_grammar.proofs.AnswerLemmas.{nothing_empty, answers_step, Leaves, next_leaves, Keeps, body_keeps}

done_up : {A : Type 0} (head : Head) (rest : List ℕ) → done ≡ up head rest → A
done_up head rest e = absurd cc

-- the same answers, which are done
same_done : (more text : List ℕ) → GoesOn more (text, done) (text, done)
same_done more text = record { back = []; text = sym (append-nil text); ends = λ head rest e. done_up head rest e }

-- answers that are done and go on
front_done : (more front : List ℕ) (whole_answers : Answers) (back : List ℕ) → whole_answers.0 ≡ front ++ back → GoesOn more (front, done) whole_answers
front_done more front whole_answers back e = record { back = back; text = e; ends = λ head rest k. done_up head rest k }

after_goes : (more text : List ℕ) (a b : Answers) → GoesOn more a b → GoesOn more (after text a) (after text b)
after_goes more text a b h = record {
  back = h.back;
  text = ap (λ x. text ++ x) h.text ∙ sym (append_assoc text a.0 h.back);
  ends = h.ends;
}

-- what an answered body begins with
pub record Begins (front : List ℕ) (answers : Answers) : Type 0 where
  pub back : List ℕ
  pub is : answers.0 ≡ front ++ back

module _ {P : Type 0} (settings : Settings P) (rest_of : List ℕ → Answers) where
  body_begins : (head : Head) (before : List ℕ) (request : Request P) (b : Body) → Begins before (on_body settings rest_of head before request b)
  body_begins head before request unfinished = record { back = []; is = sym (append-nil before) }
  body_begins head before request (malformed status) = record { back = refusal status; is = refl }
  body_begins head before request (whole data' rest) =
      elim (closes settings.keeps_alive head) as (λ v. Begins before (cond {A = Answers} v (before ++ wire head (settings.handler (record request { body = data' })) v, done)
      (after (before ++ wire head (settings.handler (record request { body = data' })) v) (rest_of rest)))) [
        | true ↦ record { back = wire head (settings.handler (record request { body = data' })) true; is = refl }
        | false ↦ record {
          back = wire head (settings.handler (record request { body = data' })) false ++ (rest_of rest).0;
          is = append_assoc before (wire head (settings.handler (record request { body = data' })) false) (rest_of rest).0;
        }
      ]

  body_goes : (more : List ℕ) (head : Head) (before : List ℕ) (request : Request P) (b c : Body) (most : ℕ)
      → ((rest : List ℕ) → length rest < most → GoesOn more (rest_of rest) (rest_of (rest ++ more)))
      → Keeps (most - 1) b → 0 < most → ((b ≡ unfinished → ⊥) → c ≡ extended_body b more)
      → GoesOn more (on_body settings rest_of head before request b) (on_body settings rest_of head before request c)
  body_goes more head before request unfinished c most step k l stays =
      let w = body_begins head before request c in front_done more before (on_body settings rest_of head before request c) w.back w.is
  body_goes more head before request (malformed status) c most step k l stays =
      subst (λ x. GoesOn more (before ++ refusal status, done) (on_body settings rest_of head before request x)) (sym (stays (λ e. cc)))
      (same_done more (before ++ refusal status))
  body_goes more head before request (whole data' rest) c most step k l stays =
      subst (λ x. GoesOn more (on_body settings rest_of head before request (whole data' rest)) (on_body settings rest_of head before request x)) (sym (stays (λ e. cc)))
      (elim (closes settings.keeps_alive head) as (λ v. GoesOn more
      (cond {A = Answers} v (before ++ wire head (settings.handler (record request { body = data' })) v, done) (after (before ++ wire head (settings.handler (record request { body = data' })) v) (rest_of rest)))
      (cond {A = Answers} v (before ++ wire head (settings.handler (record request { body = data' })) v, done) (after (before ++ wire head (settings.handler (record request { body = data' })) v) (rest_of (rest ++ more))))) [
        | true ↦ same_done more (before ++ wire head (settings.handler (record request { body = data' })) true)
        | false ↦ after_goes more (before ++ wire head (settings.handler (record request { body = data' })) false) (rest_of rest) (rest_of (rest ++ more)) (step rest (omega arith))
      ])

  expected_goes : (more : List ℕ) (head : Head) (rest : List ℕ) (e : Expected P) (most : ℕ)
      → ((rest : List ℕ) → length rest < most → GoesOn more (rest_of rest) (rest_of (rest ++ more)))
      → Keeps (most - 1) (body settings.limits head rest) → 0 < most
      → GoesOn more (on_expected settings rest_of head rest e) (on_expected settings rest_of head (rest ++ more) e)
  expected_goes more head rest (is_answered response) most step k l = same_done more (wire head response true)
  expected_goes more head rest (goes_on request) most step k l =
      body_goes more head continue_line request (body settings.limits head rest) (body settings.limits head (rest ++ more)) most step k l
      (λ d. body_append settings.limits head rest more d)

  up_goes : (more : List ℕ) (head : Head) (rest : List ℕ) → GoesOn more ([], up head rest) ([], up head (rest ++ more))
  up_goes more head rest = record { back = []; text = refl; ends = λ g r e. (refl, same g r e) }
    where
      same : (g : Head) (r : List ℕ) → up head rest ≡ up g r → up head (rest ++ more) ≡ up g (r ++ more)
      same g r e = cc

  head_goes : (more : List ℕ) (peer : P) (head : Head) (rest : List ℕ) (most : ℕ)
      → ((rest : List ℕ) → length rest < most → GoesOn more (rest_of rest) (rest_of (rest ++ more)))
      → Keeps (most - 1) (body settings.limits head rest) → 0 < most
      → GoesOn more (on_head settings rest_of peer head rest) (on_head settings rest_of peer head (rest ++ more))
  head_goes more peer head rest most step k l =
      elim (upgrades head && settings.has_upgrade) as (λ v. GoesOn more
      (cond {A = Answers} v ([], up head rest) (cond (expects head) (on_expected settings rest_of head rest (settings.expect (bare head peer))) (on_body settings rest_of head [] (bare head peer) (body settings.limits head rest))))
      (cond {A = Answers} v ([], up head (rest ++ more)) (cond (expects head) (on_expected settings rest_of head (rest ++ more) (settings.expect (bare head peer))) (on_body settings rest_of head [] (bare head peer) (body settings.limits head (rest ++ more)))))) [
        | true ↦ up_goes more head rest
        | false ↦ elim (expects head) as (λ v. GoesOn more
            (cond v (on_expected settings rest_of head rest (settings.expect (bare head peer))) (on_body settings rest_of head [] (bare head peer) (body settings.limits head rest)))
            (cond v (on_expected settings rest_of head (rest ++ more) (settings.expect (bare head peer))) (on_body settings rest_of head [] (bare head peer) (body settings.limits head (rest ++ more))))) [
              | true ↦ expected_goes more head rest (settings.expect (bare head peer)) most step k l
              | false ↦ body_goes more head [] (bare head peer) (body settings.limits head rest) (body settings.limits head (rest ++ more)) most step k l
                  (λ d. body_append settings.limits head rest more d)
            ]
      ]

  next_goes : (more : List ℕ) (peer : P) (s t : Next) (most : ℕ)
      → ((rest : List ℕ) → length rest < most → GoesOn more (rest_of rest) (rest_of (rest ++ more)))
      → Leaves (most - 1) s → 0 < most → ((s ≡ step.nothing → ⊥) → t ≡ extended s more)
      → GoesOn more (on_next settings rest_of peer s) (on_next settings rest_of peer t)
  next_goes more peer step.nothing t most below k l stays = front_done more [] (on_next settings rest_of peer t) (on_next settings rest_of peer t).0 refl
  next_goes more peer (step.refuse status) t most below k l stays =
      subst (λ x. GoesOn more (refusal status, done) (on_next settings rest_of peer x)) (sym (stays (λ e. cc))) (same_done more (refusal status))
  next_goes more peer (step.found head rest) t most below k l stays =
      subst (λ x. GoesOn more (on_head settings rest_of peer head rest) (on_next settings rest_of peer x)) (sym (stays (λ e. cc)))
      (head_goes more peer head rest most below (keeps_most (body settings.limits head rest) (body_keeps settings.limits head rest)) l)
    where
      keeps_most : (b : Body) → Keeps (length rest) b → Keeps (most - 1) b
      keeps_most unfinished h = tt
      keeps_most (malformed status) h = tt
      keeps_most (whole data' behind) h = omega arith

no_answers : {P : Type 0} (settings : Settings P) (peer : P) → 0 < settings.limits.head → answers settings [] peer ≡ ([], done)
no_answers settings peer p =
    answers_step settings [] peer p
    ∙ ap (on_next settings (λ rest. answers settings rest peer) peer) (nothing_empty settings.limits p)

answers_go_within : {P : Type 0} (n : ℕ) (settings : Settings P) (bytes more : List ℕ) (peer : P) → 0 < settings.limits.head → length bytes < n
    → GoesOn more (answers settings bytes peer) (answers settings (bytes ++ more) peer)
answers_go_within zero settings bytes more peer p l = absurd (omega arith)
answers_go_within (suc n) settings [] more peer p l =
    subst (λ x. GoesOn more x (answers settings more peer)) (sym (no_answers settings peer p))
    (front_done more [] (answers settings more peer) (answers settings more peer).0 refl)
answers_go_within (suc n) settings (b ∷ bytes) more peer p l =
    let rest_of : List ℕ → Answers = λ rest. answers settings rest peer in
    let goes = next_goes settings rest_of more peer (next settings.limits (b ∷ bytes)) (next settings.limits ((b ∷ bytes) ++ more)) (suc (length bytes))
    (λ rest k. answers_go_within n settings rest more peer p (omega arith)) (next_leaves settings.limits (b ∷ bytes)) (omega arith)
    (λ d. next_append settings.limits (b ∷ bytes) more p d) in
    subst (λ x. GoesOn more x (answers settings ((b ∷ bytes) ++ more) peer)) (sym (answers_step settings (b ∷ bytes) peer p))
    (subst (λ x. GoesOn more (on_next settings rest_of peer (next settings.limits (b ∷ bytes))) x) (sym (answers_step settings ((b ∷ bytes) ++ more) peer p)) goes)

-- the answers to a front
pub answers_goes_on : {P : Type 0} (settings : Settings P) (bytes more : List ℕ) (peer : P) → 0 < settings.limits.head
    → GoesOn more (answers settings bytes peer) (answers settings (bytes ++ more) peer)
answers_goes_on settings bytes more peer p = answers_go_within (suc (length bytes)) settings bytes more peer p (omega arith)
