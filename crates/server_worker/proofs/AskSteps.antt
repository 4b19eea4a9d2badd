-- The services were checked, one by one.
use Rattle.std.proofs.Common.{◌≡◌, ◌≢◌, Bool, true, false, ◌<◌, ◌≤◌, ◌⊎◌, ℕ, zero, suc, ◌+◌, ◌++◌, ◌∷◌, [], List, Some, IfSome, length, slice_get, refl, sym, ◌∙◌, ap, arith, append_assoc, subst, inl, inr}
use Rattle.std.specs.Prelude.{◌&&◌, cond, not}
use Rattle.std.proofs.lemmas.Bool.{cases_eq}
use Rattle.std.proofs.lemmas.List.{append-nil, length_push}
use Rattle.futures.specs.declared.task.Poll.TheVariants.{Pending as PollPending}
use Rattle.service_core.specs.Counts.{Rose}
use Rattle.service_core.specs.Meaning.{Readiness}
use Rattle.worker_core.specs.WorkerCore.{MayAsk, MayRestart, Worker, after_ready, after_restarted, status_of}
use Rattle.worker_core.specs.Statuses.{is_asked}
use Rattle.worker_core.specs.WorkerRuns.{AllAllowed, WorkerCall, after_call, after_calls}
use Rattle.worker_core.specs.declared.ready_answer.ReadyAnswer.{ReadyAnswer}
use Rattle.worker_core.specs.declared.ready_answer.ReadyAnswer.TheVariants as answer
use Rattle.worker_core.specs.declared.service_status.ServiceStatus.TheVariants.{Available, Failed, Unavailable}
use Rattle.server_worker.specs.Asking.{Check, ChecksUpTo, HasMoved, IsAccounted, MayAnswer, MayCheck, WasAsked, asked, calls_from, calls_of, passed, remade}
use Rattle.server_worker.specs.Checking.{Checks}
use Rattle.server_worker.specs.Standing.{AllMade, HasErred, IsMade, making_waits}
use Rattle.server_worker.specs.declared.slot.Slot.{Slot}
use Rattle.server_worker.proofs.BeginSteps.{each_push}
use Rattle.server_worker.proofs.Statuses.{Passes, answered_same, calls_pass}

-- the calls for one check more
more_checks : (from : ℕ) (checks : List Check) (check : Check) → calls_from from (checks ++ check ∷ []) ≡ calls_from from checks ++ calls_of (from + length checks) check
more_checks from [] check = append-nil (calls_of from check) ∙ ap (λ n. calls_of n check) (let e : from ≡ from + 0 = omega arith in e)
more_checks from (c ∷ checks) check =
    let e : (from + 1) + length checks ≡ from + suc (length checks) = omega arith in
    ap (λ cs. calls_of from c ++ cs) (more_checks (from + 1) checks check ∙ ap (λ n. calls_from (from + 1) checks ++ calls_of n check) e)
    ∙ sym (append_assoc (calls_of from c) (calls_from (from + 1) checks) (calls_of (from + suc (length checks)) check))

-- calls, one list behind the other
after_append : (w : Worker) (calls more : List WorkerCall) → after_calls w (calls ++ more) ≡ after_calls (after_calls w calls) more
after_append w [] more = refl
after_append w (c ∷ calls) more = after_append (after_call w c) calls more

allowed_append : (w : Worker) (calls more : List WorkerCall) → AllAllowed w calls → AllAllowed (after_calls w calls) more → AllAllowed w (calls ++ more)
allowed_append w [] more all then_these = then_these
allowed_append w (c ∷ calls) more all then_these = (all.0, allowed_append (after_call w c) calls more all.1 then_these)

-- the element behind a list, and those in it
pushed_last : {X : Type 0} (xs : List X) (x : X) (n : ℕ) → length xs ≡ n → slice_get (xs ++ x ∷ []) n ≡ Some x
pushed_last [] x n is = subst (λ k. slice_get (x ∷ []) k ≡ Some x) is refl
pushed_last (y ∷ xs) x zero is = absurd (omega arith)
pushed_last (y ∷ xs) x (suc n) is = pushed_last xs x n (omega arith)

pushed_before : {X : Type 0} (xs : List X) (x : X) (t : ℕ) → t < length xs → slice_get (xs ++ x ∷ []) t ≡ slice_get xs t
pushed_before [] x t inside = absurd (omega arith)
pushed_before (y ∷ xs) x zero inside = refl
pushed_before (y ∷ xs) x (suc t) inside = pushed_before xs x t (omega arith)

-- a fact of each place holds where only one place changed, and it holds there
pub each_but : {X : Type 0} (P : ℕ → X → Type 0) (xs ys : List X) (n : ℕ) → ((t : ℕ) → t ≢ n → slice_get ys t ≡ slice_get xs t) → ((t : ℕ) → IfSome (slice_get xs t) (P t)) → IfSome (slice_get ys n) (P n) → (t : ℕ) → IfSome (slice_get ys t) (P t)
each_but P xs ys n others all here t = elim (cases_eq t n) [
  | inl same ↦ subst (λ k. IfSome (slice_get ys k) (P k)) (sym same) here
  | inr other ↦ subst (λ o. IfSome o (P t)) (sym (others t other)) (all t)
]

pub made_but : {Fut S E : Type 0} (xs ys : List (Slot Fut S E)) (n : ℕ) → length ys ≡ length xs → ((t : ℕ) → t ≢ n → slice_get ys t ≡ slice_get xs t) → AllMade xs → IsMade (slice_get ys n) → AllMade ys
made_but xs ys n many others all here t inside = elim (cases_eq t n) [
  | inl same ↦ subst (λ k. IsMade (slice_get ys k)) (sym same) here
  | inr other ↦ subst (λ o. IsMade o) (sym (others t other)) (all t (omega (arith, inside, many)))
]

module _ {E S MFut : Type 0} (may_ready : ℕ → Readiness E → Type 0) where
  -- How far the checks have come: the services from n on are as they were, but that one which failed may be the one to be made anew.
  pub record CheckedTo (slots : List (Slot MFut S E)) (a : Worker) (now : List (Slot MFut S E)) (b : Worker) (n : ℕ) : Type 0 where
    pub upto : ChecksUpTo may_ready slots a now b n
    pub rest : (t : ℕ) → n ≤ t → slice_get now t ≡ slice_get slots t
    pub still : (t : ℕ) → n ≤ t → status_of b t ≡ Failed → status_of a t ≡ Failed
    pub stands : (t : ℕ) → n ≤ t → is_asked (status_of a t) ≡ true → is_asked (status_of b t) ≡ true
    pub as_many : length now ≡ length slots

  pub checks_none : (slots now : List (Slot MFut S E)) (a b : Worker) → b ≡ a → ChecksUpTo may_ready slots a now b 0
  checks_none slots now a b same = record {
    checks = [];
    as_many = refl;
    may = λ t. tt;
    asks = λ t below. absurd (omega arith);
    allowed = tt;
    core = same;
    accounted = λ t below. absurd (omega arith);
  }

  pub checked_none : (slots : List (Slot MFut S E)) (a : Worker) → CheckedTo slots a slots a 0
  checked_none slots a = record { upto = checks_none slots slots a a refl; rest = λ t above. refl; still = λ t above failed. failed; stands = λ t above is. is; as_many = refl }

  module _ (slots now next : List (Slot MFut S E)) (a b c : Worker) (n : ℕ) (so_far : CheckedTo slots a now b n) (it : Checks may_ready now b next c n) where
    pass : (t : ℕ) → t ≢ n → Passes (status_of b t) (status_of c t)
    pass t other = subst (λ v. Passes (status_of b t) (status_of v t)) (sym it.core) (calls_pass b n it.check t other)

    abbrev all : List Check
    all = so_far.upto.checks ++ it.check ∷ []

    calls : calls_from 0 all ≡ calls_from 0 so_far.upto.checks ++ calls_of n it.check
    calls = more_checks 0 so_far.upto.checks it.check ∙ ap (λ k. calls_from 0 so_far.upto.checks ++ calls_of k it.check) (let e : 0 + length so_far.upto.checks ≡ n = let m = so_far.upto.as_many in omega arith in e)

    stays_available : (t : ℕ) → status_of b t ≡ Available → Passes (status_of b t) (status_of c t) → status_of c t ≡ Available
    stays_available t was (inl same) = same ∙ was
    stays_available t was (inr failed) = absurd (let no : Available ≡ Failed = sym was ∙ failed.0 in cc)

    stays_unavailable : (t : ℕ) → status_of b t ≡ Unavailable → Passes (status_of b t) (status_of c t) → status_of c t ≡ Unavailable
    stays_unavailable t was (inl same) = same ∙ was
    stays_unavailable t was (inr failed) = absurd (let no : Unavailable ≡ Failed = sym was ∙ failed.0 in cc)

    stays_asked : (t : ℕ) → is_asked (status_of b t) ≡ true → Passes (status_of b t) (status_of c t) → is_asked (status_of c t) ≡ true
    stays_asked t was (inl same) = ap is_asked same ∙ was
    stays_asked t was (inr failed) = absurd (let no : false ≡ true = ap is_asked (sym failed.0) ∙ was in cc)

    earlier : (t : ℕ) → t < n → t ≢ n → IsAccounted may_ready slots a now b so_far.upto.checks t → IsAccounted may_ready slots a next c all t
    earlier t below other (inl available) = inl (stays_available t available (pass t other))
    earlier t below other (inr (inl pending)) = inr (inl (stays_unavailable t pending.0 (pass t other), pending.1))
    earlier t below other (inr (inr (inl failed))) = inr (inr (inl failed))
    earlier t below other (inr (inr (inr (inl moved)))) = inr (inr (inr (inl (subst (λ o. HasMoved o) (sym (pushed_before so_far.upto.checks it.check t (let m = so_far.upto.as_many in omega (arith, below, m)))) moved))))
    earlier t below other (inr (inr (inr (inr rose)))) = inr (inr (inr (inr (rose.0, subst (λ o. Rose (making_waits (slice_get slots t)) (making_waits o)) (sym (it.others t other)) rose.1))))

    here : (status_of c n ≡ Available) ⊎ (((status_of c n ≡ Unavailable) × may_ready n PollPending) ⊎ ((status_of b n ≡ Failed) ⊎ (HasMoved (Some it.check) ⊎ (HasErred (slice_get now n) × Rose (making_waits (slice_get now n)) (making_waits (slice_get next n)))))) → IsAccounted may_ready slots a next c all n
    here (inl available) = inl available
    here (inr (inl pending)) = inr (inl pending)
    here (inr (inr (inl failed))) = inr (inr (inl (so_far.still n (omega arith) failed)))
    here (inr (inr (inr (inl moved)))) = inr (inr (inr (inl (subst (λ o. HasMoved o) (sym (pushed_last so_far.upto.checks it.check n so_far.upto.as_many)) moved))))
    here (inr (inr (inr (inr rose)))) = inr (inr (inr (inr (subst (λ o. HasErred o × Rose (making_waits o) (making_waits (slice_get next n))) (so_far.rest n (omega arith)) rose))))

    stays_failed : (t : ℕ) → status_of c t ≡ Failed → Passes (status_of b t) (status_of c t) → status_of b t ≡ Failed
    stays_failed t is (inl same) = sym same ∙ is
    stays_failed t is (inr failed) = failed.0

    pub checked_more : CheckedTo slots a next c (n + 1)
    checked_more = record {
      upto = record {
        checks = all;
        as_many = let m = so_far.upto.as_many in omega (arith, length_push so_far.upto.checks it.check, m);
        may = each_push (λ t. MayCheck (may_ready t)) so_far.upto.checks it.check n so_far.upto.as_many so_far.upto.may it.may;
        asks = λ t below is. elim (cases_eq t n) [
          | inl same ↦ subst (λ k. WasAsked (slice_get all k)) (sym same) (subst (λ o. WasAsked o) (sym (pushed_last so_far.upto.checks it.check n so_far.upto.as_many))
              (it.asks (so_far.stands n (omega arith) (subst (λ k. is_asked (status_of a k) ≡ true) same is))))
          | inr other ↦ let less : t < n = omega (arith, below, other) in
              subst (λ o. WasAsked o) (sym (pushed_before so_far.upto.checks it.check t (let m = so_far.upto.as_many in omega (arith, less, m)))) (so_far.upto.asks t less is)
        ];
        allowed = subst (AllAllowed a) (sym calls) (allowed_append a (calls_from 0 so_far.upto.checks) (calls_of n it.check) so_far.upto.allowed (subst (λ v. AllAllowed v (calls_of n it.check)) so_far.upto.core it.allowed));
        core = it.core ∙ ap (λ v. after_calls v (calls_of n it.check)) so_far.upto.core ∙ sym (after_append a (calls_from 0 so_far.upto.checks) (calls_of n it.check)) ∙ ap (after_calls a) (sym calls);
        accounted = λ t below. elim (cases_eq t n) [
          | inl same ↦ subst (λ k. IsAccounted may_ready slots a next c all k) (sym same) (here it.accounted)
          | inr other ↦ let less : t < n = omega (arith, below, other) in earlier t less other (so_far.upto.accounted t less)
        ];
      };
      rest = λ t above. it.others t (omega (arith, above)) ∙ so_far.rest t (omega (arith, above));
      still = λ t above failed. so_far.still t (omega (arith, above)) (stays_failed t failed (pass t (omega (arith, above))));
      stands = λ t above is. stays_asked t (so_far.stands t (omega (arith, above)) is) (pass t (omega (arith, above)));
      as_many = it.as_many ∙ so_far.as_many;
    }

  -- ---- what one service came to
  pub checks_asked : (slots after : List (Slot MFut S E)) (a b : Worker) (token : ℕ) (it : ReadyAnswer) → MayAnswer (may_ready token) it → MayAsk a token → b ≡ after_ready a token it
      → ((t : ℕ) → t ≢ token → slice_get after t ≡ slice_get slots t) → length after ≡ length slots → Checks may_ready slots a after b token
  checks_asked slots after a b token it may allowed core others many = record {
    check = asked it;
    may = may;
    asks = λ is. tt;
    allowed = (allowed, tt);
    core = core;
    others = others;
    as_many = many;
    accounted = by_answer it may core;
  }
    where
      by_answer : (it : ReadyAnswer) → MayAnswer (may_ready token) it → b ≡ after_ready a token it
          → (status_of b token ≡ Available) ⊎ (((status_of b token ≡ Unavailable) × may_ready token PollPending) ⊎ ((status_of a token ≡ Failed) ⊎ (HasMoved (Some (asked it)) ⊎ (HasErred (slice_get slots token) × Rose (making_waits (slice_get slots token)) (making_waits (slice_get after token))))))
      by_answer answer.Ready may core = inl (ap (λ w. status_of w token) core ∙ answered_same a token answer.Ready allowed.listens)
      by_answer answer.NotReady may core = inr (inl (ap (λ w. status_of w token) core ∙ answered_same a token answer.NotReady allowed.listens, may))
      by_answer answer.Err may core = inr (inr (inr (inl tt)))

  pub checks_remade : (slots after : List (Slot MFut S E)) (a b : Worker) (token : ℕ) → MayRestart a token → b ≡ after_restarted a token
      → ((t : ℕ) → t ≢ token → slice_get after t ≡ slice_get slots t) → length after ≡ length slots → Checks may_ready slots a after b token
  checks_remade slots after a b token allowed core others many = record {
    check = remade;
    may = tt;
    asks = λ is. absurd (let no : false ≡ true = ap is_asked (sym allowed.restarts) ∙ is in cc);
    allowed = (allowed, tt);
    core = core;
    others = others;
    as_many = many;
    accounted = inr (inr (inr (inl tt)));
  }

  pub checks_waits : (slots after : List (Slot MFut S E)) (a b : Worker) (token : ℕ) → b ≡ a → is_asked (status_of a token) ≡ false → (status_of a token ≡ Failed) ⊎ (HasErred (slice_get slots token) × Rose (making_waits (slice_get slots token)) (making_waits (slice_get after token)))
      → ((t : ℕ) → t ≢ token → slice_get after t ≡ slice_get slots t) → length after ≡ length slots → Checks may_ready slots a after b token
  checks_waits slots after a b token core unasked why others many = record {
    check = passed;
    may = tt;
    asks = λ is. absurd (let no : false ≡ true = sym unasked ∙ is in cc);
    allowed = tt;
    core = core;
    others = others;
    as_many = many;
    accounted = inr (inr (by_cause why));
  }
    where
      by_cause : (status_of a token ≡ Failed) ⊎ (HasErred (slice_get slots token) × Rose (making_waits (slice_get slots token)) (making_waits (slice_get after token)))
          → (status_of a token ≡ Failed) ⊎ (HasMoved (Some passed) ⊎ (HasErred (slice_get slots token) × Rose (making_waits (slice_get slots token)) (making_waits (slice_get after token))))
      by_cause (inl failed) = inl failed
      by_cause (inr rose) = inr (inr rose)

  -- those that were made for the first time before
  pub checks_from_made : (slots mid after : List (Slot MFut S E)) (a b : Worker) (n : ℕ) → ((t : ℕ) → HasErred (slice_get mid t) → slice_get slots t ≡ slice_get mid t)
      → ChecksUpTo may_ready mid a after b n → ChecksUpTo may_ready slots a after b n
  checks_from_made slots mid after a b n erred it = record {
    checks = it.checks;
    as_many = it.as_many;
    may = it.may;
    asks = it.asks;
    allowed = it.allowed;
    core = it.core;
    accounted = λ t below. by_cause t (it.accounted t below);
  }
    where
      by_cause : (t : ℕ) → IsAccounted may_ready mid a after b it.checks t → IsAccounted may_ready slots a after b it.checks t
      by_cause t (inl available) = inl available
      by_cause t (inr (inl pending)) = inr (inl pending)
      by_cause t (inr (inr (inl failed))) = inr (inr (inl failed))
      by_cause t (inr (inr (inr (inl moved)))) = inr (inr (inr (inl moved)))
      by_cause t (inr (inr (inr (inr rose)))) = inr (inr (inr (inr (subst (λ o. HasErred o × Rose (making_waits o) (making_waits (slice_get after t))) (sym (erred t rose.0)) rose))))

  -- where not all were made none is checked
  pub checks_unmade : (slots now : List (Slot MFut S E)) (a b : Worker) (made : Bool) (n : ℕ) → b ≡ a → made ≡ false → ChecksUpTo may_ready slots a now b (cond made n 0)
  checks_unmade slots now a b made n is unmade = subst (λ m. ChecksUpTo may_ready slots a now b (cond m n 0)) (sym unmade) (checks_none slots now a b is)

  pub checks_made : (slots now : List (Slot MFut S E)) (a b : Worker) (made : Bool) (n m : ℕ) → made ≡ true → m ≡ n → ChecksUpTo may_ready slots a now b n → ChecksUpTo may_ready slots a now b (cond made m 0)
  checks_made slots now a b made n m is many checks = subst (λ t. ChecksUpTo may_ready slots a now b (cond t m 0)) (sym is) (subst (ChecksUpTo may_ready slots a now b) (sym many) checks)

  -- where it took no stop, it checks them once they were made
  pub checks_going : (slots now : List (Slot MFut S E)) (a b : Worker) (made stopped : Bool) (n : ℕ) → stopped ≡ false → ChecksUpTo may_ready slots a now b (cond made n 0) → ChecksUpTo may_ready slots a now b (cond (made && not stopped) n 0)
  checks_going slots now a b true stopped n unstopped checks = subst (λ s. ChecksUpTo may_ready slots a now b (cond (true && not s) n 0)) (sym unstopped) checks
  checks_going slots now a b false stopped n unstopped checks = checks

  -- where it took one, it checks none
  pub checks_stopped : (slots now : List (Slot MFut S E)) (a b : Worker) (made stopped : Bool) (n : ℕ) → b ≡ a → stopped ≡ true → ChecksUpTo may_ready slots a now b (cond (made && not stopped) n 0)
  checks_stopped slots now a b true stopped n is stop = subst (λ s. ChecksUpTo may_ready slots a now b (cond (true && not s) n 0)) (sym stop) (checks_none slots now a b is)
  checks_stopped slots now a b false stopped n is stop = checks_none slots now a b is

-- a mark that says what does not hold is not set
pub is_unset : (mark : Bool) (P : Type 0) → (mark ≡ true → P) → (P → ⊥) → mark ≡ false
is_unset true P says fails = absurd (fails (says refl))
is_unset false P says fails = refl
