-- How the steps of a connection keep it going.
use Rattle.std.proofs.Common.{◌≡◌, ◌<◌, ◌⊎◌, ℕ, List, [], ◌++◌, arith, sym, ap, drop, append_assoc, inl, inr, ◌∙◌, refl, Some, None}
use Rattle.std.specs.Prelude.{Result, Option, IfSome}
use Rattle.futures.specs.Poll.{OnPending}
use Rattle.futures.specs.declared.future.Future.{Ghosts as FutureOf}
use Rattle.futures.specs.declared.task.Poll.{Poll}
use Rattle.futures.specs.declared.task.Poll.TheVariants.{Ready, Pending}
use Rattle.http1_grammar.specs.Answers.{Expected, done, after}
use Rattle.service_core.specs.declared.peer.Peer.{Peer}
use Rattle.http1_grammar.specs.Reading as reading
use Rattle.http1_grammar.specs.Reading.{Reading as Reader, needs_more, decision, fed}
use Rattle.http1_grammar.specs.Wire.{Response}
use Rattle.http1_plain.specs.declared.request.Request.{Request}
use Rattle.service_core.specs.Counts.{Rose}
use Rattle.service_core.specs.Meaning.{GivesOnly}
use Rattle.service_core.specs.declared.ended.How.TheVariants.{Served, ReadFault, WriteFault, Upgraded, Memory}
use Rattle.service_core.specs.declared.link.Link.{Ghosts as LinkOf}
use Rattle.http1_dispatcher.specs.Requests.{AreFunctions, Functions, Relations, responds, says, served}
use Rattle.http1_dispatcher.specs.Ending.{FaultsBy, OnTaken, OnUntaken, WroteAll, WroteBeyond, WroteSome}
use Rattle.http1_dispatcher.specs.Moves.{Flushed, FlushAnswer, FillAnswer, KeptWriting, Gave}
use Rattle.http1_dispatcher.specs.Progress.{Stands, IsPlaced, IsSound, owed_at, owed}
use Rattle.http1_dispatcher.specs.Steps.{Answers, IsAnswer, IsAsk, IsCall, IsExpected, IsNoCall, IsOpen, OwesSame}
use Rattle.http1_dispatcher.specs.Going.{Fits, IsGoing, IsQuiet, MayEndBy, MayExit, Start, Turns}
use Rattle.http1_dispatcher.specs.declared.awaited.Awaited.{Awaited}
use Rattle.http1_dispatcher.specs.declared.awaited.Awaited.TheVariants.{Response as Responding, Expectation}
use Rattle.http1_dispatcher.specs.declared.exchange.Exchange.{Exchange}
use Rattle.http1_dispatcher.specs.declared.exchange.Stage.{Stage}
use Rattle.http1_dispatcher.specs.declared.exchange.Stage.TheVariants.{Reading, Asking, Awaiting, Calling, Upgrading, Closing}
use Rattle.http1_dispatcher.specs.declared.turn.Exit.{Exit}
use Rattle.http1_dispatcher.specs.declared.turn.Exit.TheVariants.{Ended, Upgrade}
use Rattle.http1_dispatcher.specs.declared.turn.Turn.{Turn}
use Rattle.http1_dispatcher.specs.declared.turn.Turn.TheVariants.{On, Out}
use Rattle.http1_dispatcher.proofs.Ways.{progress_start, progress_owes, progress_wrote, progress_read, wrote_some, ends_served, grew_none, wrote_taken, if_some}
use Rattle.http1_dispatcher.proofs.Answering.{fed_nothing, served_waits}

module _ {E XE F XF : Type 0} (sf : FutureOf F (Result Response E)) (xf : FutureOf XF (Result Request XE)) (r : Relations E XE) where
  no_call_fits : (awaited : Awaited F XF) (stage : Stage) → IsNoCall stage → Fits sf xf r awaited stage
  no_call_fits awaited Reading n = tt
  no_call_fits awaited (Asking request reply) n = absurd n
  no_call_fits awaited (Awaiting head from reply) n = tt
  no_call_fits awaited (Calling request reply) n = absurd n
  no_call_fits awaited (Upgrading head) n = tt
  no_call_fits awaited Closing n = tt

  response_polled : (future later : F) (stage : Stage) → sf.can_poll later → ((x : Result Response E) → sf.gives later x → sf.gives future x)
      → Fits sf xf r (Responding future) stage → Fits sf xf r (Responding later) stage
  response_polled future later Reading can same f = tt
  response_polled future later (Asking request reply) can same f = absurd f
  response_polled future later (Awaiting head from reply) can same f = tt
  response_polled future later (Calling request reply) can same f = (can, λ x given. f.1 x (same x given))
  response_polled future later (Upgrading head) can same f = tt
  response_polled future later Closing can same f = tt

  expectation_polled : (future later : XF) (stage : Stage) → xf.can_poll later → ((x : Result Request XE) → xf.gives later x → xf.gives future x)
      → Fits sf xf r (Expectation future) stage → Fits sf xf r (Expectation later) stage
  expectation_polled future later Reading can same f = tt
  expectation_polled future later (Asking request reply) can same f = (can, λ x given. f.1 x (same x given))
  expectation_polled future later (Awaiting head from reply) can same f = tt
  expectation_polled future later (Calling request reply) can same f = absurd f
  expectation_polled future later (Upgrading head) can same f = tt
  expectation_polled future later Closing can same f = tt

  -- a response that a call gave is the handler's
  pub call_answers : (future : F) (stage : Stage) (f : Functions) (result : Result Response E) (response : Response) → IsCall stage
      → Fits sf xf r (Responding future) stage → sf.gives future result → responds r.meaning result ≡ Some response → AreFunctions r f
      → IsAnswer stage f.handler response
  call_answers future Reading f result response c fits given is are = absurd c
  call_answers future (Asking request reply) f result response c fits given is are = absurd c
  call_answers future (Awaiting head from reply) f result response c fits given is are = absurd c
  call_answers future (Calling request reply) f result response c fits given is are =
      are.0 request.value result response (fits.1 result given) is
  call_answers future (Upgrading head) f result response c fits given is are = absurd c
  call_answers future Closing f result response c fits given is are = absurd c

  -- what the expect service gave is what the function says
  pub ask_answers : (future : XF) (stage : Stage) (f : Functions) (result : Result Request XE) (answer : Expected Peer) → IsAsk stage
      → Fits sf xf r (Expectation future) stage → xf.gives future result → says r.refusing result ≡ Some answer → AreFunctions r f
      → IsExpected stage f.expect answer
  ask_answers future Reading f result answer c fits given is are = absurd c
  ask_answers future (Asking request reply) f result answer c fits given is are =
      are.1 request.value result answer (fits.1 result given) is
  ask_answers future (Awaiting head from reply) f result answer c fits given is are = absurd c
  ask_answers future (Calling request reply) f result answer c fits given is are = absurd c
  ask_answers future (Upgrading head) f result answer c fits given is are = absurd c
  ask_answers future Closing f result answer c fits given is are = absurd c

module _ {L E XE F XF : Type 0} (g : LinkOf L) (r : Relations E XE) (start : Start L)
    (sf : FutureOf F (Result Response E)) (xf : FutureOf XF (Result Request XE)) where
  kept_sound : (link after_link : L) → KeptWriting g link after_link → g.read_faults after_link ≡ g.read_faults link
      → IsSound g start.link link → IsSound g start.link after_link
  kept_sound link after_link k faults s = record {
    same = k.same ∙ s.same;
    read_faults = faults ∙ s.read_faults;
    write_faults = k.write_faults ∙ s.write_faults;
  }

  -- nothing was written or read, and the same is owed, where no call is under way
  pub going_answered : (link : L) (old new : Exchange) (awaited later : Awaited F XF) → IsNoCall new.stage → IsPlaced start.rules new
      → ((f : Functions) → AreFunctions r f → Answers start.rules start.peer f old new)
      → IsGoing g r start sf xf link old awaited → IsGoing g r start sf xf link new later
  going_answered link old new awaited later n placed same going = record {
    limited = going.limited;
    placed = placed;
    sound = going.sound;
    fits = no_call_fits sf xf r later new.stage n;
    goes = λ f are. progress_owes g (served start.rules start.peer f) start.link link (owed start.rules start.peer f old) (owed start.rules start.peer f new)
        (same f are) (going.goes f are);
  }

  going_fits : (link : L) (old : Exchange) (awaited later : Awaited F XF) → Fits sf xf r later old.stage
      → IsGoing g r start sf xf link old awaited → IsGoing g r start sf xf link old later
  going_fits link old awaited later fits going = record {
    limited = going.limited;
    placed = going.placed;
    sound = going.sound;
    fits = fits;
    goes = going.goes;
  }

  pub going_response_polled : (link : L) (old : Exchange) (future later : F) → sf.can_poll later
      → ((x : Result Response E) → sf.gives later x → sf.gives future x)
      → IsGoing g r start sf xf link old (Responding future) → IsGoing g r start sf xf link old (Responding later)
  going_response_polled link old future later can same going =
      going_fits link old (Responding future) (Responding later) (response_polled sf xf r future later old.stage can same going.fits) going

  pub going_expectation_polled : (link : L) (old : Exchange) (future later : XF) → xf.can_poll later
      → ((x : Result Request XE) → xf.gives later x → xf.gives future x)
      → IsGoing g r start sf xf link old (Expectation future) → IsGoing g r start sf xf link old (Expectation later)
  going_expectation_polled link old future later can same going =
      going_fits link old (Expectation future) (Expectation later) (expectation_polled sf xf r future later old.stage can same going.fits) going

  -- the request that was put by went to its service
  pub going_out : (link : L) (old new later : Exchange) (awaited next : Awaited F XF) → later ≡ record new { request = None }
      → OwesSame start.rules start.peer old new → IsPlaced start.rules new → Fits sf xf r next later.stage
      → IsGoing g r start sf xf link old awaited → IsGoing g r start sf xf link later next
  going_out link old new later awaited next is same placed fits going = record {
    limited = going.limited;
    placed = rw is (record { limits_are = placed.limits_are; stands = placed.stands });
    sound = going.sound;
    fits = fits;
    goes = λ f are. rw is (progress_owes g (served start.rules start.peer f) start.link link (owed start.rules start.peer f old) (owed start.rules start.peer f new)
        (same f) (going.goes f are));
  }

  pub going_wrote : (link after_link : L) (old new : Exchange) (awaited : Awaited F XF) → new.reader ≡ old.reader → new.stage ≡ old.stage
      → Flushed g link after_link old.out new.out → g.write_faults after_link ≡ g.write_faults link
      → IsGoing g r start sf xf link old awaited → IsGoing g r start sf xf after_link new awaited
  going_wrote link after_link old new awaited u s w faults going = record {
    limited = going.limited;
    placed = record { limits_are = rw u going.placed.limits_are; stands = rw (u, s) going.placed.stands };
    sound = record {
      same = w.wrote.same ∙ going.sound.same;
      read_faults = w.wrote.read_faults ∙ going.sound.read_faults;
      write_faults = faults ∙ going.sound.write_faults;
    };
    fits = rw s going.fits;
    goes = λ f are. rw (u, s) (progress_wrote g (served start.rules start.peer f) start.link link after_link
        (λ more. owed_at start.rules start.peer f old.stage (fed old.reader more)) old.out new.out w (going.goes f are));
  }

  pub going_read : (link after_link : L) (old new : Exchange) (bytes : List ℕ) (awaited : Awaited F XF) → KeptWriting g link after_link
      → IfSome (g.identity link).held (Gave g link after_link bytes) → g.read_faults after_link ≡ g.read_faults link
      → new.reader ≡ fed old.reader bytes → new.out ≡ old.out → new.stage ≡ old.stage
      → IsGoing g r start sf xf link old awaited → IsGoing g r start sf xf after_link new awaited
  going_read link after_link old new bytes awaited k gave faults u o s going = record {
    limited = going.limited;
    placed = record { limits_are = rw u going.placed.limits_are; stands = rw (u, s) going.placed.stands };
    sound = kept_sound link after_link k faults going.sound;
    fits = rw s going.fits;
    goes = λ f are. rw (u, o, s) (progress_read g (served start.rules start.peer f) start.link link after_link
        (λ x. after old.out (owed_at start.rules start.peer f old.stage (record old.reader { unread = x }))) old.reader.unread bytes k going.sound.same gave (going.goes f are));
  }

  -- what was written last is a front of what was owed
  fits_flush : (link after_link : L) (old : Exchange) (rest : List ℕ) (f : Functions) → (w : Flushed g link after_link old.out rest)
      → (more : List ℕ) → (back : List ℕ) × ((owed start.rules start.peer f old more).0 ≡ w.put ++ back)
  fits_flush link after_link old rest f w more =
      (rest ++ (owed_at start.rules start.peer f old.stage (fed old.reader more)).0, rw w.is (simp append_assoc))

  -- a front was written, so no more than all
  some_or_beyond : (f : Functions) (after_link : L)
      → OnUntaken g (served start.rules start.peer f) start.link after_link (WroteSome g (served start.rules start.peer f) start.link after_link)
      → OnUntaken g (served start.rules start.peer f) start.link after_link (λ bytes. WroteSome g (served start.rules start.peer f) start.link after_link bytes
      ⊎ WroteBeyond g (served start.rules start.peer f) start.link after_link bytes)
  some_or_beyond f after_link some = if_some _ _ (g.identity start.link).held (λ all w. inl w) some

  pub flush_exits : (link after_link : L) (old new : Exchange) (awaited : Awaited F XF) (exit : Exit) → Flushed g link after_link old.out new.out
      → FlushAnswer g link after_link new.out (Ready (Out exit))
      → IsGoing g r start sf xf link old awaited → MayExit g r start sf xf after_link new awaited exit
  flush_exits link after_link old new awaited exit w (inl x) going = rw x.0 (record {
    same = w.wrote.same ∙ going.sound.same;
    faults = rw going.sound.write_faults at x.1;
    wrote = λ f are. wrote_some g (served start.rules start.peer f) start.link link after_link (owed start.rules start.peer f old) w.put
        (fits_flush link after_link old new.out f w) w.wrote.grew (going.goes f are);
  })
  flush_exits link after_link old new awaited exit w (inr m) going = rw m (record {
    same = w.wrote.same ∙ going.sound.same;
    faults = tt;
    wrote = λ f are. some_or_beyond f after_link (wrote_some g (served start.rules start.peer f) start.link link after_link (owed start.rules start.peer f old) w.put
        (fits_flush link after_link old new.out f w) w.wrote.grew (going.goes f are));
  })

  pub unmoved : (link : L) → KeptWriting g link link
  unmoved link = record { same = refl; written = refl; write_faults = refl; write_waits = refl }

  pub memory_ends : (link after_link : L) (old : Exchange) (awaited : Awaited F XF) → KeptWriting g link after_link
      → IsGoing g r start sf xf link old awaited → MayEndBy g r start after_link Memory
  memory_ends link after_link old awaited k going = record {
    same = k.same ∙ going.sound.same;
    faults = tt;
    wrote = λ f are. some_or_beyond f after_link (wrote_some g (served start.rules start.peer f) start.link link after_link (owed start.rules start.peer f old) []
        (λ more. ((owed start.rules start.peer f old more).0, refl)) (k.written ∙ grew_none (g.written link)) (going.goes f are));
  }

  -- memory ran out, and the link is where it was
  pub memory_exits : (link after_link : L) (old new : Exchange) (awaited later : Awaited F XF) (exit : Exit) → exit ≡ Ended Memory → after_link ≡ link
      → IsGoing g r start sf xf link old awaited → MayExit g r start sf xf after_link new later exit
  memory_exits link after_link old new awaited later exit m same going = rw (m, same) (memory_ends link link old awaited (unmoved link) going)

  if_all : {A : Type 0} (P : A → Type 0) (o : Option A) → ((x : A) → P x) → IfSome o P
  if_all P None f = tt
  if_all P (Some x) f = f x

  unfaulted : (link : L) → IsSound g start.link link → FaultsBy g start.link link Served
  unfaulted link s = (omega (arith, s.read_faults), omega (arith, s.write_faults))

  pub closing_ends : (link : L) (old : Exchange) (awaited : Awaited F XF) → old.out ≡ [] → old.stage ≡ Closing
      → IsGoing g r start sf xf link old awaited → MayEndBy g r start link Served
  closing_ends link old awaited o s going = record {
    same = going.sound.same;
    faults = unfaulted link going.sound;
    wrote = λ f are. ends_served g (served start.rules start.peer f) start.link link link (owed start.rules start.peer f old)
        (if_all _ (g.identity start.link).held (λ all. rw (o, s) refl)) (unmoved link) (going.goes f are);
  }

  undecided_owes : (stage : Stage) (f : Functions) (reader : Reader) → 0 < start.rules.limits.head → reader.limits ≡ start.rules.limits
      → Stands start.rules.has_upgrade stage reader.stage → IsOpen stage → decision reader ≡ needs_more
      → owed_at start.rules start.peer f stage reader ≡ ([], done)
  undecided_owes Reading f reader p l s o u = served_waits start.rules start.peer f reader p l s u
  undecided_owes (Asking request reply) f reader p l s o u = absurd o
  undecided_owes (Awaiting head from reply) f reader p l s o u = rw u refl
  undecided_owes (Calling request reply) f reader p l s o u = absurd o
  undecided_owes (Upgrading head) f reader p l s o u = absurd o
  undecided_owes Closing f reader p l s o u = absurd o

  -- nothing is owed where the bytes decide nothing and no more come
  quiet_owes : (old : Exchange) (f : Functions) → 0 < start.rules.limits.head → IsPlaced start.rules old → IsQuiet old
      → owed start.rules start.peer f old [] ≡ ([], done)
  quiet_owes old f p placed q =
      ap (λ out. after out (owed_at start.rules start.peer f old.stage (fed old.reader []))) q.out
      ∙ ap (λ x. after [] (owed_at start.rules start.peer f old.stage x)) (sym (fed_nothing old.reader))
      ∙ ap (after []) (undecided_owes old.stage f old.reader p placed.limits_are placed.stands q.undecided.is_open q.undecided.waits)

  pub end_ends : (link after_link : L) (old : Exchange) (awaited : Awaited F XF) → IsQuiet old → KeptWriting g link after_link
      → IfSome (g.identity link).held (λ all. drop (g.taken link) all ≡ []) → g.read_faults after_link ≡ g.read_faults link
      → IsGoing g r start sf xf link old awaited → MayEndBy g r start after_link Served
  end_ends link after_link old awaited q k ended faults going =
      let sound = kept_sound link after_link k faults going.sound in
      record {
        same = sound.same;
        faults = unfaulted after_link sound;
        wrote = λ f are. ends_served g (served start.rules start.peer f) start.link link after_link (owed start.rules start.peer f old)
            (over f (g.identity start.link).held (rw going.sound.same at ended)) k (going.goes f are);
      }
    where
      over : (f : Functions) (o : Option (List ℕ)) → IfSome o (λ all. drop (g.taken link) all ≡ [])
          → IfSome o (λ all. owed start.rules start.peer f old (drop (g.taken link) all) ≡ ([], done))
      over f None e = tt
      over f (Some all) e = rw e (quiet_owes old f going.limited going.placed q)

  pub fault_ends : (link after_link : L) (old : Exchange) (awaited : Awaited F XF) → IsQuiet old → KeptWriting g link after_link
      → g.taken after_link ≡ g.taken link → Rose (g.read_faults link) (g.read_faults after_link)
      → IsGoing g r start sf xf link old awaited → MayEndBy g r start after_link ReadFault
  fault_ends link after_link old awaited q k taken rose going = record {
    same = k.same ∙ going.sound.same;
    faults = rw going.sound.read_faults at rose;
    wrote = λ f are. wrote_taken g (served start.rules start.peer f) start.link link after_link (owed start.rules start.peer f old)
        (quiet_owes old f going.limited going.placed q) k taken (going.goes f are);
  }

  -- all that was taken is answered
  pub quiet_answered : (link : L) (old : Exchange) (awaited : Awaited F XF) → IsQuiet old → IsGoing g r start sf xf link old awaited
      → (f : Functions) → AreFunctions r f
      → OnTaken g (served start.rules start.peer f) start.link link (WroteAll g (served start.rules start.peer f) start.link link)
  quiet_answered link old awaited q going f are =
      wrote_taken g (served start.rules start.peer f) start.link link link (owed start.rules start.peer f old)
      (quiet_owes old f going.limited going.placed q) (unmoved link) refl (going.goes f are)

  -- what one read leads to
  pub read_turns : (link after_link : L) (old new : Exchange) (awaited : Awaited F XF) (armed : Type 0) (result : Poll Turn)
      → IsQuiet old → new.out ≡ old.out → new.stage ≡ old.stage
      → KeptWriting g link after_link → FillAnswer g link after_link old.reader new.reader result → OnPending result armed
      → IsGoing g r start sf xf link old awaited
      → Turns result (IsGoing g r start sf xf after_link new awaited × Rose (g.taken link) (g.taken after_link))
      (MayExit g r start sf xf after_link new awaited)
      (IsGoing g r start sf xf after_link new awaited × IsQuiet new
      × Rose (g.read_waits link) (g.read_waits after_link) × armed)
  read_turns link after_link old new awaited armed (Ready On) q o s k f a going =
      (going_read link after_link old new f.0 awaited k f.2 f.4 f.1 o s going, f.3)
  read_turns link after_link old new awaited armed (Ready (Out (Ended Served))) q o s k f a going =
      end_ends link after_link old awaited q k f.0 f.1 going
  read_turns link after_link old new awaited armed (Ready (Out (Ended ReadFault))) q o s k f a going =
      fault_ends link after_link old awaited q k f.0 f.1 going
  read_turns link after_link old new awaited armed (Ready (Out (Ended WriteFault))) q o s k f a going = absurd f
  read_turns link after_link old new awaited armed (Ready (Out (Ended Upgraded))) q o s k f a going = absurd f
  read_turns link after_link old new awaited armed (Ready (Out (Ended Memory))) q o s k f a going =
      memory_ends link after_link old awaited k going
  read_turns link after_link old new awaited armed (Ready (Out Upgrade)) q o s k f a going = absurd f
  read_turns link after_link old new awaited armed Pending q o s k f a going = (
    going_read link after_link old new [] awaited k (none (g.identity link).held) f.3 (f.0 ∙ fed_nothing old.reader) o s going,
    record { out = o ∙ q.out; undecided = record { is_open = rw s q.undecided.is_open; waits = rw f.0 q.undecided.waits } },
    f.2,
    a,
  )
    where
      none : (held : Option (List ℕ)) → IfSome held (Gave g link after_link [])
      none None = tt
      none (Some all) = record { count = omega (arith, f.1); bytes_are = rw f.1 refl }

  -- at the start all is owed
  pub going_start : (link : L) (exchange : Exchange) (awaited : Awaited F XF)
      → 0 < start.rules.limits.head → start.link ≡ link
      → exchange.reader.limits ≡ start.rules.limits → exchange.reader.unread ≡ [] → exchange.reader.stage ≡ reading.at_head
      → exchange.out ≡ [] → exchange.stage ≡ Reading → IsGoing g r start sf xf link exchange awaited
  going_start link exchange awaited l b limits u at o s = record {
    limited = l;
    placed = record { limits_are = limits; stands = rw s at };
    sound = rw b (record { same = refl; read_faults = refl; write_faults = refl });
    fits = rw s tt;
    goes = λ f are. progress_owes g (served start.rules start.peer f) start.link link (served start.rules start.peer f) (owed start.rules start.peer f exchange)
        (λ more. rw (u, o, s) refl) (rw b (progress_start g (served start.rules start.peer f) link));
  }

pub open_no_call : (stage : Stage) → IsOpen stage → IsNoCall stage
open_no_call Reading o = tt
open_no_call (Asking request reply) o = absurd o
open_no_call (Awaiting head from reply) o = tt
open_no_call (Calling request reply) o = absurd o
open_no_call (Upgrading head) o = absurd o
open_no_call Closing o = absurd o
