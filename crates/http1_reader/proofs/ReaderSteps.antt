-- The steps of a reader.
use Rattle.std.proofs.Common.{◌≡◌, ◌≤◌, ◌+◌, ◌-◌, ℕ, List, ◌++◌, length, drop, arith, sym, ap, ◌∙◌, subst, refl, inl, append_assoc, length-append, length-take, length-drop}
use Rattle.std.proofs.lemmas.List.{take_rest, drop-drop, drop-append-le, take-append-le}
use Rattle.http1_grammar.specs.Limits.{Limits}
use Rattle.http1_grammar.specs.Lines.{skip_empty_lines, cut_at}
use Rattle.http1_grammar.specs.Framing as grammar
use Rattle.http1_grammar.specs.Framing.{framing}
use Rattle.http1_grammar.specs.Next.{Next, nothing, refuse, found, next_head, next}
use Rattle.http1_grammar.specs.Body.{last, piece, sized_chunk}
use Rattle.http1_grammar.specs.Reading.{Stage, at_head, in_length, in_chunks, is_refused, body_stage, Reading, Decision, needs_more, refuses, a_head, a_body, of_next, decision_at, decision, behind, IsRefusal, StageRefuses, StageFits, held}
use Rattle.http1_grammar.proofs.StatusLemmas.{reading_refuses}
use Rattle.http1_grammar.proofs.HeldLemmas.{reader_holds, reader_fits}
use Rattle.http1_plain.specs.Views.{view}
use Rattle.http1_plain.specs.declared.request_head.RequestHead as code
use Rattle.http1_head.specs.Passing.{HasSeen}
use Rattle.http1_head.proofs.ScanSteps.{from}
use Rattle.http1_head.proofs.PassingSteps.{seen_more}
use Rattle.http1_head.proofs.NextSteps.{Skips, next_at}
use Rattle.http1_reader.specs.Pieces.{IsPassed, IsSized, IsLast}
use Rattle.http1_reader.specs.Decoding.{room, IsAt}
use Rattle.http1_reader.specs.declared.decode.Part.{Part}
use Rattle.http1_reader.specs.declared.decode.Part.TheVariants as part
use Rattle.http1_reader.specs.declared.reader_state.Place.{Place}
use Rattle.http1_reader.specs.declared.reader_state.Place.TheVariants as place
use Rattle.http1_reader.specs.declared.reader_state.ReaderState.{ReaderState}
use Rattle.http1_reader.specs.declared.step.Step.{Step}
use Rattle.http1_reader.specs.declared.step.Step.TheVariants as step
use Rattle.http1_reader.specs.Readers.{decision_of, Tells, HoldsLittle, stage_of, unread_of, reading_of, IsKnown, Gives, Stands, IsSound}

-- ---- more bytes come

passed_more : (left more : List ℕ) (seen : ℕ) → IsPassed left seen → IsPassed (left ++ more) seen
passed_more left more seen p = record {
  within = let w = p.within in omega (arith, length-append left more);
  limited = p.limited;
  no_feed = ap (cut_at 10) (take-append-le seen left more p.within) ∙ p.no_feed;
}

sized_more : (n : ℕ) (left more : List ℕ) (line size : ℕ) → IsSized n left line size → IsSized n (left ++ more) line size
sized_more n left more line size s = record {
  above = s.above;
  within = let w = s.within in omega (arith, length-append left more);
  fits = s.fits;
  is = λ rest. ap (piece n) (append_assoc left more rest) ∙ s.is (more ++ rest)
      ∙ ap (sized_chunk size) (sym (append_assoc (drop line left) more rest) ∙ ap (λ x. x ++ rest) (sym (drop-append-le line left more s.within)));
}

last_more : (n : ℕ) (left more : List ℕ) (line : ℕ) → IsLast n left line → IsLast n (left ++ more) line
last_more n left more line s = record {
  within = let w = s.within in omega (arith, length-append left more);
  is = λ rest. ap (piece n) (append_assoc left more rest) ∙ s.is (more ++ rest)
      ∙ ap (λ x. last x)
      (sym (append_assoc (drop line left) more rest) ∙ ap (λ x. x ++ rest) (sym (drop-append-le line left more s.within)));
}

at_more : (limits : Limits) (left more data' : List ℕ) (p : Part) → IsAt limits left data' p → IsAt limits (left ++ more) data' p
at_more limits left more data' (part.Line seen) h = passed_more left more seen h
at_more limits left more data' (part.Content line size) h = sized_more (room limits data') left more line size h
at_more limits left more data' (part.Trailer line seen) h = (
  last_more (room limits data') left more line h.0,
  subst (λ (x : List ℕ). HasSeen limits x seen) (sym (drop-append-le line left more h.0.within)) (seen_more limits (drop line left) more seen h.1),
)

pub known_more : (limits : Limits) (unread more data' : List ℕ) (p : Place) → IsKnown limits unread data' p → IsKnown limits (unread ++ more) data' p
known_more limits unread more data' (place.Head seen) h = seen_more limits unread more seen h
known_more limits unread more data' (place.Sized size) h = tt
known_more limits unread more data' (place.Chunks p) h = at_more limits unread more data' p h
known_more limits unread more data' (place.Refused status) h = tt

-- ---- steps

gives_by : (old new : Reading) (answer : Step) (stage : Stage) (d : Decision) → old.stage ≡ stage → decision_of answer new.unread ≡ d
    → d ≡ decision_at old.limits stage old.unread → new ≡ behind (record { limits = old.limits; unread = old.unread; stage = stage }) d → Gives old answer new
gives_by old new answer stage d e p q r = record {
  decides = p ∙ q ∙ ap (λ s. decision_at old.limits s old.unread) (sym e);
  leaves = r ∙ ap (λ s. behind (record { limits = old.limits; unread = old.unread; stage = s }) d) (sym e)
      ∙ ap (behind old) (q ∙ ap (λ s. decision_at old.limits s old.unread) (sym e));
}

same_reading : (limits : Limits) (u v : List ℕ) (s t : Stage) → u ≡ v → s ≡ t
    → ◌≡◌ {A = Reading} (record { limits = limits; unread = u; stage = s }) (record { limits = limits; unread = v; stage = t })
same_reading limits u v s t p q = cc

-- what is behind the empty lines
module _ (old : ReaderState) (bytes : List ℕ) (skipped : ℕ) (same : bytes ≡ old.bytes) (skips : Skips (from old.start bytes) skipped) where
  unread_is : from old.start bytes ≡ unread_of old
  unread_is = take_rest bytes old.start ∙ ap (drop old.start) same

  decides : (d : Next) → d ≡ next_head old.limits (from skipped (from old.start bytes)) → of_next d ≡ decision_at old.limits at_head (unread_of old)
  decides d h = ap of_next (h ∙ next_at old.limits (from old.start bytes) skipped skips ∙ ap (next old.limits) unread_is)

  kept_is : drop (old.start + skipped) old.bytes ≡ skip_empty_lines (unread_of old)
  kept_is =
      sym (drop-drop skipped old.start old.bytes) ∙ ap (drop skipped) (sym unread_is) ∙ skips ∙ ap skip_empty_lines unread_is

  pub waits : (data' : List ℕ) (seen : ℕ) → old.place ≡ place.Head seen → nothing ≡ next_head old.limits (from skipped (from old.start bytes))
      → Gives (reading_of old) step.NeedMore (record { limits = old.limits; unread = drop (old.start + skipped) old.bytes; stage = at_head })
  waits data' seen place h =
      gives_by (reading_of old) (record { limits = old.limits; unread = drop (old.start + skipped) old.bytes; stage = at_head }) step.NeedMore at_head needs_more
      (ap (stage_of old.decoded) place) refl (decides nothing h)
      (same_reading old.limits (drop (old.start + skipped) old.bytes) (skip_empty_lines (unread_of old)) at_head at_head kept_is refl)

  pub refused_step : (seen status : ℕ) → old.place ≡ place.Head seen → refuse status ≡ next_head old.limits (from skipped (from old.start bytes))
      → Gives (reading_of old) (step.Refused status) (record { limits = old.limits; unread = unread_of old; stage = is_refused status })
  refused_step seen status place h =
      gives_by (reading_of old) (record { limits = old.limits; unread = unread_of old; stage = is_refused status }) (step.Refused status) at_head (refuses status)
      (ap (stage_of old.decoded) place) refl (decides (refuse status) h) refl

  rest_is : (used : ℕ) → drop used (from skipped (from old.start bytes)) ≡ drop (old.start + (skipped + used)) old.bytes
  rest_is used =
      ap (drop used) (take_rest (from old.start bytes) skipped) ∙ drop-drop used skipped (from old.start bytes)
      ∙ ap (drop (skipped + used)) unread_is ∙ drop-drop (skipped + used) old.start old.bytes

  pub gives_head : (seen used : ℕ) (head : code.RequestHead) (data' : List ℕ) (where_to : Place) → old.place ≡ place.Head seen
      → found (view head) (drop used (from skipped (from old.start bytes))) ≡ next_head old.limits (from skipped (from old.start bytes))
      → stage_of data' where_to ≡ body_stage (framing (view head))
      → Gives (reading_of old) (step.Head head) (record { limits = old.limits; unread = drop (old.start + (skipped + used)) old.bytes; stage = stage_of data' where_to })
  gives_head seen used head data' where_to at h s =
      gives_by (reading_of old) (record { limits = old.limits; unread = drop (old.start + (skipped + used)) old.bytes; stage = stage_of data' where_to }) (step.Head head) at_head
      (a_head (view head) (drop used (from skipped (from old.start bytes))))
      (ap (stage_of old.decoded) at) (ap (λ rest. a_head (view head) rest) (sym (rest_is used))) (decides (found (view head) (drop used (from skipped (from old.start bytes)))) h)
      (same_reading old.limits (drop (old.start + (skipped + used)) old.bytes) (drop used (from skipped (from old.start bytes))) (stage_of data' where_to) (body_stage (framing (view head)))
      (sym (rest_is used)) s)

  pub inside : (used : ℕ) → old.start ≤ length old.bytes → skipped ≤ length (from old.start bytes) → used ≤ length (from skipped (from old.start bytes))
      → old.start + (skipped + used) ≤ length old.bytes
  inside used l m n =
      let same_len : length (from old.start bytes) ≡ length (unread_of old) = ap length unread_is in
      omega (arith, same_len, length-drop old.start old.bytes, length-take (length (from old.start bytes) - skipped) (drop skipped (from old.start bytes)), length-drop skipped (from old.start bytes))

-- ---- a step leaves a sound reader

pub step_fits : (old new : Reading) (answer : Step) → StageFits old.limits old.stage → Gives old answer new → StageFits new.limits new.stage
step_fits old new answer f g =
    subst (λ (r : Reading). StageFits r.limits r.stage) (sym g.leaves) (limits_stay (decision old) (reader_fits old f))
  where
    limits_stay : (d : Decision) → StageFits old.limits (behind old d).stage → StageFits (behind old d).limits (behind old d).stage
    limits_stay needs_more h = h
    limits_stay (refuses status) h = h
    limits_stay (a_head head rest) h = h
    limits_stay (a_body data' rest) h = h

waiting_refuses : (limits : Limits) (stage : Stage) (bytes : List ℕ) → StageRefuses stage
    → StageRefuses (behind (record { limits = limits; unread = bytes; stage = stage }) needs_more).stage
waiting_refuses limits at_head bytes h = tt
waiting_refuses limits (in_length size) bytes h = tt
waiting_refuses limits (in_chunks data') bytes h = tt
waiting_refuses limits (is_refused status) bytes h = h

body_refuses : (f : grammar.Framing) → StageRefuses (body_stage f)
body_refuses grammar.empty = tt
body_refuses (grammar.sized size) = tt
body_refuses grammar.chunked = tt
body_refuses grammar.faulty = inl refl

behind_refuses : (old : Reading) (d : Decision) → StageRefuses old.stage → ((status : ℕ) → d ≡ refuses status → IsRefusal status)
    → StageRefuses (behind old d).stage
behind_refuses old needs_more h is = waiting_refuses old.limits old.stage old.unread h
behind_refuses old (refuses status) h is = is status refl
behind_refuses old (a_head head rest) h is = body_refuses (framing head)
behind_refuses old (a_body data' rest) h is = tt

pub step_refuses : (old new : Reading) (answer : Step) → StageRefuses old.stage → Gives old answer new → StageRefuses new.stage
step_refuses old new answer h g =
    subst (λ (r : Reading). StageRefuses r.stage) (sym g.leaves)
    (behind_refuses old (decision old) h (λ status e. reading_refuses old status h e))

-- what a sound reader refuses by
pub step_tells : (old new : Reading) (answer : Step) → StageRefuses old.stage → Gives old answer new → Tells answer
step_tells old new step.NeedMore h g = tt
step_tells old new (step.Head head) h g = tt
step_tells old new (step.Body body) h g = tt
step_tells old new (step.Refused status) h g = reading_refuses old status h (sym g.decides)

-- what a reader that waits holds
pub step_holds : (old new : Reading) (answer : Step) → StageFits old.limits old.stage → Gives old answer new → HoldsLittle new answer
step_holds old new step.NeedMore f g =
    let left : new ≡ behind old needs_more = g.leaves ∙ ap (behind old) (sym g.decides) in
    subst (λ (r : Reading). held r ≤ r.limits.head + r.limits.body + 257) (sym left) (reader_holds old f (sym g.decides))
step_holds old new (step.Head head) f g = tt
step_holds old new (step.Body body) f g = tt
step_holds old new (step.Refused status) f g = tt

pub step_sound : (old new : ReaderState) (answer : Step) → IsSound old → Stands new → Gives (reading_of old) answer (reading_of new) → IsSound new
step_sound old new answer s h g = record {
  stands = h;
  fits = step_fits (reading_of old) (reading_of new) answer s.fits g;
  refuses = step_refuses (reading_of old) (reading_of new) answer s.refuses g;
}

pub same_sound : (old new : ReaderState) → IsSound old → Stands new → reading_of new ≡ reading_of old → IsSound new
same_sound old new s h e = record {
  stands = h;
  fits = subst (λ (r : Reading). StageFits r.limits r.stage) (sym e) s.fits;
  refuses = subst (λ (r : Reading). StageRefuses r.stage) (sym e) s.refuses;
}
