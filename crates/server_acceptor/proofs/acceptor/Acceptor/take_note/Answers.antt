use Rattle.std.proofs.Common.{◌<◌, [], true, refl, ◌∙◌, ap, arith, length, true≢false, ℕ, ◌+◌, ◌≤◌}
use Rattle.std.specs.Prelude.{is_some, vec_len}
use Rattle.std.proofs.Math.ListN.{length-set}
use Rattle.std.proofs.lemmas.List.Elements.{All-nil}
use Rattle.server_acceptor.proofs.Giving.{adds_none}
use Rattle.server_jobs.specs.Cards.{of_note}
use Rattle.server_jobs.specs.declared.note.Note.TheVariants.{Ready, Back, Faulted}
use Rattle.server_acceptor.proofs.HandSteps.{balance_same, came_more, kept_notes, may_back, out_at_back, out_some, same_ends, spare_left}
use Rattle.server_acceptor.proofs.Handed.{handed_back}
use Rattle.server_acceptor.proofs.LogSteps.{logs_none}
use Rattle.server_acceptor.proofs.NoteSteps.{fewer_known}
use Rattle.server_acceptor.proofs.Taking.{all_marked, backs_more, count_as_none, has_still, marked_now, not_all_before, one_note, out_elsewhere, received_more, received_this, told_still}
use Rattle.server_acceptor.proofs.acceptor.Acceptor.take_note.Goals as goal

two_more : (n : ℕ) → n ≤ n + 2
two_more n = omega arith

pub take-requires : goal.take-requires
take-requires g c = out_some c.args.self.now.core.out c.args.w _ _ c.requires.number (out_at_back c.args.self.now.notes.items c.args.w _ _ c.index_mut.result.now c.pop_known.result _ c.in-Back.entry (omega (arith, c.requires.number, c.args.self.now.workers.1)) c.index_mut.ensures.value c.pop_known.ensures.received.1 c.in-Back.is c.requires.may) c.requires.spare

pub returns-in-Back-clause-spare : goal.returns-in-Back-clause-spare
returns-in-Back-clause-spare g c = spare_left c.args.self.now.core c.lower.new.self.core c.args.w _ _ c.requires.number (out_at_back c.args.self.now.notes.items c.args.w _ _ c.index_mut.result.now c.pop_known.result _ c.in-Back.entry (omega (arith, c.requires.number, c.args.self.now.workers.1)) c.index_mut.ensures.value c.pop_known.ensures.received.1 c.in-Back.is c.requires.may) c.lower.ensures.out c.lower.ensures.core_waiting c.requires.spare c.take.ensures.spare

pub returns-in-Back-clause-hands : goal.returns-in-Back-clause-hands
returns-in-Back-clause-hands g c =
    let inside : c.args.w < length c.args.self.now.notes.items = omega (arith, c.requires.number, c.args.self.now.workers.1) in
    let may = may_back c.args.self.now.notes.items c.args.w _ _ c.index_mut.result.now c.pop_known.result _ c.in-Back.entry inside c.index_mut.ensures.value c.pop_known.ensures.received.1 c.in-Back.is c.requires.may in
    let l = c.lower.ensures in
    let s = l.stays in
    handed_back g.L.Link.identity g.Do.Done.taken g.Do.Done.count g.Do.Done.served c.args.self.now c.lower.new.self c.args.w c.index_mut.result.now c.pop_known.new.self l.notes inside c.index_mut.ensures.value c.pop_known.ensures.ring
    (record { parcels = l.parcels; waiting = l.waiting; ready = s.ready; stopped = s.stopped; forced = s.forced; stop = s.stop; serial = s.serial; places = s.places; failed = s.failed; first = s.first; limit = s.limit; retry_limit = s.retry_limit; shutdown_timeout = s.shutdown_timeout; lacks_room = s.lacks_room })
    c.pop_known.result c.in-Back.entry c.pop_known.ensures.received.0 c.in-Back.is c.args.done.now _ c.take.ensures.entry (λ stopped. ap (λ o. is_some o) l.stopping ∙ may.1 stopped) c.requires.number may.0 l.out
    (record { ended = l.ended; failures = l.failures; waiting = l.core_waiting; order = l.order; paused = l.paused; stopping = l.stopping }) l.some l.lowers.logs l.lowers.returns l.lowers.backs

pub returns-in-Ready-clause-hands : goal.returns-in-Ready-clause-hands
returns-in-Ready-clause-hands g c =
    let is = c.index_mut.ensures.value in
    let more = c.pop_known.ensures.received.0 in
    let inside : c.args.w < length c.args.self.now.notes.items = omega (arith, c.requires.number, c.args.self.now.workers.1) in
    record {
      entries = [];
      adds = adds_none g.Do.Done.taken g.Do.Done.count g.Do.Done.served c.args.done.now (g.met.Do.Done.small c.args.done.now);
      rings = same_ends _ c.args.w _ _ _ inside is more c.pop_known.ensures.ring;
      back = λ h. came_more _ c.args.w _ _ _ inside is more g.L.Link.identity h ∙ ap (λ n. n) (omega (arith, ap (of_note g.L.Link.identity h) c.in-Ready.is));
      noted = All-nil _;
      founded = All-nil _;
      kept = λ e. kept_notes _ c.args.w _ _ _ inside is more (Back e);
      balance = balance_same _ c.args.w _ _ _ inside is more g.L.Link.identity c.args.self.now.core.out (ap (of_note g.L.Link.identity (λ x. 1)) c.in-Ready.is);
      ended = refl;
      core_waiting = refl;
      order = refl;
      paused = refl;
      stopping = refl;
      parcels = refl;
      waiting = refl;
      stopped = refl;
      forced = refl;
      stop = refl;
      shutdown_timeout = refl;
      serial = refl;
      places = refl;
      failed = refl;
      limit = refl;
      retry_limit = refl;
      lacks_room = refl;
      first = refl;
      failures = refl;
      logs = logs_none;
      returns = tt;
      backs = λ v. backs_more _ _ c.args.w _ _ _ refl inside is more g.L.Link.identity v ∙ count_as_none _ _ _ (ap (of_note g.L.Link.identity (λ x. 1)) c.in-Ready.is);
      ready = λ all. all_marked _ c.args.w all;
      marks = λ told v on. marked_now _ _ c.args.w _ _ _ refl inside is more _ Ready (one_note _ _ c.in-Ready.is) told v on;
      early = λ none. refl;
      receives = λ v. let e = received_more _ _ c.args.w _ _ _ refl inside is more v in record { more = e.0; came = e.1 };
    }

pub returns-in-Faulted-clause-hands : goal.returns-in-Faulted-clause-hands
returns-in-Faulted-clause-hands g c =
    let is = c.index_mut.ensures.value in
    let more = c.pop_known.ensures.received.0 in
    let inside : c.args.w < length c.args.self.now.notes.items = omega (arith, c.requires.number, c.args.self.now.workers.1) in
    record {
      entries = [];
      adds = adds_none g.Do.Done.taken g.Do.Done.count g.Do.Done.served c.args.done.now (g.met.Do.Done.small c.args.done.now);
      rings = same_ends _ c.args.w _ _ _ inside is more c.pop_known.ensures.ring;
      back = λ h. came_more _ c.args.w _ _ _ inside is more g.L.Link.identity h ∙ ap (λ n. n) (omega (arith, ap (of_note g.L.Link.identity h) c.in-Faulted.is));
      noted = All-nil _;
      founded = All-nil _;
      kept = λ e. kept_notes _ c.args.w _ _ _ inside is more (Back e);
      balance = balance_same _ c.args.w _ _ _ inside is more g.L.Link.identity c.args.self.now.core.out (ap (of_note g.L.Link.identity (λ x. 1)) c.in-Faulted.is);
      ended = refl;
      core_waiting = refl;
      order = refl;
      paused = refl;
      stopping = refl;
      parcels = refl;
      waiting = refl;
      stopped = refl;
      forced = refl;
      stop = refl;
      shutdown_timeout = refl;
      serial = refl;
      places = refl;
      failed = refl;
      limit = refl;
      retry_limit = refl;
      lacks_room = refl;
      first = refl;
      failures = refl;
      logs = logs_none;
      returns = tt;
      backs = λ v. backs_more _ _ c.args.w _ _ _ refl inside is more g.L.Link.identity v ∙ count_as_none _ _ _ (ap (of_note g.L.Link.identity (λ x. 1)) c.in-Faulted.is);
      ready = λ all. all;
      marks = λ told v on. has_still _ _ c.args.w _ _ _ refl inside is more Ready v (told v on);
      early = λ none. refl;
      receives = λ v. let e = received_more _ _ c.args.w _ _ _ refl inside is more v in record { more = e.0; came = e.1 };
    }

pub returns-in-Back-clause-fewer : goal.returns-in-Back-clause-fewer
returns-in-Back-clause-fewer g c = fewer_known _ c.args.self.now.notes.items c.args.w c.index_mut.result.now c.pop_known.new.self c.pop_known.result c.lower.ensures.notes (omega (arith, c.requires.number, c.args.self.now.workers.1)) c.index_mut.ensures.value c.pop_known.ensures.received.1

pub returns-in-Ready-clause-fewer : goal.returns-in-Ready-clause-fewer
returns-in-Ready-clause-fewer g c = fewer_known _ c.args.self.now.notes.items c.args.w c.index_mut.result.now c.pop_known.new.self c.pop_known.result refl (omega (arith, c.requires.number, c.args.self.now.workers.1)) c.index_mut.ensures.value c.pop_known.ensures.received.1

pub returns-in-Faulted-clause-fewer : goal.returns-in-Faulted-clause-fewer
returns-in-Faulted-clause-fewer g c = fewer_known _ c.args.self.now.notes.items c.args.w c.index_mut.result.now c.pop_known.new.self c.pop_known.result refl (omega (arith, c.requires.number, c.args.self.now.workers.1)) c.index_mut.ensures.value c.pop_known.ensures.received.1

pub returns-in-Back-clause-others : goal.returns-in-Back-clause-others
returns-in-Back-clause-others g c v differ told =
    let inside : c.args.w < length c.args.self.now.notes.items = omega (arith, c.requires.number, c.args.self.now.workers.1) in
    told_still c.lower.new.self.notes.items c.args.self.now.notes.items c.args.w _ _ _ c.lower.ensures.notes inside c.index_mut.ensures.value c.pop_known.ensures.received.0
    c.args.self.now.core c.lower.new.self.core v c.lower.ensures.stopping (out_elsewhere _ _ c.args.w v c.lower.ensures.out differ) differ told

pub returns-in-Ready-clause-others : goal.returns-in-Ready-clause-others
returns-in-Ready-clause-others g c v differ told =
    let inside : c.args.w < length c.args.self.now.notes.items = omega (arith, c.requires.number, c.args.self.now.workers.1) in
    told_still _ c.args.self.now.notes.items c.args.w _ _ _ refl inside c.index_mut.ensures.value c.pop_known.ensures.received.0 c.args.self.now.core c.args.self.now.core v refl refl differ told

pub returns-in-Faulted-clause-others : goal.returns-in-Faulted-clause-others
returns-in-Faulted-clause-others g c v differ told =
    let inside : c.args.w < length c.args.self.now.notes.items = omega (arith, c.requires.number, c.args.self.now.workers.1) in
    told_still _ c.args.self.now.notes.items c.args.w _ _ _ refl inside c.index_mut.ensures.value c.pop_known.ensures.received.0 c.args.self.now.core c.args.self.now.core v refl refl differ told

pub returns-in-Faulted-clause-faulted : goal.returns-in-Faulted-clause-faulted
returns-in-Faulted-clause-faulted g c = λ _.
    let inside : c.args.w < length c.args.self.now.notes.items = omega (arith, c.requires.number, c.args.self.now.workers.1) in
    let e = received_this _ c.args.self.now.notes.items c.args.w _ _ _ refl inside c.index_mut.ensures.value c.pop_known.ensures.received.0 Faulted (one_note _ _ c.in-Faulted.is) in
    record { more = e.0; came = e.1.0; faulted = e.1.1 }

pub invariant_of-self-clause-early : goal.invariant_of-self-clause-early
invariant_of-self-clause-early g c less = c.args.self.now.early (not_all_before _ c.args.w less)

pub returns-in-Back-clause-logs : goal.returns-in-Back-clause-logs
returns-in-Back-clause-logs g c = c.lower.ensures.lowers.logs

pub invariant_of-self-clause-workers : goal.invariant_of-self-clause-workers
invariant_of-self-clause-workers g c =
    let w = c.args.self.now.workers in
    (w.0, length-set c.args.self.now.notes.items c.args.w c.pop_known.new.self ∙ w.1, length-set c.args.self.now.ready.items c.args.w true ∙ w.2, w.3)

pub lower-requires-clause-out : goal.lower-requires-clause-out
lower-requires-clause-out g c = out_at_back c.args.self.now.notes.items c.args.w _ _ c.index_mut.result.now c.pop_known.result _ c.in-Back.entry (omega (arith, c.requires.number, c.args.self.now.workers.1)) c.index_mut.ensures.value c.pop_known.ensures.received.1 c.in-Back.is c.requires.may

pub returns-in-Ready-clause-logs : goal.returns-in-Ready-clause-logs
returns-in-Ready-clause-logs g c = logs_none

pub returns-in-Ready-clause-room : goal.returns-in-Ready-clause-room
returns-in-Ready-clause-room g c = two_more (vec_len c.args.self.now.events)

pub returns-in-Ready-clause-spare : goal.returns-in-Ready-clause-spare
returns-in-Ready-clause-spare g c = c.requires.spare

pub returns-in-Faulted-clause-logs : goal.returns-in-Faulted-clause-logs
returns-in-Faulted-clause-logs g c = logs_none

pub returns-in-Faulted-clause-room : goal.returns-in-Faulted-clause-room
returns-in-Faulted-clause-room g c = two_more (vec_len c.args.self.now.events)

pub returns-in-Faulted-clause-spare : goal.returns-in-Faulted-clause-spare
returns-in-Faulted-clause-spare g c = c.requires.spare

pub returns-in-Back-clause-room : goal.returns-in-Back-clause-room
returns-in-Back-clause-room g c = c.lower.ensures.room

pub returns-in-Ready-clause-faulted : goal.returns-in-Ready-clause-faulted
returns-in-Ready-clause-faulted g c = λ is. absurd (true≢false is)

pub returns-in-Back-clause-faulted : goal.returns-in-Back-clause-faulted
returns-in-Back-clause-faulted g c = λ is. absurd (true≢false is)
