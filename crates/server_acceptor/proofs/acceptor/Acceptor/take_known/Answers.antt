use Rattle.std.proofs.Common.{arith, rules}
use Rattle.server_acceptor.proofs.NoteSteps.{ends_later, hands_none, hands_trans, refused_again, same_workers, told_or_short}
use Rattle.server_acceptor.proofs.acceptor.Acceptor.take_known.Goals as goal

pub loop-self-init : goal.loop-self-init
loop-self-init g c = record {
  hands = hands_none _ _ _ _ _ _ (g.met.Do.Done.small c.args.done.now);
  spare = c.requires.spare;
  number = c.requires.number;
  others = λ v differ told. told;
}

pub loop-self-preserved : goal.loop-self-preserved
loop-self-preserved g c = record {
  hands = hands_trans _ _ _ _ _ _ _ _ _ _ c.loop-self.invariant.hands c.take_note.ensures.hands;
  spare = c.take_note.ensures.spare;
  number = omega (arith, c.loop-self.invariant.number, same_workers _ _ _ _ _ _ _ _ c.take_note.ensures.hands);
  others = λ v differ told. c.take_note.ensures.others v differ (c.loop-self.invariant.others v differ told);
}

pub returns-clause-told : goal.returns-clause-told
returns-clause-told g c = λ _. told_or_short c.loop-self.self c.args.w (c.loop-self-test.ensures.no (search rules))

pub returns-clause-refused : goal.returns-clause-refused
returns-clause-refused g c = refused_again _ _ _ _ _ _ _ _ c.loop-self.invariant.hands

pub returns-then-not-take_note-clause-hands : goal.returns-then-not-take_note-clause-hands
returns-then-not-take_note-clause-hands g c = hands_trans _ _ _ _ _ _ _ _ _ _ c.loop-self.invariant.hands c.take_note.ensures.hands

pub returns-then-not-take_note-clause-others : goal.returns-then-not-take_note-clause-others
returns-then-not-take_note-clause-others g c v differ told = c.take_note.ensures.others v differ (c.loop-self.invariant.others v differ told)

pub returns-then-not-take_note-clause-refused : goal.returns-then-not-take_note-clause-refused
returns-then-not-take_note-clause-refused g c = refused_again _ _ _ _ _ _ _ _ (hands_trans _ _ _ _ _ _ _ _ _ _ c.loop-self.invariant.hands c.take_note.ensures.hands)

pub returns-then-not-take_note-clause-faulted : goal.returns-then-not-take_note-clause-faulted
returns-then-not-take_note-clause-faulted g c = λ _. ends_later _ _ _ c.args.w (c.loop-self.invariant.hands.receives c.args.w) (c.take_note.ensures.faulted (search rules))
