use Rattle.std.proofs.Common.{◌∙◌, arith, rules}
use Rattle.server_acceptor.proofs.NoteSteps.{ends_later, hands_none, hands_trans, refused_again, same_workers, told_all, told_up_to}
use Rattle.server_acceptor.proofs.acceptor.Acceptor.take_notes.Goals as goal

pub loop-w-init : goal.loop-w-init
loop-w-init g c = record {
  hands = hands_none _ _ _ _ _ _ (g.met.Do.Done.small c.args.done.now);
  spare = c.requires.spare;
  told = λ v below. absurd (omega (arith, below));
}

pub loop-w-preserved : goal.loop-w-preserved
loop-w-preserved g c = record {
  hands = hands_trans _ _ _ _ _ _ _ _ _ _ (hands_trans _ _ _ _ _ _ _ _ _ _ c.loop-w.invariant.hands c.look.ensures.hands) c.take_known.ensures.hands;
  spare = c.take_known.ensures.spare;
  told = told_up_to _ _ _ _ _ _ _ _ c.loop-w.w (hands_trans _ _ _ _ _ _ _ _ _ _ c.look.ensures.hands c.take_known.ensures.hands)
      (λ v differ told. c.take_known.ensures.others v differ (c.look.ensures.others v differ told)) (c.take_known.ensures.told (search rules)) c.loop-w.invariant.told;
}

pub returns-then-not-take_known-clause-hands : goal.returns-then-not-take_known-clause-hands
returns-then-not-take_known-clause-hands g c = hands_trans _ _ _ _ _ _ _ _ _ _ (hands_trans _ _ _ _ _ _ _ _ _ _ c.loop-w.invariant.hands c.look.ensures.hands) c.take_known.ensures.hands

pub returns-then-not-take_known-clause-refused : goal.returns-then-not-take_known-clause-refused
returns-then-not-take_known-clause-refused g c = c.take_known.ensures.refused ∙ refused_again _ _ _ _ _ _ _ _ (hands_trans _ _ _ _ _ _ _ _ _ _ c.loop-w.invariant.hands c.look.ensures.hands)

pub returns-then-not-take_known-clause-faulted : goal.returns-then-not-take_known-clause-faulted
returns-then-not-take_known-clause-faulted g c =
    let before = (hands_trans _ _ _ _ _ _ _ _ _ _ c.loop-w.invariant.hands c.look.ensures.hands) in (
      omega (arith, c.loop-w-test.true, c.len-w-end.ensures, c.args.self.now.workers.1, same_workers _ _ _ _ _ _ _ _ before, same_workers _ _ _ _ _ _ _ _ c.take_known.ensures.hands),
      ends_later _ _ _ c.loop-w.w (before.receives c.loop-w.w) (c.take_known.ensures.faulted (search rules)),
    )

pub returns-clause-told : goal.returns-clause-told
returns-clause-told g c = λ _. told_all c.loop-w.self c.loop-w.w
    (omega (arith, c.loop-w-test.false, c.len-w-end.ensures, c.args.self.now.workers.1, c.loop-w.self.workers.1, same_workers _ _ _ _ _ _ _ _ c.loop-w.invariant.hands)) c.loop-w.invariant.told

pub returns-clause-refused : goal.returns-clause-refused
returns-clause-refused g c = refused_again _ _ _ _ _ _ _ _ c.loop-w.invariant.hands
