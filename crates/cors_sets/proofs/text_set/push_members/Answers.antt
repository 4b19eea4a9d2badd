use Rattle.cors_sets.proofs.SetSteps.{texts_of, joined_behind, texts_more, texts_some}
use Rattle.cors_sets.proofs.text_set.push_members.Goals as goal

pub loop-member-preserved : goal.loop-member-preserved
loop-member-preserved c = record {
  text =
      rw (
        texts_more c.loop-member.yielded c.in-Some.member,
        joined_behind c.args.text.now (texts_of c.loop-member.yielded) c.in-Some.member.now,
        ← c.loop-member.invariant.text,
        ← c.loop-member.invariant.first,
      )
      c.in_ok-push_joined.ensures;
  first = texts_some c.loop-member.yielded c.in-Some.member;
}
