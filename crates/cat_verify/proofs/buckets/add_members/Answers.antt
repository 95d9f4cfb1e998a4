use Rattle.cat_verify.proofs.BucketLemmas.{members_end}
use Rattle.cat_verify.proofs.buckets.add_members.Goals as goal

pub returns : goal.returns
returns c = members_end c.args.buckets.now c.loop-member.buckets c.args.members.now c.loop-member.member-index
    c.loop-member-test.false c.loop-member.invariant
