use Rattle.cat_verify.proofs.StepLemmas.{scoped_more}
use Rattle.cat_verify.proofs.starts.add_scoped.Goals as goal

pub loop-at-preserved : goal.loop-at-preserved
loop-at-preserved c =
    scoped_more c.loop-at.arrivals c.push.new.self _ c.args.functions.now c.args.entries.now c.loop-at.at _ _
    c.requires c.loop-at-test.true c.in_ok-push.ensures.ok c.loop-at.invariant
