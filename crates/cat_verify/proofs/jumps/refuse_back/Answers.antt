use Rattle.std.proofs.Common.{sym}
use Rattle.cat_verify.proofs.NumberLemmas.{forward_on, forward_end, jumps_back}
use Rattle.cat_verify.proofs.jumps.refuse_back.Goals as goal

pub returns-then-not-is_forward-clause-cause : goal.returns-then-not-is_forward-clause-cause
returns-then-not-is_forward-clause-cause c =
    jumps_back c.args.code.now c.loop-at.at _ c.loop-at-test.true c.if-not-is_forward.ensures

pub loop-at-preserved : goal.loop-at-preserved
loop-at-preserved c = λ rest.
    c.loop-at.invariant (forward_on c.args.code.now c.loop-at.at _ c.loop-at-test.true
    (sym c.if-not-is_forward.ensures) rest)

pub returns-clause-forward : goal.returns-clause-forward
returns-clause-forward c = c.loop-at.invariant (forward_end c.args.code.now c.loop-at.at c.loop-at-test.false)
