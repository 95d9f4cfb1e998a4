use Rattle.std.proofs.Common.{true, false, arith}
use Rattle.cat_verify_shapes.proofs.SameLemmas.{same_more, same_off, same_all}
use Rattle.cat_verify_shapes.proofs.StepLemmas.{takes_as}
use Rattle.cat_verify_shapes.proofs.making.pop_same.Goals as goal

pub loop-preserved : goal.loop-preserved
loop-preserved c =
    same_more c.args.shape.now c.loop.shape c.pop_as.new.shape c.args.form c.loop.counter c.loop.invariant
    (takes_as c.loop.shape c.pop_as.new.shape c.args.form c.pop_as.result true c.pop_as.ensures
    c.if-not-pop_as.false)

pub returns-then-not-pop_as : goal.returns-then-not-pop_as
returns-then-not-pop_as c =
    same_off c.args.shape.now c.loop.shape c.pop_as.new.shape c.args.form c.loop.counter c.loop.invariant
    c.args.count c.loop-test.true
    (takes_as c.loop.shape c.pop_as.new.shape c.args.form c.pop_as.result false c.pop_as.ensures
    c.if-not-pop_as.true)

pub returns : goal.returns
returns c =
    same_all c.args.shape.now c.loop.shape c.loop.shape c.args.form c.loop.counter c.loop.invariant c.args.count
    (omega (arith, c.loop.auto.counter-end, c.loop-test.false))
