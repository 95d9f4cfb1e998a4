use Rattle.std.proofs.Common.{◌-◌, arith, false, get_or, length, refl, true}
use Rattle.cat_verify_shapes.proofs.StepLemmas.{takes_as}
use Rattle.cat_verify_shapes.proofs.CallLoops.{popping_begins, popping_goes_on, popping_fails}
use Rattle.cat_verify_shapes.proofs.calling.pop_params.Goals as goal

pub loop-left-init : goal.loop-left-init
loop-left-init c =
    let ns = c.args.params.now in record {
      within = omega arith;
      taken = popping_begins c.args.shape.now ns (length ns) (omega arith);
    }

pub loop-left-preserved : goal.loop-left-preserved
loop-left-preserved c =
    let l = c.loop-left in
    let ns = c.args.params.now in
    let n = get_or ns (l.left - 1) 0 in
    let some = c.loop-left-test.true in
    let within = l.invariant.within in record {
      within = omega (arith, some, within);
      taken = popping_goes_on c.args.shape.now l.shape c.pop_as.new.shape ns l.left (l.left - 1) n
          (omega (arith, some)) within refl l.invariant.taken
          (takes_as l.shape c.pop_as.new.shape n c.pop_as.result true c.pop_as.ensures c.if-not-pop_as.false);
    }

pub returns-then-not-pop_as : goal.returns-then-not-pop_as
returns-then-not-pop_as c =
    let l = c.loop-left in
    let ns = c.args.params.now in
    let n = get_or ns (l.left - 1) 0 in
    let some = c.loop-left-test.true in
    popping_fails c.args.shape.now l.shape c.pop_as.new.shape ns l.left (l.left - 1) n (omega (arith, some))
    l.invariant.within refl l.invariant.taken
    (takes_as l.shape c.pop_as.new.shape n c.pop_as.result false c.pop_as.ensures c.if-not-pop_as.true)
