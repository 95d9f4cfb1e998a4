use Rattle.std.proofs.Common.{length, sym, arith, ◌∙◌, ◌<◌}
use Rattle.std.proofs.lemmas.List.{get_or_default}
use Rattle.cat_code.specs.Wanted.{are_passed}
use Rattle.cat_verify_shapes.proofs.CallLoops.{too_few_passed, passed_goes_on}
use Rattle.cat_verify_shapes.proofs.calling.are_passed.Goals as goal

pub returns-then-passed-items : goal.returns-then-passed-items
returns-then-passed-items c = sym (too_few_passed c.args.items.now c.args.passed.now c.if-passed-items.true)

pub loop-at-preserved : goal.loop-at-preserved
loop-at-preserved c =
    let items = c.args.items.now in
    let passed = c.args.passed.now in
    let long = c.loop-at.invariant.long in
    let test = c.loop-at-test.true in
    let within : c.loop-at.at < length passed = omega (arith, long, test) in
    record {
      rest =
          passed_goes_on items passed c.loop-at.at c.index-items-at.result _ (are_passed items passed) test long
          c.index-items-at.is (get_or_default passed c.loop-at.at _ _ within) (sym c.lacks.ensures ∙ c.if-lacks.false)
          c.loop-at.invariant.rest;
      long = long;
    }
