use Rattle.std.proofs.Common.{◌≡◌, [], drop, slice_get, arith}
use Rattle.std.proofs.lemmas.List.{drop_all}
use Rattle.cat_guard.specs.Judged.{answers_in}
use Rattle.cat_guard.specs.Verdicts.{def_verdict}
use Rattle.cat_guard.proofs.CountLaws.{one_counted, one_passed, all_counted}
use Rattle.cat_guard.proofs.judge.judged_defs.Goals as goal

pub loop-number-preserved-then-is_passed : goal.loop-number-preserved-then-is_passed
loop-number-preserved-then-is_passed c = record {
  total =
      one_passed (answers_in c.args.atoms.now c.args.region.now) c.args.target.now
      (λ d. def_verdict (answers_in c.args.atoms.now c.args.region.now) d (slice_get c.args.target.now.defs d))
      c.args.numbers.now c.loop-number.number-index c.loop-number.tally (omega (arith, c.loop-number-test.true))
      (c.is_passed.ensures c.if-is_passed.true) c.loop-number.invariant.total;
  needs = c.loop-number.invariant.needs;
}

pub loop-number-preserved : goal.loop-number-preserved
loop-number-preserved c =
    let more = one_counted (answers_in c.args.atoms.now c.args.region.now) c.args.target.now
    (λ d. def_verdict (answers_in c.args.atoms.now c.args.region.now) d (slice_get c.args.target.now.defs d))
    c.args.numbers.now
    c.loop-number.number-index c.loop-number.tally c.with_member-tally.result c.judged_def.result
    (omega (arith, c.loop-number-test.true)) c.with_member-tally.ensures c.judged_def.ensures
    c.loop-number.invariant.total c.loop-number.invariant.needs in
    record { total = more.0; needs = more.1 }

pub returns : goal.returns
returns c =
    let gone : drop c.loop-number.number-index c.args.numbers.now ≡ [] =
    drop_all c.loop-number.number-index c.args.numbers.now (omega (arith, c.loop-number-test.false)) in
    all_counted (answers_in c.args.atoms.now c.args.region.now) c.args.target.now
    (λ d. def_verdict (answers_in c.args.atoms.now c.args.region.now) d (slice_get c.args.target.now.defs d))
    c.args.numbers.now
    c.loop-number.number-index c.loop-number.tally c.total.result gone c.loop-number.invariant.total
    (c.total.ensures (answers_in c.args.atoms.now c.args.region.now) c.args.target.now c.loop-number.invariant.needs)
