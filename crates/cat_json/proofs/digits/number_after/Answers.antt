use Rattle.std.proofs.Common.{◌+◌, ◌-◌, get_or, ◌∙◌, arith}
use Rattle.cat_json.proofs.DigitSteps.{number_room, number_fits, digit_here, number_after-step, number_after-end}
use Rattle.cat_json.proofs.digits.number_after.Goals as goal

pub overflow_mul-number : goal.overflow_mul-number
overflow_mul-number c = let l = c.loop-digit in let f = number_fits l.number (c.args.number + 1) l.digit-index
    l.invariant.bound (omega (arith, c.requires.small)) (omega (arith, c.requires.few, c.loop-digit-test.true)) in
    omega (arith, f)

pub overflow_sub-number : goal.overflow_sub-number
overflow_sub-number c = let l =
    c.loop-digit in (digit_here c.args.digits.now l.digit-index c.loop-digit-test.true l.invariant.digits).0

pub overflow_add-number : goal.overflow_add-number
overflow_add-number c =
    let l = c.loop-digit in
    let f = number_fits l.number (c.args.number + 1) l.digit-index l.invariant.bound (omega (arith, c.requires.small))
    (omega (arith, c.requires.few, c.loop-digit-test.true)) in
    let d = digit_here c.args.digits.now l.digit-index c.loop-digit-test.true l.invariant.digits in
    omega (arith, f, d.1)

pub loop-digit-preserved : goal.loop-digit-preserved
loop-digit-preserved c =
    let l = c.loop-digit in
    let d = digit_here c.args.digits.now l.digit-index c.loop-digit-test.true l.invariant.digits in
    record {
      value = number_after-step l.number c.args.digits.now l.digit-index c.loop-digit-test.true ∙ l.invariant.value;
      bound = number_room l.number (c.args.number + 1) (get_or c.args.digits.now l.digit-index 0 - 48) l.digit-index
          l.invariant.bound (omega (arith, d.1));
      digits = d.2;
    }

pub returns-clause-value : goal.returns-clause-value
returns-clause-value c = number_after-end c.loop-digit.number c.args.digits.now c.loop-digit.digit-index
    (omega (arith, c.loop-digit-test.false)) ∙ c.loop-digit.invariant.value
