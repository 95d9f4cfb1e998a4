use Rattle.std.proofs.Common.{arith}
use Rattle.std.proofs.lemmas.Result.{err_from_is_err_and}
use Rattle.cat_parse.specs.Expression.{expression}
use Rattle.cat_parse.proofs.Whole.{whole, left_over, cause}
use Rattle.cat_parse.proofs.parser.program.Goals as goal

pub returns-in_err-items-clause-cause : goal.returns-in_err-items-clause-cause
returns-in_err-items-clause-cause c =
    let exactly = c.programs_are_read_exactly.ensures expression c.expressions_are_read_rightly.ensures in
    let p = err_from_is_err_and c.from_residual.result c.from_residual.ensures.1 in
    rw (p.1, p.2)
    (cause expression exactly c.args.tokens.now c.in_err-items.field-0.0 c.in_err-items.ensures)

pub returns-then-place-tokens-clause-cause : goal.returns-then-place-tokens-clause-cause
returns-then-place-tokens-clause-cause c =
    let exactly = c.programs_are_read_exactly.ensures expression c.expressions_are_read_rightly.ensures in
    left_over expression exactly c.args.tokens.now c.in_ok-items.items c.in_ok-items.place c.in_ok-items.ensures
    (omega arith)

pub returns-clause-spelled : goal.returns-clause-spelled
returns-clause-spelled c =
    let exactly = c.programs_are_read_exactly.ensures expression c.expressions_are_read_rightly.ensures in
    whole expression exactly c.args.tokens.now c.in_ok-items.items c.in_ok-items.place c.in_ok-items.ensures
    (omega arith)
