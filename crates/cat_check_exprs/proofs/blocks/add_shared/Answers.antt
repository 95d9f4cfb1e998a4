use Rattle.std.proofs.lemmas.Result.{err_from_is_err_and}
use Rattle.cat_check_forms.specs.Tabled.{names_at}
use Rattle.cat_check_exprs.specs.Saying.{added}
use Rattle.cat_check_exprs.proofs.Sharing.{line_is, line_off}
use Rattle.cat_check_exprs.proofs.blocks.add_shared.Goals as goal

pub returns-in_err-shared-clause-added : goal.returns-in_err-shared-clause-added
returns-in_err-shared-clause-added c =
    let p = err_from_is_err_and c.from_residual.result c.from_residual.ensures.1 in
    rw (p.1, p.2) (line_off (names_at c.args.here.now) c.args.block.now c.args.said.now c.in_err-shared.field-0.0
    c.in_err-shared.ensures.told)

pub returns-clause-added : goal.returns-clause-added
returns-clause-added c =
    line_is (names_at c.args.here.now) c.args.block.now c.in_ok-shared.shared c.args.said.now
    (added c.add_condition.result c.add_condition.new.said) c.in_ok-shared.ensures.told c.add_condition.ensures
