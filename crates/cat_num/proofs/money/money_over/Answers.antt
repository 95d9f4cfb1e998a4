use Rattle.std.proofs.Common.{◌≡◌, ◌∙◌, arith}
use Rattle.std.proofs.lemmas.Grind.{common_steps}
use Rattle.cat_num.specs.Rounding.{money_quotient}
use Rattle.cat_num.proofs.Rounds.{money_quotient-whole}
use Rattle.cat_num.proofs.money.money_over.Goals as goal

pub returns-in_err-cents-clause-whole : goal.returns-in_err-cents-clause-whole
returns-in_err-cents-clause-whole c w e =
    let value : money_quotient c.args.m c.args.f ≡ c.from_residual.result = grind (arith, common_steps) in
    money_quotient-whole c.args.m c.args.f c.get.ensures.fits w (value ∙ e)
