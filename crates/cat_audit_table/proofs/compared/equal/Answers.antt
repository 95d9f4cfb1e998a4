use Rattle.cat_region.specs.declared.cut.Cut.TheVariants as cut
use Rattle.cat_guard.specs.Formulas.{Not}
use Rattle.cat_guard.specs.Comparisons.{threshold_dim}
use Rattle.cat_guard.specs.Questions.{ask}
use Rattle.cat_audit_table.specs.Numbered.{items_at, standing_at}
use Rattle.cat_audit_table.proofs.Adding.{if_ok, adds_not, adds_both}
use Rattle.cat_audit_table.proofs.compared.equal.Goals as goal

pub returns : goal.returns
returns c =
    let items = items_at c.args.here.now in
    let threshold = c.args.threshold.now in
    let most = ask (standing_at c.args.here.now) c.args.of.now (threshold_dim threshold) (cut.AtMost threshold) in
    let less = ask (standing_at c.args.here.now) c.args.of.now (threshold_dim threshold) (cut.Below threshold) in
    if_ok c.conjunction.result
    (adds_both items most (Not less) c.args.numbering.now c.at_most.new.numbering c.below.new.numbering
    c.in_ok-most.most c.in_ok-not_less.not_less c.in_ok-most.ensures
    (adds_not items less c.at_most.new.numbering c.below.new.numbering c.in_ok-less.less c.in_ok-not_less.not_less
    c.in_ok-less.ensures c.in_ok-not_less.ensures)) c.conjunction.ensures
