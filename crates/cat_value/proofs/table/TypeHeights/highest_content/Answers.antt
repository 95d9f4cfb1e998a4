use Rattle.std.proofs.Common.{◌∙◌, ℕ, ◌+◌, max, rules, sym, ap, subst, drop, arith}
use Rattle.cat_value.specs.Heights.{height_to, highest_content}
use Rattle.cat_value.proofs.Highest.{IsSoFar, case_more}
use Rattle.cat_value.proofs.table.TypeHeights.highest_content.Goals as goal

pub loop-case-preserved : goal.loop-case-preserved
loop-case-preserved c =
    let ss = c.args.structures.now in let es = c.args.enumerations.now in let k = c.args.depth in
    subst (λ (n : ℕ). IsSoFar (k + 1) n (highest_content (height_to ss es k) (drop (c.loop-case.case-index + 1)
    c.args.cases.now)) (highest_content (height_to ss es k) c.args.cases.now))
    (sym (c.higher-highest.ensures ∙ ap (max c.loop-case.highest) c.content_height-height.ensures.height))
    (case_more (height_to ss es k) c.args.cases.now c.loop-case.case-index c.case-item.result (k + 1)
    c.loop-case.highest _ (search rules) (sym c.case-item.is) (omega (arith, c.content_height-height.ensures))
    c.loop-case.invariant)
