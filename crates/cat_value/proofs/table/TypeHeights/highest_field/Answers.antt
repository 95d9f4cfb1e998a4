use Rattle.std.proofs.Common.{◌∙◌, ℕ, ◌+◌, max, rules, sym, ap, subst, drop, arith}
use Rattle.cat_value.specs.Heights.{height_to, highest_field}
use Rattle.cat_value.proofs.Highest.{IsSoFar, field_more}
use Rattle.cat_value.proofs.Levels.{height_bounded}
use Rattle.cat_value.proofs.table.TypeHeights.highest_field.Goals as goal

pub loop-field-preserved : goal.loop-field-preserved
loop-field-preserved c =
    let ss = c.args.structures.now in let es = c.args.enumerations.now in let k = c.args.depth in
    subst (λ (n : ℕ). IsSoFar (k + 1) n (highest_field (height_to ss es k) (drop (c.loop-field.field-index + 1)
    c.args.fields.now)) (highest_field (height_to ss es k) c.args.fields.now))
    (sym (c.higher-highest.ensures ∙ ap (max c.loop-field.highest) c.height_to.ensures))
    (field_more (height_to ss es k) c.args.fields.now c.loop-field.field-index c.field-item.result (k + 1)
    c.loop-field.highest _ (search rules) (sym c.field-item.is)
    (omega (arith, height_bounded ss es k c.field-item.result.ty))
    c.loop-field.invariant)
