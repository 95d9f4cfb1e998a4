use Rattle.std.proofs.Common.{◌≡◌, ◌∙◌, true, slice_get, sym}
use Rattle.cat_dead_report.specs.inside.Faultless.{is_passed_at}
use Rattle.cat_dead_report.proofs.ReachedScopes.{goes_past, passed_item, passed_parts}
use Rattle.cat_dead_report.proofs.faultless.past_given.Goals as goal

pub loop-index-preserved : goal.loop-index-preserved
loop-index-preserved c =
    let l = c.loop-index in
    let items = c.as_slice-items.result.now in
    let order = c.order_of-order.result.now in
    let passed : is_passed_at items (slice_get order l.index) ≡ true = sym c.is_passed_at.ensures
    ∙ c.if-is_passed_at.true in
    let one = passed_item items (slice_get order l.index) passed in
    goes_past c.args.program.now c.args.scope l.index one.0 l.invariant
    (passed_parts c.args.program.now c.args.scope l.index one.0 c.decls.result.now c.at.result.now items order
    c.decls.ensures c.at.ensures c.as_slice-items.ensures c.order_of-order.ensures one.1 one.2)
