use Rattle.std.proofs.Common.{◌∙◌, List, ap, sym}
use Rattle.std.proofs.lemmas.Result.{err_from_is_err_and}
use Rattle.std.specs.Vec.Iter.{into_iter_items}
use Rattle.cat_tree.specs.declared.program.Item.{Item}
use Rattle.cat_names.specs.Lines.{all_lines, item_lines}
use Rattle.cat_check_forms.specs.Tabled.{names_at}
use Rattle.cat_check_exprs.specs.Saying.{behind, nothing_said}
use Rattle.cat_check.proofs.Whole.{said_off, said_on}
use Rattle.cat_check.proofs.body.said_in.Goals as goal

pub returns-in_err-add_item : goal.returns-in_err-add_item
returns-in_err-add_item c =
    let p = err_from_is_err_and c.from_residual.result c.from_residual.ensures.1 in
    let l = c.loop-item in
    let f = item_lines (names_at c.args.here.now) c.args.here.now.scope in
    let next = ap (λ (xs : List Item). behind l.said (all_lines f xs)) (sym c.in-Some.ensures.steps.0) ∙ l.invariant in
    rw (p.1, p.2) (said_off f c.in-Some.item (into_iter_items c.next.new.self) l.said
    (behind nothing_said (all_lines f c.args.items)) c.in_err-add_item.field-0.0 c.in_err-add_item.ensures.told next)

pub loop-item-preserved : goal.loop-item-preserved
loop-item-preserved c =
    let l = c.loop-item in
    let f = item_lines (names_at c.args.here.now) c.args.here.now.scope in
    let next = ap (λ (xs : List Item). behind l.said (all_lines f xs)) (sym c.in-Some.ensures.steps.0) ∙ l.invariant in
    said_on f c.in-Some.item (into_iter_items c.next.new.self) l.said c.add_item.new.said
    (behind nothing_said (all_lines f c.args.items)) c.in_ok-add_item.ensures.told next
