use Rattle.cat_audit_table.specs.Numbered.{items_at, guard_at}
use Rattle.cat_audit_table.proofs.Adding.{if_ok, adds_both, adds_either, adds_differ, adds_choice}
use Rattle.cat_audit_table.proofs.guard.+guard.Goals as goal

pub both-returns : goal.both-returns
both-returns t c =
    if_ok c.conjunction.result
    (adds_both (items_at c.args.here.now) (guard_at c.args.here.now c.args.left.now)
    (guard_at c.args.here.now c.args.right.now) c.args.numbering.now c.guard.new.numbering c.guard-2.new.numbering
    c.in_ok-left.left c.in_ok-right.right c.in_ok-left.ensures c.in_ok-right.ensures) c.conjunction.ensures

pub either-returns : goal.either-returns
either-returns t c =
    if_ok c.disjunction.result
    (adds_either (items_at c.args.here.now) (guard_at c.args.here.now c.args.left.now)
    (guard_at c.args.here.now c.args.right.now) c.args.numbering.now c.guard.new.numbering c.guard-2.new.numbering
    c.in_ok-left.left c.in_ok-right.right c.in_ok-left.ensures c.in_ok-right.ensures) c.disjunction.ensures

pub differ-returns : goal.differ-returns
differ-returns t c =
    if_ok c.difference.result
    (adds_differ (items_at c.args.here.now) (guard_at c.args.here.now c.args.left.now)
    (guard_at c.args.here.now c.args.right.now) c.args.numbering.now c.guard.new.numbering c.guard-2.new.numbering
    c.in_ok-left.left c.in_ok-right.right c.in_ok-left.ensures c.in_ok-right.ensures) c.difference.ensures

pub choice-returns : goal.choice-returns
choice-returns t c =
    if_ok c.selection.result
    (adds_choice (items_at c.args.here.now) (guard_at c.args.here.now c.args.test.now)
    (guard_at c.args.here.now c.args.yes.now) c.args.numbering.now c.guard.new.numbering c.guard-2.new.numbering
    c.in_ok-test.test c.in_ok-yes.yes c.in_ok-test.ensures c.in_ok-yes.ensures
    (guard_at c.args.here.now c.args.no.now) c.guard-3.new.numbering c.in_ok-no.no c.in_ok-no.ensures)
    c.selection.ensures
