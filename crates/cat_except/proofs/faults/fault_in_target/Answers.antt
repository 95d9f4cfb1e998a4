use Rattle.std.proofs.Common.{sym, ◌∙◌}
use Rattle.cat_except.specs.inside.Grouping.{groups_at}
use Rattle.cat_except.specs.inside.Finding.{kind_of}
use Rattle.cat_except.proofs.Firsts.{here, behind, in_groups_borrowed}
use Rattle.cat_except.proofs.faults.fault_in_target.Goals as goal

pub returns-in-Some : goal.returns-in-Some
returns-in-Some c =
    here _ c.in-Some.pos _ _ _ (in_groups_borrowed (kind_of c.args.kind)
    (groups_at c.args.defs.now c.args.groups.now.lists.items) c.args.defs.now c.args.groups.now.lists.items
    c.deref-list-items.result.now c.loop-list.list-index c.list-item.result c.as_slice.result.now
    c.deref-list-items.ensures.value c.as_slice.ensures c.loop-list-test.true c.list-item.is)
    c.loop-list.invariant (sym c.fault_in_group.ensures ∙ c.in-Some.is)

pub loop-list-preserved : goal.loop-list-preserved
loop-list-preserved c =
    behind _ _ _ _ (in_groups_borrowed (kind_of c.args.kind)
    (groups_at c.args.defs.now c.args.groups.now.lists.items) c.args.defs.now c.args.groups.now.lists.items
    c.deref-list-items.result.now c.loop-list.list-index c.list-item.result c.as_slice.result.now
    c.deref-list-items.ensures.value c.as_slice.ensures c.loop-list-test.true c.list-item.is)
    c.loop-list.invariant (sym c.fault_in_group.ensures ∙ c.in_default.is)
