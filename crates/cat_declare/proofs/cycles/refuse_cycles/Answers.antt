use Rattle.cat_declare.specs.inside.Tabling.{tree_at}
use Rattle.cat_declare.proofs.Finishing.{all_there, all_items, ordered, unordered_cause}
use Rattle.cat_declare.proofs.cycles.refuse_cycles.Goals as goal

pub check_order-requires-clause-there : goal.check_order-requires-clause-there
check_order-requires-clause-there c =
    all_there (tree_at c.args.tables.now) c.requires.parsed.items c.args.parts.now c.requires.made

pub check_order-requires-clause-items : goal.check_order-requires-clause-items
check_order-requires-clause-items c =
    all_items (tree_at c.args.tables.now) c.requires.none c.args.parts.now c.requires.made

pub returns-clause-order : goal.returns-clause-order
returns-clause-order c =
    ordered (tree_at c.args.tables.now) c.args.parts.now c.requires.made c.check_order.result c.check_order.ensures

pub returns-clause-cause : goal.returns-clause-cause
returns-clause-cause c = unordered_cause (tree_at c.args.tables.now) c.requires.none c.args.parts.now c.requires.made
    c.check_order.result c.check_order.ensures
