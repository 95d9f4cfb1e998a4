use Rattle.std.proofs.Common.{◌∙◌, ap, subst}
use Rattle.cat_names.specs.Heights.{height_faults}
use Rattle.cat_declare.specs.inside.Clearing.{Clears}
use Rattle.cat_declare.specs.inside.Made.{made, whole}
use Rattle.cat_declare.specs.inside.Tabling.{tree_at}
use Rattle.cat_declare.proofs.ClearedReplies.{caused_where_not, none_where_clear}
use Rattle.cat_declare.proofs.Finishing.{refuses_height}
use Rattle.cat_declare.proofs.SameHeights.{same_height_faults}
use Rattle.cat_declare.proofs.heights.refuse_high.Goals as goal

pub returns-clause-low : goal.returns-clause-low
returns-clause-low c =
    let tree = tree_at c.args.tables.now in
    let is = c.in_ok-faults.ensures ∙ ap (height_faults tree) c.requires.made ∙ same_height_faults tree in
    none_where_clear c.clear.result (height_faults tree (made whole tree.items))
    (subst (Clears c.clear.result) is c.clear.ensures)

pub returns-clause-cause : goal.returns-clause-cause
returns-clause-cause c =
    let tree = tree_at c.args.tables.now in
    let is = c.in_ok-faults.ensures ∙ ap (height_faults tree) c.requires.made ∙ same_height_faults tree in
    caused_where_not tree c.clear.result (height_faults tree (made whole tree.items))
    (refuses_height tree c.requires.none c.requires.order c.a_cycle_leaves_no_order.ensures)
    (subst (Clears c.clear.result) is c.clear.ensures)
