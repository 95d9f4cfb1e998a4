use Rattle.std.proofs.Common.{rules, ◌∙◌, sym}
use Rattle.cat_depend.proofs.Lists as lists
use Rattle.cat_depend.proofs.items.named_by_items.Goals as goal
use Rattle.cat_depend.proofs.items.named_by_items.Goals.{then-wants+in_ok-add_definition, else-wants}

pub loop-def-init : goal.loop-def-init
loop-def-init c = c.in_ok-lists.ensures ∙ sym (lists.none_yet c.args.wanted 0 c.args.items.now)

pub loop-def-preserved : goal.loop-def-preserved
loop-def-preserved c =
    elim c.if-wants.branch [
      | then-wants+in_ok-add_definition w ↦
          rw w.lists-is (lists.added c.args.wanted c.args.defs.now c.args.items.now c.loop-def.def-index
          c.def-item.result
          c.index-items-item.result c.loop-def.lists.items c.loop-def-test.true c.def-item.is (search rules)
          c.index-items-item.is c.loop-def.invariant (search rules) w.index_mut.result.now w.add_definition.new.numbers
          w.index_mut.ensures.value w.in_ok-add_definition.ensures)
      | else-wants w ↦
          rw w.lists-is (lists.passed_over c.args.wanted c.args.defs.now c.args.items.now c.loop-def.def-index
          c.def-item.result c.index-items-item.result c.loop-def.lists.items c.loop-def-test.true c.def-item.is
          (search rules) c.index-items-item.is c.loop-def.invariant (search rules))
    ]
