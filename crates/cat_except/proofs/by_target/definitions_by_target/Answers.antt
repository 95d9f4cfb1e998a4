use Rattle.std.proofs.Common.{rules, sym}
use Rattle.cat_except.proofs.TargetKeys.{one_def_more}
use Rattle.cat_except.proofs.by_target.definitions_by_target.Goals as goal

pub loop-number-preserved : goal.loop-number-preserved
loop-number-preserved c =
    one_def_more c.args.defs.now c.loop-number.number c.index-defs-number.result c.loop-number.keys.keys
    c.list_under.new.keys.keys c.loop-number.lists.items c.list_under.new.lists.items (search rules)
    (sym c.index-defs-number.is)
    c.loop-number.invariant c.in_ok-list_under.ensures.keys c.in_ok-list_under.ensures.lists
