use Rattle.std.proofs.Common.{refl, rules}
use Rattle.cat_order.specs.Cycle.{IsOnCycle}
use Rattle.cat_declare.specs.inside.Cycling.{dependencies}
use Rattle.cat_declare.specs.inside.Parted.{declared_by}
use Rattle.cat_declare.specs.inside.Tabling.{tree_at}
use Rattle.cat_declare.proofs.Finishing.{cycle_within, number_within}
use Rattle.cat_declare.proofs.cycles.check_order.Goals as goal

pub position_of-pos-requires-clause-within : goal.position_of-pos-requires-clause-within
position_of-pos-requires-clause-within c =
    let deps = dependencies (declared_by c.args.parts.now) in
    let on : IsOnCycle deps c.in-Err-Cycle.number = search rules in
    number_within (tree_at c.args.tables.now) c.args.parts.now c.args.tables.now.declarations c.requires.made
    c.requires.tables.declarations refl c.in-Err-Cycle.number (cycle_within deps c.in-Err-Cycle.number on)
