use Rattle.cat_value.proofs.Rounds.{structures_deeper, enumerations_deeper}
use Rattle.cat_value.proofs.table.TypeHeights.deeper.Goals as goal

pub returns : goal.returns
returns c = record {
  structures = structures_deeper c.args.structures.now c.args.enumerations.now c.args.depth _
      c.in_ok-structure_heights.ensures;
  enumerations = enumerations_deeper c.args.structures.now c.args.enumerations.now c.args.depth _
      c.in_ok-enumeration_heights.ensures;
}
