use Rattle.std.proofs.Common.{arith}
use Rattle.cat_value.proofs.Descending.{low_unless_list}
use Rattle.cat_value.proofs.DefaultEquations.{default_List}
use Rattle.cat_value.proofs.least.least_value.Goals as goal

pub least_at-requires : goal.least_at-requires
least_at-requires c = record {
  declared = c.requires;
  height = low_unless_list c.args.decls.now c.args.ty.now c.requires
      c.in_default.not-List;
}

pub returns-in-List : goal.returns-in-List
returns-in-List c = grind (arith, default_List)
