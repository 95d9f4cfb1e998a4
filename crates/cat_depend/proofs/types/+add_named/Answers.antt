use Rattle.std.proofs.Common.{rules, arith}
use Rattle.cat_value.specs.declared.ty.Ty.TheViews as ty
use Rattle.cat_depend.proofs.TypeNames.{element_declared}
use Rattle.cat_depend.proofs.types.+add_named.Goals as goal

pub add_named-requires : goal.add_named-requires
add_named-requires t c = (
  search (rules, arith, ty.the_lemmas),
  (
    c.requires.few,
    element_declared c.args.structures.now c.args.enumerations.now c.get.result.now c.args.ty.now c.in-List.element
        c.in-List.is c.get.ensures c.requires.declared,
  ),
)
