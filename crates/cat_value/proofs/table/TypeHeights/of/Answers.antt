use Rattle.std.proofs.Common.{sym, ap, ◌∙◌}
use Rattle.cat_value.specs.declared.ty.Ty.TheVariants as flat
use Rattle.cat_value.specs.Table.{height_in}
use Rattle.cat_value.proofs.Levels.{height_zero}
use Rattle.cat_value.proofs.table.TypeHeights.of.Goals as goal

pub loop-depth-init : goal.loop-depth-init
loop-depth-init c = record {
  structures = λ n. ap (λ xs. height_in xs n) c.new.ensures
      ∙ sym (height_zero c.args.structures.now c.args.enumerations.now (flat.Structure n));
  enumerations = λ n. ap (λ xs. height_in xs n) c.new-2.ensures
      ∙ sym (height_zero c.args.structures.now c.args.enumerations.now (flat.Enumeration n));
}
