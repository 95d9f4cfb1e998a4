use Rattle.cat_names.proofs.Exported.{decided}
use Rattle.cat_check_operators.proofs.types.same.Goals as goal

pub returns : goal.returns
returns c = decided c.same_ty.result c.args.left.now c.args.right.now c.same_ty.ensures
