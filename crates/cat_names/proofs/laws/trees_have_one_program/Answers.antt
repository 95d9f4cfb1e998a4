use Rattle.cat_names.proofs.OneProgram.{one_program}
use Rattle.cat_names.proofs.laws.trees_have_one_program.Goals as goal

pub returns : goal.returns
returns c tree decls other bodies more scope_order order is also =
    one_program c.the_order_is_one.ensures tree decls other bodies more scope_order order is also
