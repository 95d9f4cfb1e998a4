use Rattle.cat_table.proofs.TypedLaws.{told_so}
use Rattle.cat_table.proofs.laws.expressions_tell_their_types.Goals as goal

pub returns : goal.returns
returns c = told_so
