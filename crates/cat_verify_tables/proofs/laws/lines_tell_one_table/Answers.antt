use Rattle.cat_verify_tables.proofs.OneTable.{one_table}
use Rattle.cat_verify_tables.proofs.laws.lines_tell_one_table.Goals as goal

pub returns : goal.returns
returns c = λ image tables others are also right. one_table image right tables others are also
