use Rattle.std.proofs.Common.{arith}
use Rattle.cat_value.proofs.Equations.{fields_have_types-length}
use Rattle.cat_value.proofs.typing.+well_typed.Goals as goal

pub are_fields-returns-then-len : goal.are_fields-returns-then-len
are_fields-returns-then-len t c = grind (arith, fields_have_types-length)
