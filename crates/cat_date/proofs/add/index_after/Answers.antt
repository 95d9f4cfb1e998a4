use Rattle.std.proofs.Common.{arith}
use Rattle.std.proofs.lemmas.Int.{ints}
use Rattle.cat_date.proofs.add.index_after.Goals as goal

pub overflow_add-result-2 : goal.overflow_add-result-2
overflow_add-result-2 c = omega (arith, ints, c.args.date.year_in, c.args.date.month_in)

pub returns : goal.returns
returns c = omega (arith, ints, c.args.date.year_in, c.args.date.month_in)
