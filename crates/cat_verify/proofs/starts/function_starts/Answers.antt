use Rattle.std.proofs.Common.{arith}
use Rattle.cat_verify.proofs.starts.function_starts.Goals as goal

pub overflow_cast-first : goal.overflow_cast-first
overflow_cast-first c =
    let few = c.requires in
    let count = c.len-first.ensures in
    omega (arith, few, count)
