use Rattle.std.proofs.Common.{arith}
use Rattle.cat_machine.proofs.steps.operating.other_at.Goals as goal

pub unreachable-requires : goal.unreachable-requires
unreachable-requires c =
    let first = c.requires.first in
    let last = c.requires.last in
    omega (arith, first, last)
