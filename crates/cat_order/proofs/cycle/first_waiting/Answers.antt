use Rattle.std.proofs.lemmas.Bool.{lt-ltb}
use Rattle.cat_order.proofs.Counts.{times_at}
use Rattle.cat_order.proofs.cycle.first_waiting.Goals as goal

pub returns-then-unmet-dependency-gt0-clause-among : goal.returns-then-unmet-dependency-gt0-clause-among
returns-then-unmet-dependency-gt0-clause-among c =
    lt-ltb 0 _ (times_at c.args.dependencies.now c.loop-dependency.dependency-index c.loop-dependency-test.true)
