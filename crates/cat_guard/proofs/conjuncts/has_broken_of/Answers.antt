use Rattle.std.proofs.Common.{rules}
use Rattle.cat_guard.proofs.ConjunctLaws.{conjunct_at, one_of}
use Rattle.cat_guard.proofs.conjuncts.has_broken_of.Goals as goal

pub returns-then-is_broken : goal.returns-then-is_broken
returns-then-is_broken c so = (
  conjunct_at c.args.conjuncts.now c.loop-index.index,
  one_of c.args.conjuncts.now c.loop-index.index (search rules),
  c.is_broken.ensures c.if-is_broken.true,
)
