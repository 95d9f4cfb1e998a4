use Rattle.std.proofs.Common.{rules}
use Rattle.cat_guard.proofs.RegionLaws.{close}
use Rattle.cat_guard.proofs.judging_laws.covered_leaves_are_closed.Goals as goal

pub returns : goal.returns
returns c = close c.args.table.now.terms c.args.table.now.atoms c.args.table.now.targets (search rules)
