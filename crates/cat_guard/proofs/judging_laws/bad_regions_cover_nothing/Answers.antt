use Rattle.std.proofs.Common.{rules}
use Rattle.cat_guard.proofs.RegionLaws.{cover_nothing}
use Rattle.cat_guard.proofs.judging_laws.bad_regions_cover_nothing.Goals as goal

pub returns : goal.returns
returns c = cover_nothing c.args.table.now.terms c.args.table.now.atoms c.args.table.now.targets (search rules)
