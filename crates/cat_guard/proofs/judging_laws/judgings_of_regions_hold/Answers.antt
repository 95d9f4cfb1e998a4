use Rattle.std.proofs.Common.{rules}
use Rattle.cat_guard.proofs.RegionLaws.{stand}
use Rattle.cat_guard.proofs.judging_laws.judgings_of_regions_hold.Goals as goal

pub returns : goal.returns
returns c = stand c.args.table.now.terms c.args.table.now.atoms c.args.table.now.targets (search rules)
