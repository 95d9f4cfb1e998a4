use Rattle.std.proofs.Common.{rules}
use Rattle.cat_search.proofs.CellLemmas.{bound}
use Rattle.cat_search.proofs.laws.searched_trees_stay_within_the_cells.Goals as goal

pub returns : goal.returns
returns c = bound c.args.table.now.terms c.args.table.now.atoms c.args.table.now.targets (search rules)
