use Rattle.std.proofs.Common.{rules}
use Rattle.cat_search.proofs.WayAskedLemmas.{asks_of_table}
use Rattle.cat_search.proofs.way_laws.searched_trees_ask_atoms_of_the_table.Goals as goal

pub returns : goal.returns
returns c =
    asks_of_table c.args.table.now.terms c.args.table.now.atoms c.args.table.now.targets (search rules)
