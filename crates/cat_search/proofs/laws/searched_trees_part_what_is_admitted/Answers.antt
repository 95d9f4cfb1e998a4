use Rattle.std.proofs.Common.{rules}
use Rattle.cat_search.proofs.LawLemmas.{part}
use Rattle.cat_search.proofs.laws.searched_trees_part_what_is_admitted.Goals as goal

pub returns : goal.returns
returns c = part c.args.table.now.terms c.args.table.now.atoms c.args.table.now.targets (search rules)
