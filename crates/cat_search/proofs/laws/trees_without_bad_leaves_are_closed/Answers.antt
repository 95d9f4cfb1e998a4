use Rattle.std.proofs.Common.{rules}
use Rattle.cat_search.proofs.LawLemmas.{close_trees}
use Rattle.cat_search.proofs.laws.trees_without_bad_leaves_are_closed.Goals as goal

pub returns : goal.returns
returns c =
    let table = c.args.table.now in
    close_trees table.terms table.atoms table.targets (search rules) c.covered_leaves_are_closed.ensures
