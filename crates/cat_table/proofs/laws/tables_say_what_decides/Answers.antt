use Rattle.cat_table.proofs.LawLemmas.{keep_all}
use Rattle.cat_table.proofs.laws.tables_say_what_decides.Goals as goal

pub returns : goal.returns
returns c =
    keep_all c.args.table.now c.searched_trees_part_what_is_admitted.ensures c.judgings_of_regions_hold.ensures
