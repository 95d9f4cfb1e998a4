use Rattle.cat_emitted.proofs.WellListed.{well_listed, valid_tables}
use Rattle.cat_emitted.proofs.laws.spelled_tables_are_well_listed.Goals as goal

pub returns : goal.returns
returns c files tables instructions valid spelled small =
    well_listed files tables instructions (valid_tables tables instructions valid) spelled small
