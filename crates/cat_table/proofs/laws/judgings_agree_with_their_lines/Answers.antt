use Rattle.cat_table.proofs.JudgingLaws.{agree}
use Rattle.cat_table.proofs.laws.judgings_agree_with_their_lines.Goals as goal

pub returns : goal.returns
returns c j is =
    agree c.args.program.now c.programs_are_well_formed.ensures c.args.table.now j is c.tables_say_what_decides.ensures
