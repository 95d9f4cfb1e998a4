use Rattle.cat_dead_report.proofs.FaultlessLaws.{runs_go_on}
use Rattle.cat_dead_report.proofs.deciding.runs_go_on_behind_covered_targets.Goals as goal

pub returns : goal.returns
returns c = runs_go_on c.args.program.now c.programs_are_well_formed.ensures c.args.table.now c.requires
