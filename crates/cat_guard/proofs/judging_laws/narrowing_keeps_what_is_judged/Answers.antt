use Rattle.std.proofs.Common.{rules}
use Rattle.cat_guard.proofs.FurtherLaws.{judged_further}
use Rattle.cat_guard.proofs.judging_laws.narrowing_keeps_what_is_judged.Goals as goal

pub returns : goal.returns
returns c = judged_further c.args.table.now.terms c.args.table.now.atoms c.args.table.now.targets (search rules)
