use Rattle.std.proofs.Common.{◌∙◌}
use Rattle.cat_dead_report.proofs.DeciderLemmas.{among}
use Rattle.cat_dead_report.proofs.deciders.has_decider.Goals as goal

pub returns : goal.returns
returns c = c.some_is_of.ensures ∙ among c.args.target c.args.pos c.args.tables.now c.args.log.now
