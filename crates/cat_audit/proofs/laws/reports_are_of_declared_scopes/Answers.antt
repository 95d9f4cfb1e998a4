use Rattle.cat_audit.proofs.CompleteLemmas.{sections_below}
use Rattle.cat_audit.proofs.laws.reports_are_of_declared_scopes.Goals as goal

pub returns : goal.returns
returns c scope budget report is = sections_below c.args.program.now scope budget report is
