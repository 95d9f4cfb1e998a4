use Rattle.cat_depend.proofs.Reaching.{ends}
use Rattle.cat_depend.proofs.laws.audited_scopes_end_with_the_audited_one.Goals as goal

pub returns : goal.returns
returns c scope scopes within are = ends c.args.program.now c.programs_are_well_formed.ensures scope scopes are within
