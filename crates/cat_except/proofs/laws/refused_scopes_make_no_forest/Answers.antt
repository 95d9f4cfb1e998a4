use Rattle.cat_except.proofs.Whole.{no_forest}
use Rattle.cat_except.proofs.laws.refused_scopes_make_no_forest.Goals as goal

pub returns : goal.returns
returns c targets refusal other cause forest = no_forest targets refusal other cause forest
