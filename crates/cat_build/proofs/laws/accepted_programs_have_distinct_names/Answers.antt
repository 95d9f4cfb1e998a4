use Rattle.cat_build.proofs.Distinct.{accepted_distinct}
use Rattle.cat_build.proofs.laws.accepted_programs_have_distinct_names.Goals as goal

pub returns : goal.returns
returns c = accepted_distinct
