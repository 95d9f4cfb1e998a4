use Rattle.cat_names.proofs.CaseCounts.{few_cases}
use Rattle.cat_names.proofs.laws.cases_are_counted.Goals as goal

pub returns : goal.returns
returns c tree decls bodies meant = few_cases tree decls bodies meant
