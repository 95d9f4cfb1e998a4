use Rattle.cat_names.proofs.DefinitionCounts.{few_definitions}
use Rattle.cat_names.proofs.laws.definitions_are_counted.Goals as goal

pub returns : goal.returns
returns c tree decls bodies meant = few_definitions tree decls bodies meant
