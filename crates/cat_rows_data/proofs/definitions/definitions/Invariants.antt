use Rattle.cat_scope.specs.Names.{AllHave}
use Rattle.cat_rows_data.specs.inside.Plain.{IsPlain}
use Rattle.cat_rows_data.proofs.definitions.definitions.Given as goal

abbrev pub invariant-loop-text : goal.invariant-loop-text
invariant-loop-text l = AllHave IsPlain l.defs
