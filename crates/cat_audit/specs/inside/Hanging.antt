-- What the one run on the input of regions that hang on what a run computes alone says of them all.
use Rattle.std.specs.Prelude.{◌≡◌, false, List, Option, Some}
use Rattle.cat_value.specs.declared.value.Value.{Value}
use Rattle.cat_value.specs.declared.outcome.Outcome.{Outcome}
use Rattle.cat_scope.specs.declared.programs.Program.{Program}
use Rattle.cat_scope.specs.Outcomes.{scope_outcome}
use Rattle.cat_guard.specs.declared.table.Table.{Table}
use Rattle.cat_search.specs.Searched.{everything}
use Rattle.cat_audit.specs.Causes.{is_failure}
use Rattle.cat_audit.specs.Findings.{shown_input}

-- the input in which all that must be given has its default
abbrev pub default_input : Program → Table → List (Option Value)
default_input program table = shown_input program table (everything table.terms)

-- its run ends in no conflict and not in no value
pub record IsQuiet (program : Program) (table : Table) : Type 0 where
  pub outcome : Outcome
  pub comes_to : scope_outcome program table.scope (default_input program table) ≡ Some outcome
  pub quiet : is_failure outcome ≡ false
