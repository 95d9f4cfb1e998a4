-- Code that runs each scope of a program to its outcome.
use Rattle.std.specs.Prelude.{◌≡◌, ℕ, IsSome}
use Rattle.cat_value.specs.Inputs.{IsWellTyped}
use Rattle.cat_scope.specs.declared.programs.Program.{Program}
use Rattle.cat_scope.specs.Calls.{Items}
use Rattle.cat_scope.specs.Outcomes.{deciders, outcome_of, scope_outcome}
use Rattle.cat_code.specs.declared.code.Code.{Code}
use Rattle.cat_code.specs.Runs.{Gives, Whole}

-- code runs a scope on an input: it ends in the scope's outcome, and its log are the deciders
pub record RunsScope (program : Program) (code : Code) (scope : ℕ) (input : Items) : Type 0 where
  pub run : Whole
  pub gives : Gives code.tables code.instructions scope input run
  pub has_outcome : IsSome (outcome_of run.end)
  pub outcome : outcome_of run.end ≡ scope_outcome program scope input
  pub log : run.log ≡ deciders program scope input

-- code of a program: it has the program's declarations, and runs each scope on each well-typed input
pub record IsCodeFor (program : Program) (code : Code) : Type 0 where
  pub declared : code.tables.decls ≡ program.decls
  pub runs : (scope : ℕ) (input : Items) → IsWellTyped program.decls scope input → RunsScope program code scope input
