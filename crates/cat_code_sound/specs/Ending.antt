-- What a run of code on an input comes to.
use Rattle.std.specs.Prelude.{◌≡◌, ℕ, List, Err}
use Rattle.cat_scope.specs.declared.stop.Stop.TheVariants.{Stuck}
use Rattle.cat_scope.specs.Calls.{Items}
use Rattle.cat_code.specs.declared.instr.Instr.{Instr}
use Rattle.cat_code.specs.declared.code.Tables.{Tables}
use Rattle.cat_code.specs.Runs.{Whole, Gives}

-- a run ends, and not stuck; and no run gives anything else
pub record RunsToAnEnd (tables : Tables) (code : List Instr) (scope : ℕ) (input : Items) : Type 0 where
  pub run : Whole
  pub gives : Gives tables code scope input run
  pub goes_on : run.end ≡ Err Stuck → ⊥
  pub alone : (other : Whole) → Gives tables code scope input other → other ≡ run
