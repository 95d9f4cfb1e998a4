-- Where a definition is looked for.
use Rattle.std.specs.Prelude.{◌≡◌, ℕ, true, Some, slice_get}
use Rattle.cat_guard.specs.Tables.{TablesScope}
use Rattle.cat_machine.specs.ForPrograms.{IsCodeFor}
use Rattle.cat_dead_report.specs.declared.scene.TargetScene.{TargetScene}
use Rattle.cat_dead_report.specs.inside.Faultless.{IsFaultless}

-- code of a program, a table of one of its scopes, and a target of it by its number, which is told to be faultless only
-- where it is
pub record IsScene (here : TargetScene) : Type 0 where
  pub tabled : TablesScope here.program.now here.table.now.scope here.table.now
  pub code : ∥ IsCodeFor here.program.now here.code.now ∥₁
  pub target : slice_get here.table.now.targets here.number ≡ Some here.target.now
  pub faultless : here.faultless ≡ true
      → (index : ℕ) × IsFaultless here.program.now here.table.now.scope index here.target.now
