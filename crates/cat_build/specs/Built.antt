-- What a source is built into.
use Rattle.std.specs.Prelude.{◌≡◌, List}
use Rattle.cat_pos.specs.declared.pos.Piece.{Piece}
use Rattle.cat_scope.specs.AllForests.{AreForestsOf}
use Rattle.cat_scope.specs.declared.programs.Program.{Program}
use Rattle.cat_calc.specs.declared.calcs.Calc.{Calc}
use Rattle.cat_calc.specs.Desugared.{AreMadeOf}
use Rattle.cat_code.specs.declared.code.Code.{Code}
use Rattle.cat_lower.specs.Lowered.{IsCodeOf}
use Rattle.cat_machine.specs.ForPrograms.{IsCodeFor}
use Rattle.cat_build.specs.declared.Built.{Built}
use Rattle.cat_build.specs.Accepted.{IsAccepted}

-- code is that of a calculus, which is made of a program
pub record IsLoweredOf (program : Program) (code : Code) : Type 0 where
  pub calc : Calc
  pub decls : calc.decls ≡ program.decls
  pub made : AreMadeOf program.bodies calc.scopes
  pub code_is : IsCodeOf calc code

-- pieces are accepted as the program, whose forests these are; the code runs each scope to its outcome, by its
-- deciders, and is that of a calculus of the program
pub record IsBuiltOf (pieces : List Piece) (built : Built) : Type 0 where
  pub accepted : IsAccepted pieces built.program
  pub forests : AreForestsOf built.program built.forests
  pub code : ∥ IsCodeFor built.program built.code ∥₁
  pub lowered : IsLoweredOf built.program built.code
