-- The code of a program runs what its calculus runs, and is that of a calculus made of it.
use Rattle.std.proofs.Common.{◌≡◌, ◌∙◌, sym, subst}
use Rattle.std.specs.Prelude.{Result, Ok, Err, IfOk}
use Rattle.std.proofs.Math.Logic.{∥∥₁_map}
use Rattle.cat_value.specs.declared.decls.Decls.{Decls}
use Rattle.cat_value.specs.Inputs.{IsWellTyped}
use Rattle.cat_scope.specs.declared.programs.Program.{Program}
use Rattle.cat_calc.specs.declared.calcs.Calc.{Calc}
use Rattle.cat_calc.specs.Calculus.{calc_run}
use Rattle.cat_calc.specs.Desugared.{KeepsOutcomes, KeepsDeciders, AreMadeOf}
use Rattle.cat_calc.proofs.Exported.{has_outcome}
use Rattle.cat_code.specs.declared.code.Code.{Code}
use Rattle.cat_lower.specs.Lowered.{IsCodeOf}
use Rattle.cat_lower.proofs.Exported.{lowered_gives}
use Rattle.cat_machine.specs.ForPrograms.{IsCodeFor}
use Rattle.cat_build.specs.Built.{IsLoweredOf}

pub code_for : (program : Program) (calc : Calc) (code : Code) → calc.decls ≡ program.decls
    → KeepsOutcomes program calc → KeepsDeciders program calc → IsCodeOf calc code → ∥ IsCodeFor program code ∥₁
code_for program calc code declared outcomes deciders low =
    ∥∥₁_map calc.well_formed (λ formed. record {
      declared = low.decls ∙ declared;
      runs = λ scope input typed.
          let here = subst (λ (ds : Decls). IsWellTyped ds scope input) (sym declared) typed in record {
            run = calc_run calc scope input;
            gives = lowered_gives calc code low formed scope input here;
            has_outcome = has_outcome calc scope input here;
            outcome = outcomes scope input;
            log = deciders scope input;
          };
    })

-- the same of what is lowered, where memory lasts
pub lowered_for : {E : Type 0} (program : Program) (calc : Calc) (lowered : Result Code E) → calc.decls ≡ program.decls
    → KeepsOutcomes program calc → KeepsDeciders program calc → IfOk lowered (IsCodeOf calc)
    → IfOk lowered (λ code. ∥ IsCodeFor program code ∥₁)
lowered_for program calc (Ok code) declared outcomes deciders low =
    code_for program calc code declared outcomes deciders low
lowered_for program calc (Err e) declared outcomes deciders low = tt

-- and is that of its calculus, which is made of the program
pub lowered_of : {E : Type 0} (program : Program) (calc : Calc) (lowered : Result Code E) → calc.decls ≡ program.decls
    → AreMadeOf program.bodies calc.scopes → IfOk lowered (IsCodeOf calc) → IfOk lowered (IsLoweredOf program)
lowered_of program calc (Ok code) declared made low =
    record { calc = calc; decls = declared; made = made; code_is = low }
lowered_of program calc (Err e) declared made low = tt
