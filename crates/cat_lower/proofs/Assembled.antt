-- The code that is made of a draft of all scopes.
use Rattle.std.proofs.Common.{◌≡◌, List}
use Rattle.std.proofs.Math.Logic.{∥∥₁_elim, ∥∥₁_prop}
use Rattle.cat_value.specs.declared.decls.Decls.{Decls}
use Rattle.cat_value.specs.Laws.{AreSound}
use Rattle.cat_calc.specs.declared.calcs.Calc.{Calc}
use Rattle.cat_calc.specs.WellFormed.{IsCalc}
use Rattle.cat_code.specs.declared.instr.Instr.{Instr}
use Rattle.cat_code.specs.declared.code.CasePlace.{CasePlace}
use Rattle.cat_code.specs.declared.code.Tables.{Tables}
use Rattle.cat_code.specs.Places.{case_places}
use Rattle.cat_code.specs.Valid.{IsValid}
use Rattle.cat_lower.specs.declared.calculus.Draft.{Draft}
use Rattle.cat_lower.specs.Drafts.{Holds}
use Rattle.cat_lower.specs.Lowered.{AreCodeOf, calc_laid}
use Rattle.cat_lower.proofs.CodeIsValid.{code_is_valid}

-- the tables of a draft
abbrev pub tables_of : Draft → Decls → List CasePlace → Tables
tables_of draft decls cases = record {
  decls = decls;
  cases = cases;
  scopes = draft.scopes;
  targets = draft.growing.targets;
  definitions = draft.definitions;
  functions = draft.functions;
  positions = draft.growing.positions;
  constants = draft.growing.constants;
}

pub code_of_draft : (calc : Calc) (draft : Draft) (decls : Decls) (cases : List CasePlace)
    → Holds draft (calc_laid calc) → decls ≡ calc.decls
    → cases ≡ case_places 0 calc.decls.enumerations
    → AreCodeOf calc (tables_of draft decls cases) draft.growing.instructions
code_of_draft calc draft decls cases laid same counted = record {
  instructions = laid.instructions;
  decls = same;
  cases = counted;
  scopes = laid.scopes;
  targets = laid.targets;
  definitions = laid.definitions;
  functions = laid.functions;
  positions = laid.positions;
  constants = laid.constants;
}

pub valid_code_of : (calc : Calc) (tables : Tables) (code : List Instr) → AreCodeOf calc tables code
    → ∥ IsCalc calc.decls calc.scopes calc.scope_order ∥₁
    → AreSound calc.decls → ∥ IsValid tables code ∥₁
valid_code_of calc tables code low formed sound =
    ∥∥₁_elim formed ∥∥₁_prop (λ f. (∣ code_is_valid calc tables code low f sound ∣₁))
