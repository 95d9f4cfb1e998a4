-- The code of a calculus.
use Rattle.std.specs.Prelude.{◌≡◌, ℕ, ◌+◌, List, [], ◌∷◌, ◌++◌, length, None}
use Rattle.cat_pos.specs.declared.pos.Pos.{Pos}
use Rattle.cat_value.specs.declared.decls.Decls.{Decls}
use Rattle.cat_value.specs.declared.declaration.Scope.{Scope}
use Rattle.cat_scope.specs.declared.defs.Assertion.{Assertion}
use Rattle.cat_calc.specs.declared.calcs.CalcScope.{CalcScope}
use Rattle.cat_calc.specs.declared.calcs.Calc.{Calc}
use Rattle.cat_code.specs.declared.instr.Instr.{Instr}
use Rattle.cat_code.specs.declared.instr.Instr.TheVariants as instr
use Rattle.cat_code.specs.declared.code.Tables.{Tables}
use Rattle.cat_code.specs.declared.code.Code.{Code}
use Rattle.cat_code.specs.Places.{case_places, functions_in}
use Rattle.cat_lower.specs.Laying.{Parts, Ends, Coded, joined, nothing, one, with_position, then_code, led, end_of}
use Rattle.cat_lower.specs.Rows.{Standing}
use Rattle.cat_lower.specs.Expressions.{lowered}
use Rattle.cat_lower.specs.Scopes.{ScopeStanding, functions_code, function_entries, items_code, outputs_code}
use Rattle.cat_lower.specs.Scopes.{output_count}
use Rattle.cat_lower.specs.Definitions.{definitions_of}

-- an assertion
abbrev pub assertion_code : Standing → Assertion → Coded
assertion_code here a =
    then_code ((lowered here a.condition).code [] None) (with_position (λ p. instr.Assert p) a.keyword)

-- assertions, in source order
abbrev pub assertions_code : Standing → List Assertion → Coded
assertions_code here [] = nothing
assertions_code here (a ∷ rest) =
    then_code ((lowered here a.condition).code [] None)
    (then_code (with_position (λ p. instr.Assert p) a.keyword) (assertions_code here rest))

-- what stands behind the functions of a scope
abbrev pub body_code : ScopeStanding → Coded
body_code at =
    then_code (items_code at at.scope.order) (then_code (assertions_code at.here at.scope.assertions)
    (then_code (outputs_code 0 at.here.names.items)
    (led (instr.Pack (output_count at.here.names.items)) (one instr.Return))))

-- a whole scope
abbrev pub scope_code : ScopeStanding → Coded
scope_code at = then_code (functions_code at 0 at.here.names.items) (body_code at)

-- scope n, behind so many functions and definitions
abbrev pub standing : Decls → ℕ → ℕ → ℕ → Scope → CalcScope → ScopeStanding
standing ds n functions definitions scope terms = record {
  number = n;
  here = record {
    names = record { decls = ds; items = scope.items };
    rounding = terms.rounding;
    functions = functions;
    definitions = definitions;
  };
  scope = terms;
}

-- all that the scopes from number n on add: their code, the entries of their functions and their own, and the positions
-- of their definitions
pub record Laid : Type 0 where
  pub code : Parts
  pub functions : List ℕ
  pub scopes : List ℕ
  pub definitions : List Pos

-- a scope in front of others
abbrev pub in_front : ScopeStanding → Ends → Laid → Laid
in_front at ends rest = record {
  code = joined (scope_code at ends) rest.code;
  functions = function_entries at 0 at.here.names.items ends ++ rest.functions;
  scopes = (end_of (functions_code at 0 at.here.names.items) ends).place ∷ rest.scopes;
  definitions = definitions_of at.scope.terms [] ++ rest.definitions;
}

-- the scopes from number n on, behind so many functions and definitions
abbrev pub scopes_laid : Decls → ℕ → ℕ → ℕ → List Scope → List CalcScope → Ends → Laid
scopes_laid ds n functions definitions (scope ∷ scopes) (terms ∷ rest) ends =
    in_front (standing ds n functions definitions scope terms) ends
    (scopes_laid ds (n + 1) (functions + length (functions_in n 0 scope.items))
    (definitions + length (definitions_of terms.terms [])) scopes rest
    (end_of (scope_code (standing ds n functions definitions scope terms)) ends))
scopes_laid ds n functions definitions _ _ ends =
    record { code = nothing ends; functions = []; scopes = []; definitions = [] }

-- nothing stands in front
abbrev pub none : Ends
none = record { place = 0; constants = 0; positions = 0; targets = 0 }

-- all scopes of a calculus
abbrev pub calc_laid : Calc → Laid
calc_laid calc = scopes_laid calc.decls 0 0 0 calc.decls.scopes calc.scopes none

-- tables and instructions that are the code of a calculus
pub record AreCodeOf (calc : Calc) (tables : Tables) (code : List Instr) : Type 0 where
  pub instructions : code ≡ (calc_laid calc).code.instructions
  pub decls : tables.decls ≡ calc.decls
  pub cases : tables.cases ≡ case_places 0 calc.decls.enumerations
  pub scopes : tables.scopes ≡ (calc_laid calc).scopes
  pub targets : tables.targets ≡ (calc_laid calc).code.targets
  pub definitions : tables.definitions ≡ (calc_laid calc).definitions
  pub functions : tables.functions ≡ (calc_laid calc).functions
  pub positions : tables.positions ≡ (calc_laid calc).code.positions
  pub constants : tables.constants ≡ (calc_laid calc).code.constants

-- the code of a calculus
abbrev pub IsCodeOf : Calc → Code → Type 0
IsCodeOf calc code = AreCodeOf calc code.tables code.instructions
