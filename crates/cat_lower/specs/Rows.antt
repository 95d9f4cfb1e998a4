-- The code of forms that have parts in a row: lists, arms, arguments and fields.
use Rattle.std.specs.Prelude.{ℕ, ◌+◌, List, [], ◌∷◌, length, map, take, Option, Some, None}
use Rattle.cat_date.specs.declared.rounding.Rounding.{Rounding}
use Rattle.cat_value.specs.declared.value.Value.TheViews as value
use Rattle.cat_value.specs.declared.ty.Ty.{Ty}
use Rattle.cat_value.specs.declared.ty.Ty.TheVariants as flat
use Rattle.cat_value.specs.declared.declaration.ItemDecl.{ItemDecl}
use Rattle.cat_value.specs.Defaults.{default_of}
use Rattle.cat_scope.specs.declared.expr.ArmPattern.{ArmPattern}
use Rattle.cat_scope.specs.declared.expr.ArmPattern.TheVariants as pattern
use Rattle.cat_scope.specs.Names.{Names}
use Rattle.cat_code.specs.declared.instr.Instr.TheVariants as instr
use Rattle.cat_code.specs.Places.{functions_in}
use Rattle.cat_lower.specs.Laying.{Coded, nothing, one, then_code, led, all_code, branch}
use Rattle.cat_lower.specs.Types.{Lowering, element_expected, arm_types}
use Rattle.cat_lower.specs.Pieces.{constant, cases_before, arm_body}

-- where an expression stands: the declarations, the items of its scope, what becomes of a day that its month lacks, and
-- how many functions and definitions of scopes stand in front of those of its scope
pub record Standing : Type 0 where
  pub names : Names
  pub rounding : Rounding
  pub functions : ℕ
  pub definitions : ℕ

-- the number of a function, by its item
abbrev pub function_number : Standing → ℕ → ℕ
function_number here f = here.functions + length (functions_in 0 0 (take f here.names.items))

-- the number of a case among all cases
abbrev pub case_number : Standing → ℕ → ℕ → ℕ
case_number here n k = cases_before n here.names.decls.enumerations + k

-- elements of which the first is expected to be of a type, and each further one of the type of the first
abbrev pub row_code : List Lowering → List Ty → Option Ty → Coded
row_code [] locals expected = nothing
row_code (e ∷ es) locals expected =
    then_code (e.code locals expected) (all_code (map (λ o. o.code locals (Some (e.type locals expected))) es))

-- a list; the empty one is a constant of the type that is expected
abbrev pub list_code : List Lowering → List Ty → Option Ty → Coded
list_code [] locals None = constant flat.Boolean (value.List [])
list_code [] locals (Some t) = constant t (value.List [])
list_code (e ∷ es) locals expected =
    then_code (row_code (e ∷ es) locals (element_expected expected)) (one (instr.List (length (e ∷ es))))

-- an arm in front of those that are left
abbrev pub arm_code : Standing → ℕ → ℕ → ArmPattern → Coded → Coded → Coded
arm_code here n i pattern.Anything body rest = led (instr.Drop 1) body
arm_code here n i (pattern.Case k bound) body rest =
    led (instr.Local i) (led (instr.IsCase (case_number here n k))
    (branch (λ t. instr.JumpFalse t) (arm_body i bound body) rest))

-- arms for the cases of enumeration n, which give a value of type t; behind the last one stands a value of that type to
-- which no run comes
abbrev pub arms_code : Standing → ℕ → Ty → List (ArmPattern × Lowering) → List Ty → Option Ty → Coded
arms_code here n t [] locals expected =
    then_code (constant t (default_of here.names.decls t)) (one (instr.Drop 1))
arms_code here n t (a ∷ arms) locals expected =
    arm_code here n (length locals) a.0 (a.1.code (arm_types here.names.decls n a.0 locals) expected)
    (arms_code here n t arms locals (Some t))

-- arguments, each expected to be of the type of its parameter
abbrev pub arguments_code : List Ty → List Lowering → List Ty → Coded
arguments_code params [] locals = nothing
arguments_code [] (e ∷ es) locals = then_code (e.code locals None) (arguments_code [] es locals)
arguments_code (p ∷ ps) (e ∷ es) locals = then_code (e.code locals (Some p)) (arguments_code ps es locals)

-- the parameters of a function
abbrev pub params_of : Option ItemDecl → List Ty
params_of None = []
params_of (Some item) = item.params

-- fields with their numbers, each expected to be of a type
abbrev pub fields_code : (ℕ → Option Ty) → List (ℕ × Lowering) → List Ty → List (ℕ × Coded)
fields_code expected [] locals = []
fields_code expected (f ∷ fs) locals = (f.0, f.1.code locals (expected f.0)) ∷ fields_code expected fs locals

-- the values of some fields, one behind the other
abbrev pub values_code : List (ℕ × Coded) → Coded
values_code [] = nothing
values_code (f ∷ fs) = then_code f.1 (values_code fs)
