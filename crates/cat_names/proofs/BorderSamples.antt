-- Worked examples at the borders of rules: names that hide, `[]` in branches and arms, cases of other enumerations, and
-- what may be given to a called scope.
use Rattle.std.proofs.Common.{◌≡◌, ℕ, pos, true, false, IsTrue, List, [], ◌∷◌, Some, None, Ok, Err, refl, rules}
use Rattle.cat_pos.specs.declared.pos.Pos.{Pos}
use Rattle.cat_value.specs.declared.ty.Ty.TheVariants as flat_ty
use Rattle.cat_value.specs.declared.ty.Ty.TheViews as ty
use Rattle.cat_value.specs.declared.declaration.Enumeration.{Enumeration}
use Rattle.cat_value.specs.declared.declaration.Kind.TheVariants as kind
use Rattle.cat_value.specs.declared.declaration.ItemDecl.{ItemDecl}
use Rattle.cat_value.specs.declared.declaration.Scope.{Scope}
use Rattle.cat_value.specs.declared.decls.Decls.{Decls}
use Rattle.cat_value.specs.Declarations.{are_sound}
use Rattle.cat_value.proofs.Exported.{height_List, height_Integer}
use Rattle.cat_scope.specs.Fitting.{is_low_type}
use Rattle.cat_tree.specs.Accumulation.{accumulation}
use Rattle.cat_tree.specs.declared.name.CaseName.TheVariants as case
use Rattle.cat_tree.specs.declared.expression.SurfaceLiteral.TheVariants as literal
use Rattle.cat_tree.specs.declared.expression.Operator.TheVariants as operator
use Rattle.cat_tree.specs.declared.expression.Pattern.TheVariants as pattern
use Rattle.cat_tree.specs.declared.expression.SurfaceArm.{SurfaceArm}
use Rattle.cat_tree.specs.declared.expression.Node.{Node}
use Rattle.cat_tree.specs.declared.expression.Node.TheVariants as leaf
use Rattle.cat_tree.specs.declared.expression.Node.TheViews as node
use Rattle.cat_tree.specs.declared.program.Fulfilled.TheVariants as fulfilled
use Rattle.cat_tree.specs.declared.program.Use.TheVariants as uses
use Rattle.cat_scope.specs.declared.expr.Literal.TheVariants as value
use Rattle.cat_scope.specs.declared.expr.ArmPattern.TheVariants as arm
use Rattle.cat_scope.specs.declared.expr.Expr.{Expr}
use Rattle.cat_scope.specs.declared.expr.Expr.TheVariants as leaf_expr
use Rattle.cat_scope.specs.declared.expr.Expr.TheViews as expr
use Rattle.cat_scope.specs.declared.defs.Except.TheVariants as except
use Rattle.cat_scope.specs.declared.defs.Def.{Def}
use Rattle.cat_scope.specs.Names.{Names}
use Rattle.cat_names.specs.declared.fault.Fault.TheVariants.{NameTwice, NameUnknown, TypeMismatch}
use Rattle.cat_names.specs.Found.{faulty}
use Rattle.cat_names.specs.Naming.{typed}
use Rattle.cat_names.specs.Meaning.{meant}
use Rattle.cat_names.specs.Definitions.{definition_meant, rule_meant}
use Rattle.cat_names.specs.NameFaults.{use_faults}
use Rattle.cat_names.proofs.TypeEquations.{views}
use Rattle.cat_names.proofs.Equations.{forms}
use Rattle.cat_names.proofs.UnknownEquations.{unknowns}
use Rattle.cat_names.proofs.Samples.{at, name, local, whole, plain, a, b, n, q, x, S, T, item_of}

-- the letters c, e, k, t
abbrev c : ℕ
c = 99

abbrev e : ℕ
e = 101

abbrev k : ℕ
k = 107

abbrev t : ℕ
t = 116

-- `declaration enumeration E: -- A -- B` and `declaration enumeration F: -- C`
abbrev enumerations : List Enumeration
enumerations = record {
  name = 69 ∷ [];
  cases = record { name = 65 ∷ []; content = None } ∷ record { name = 66 ∷ []; content = None } ∷ [];
}
    ∷ record { name = 70 ∷ []; cases = record { name = 67 ∷ []; content = None } ∷ [] } ∷ []

-- S has an input e of E, an input n and a called scope t of T; T has an input a, a condition c that is an input, a
-- context k and an output x
abbrev items : List ItemDecl
items = item_of e (at 5 9) kind.Input (flat_ty.Enumeration 0) ∷ item_of n (at 6 9) kind.Input flat_ty.Integer
    ∷ item_of t (at 7 3) (kind.Called 1) flat_ty.Boolean ∷ []

abbrev scopes : List Scope
scopes = record { name = S ∷ []; items = items }
    ∷ record {
      name = T ∷ [];
      items = item_of a (at 9 9) kind.Input flat_ty.Integer
          ∷ record {
            name = c ∷ [];
            pos = at 10 9;
            kind = kind.Input;
            ty = flat_ty.Boolean;
            condition = true;
            params = [];
          }
          ∷ item_of k (at 11 11) kind.Context flat_ty.Integer
          ∷ item_of x (at 12 10) kind.Output flat_ty.Integer ∷ [];
    } ∷ []

abbrev p : Pos
p = at 20 23

-- `[]`, and a list of one number
abbrev nothing : Node
nothing = node.List (at 20 9) []

abbrev one_whole : ℕ → Node
one_whole i = node.List p (whole i p ∷ [])

abbrev number : ℕ → Expr
number i = leaf_expr.Literal p (value.Integer (pos i))

abbrev truth : Node
truth = leaf.Literal (literal.Boolean true) p

-- arms
abbrev arm_for : ℕ → Node → SurfaceArm
arm_for letter body = record { pattern = pattern.Case (case.Bare (name letter p)) None; body = body }

abbrev otherwise : Node → SurfaceArm
otherwise body = record { pattern = pattern.Anything; body = body }

abbrev match : List SurfaceArm → Node
match arms = node.Match (at 20 5) (local e p) arms

-- a list of integers is no type that is too high
low_integers : (ds : Decls) → is_low_type ds (ty.List flat_ty.Integer) ≡ true
low_integers ds = rw (
  height_List ds.structures ds.enumerations 63 flat_ty.Integer,
  height_Integer ds.structures ds.enumerations 62,
) refl

module _ (sound : IsTrue (are_sound [] enumerations scopes)) where
  abbrev names : Names
  names = record {
    decls = record { structures = []; enumerations = enumerations; scopes = scopes; sound = sound };
    items = items;
  }

  -- `combine` over `[1]` from 0 on, where the element and the accumulator have one name: it is the accumulator
  an_accumulator_hides_an_element : meant names
      (node.Combine (accumulation (at 20 3) (name q p) (name q p)) (one_whole 1) (whole 0 p) (local q p)) [] None
      ≡ Ok (typed (at 20 3) (expr.Combine (at 20 3) (expr.List p (number 1 ∷ [])) (number 0) (leaf_expr.Local p 1))
      flat_ty.Integer)
  an_accumulator_hides_an_element = search (rules, forms, views, low_integers)

  -- `if true then [] else [1]`, where no type is expected, and where a list of integers is
  a_first_branch_has_a_type_of_its_own : meant names (node.If (at 20 3) truth nothing (one_whole 1)) [] None
      ≡ faulty (TypeMismatch (at 20 9))
  a_first_branch_has_a_type_of_its_own = search (rules, forms, views)

  an_expected_type_is_that_of_branches :
      meant names (node.If (at 20 3) truth nothing (one_whole 1)) [] (Some (ty.List flat_ty.Integer))
      ≡ Ok (typed (at 20 3)
      (expr.If (at 20 3) (leaf_expr.Literal p (value.Boolean true)) (expr.List (at 20 9) [])
      (expr.List p (number 1 ∷ []))) (ty.List flat_ty.Integer))
  an_expected_type_is_that_of_branches = search (rules, forms, views, low_integers)

  -- `[[]; [1]]`
  a_first_element_has_a_type_of_its_own : meant names (node.List (at 20 8) (nothing ∷ one_whole 1 ∷ [])) [] None
      ≡ faulty (TypeMismatch (at 20 9))
  a_first_element_has_a_type_of_its_own = search (rules, forms, views)

  -- `match e with pattern -- A : [] -- anything : [1]`, where a list of integers is expected
  an_expected_type_is_that_of_arms :
      meant names (match (arm_for 65 nothing ∷ otherwise (one_whole 1) ∷ [])) [] (Some (ty.List flat_ty.Integer))
      ≡ Ok (typed (at 20 5) (expr.Match (at 20 5) (leaf_expr.Item p 0)
      (record { pattern = arm.Case 0 false; body = expr.List (at 20 9) [] }
      ∷ record { pattern = arm.Anything; body = expr.List p (number 1 ∷ []) } ∷ [])) (ty.List flat_ty.Integer))
  an_expected_type_is_that_of_arms = search (rules, forms, views, low_integers)

  -- `match e with pattern -- C : 1 -- anything : 2`, and `e with pattern C`, where C is a case of F
  an_arm_for_another_enumeration_is_a_mismatch :
      meant names (match (arm_for 67 (whole 1 p) ∷ otherwise (whole 2 p) ∷ [])) [] None
      ≡ faulty (TypeMismatch (at 20 5))
  an_arm_for_another_enumeration_is_a_mismatch = search (rules, forms, views)

  a_test_for_another_enumeration_is_a_mismatch :
      meant names (node.Test (local e p) (at 20 25) (case.Bare (name 67 (at 20 38)))) [] None
      ≡ faulty (TypeMismatch (at 20 25))
  a_test_for_another_enumeration_is_a_mismatch = search (rules, forms, views)

  -- `-- A of q : q`, where A has no content
  a_case_without_a_content_binds_no_name : meant names
      (match (record { pattern = pattern.Case (case.Bare (name 65 p)) (Some (name q p)); body = local q p } ∷ [])) []
      None
      ≡ faulty (TypeMismatch (at 20 5))
  a_case_without_a_content_binds_no_name = search (rules, forms, views)

  -- `q + []`: each operand is at fault
  faults_of_both_operands_stand : meant names (node.Binary operator.Plus (at 20 7) (local q p) nothing) [] None
      ≡ Err (NameUnknown p ∷ TypeMismatch (at 20 9) ∷ [])
  faults_of_both_operands_stand = search (rules, forms, views)

  -- a definition of a variable of t
  abbrev inner_def : ℕ → Expr → Def
  inner_def i e = record {
    target = record { scope = 0; item = 2; inner = Some i };
    label = None;
    except = except.No;
    condition = None;
    consequence = e;
    params = 0;
    pos = at 20 3;
  }

  -- `rule t.c fulfilled`, and `definition t.k equals 1`
  a_condition_of_a_called_scope_has_rules : rule_meant names 0 None plain (at 20 3)
      (record { name = name t p; inner = Some (name c (at 20 25)); params = [] }) None fulfilled.Yes
      ≡ Ok (inner_def 1 (leaf_expr.Literal (at 20 3) (value.Boolean true)))
  a_condition_of_a_called_scope_has_rules = search (rules, forms, views)

  a_context_of_a_called_scope_is_defined : definition_meant names 0 None plain (at 20 3)
      (record { name = name t p; inner = Some (name k (at 20 25)); params = [] }) None (whole 1 p)
      ≡ Ok (inner_def 2 (number 1))
  a_context_of_a_called_scope_is_defined = search (rules, forms, views)

  -- `output of T with { -- a : 1 -- c : true } . x`
  a_condition_may_be_given : meant names (node.ScopeCall (at 20 3) (name T p)
      (record { name = name a p; value = whole 1 p } ∷ record { name = name c p; value = truth } ∷ []) (name x p)) []
      None
      ≡ Ok (typed (at 20 3) (expr.ScopeCall (at 20 3) 1
      (record { field = 0; value = number 1 }
      ∷ record { field = 1; value = leaf_expr.Literal p (value.Boolean true) } ∷ []) 0) flat_ty.Integer)
  a_condition_may_be_given = search (rules, forms, views)

-- `definition b of q, q equals 1`
parameters_have_a_name_each : use_faults
    (record { types = record { structures = []; enumerations = [] }; scopes = []; items = (b ∷ []) ∷ [] })
    (uses.Definition plain (at 20 3)
    (record { name = name b p; inner = None; params = name q (at 20 19) ∷ name q (at 20 22) ∷ [] }) None (whole 1 p))
    ≡ NameTwice (at 20 22) ∷ []
parameters_have_a_name_each = search (rules, unknowns)
