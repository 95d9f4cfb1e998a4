-- Worked examples of single forms, in a scope with an enumeration, a list, a called scope and a function.
use Rattle.std.proofs.Common.{◌≡◌, ℕ, pos, true, false, IsTrue, List, [], ◌∷◌, Some, None, Ok, rules}
use Rattle.cat_pos.specs.declared.pos.Pos.{Pos}
use Rattle.cat_value.specs.declared.ty.Ty.TheVariants as flat_ty
use Rattle.cat_value.specs.declared.ty.Ty.TheViews as ty
use Rattle.cat_value.specs.declared.declaration.Enumeration.{Enumeration}
use Rattle.cat_value.specs.declared.declaration.Kind.TheVariants as kind
use Rattle.cat_value.specs.declared.declaration.ItemDecl.{ItemDecl}
use Rattle.cat_value.specs.declared.declaration.Scope.{Scope}
use Rattle.cat_value.specs.declared.decls.Decls.{Decls}
use Rattle.cat_value.specs.Declarations.{are_sound}
use Rattle.cat_tree.specs.declared.name.CaseName.TheVariants as case
use Rattle.cat_tree.specs.declared.expression.Operator.TheVariants as operator
use Rattle.cat_tree.specs.declared.expression.Each.TheVariants as each
use Rattle.cat_tree.specs.declared.expression.Prefix.TheVariants as prefix
use Rattle.cat_tree.specs.declared.expression.Pattern.TheVariants as pattern
use Rattle.cat_tree.specs.declared.expression.SurfaceArm.{SurfaceArm}
use Rattle.cat_tree.specs.declared.expression.Node.{Node}
use Rattle.cat_tree.specs.declared.expression.Node.TheViews as node
use Rattle.cat_scope.specs.declared.operators.BinaryOp.TheVariants.{Greater}
use Rattle.cat_scope.specs.declared.expr.Literal.TheVariants as value
use Rattle.cat_scope.specs.declared.expr.ArmPattern.TheVariants as arm
use Rattle.cat_scope.specs.declared.expr.Expr.TheVariants as leaf_expr
use Rattle.cat_scope.specs.declared.expr.Expr.TheViews as expr
use Rattle.cat_scope.specs.declared.defs.Except.TheVariants as except
use Rattle.cat_scope.specs.Names.{Names}
use Rattle.cat_names.specs.declared.fault.Fault.TheVariants.{NameUnknown, TypeMismatch, MatchCases}
use Rattle.cat_names.specs.Found.{faulty}
use Rattle.cat_names.specs.Naming.{typed}
use Rattle.cat_names.specs.Meaning.{meant}
use Rattle.cat_names.specs.Definitions.{definition_meant}
use Rattle.cat_names.proofs.TypeEquations.{views}
use Rattle.cat_names.proofs.Equations.{forms}
use Rattle.cat_names.proofs.Samples.{at, name, local, whole, plain, n, q, s, x, S, T, item_of}

-- `declaration enumeration E: -- A -- B content integer`
abbrev enumerations : List Enumeration
enumerations = record {
  name = 69 ∷ [];
  cases = record { name = 65 ∷ []; content = None }
      ∷ record { name = 66 ∷ []; content = Some flat_ty.Integer } ∷ [];
} ∷ []

-- an input of E, an input list of integers, an input n, a called scope s with an output x, and a function of an integer
abbrev e : ℕ
e = 101

abbrev l : ℕ
l = 108

abbrev f : ℕ
f = 102

abbrev items : List ItemDecl
items = item_of e (at 5 9) kind.Input (flat_ty.Enumeration 0)
    ∷ item_of l (at 6 9) kind.Input (ty.List flat_ty.Integer)
    ∷ item_of n (at 7 9) kind.Input flat_ty.Integer
    ∷ item_of s (at 8 3) (kind.Called 1) flat_ty.Boolean
    ∷ record {
      name = f ∷ [];
      pos = at 9 12;
      kind = kind.Internal;
      ty = flat_ty.Integer;
      condition = false;
      params = flat_ty.Integer ∷ [];
    } ∷ []

abbrev scopes : List Scope
scopes = record { name = S ∷ []; items = items }
    ∷ record { name = T ∷ []; items = item_of x (at 2 10) kind.Output flat_ty.Integer ∷ [] } ∷ []

abbrev p : Pos
p = at 11 23

-- `-- A : k`, `-- B of n : n`, and `-- anything : k`
abbrev on_a : ℕ → SurfaceArm
on_a k = record { pattern = pattern.Case (case.Bare (name 65 p)) None; body = whole k p }

abbrev on_b : SurfaceArm
on_b = record { pattern = pattern.Case (case.Bare (name 66 p)) (Some (name n p)); body = local n p }

abbrev on_anything : ℕ → SurfaceArm
on_anything k = record { pattern = pattern.Anything; body = whole k p }

-- `match e with pattern` and arms
abbrev match : List SurfaceArm → Node
match arms = node.Match (at 11 5) (local e p) arms

-- `[]`
abbrev nothing : Node
nothing = node.List (at 11 9) []

-- `exists q among l such that q > 0`
abbrev some_positive : Node
some_positive = node.Each each.Exists (at 10 25) (name q p) (local l p)
    (node.Binary operator.Greater p (local q p) (whole 0 p))

module _ (sound : IsTrue (are_sound [] enumerations scopes)) where
  abbrev decls : Decls
  decls = record { structures = []; enumerations = enumerations; scopes = scopes; sound = sound }

  abbrev names : Names
  names = record { decls = decls; items = items }

  -- the content's name hides the input n
  an_arm_binds_its_content : meant names (match (on_a 1 ∷ on_b ∷ [])) [] None
      ≡ Ok (typed (at 11 5) (expr.Match (at 11 5) (leaf_expr.Item p 0)
      (record { pattern = arm.Case 0 false; body = leaf_expr.Literal p (value.Integer (pos 1)) }
      ∷ record { pattern = arm.Case 1 true; body = leaf_expr.Local p 0 } ∷ [])) flat_ty.Integer)
  an_arm_binds_its_content = search (rules, forms, views)

  a_case_without_an_arm_is_refused : meant names (match (on_a 1 ∷ [])) [] None ≡ faulty (MatchCases (at 11 5))
  a_case_without_an_arm_is_refused = search (rules, forms, views)

  anything_stands_last : meant names (match (on_anything 1 ∷ on_a 2 ∷ [])) [] None ≡ faulty (MatchCases (at 11 5))
  anything_stands_last = search (rules, forms, views)

  anything_is_for_the_rest : meant names (match (on_a 1 ∷ on_anything 2 ∷ [])) [] None
      ≡ Ok (typed (at 11 5) (expr.Match (at 11 5) (leaf_expr.Item p 0)
      (record { pattern = arm.Case 0 false; body = leaf_expr.Literal p (value.Integer (pos 1)) }
      ∷ record { pattern = arm.Anything; body = leaf_expr.Literal p (value.Integer (pos 2)) } ∷ [])) flat_ty.Integer)
  anything_is_for_the_rest = search (rules, forms, views)

  -- `s.x`, and `(s).x`
  an_output_of_a_called_scope : meant names (node.Field (local s p) (name x p)) [] None
      ≡ Ok (typed p (leaf_expr.Output p 3 0) flat_ty.Integer)
  an_output_of_a_called_scope = search (rules, forms, views, node.the_lemmas)

  a_called_scope_is_no_value : meant names (node.Field (node.Parens (at 11 4) (local s p)) (name x p)) [] None
      ≡ faulty (TypeMismatch p)
  a_called_scope_is_no_value = search (rules, forms, views, node.the_lemmas)

  -- `[]` where no type is expected, and where an integer is
  an_empty_list_alone_has_no_type : meant names nothing [] None ≡ faulty (TypeMismatch (at 11 9))
  an_empty_list_alone_has_no_type = search (rules, forms, views)

  an_empty_list_is_no_integer : meant names nothing [] (Some flat_ty.Integer) ≡ faulty (TypeMismatch (at 11 9))
  an_empty_list_is_no_integer = search (rules, forms, views)

  -- `number of []`
  no_type_is_expected_behind_a_prefix : meant names (node.Prefixed prefix.NumberOf p nothing) [] (Some flat_ty.Integer)
      ≡ faulty (TypeMismatch (at 11 9))
  no_type_is_expected_behind_a_prefix = search (rules, forms, views)

  -- `definition f of n under condition n > 0 consequence equals n` in a block under a condition that binds a name: n is
  -- the parameter, the block's condition stands on the left, and its bound name is numbered behind the parameter
  a_condition_is_joined_on_the_left :
      definition_meant names 0 (Some some_positive) plain (at 11 3)
      (record { name = name f (at 11 14); inner = None; params = name n (at 11 19) ∷ [] })
      (Some (node.Binary operator.Greater p (local n p) (whole 0 p))) (local n p)
      ≡ Ok (record {
        target = record { scope = 0; item = 4; inner = None };
        label = None;
        except = except.No;
        condition = Some (expr.And (at 10 25)
            (expr.Exists (at 10 25) (leaf_expr.Item p 1)
            (expr.Binary p Greater p (leaf_expr.Local p 1) (leaf_expr.Literal p (value.Integer (pos 0)))))
            (expr.Binary p Greater p (leaf_expr.Local p 0) (leaf_expr.Literal p (value.Integer (pos 0)))));
        consequence = leaf_expr.Local p 0;
        params = 1;
        pos = at 11 3;
      })
  a_condition_is_joined_on_the_left = search (rules, forms, views)

  -- the same in a block whose condition names the parameter alone
  a_block_knows_no_parameters :
      definition_meant names 0 (Some (node.Binary operator.Greater p (local q p) (whole 0 p))) plain (at 11 3)
      (record { name = name f (at 11 14); inner = None; params = name q (at 11 19) ∷ [] }) None (local q p)
      ≡ faulty (NameUnknown p)
  a_block_knows_no_parameters = search (rules, forms, views)
