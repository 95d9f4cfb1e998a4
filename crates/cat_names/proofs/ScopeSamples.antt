-- Worked examples of scope calls: fields that name nothing or lack, and a scope that calls itself.
use Rattle.std.specs.Prelude.{map}
use Rattle.cat_names.specs.Accepted.{unordered}
use Rattle.std.proofs.Common.{◌≡◌, ℕ, pos, IsTrue, List, [], ◌∷◌, Option, Some, None, Ok, refl, rules, inl, inr}
use Rattle.cat_pos.specs.declared.pos.Pos.{Pos}
use Rattle.cat_date.specs.declared.rounding.Rounding.TheVariants.{Refuse}
use Rattle.cat_value.specs.declared.ty.Ty.TheVariants as flat_ty
use Rattle.cat_value.specs.declared.declaration.Kind.TheVariants as kind
use Rattle.cat_value.specs.declared.declaration.Scope.{Scope}
use Rattle.cat_value.specs.declared.decls.Decls.{Decls}
use Rattle.cat_value.specs.Declarations.{are_sound}
use Rattle.cat_tree.specs.declared.name.Base.TheVariants as base
use Rattle.cat_tree.specs.declared.expression.Operator.TheVariants as operator
use Rattle.cat_tree.specs.declared.expression.SurfaceField.{SurfaceField}
use Rattle.cat_tree.specs.declared.expression.Node.TheViews as node
use Rattle.cat_tree.specs.declared.program.VariableKind.TheVariants as written
use Rattle.cat_tree.specs.declared.program.Use.{Use}
use Rattle.cat_tree.specs.declared.program.Use.TheVariants as uses
use Rattle.cat_tree.specs.declared.program.Item.TheVariants as item
use Rattle.cat_tree.specs.declared.program.Tree.{Tree}
use Rattle.cat_scope.specs.declared.operators.BinaryOp.TheVariants.{Greater, MultiplyIntegers}
use Rattle.cat_scope.specs.declared.expr.Literal.TheVariants as value
use Rattle.cat_scope.specs.declared.expr.Expr.{Expr}
use Rattle.cat_scope.specs.declared.expr.Expr.TheVariants as leaf
use Rattle.cat_scope.specs.declared.expr.Expr.TheViews as expr
use Rattle.cat_scope.specs.declared.defs.Except.TheVariants as except
use Rattle.cat_scope.specs.declared.defs.Def.{Def}
use Rattle.cat_scope.specs.declared.defs.SourcePart.TheVariants as part
use Rattle.cat_scope.specs.declared.defs.Body.{Body}
use Rattle.cat_scope.proofs.Exported.{namings}
use Rattle.cat_names.specs.declared.fault.Fault.TheVariants.{NameUnknown, TypeMismatch, ScopeCycle}
use Rattle.cat_names.specs.Found.{faulty}
use Rattle.cat_names.specs.Bodies.{bodies_meant}
use Rattle.cat_names.specs.Cycles.{IsScopeCycle}
use Rattle.cat_names.proofs.TypeEquations.{views}
use Rattle.cat_names.proofs.Equations.{forms}
use Rattle.cat_names.proofs.WordEquations.{words_ScopeCall}
use Rattle.cat_names.proofs.Samples.{at, name, a, b, n, q, x, S, T, own, local, whole, plain, target, definition, block}
use Rattle.cat_names.proofs.Samples.{item_of}

-- T with input a and output b, S with input n and output x, and a line for each
abbrev calling : Use → Use → Tree
calling in_t in_s = record {
  items =
      item.Scope (at 2 1) (name T (at 2 19))
      (own written.Input (at 3 3) (name a (at 3 9)) base.Integer (at 3 19)
      ∷ own written.Output (at 4 3) (name b (at 4 10)) base.Integer (at 4 20) ∷ [])
      ∷ item.Scope (at 5 1) (name S (at 5 19))
      (own written.Input (at 6 3) (name n (at 6 9)) base.Integer (at 6 19)
      ∷ own written.Output (at 7 3) (name x (at 7 10)) base.Integer (at 7 20) ∷ [])
      ∷ block (at 8 1) (name T (at 8 7)) (in_t ∷ [])
      ∷ block (at 10 1) (name S (at 10 7)) (in_s ∷ []) ∷ [];
}

abbrev scopes : List Scope
scopes = record {
  name = T ∷ [];
  items = item_of a (at 3 9) kind.Input flat_ty.Integer
      ∷ item_of b (at 4 10) kind.Output flat_ty.Integer ∷ [];
}
    ∷ record {
      name = S ∷ [];
      items = item_of n (at 6 9) kind.Input flat_ty.Integer
          ∷ item_of x (at 7 10) kind.Output flat_ty.Integer ∷ [];
    } ∷ []

-- `definition b under condition a > 0 consequence equals a * 2`
abbrev b_above_zero : Use
b_above_zero = uses.Definition plain (at 9 3) (target (name b (at 9 14)))
    (Some (node.Binary operator.Greater (at 9 34) (local a (at 9 32)) (whole 0 (at 9 36))))
    (node.Binary operator.Times (at 9 59) (local a (at 9 57)) (whole 2 (at 9 61)))

-- `definition x equals output of T with { fields } . b`
abbrev x_calls_t : List SurfaceField → Pos → Use
x_calls_t fields output = definition (at 11 3) (name x (at 11 14))
    (node.ScopeCall (at 11 23) (name T (at 11 33)) fields (name b output))

abbrev a_is_n : SurfaceField
a_is_n = record { name = name a (at 11 45); value = local n (at 11 49) }

abbrev q_is_n : SurfaceField
q_is_n = record { name = name q (at 11 54); value = local n (at 11 58) }

-- `definition b equals output of T with { -- a : a } . b`
abbrev b_calls_t : Use
b_calls_t = definition (at 9 3) (name b (at 9 14)) (node.ScopeCall (at 9 23) (name T (at 9 33))
    (record { name = name a (at 9 45); value = local a (at 9 49) } ∷ []) (name b (at 9 55)))

abbrev number : ℕ → Pos → Expr
number k p = leaf.Literal p (value.Integer (pos k))

abbrev def : ℕ → ℕ → Pos → Option Expr → Expr → Def
def scope i p c e =
    record {
      target = record { scope = scope; item = i; inner = None };
      label = None;
      except = except.No;
      condition = c;
      consequence = e;
      params = 0;
      pos = p;
    }

abbrev body : List Def → List ℕ → Body
body defs calls = record {
  defs = defs;
  assertions = [];
  source = part.Declaration ∷ part.Definition ∷ [];
  rounding = Refuse;
  order = [];
  calls = calls;
}

module _ (sound : IsTrue (are_sound [] [] scopes)) where
  abbrev decls : Decls
  decls = record { structures = []; enumerations = []; scopes = scopes; sound = sound }

  a_scope_call_is_found : bodies_meant decls (calling b_above_zero (x_calls_t (a_is_n ∷ []) (at 11 55)))
      ≡ Ok (map unordered (body (def 0 1 (at 9 3)
      (Some (expr.Binary (at 9 32) Greater (at 9 34) (leaf.Item (at 9 32) 0) (number 0 (at 9 36))))
      (expr.Binary (at 9 57) MultiplyIntegers (at 9 59) (leaf.Item (at 9 57) 0) (number 2 (at 9 61))) ∷ []) []
      ∷ body (def 1 1 (at 11 3) None
      (expr.ScopeCall (at 11 23) 0 (record { field = 0; value = leaf.Item (at 11 49) 0 } ∷ []) 0) ∷ []) (0 ∷ []) ∷ []))
  a_scope_call_is_found = search (rules, forms, views, namings)

  a_field_that_is_no_input_is_unknown :
      bodies_meant decls (calling b_above_zero (x_calls_t (a_is_n ∷ q_is_n ∷ []) (at 11 64)))
      ≡ faulty (NameUnknown (at 11 54))
  a_field_that_is_no_input_is_unknown = search (rules, forms, views, namings)

  a_field_that_lacks_is_a_mismatch : bodies_meant decls (calling b_above_zero (x_calls_t [] (at 11 44)))
      ≡ faulty (TypeMismatch (at 11 33))
  a_field_that_lacks_is_a_mismatch = search (rules, forms, views, namings)

  -- T calls itself, and S calls T
  abbrev self_calling : List Body
  self_calling = body (def 0 1 (at 9 3) None
      (expr.ScopeCall (at 9 23) 0 (record { field = 0; value = leaf.Item (at 9 49) 0 } ∷ []) 0) ∷ []) (0 ∷ [])
      ∷ body (def 1 1 (at 11 3) None
      (expr.ScopeCall (at 11 23) 0 (record { field = 0; value = leaf.Item (at 11 49) 0 } ∷ []) 0) ∷ []) (0 ∷ []) ∷ []

  a_scope_may_call_itself_before_orders :
      bodies_meant decls (calling b_calls_t (x_calls_t (a_is_n ∷ []) (at 11 55))) ≡ Ok (map unordered self_calling)
  a_scope_may_call_itself_before_orders = search (rules, forms, views, namings)

  a_scope_call_on_a_cycle_is_refused :
      IsScopeCycle (calling b_calls_t (x_calls_t (a_is_n ∷ []) (at 11 55))) decls self_calling (ScopeCycle (at 9 33))
  a_scope_call_on_a_cycle_is_refused = inr (record {
    caller = 0;
    called = (
      0,
      record {
        name = T ∷ [];
        items = item_of a (at 3 9) kind.Input flat_ty.Integer
            ∷ item_of b (at 4 10) kind.Output flat_ty.Integer ∷ [];
      },
    );
    word = name T (at 9 33);
    word_is = rw (words_ScopeCall _ _ _ _) (inl refl);
    called_is = refl;
    on_cycle = (search (rules, namings), inl refl);
    fault_is = refl;
  })
