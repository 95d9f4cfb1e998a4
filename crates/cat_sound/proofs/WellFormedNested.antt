-- A scope that calls another inside an expression is well formed.
use Rattle.std.proofs.Common.{◌≡◌, IsTrue, List, [], ◌∷◌, None, Some, refl, rules, inl}
use Rattle.cat_value.specs.declared.ty.Ty.TheVariants as flat
use Rattle.cat_value.specs.declared.ty.Ty.TheViews as ty
use Rattle.cat_value.specs.declared.decls.Decls.{Decls}
use Rattle.cat_value.specs.declared.declaration.ItemDecl.{ItemDecl}
use Rattle.cat_value.specs.declared.declaration.Kind.TheVariants as kind
use Rattle.cat_value.specs.Declarations.{are_sound}
use Rattle.cat_value.specs.Dependencies.{are_ordered}
use Rattle.cat_order.specs.Order.{is_ready}
use Rattle.cat_order.specs.Computed.{order_of}
use Rattle.cat_scope.specs.declared.expr.Expr.{Expr}
use Rattle.cat_scope.specs.declared.expr.Expr.TheViews as expr
use Rattle.cat_scope.specs.declared.operators.BinaryOp.TheVariants.{MultiplyIntegers}
use Rattle.cat_scope.specs.declared.defs.Except.TheVariants as except
use Rattle.cat_scope.specs.declared.defs.Def.{Def}
use Rattle.cat_scope.specs.Names.{Names}
use Rattle.cat_scope.specs.Signatures.{comparison}
use Rattle.cat_scope.specs.HasType.{HasType}
use Rattle.cat_scope.specs.HasType as typed
use Rattle.cat_scope.specs.Orders.{item_dependencies, function_calls, scope_dependencies}
use Rattle.cat_scope.specs.Chains.{is_within}
use Rattle.cat_scope.specs.WellFormed.{IsBodyOf, IsWellFormed}
use Rattle.cat_scope.proofs.Exported.{namings}
use Rattle.cat_scope.proofs.Exported.{placings}
use Rattle.cat_scope.proofs.Samples.{at, variable, item, n_above, n, whole, def, body, body_calling, scope_of}
use Rattle.cat_scope.proofs.Samples.{nested_scopes, nested_bodies}
use Rattle.cat_sound.proofs.WellFormedParts.{integer_is_sound, ordered, short, whole_typed, own, plain_def}

nested_is_sound : IsTrue (are_sound [] [] nested_scopes)
unfolding are_sound are_ordered order_of
nested_is_sound = search (rules, ty.the_lemmas, integer_is_sound)

abbrev decls : Decls
decls = record { structures = []; enumerations = []; scopes = nested_scopes; sound = nested_is_sound }

abbrev a_in : ItemDecl
a_in = item kind.Input (at 3 9)

abbrev b_out : ItemDecl
b_out = item kind.Output (at 4 10)

abbrev t_items : List ItemDecl
t_items = a_in ∷ b_out ∷ []

abbrev n_in_s : ItemDecl
n_in_s = item kind.Input (at 6 9)

abbrev x_out_s : ItemDecl
x_out_s = item kind.Output (at 7 10)

abbrev s_items : List ItemDecl
s_items = n_in_s ∷ x_out_s ∷ []

abbrev t_names : Names
t_names = record { decls = decls; items = t_items }

abbrev s_names : Names
s_names = record { decls = decls; items = s_items }

abbrev twice : Expr
twice = expr.Binary (at 9 57) MultiplyIntegers (at 9 59) n (whole 2)

abbrev call : Expr
call = expr.ScopeCall (at 11 23) 0 (record { field = 0; value = n } ∷ []) 0

abbrev t_defs : List Def
t_defs = def (variable 0 1) None except.No (Some (n_above 0)) twice (at 9 3) ∷ []

abbrev s_defs : List Def
s_defs = def (variable 1 1) None except.No None call (at 11 3) ∷ []

a_typed : HasType t_names [] n flat.Integer
a_typed = typed.item (a_in, refl, refl, refl)

t_body : IsBodyOf decls 0 (scope_of t_items) (body t_defs (0 ∷ 1 ∷ []))
unfolding order_of is_ready is_within
t_body = record {
  placed = (refl, (refl, tt));
  defs = (
    record {
      params = [];
      ty = flat.Integer;
      scope_is = refl;
      target = own t_names 1 b_out refl refl;
      counted = refl;
      condition = typed.binary (comparison flat.Integer) (inl refl) a_typed (whole_typed t_names [] 0 refl);
      consequence =
          typed.binary (record { left = flat.Integer; right = flat.Integer; result = flat.Integer }) (inl refl) a_typed
          (whole_typed t_names [] 2 refl);
    },
    tt,
  );
  assertions = tt;
  source = (refl, refl, refl);
  lists = search (rules, placings);
  conditions = (tt, (tt, tt));
  order =
      ordered (item_dependencies t_items t_defs) ([] ∷ (0 ∷ 0 ∷ []) ∷ []) (0 ∷ 1 ∷ []) (search (rules, namings)) refl;
  calls = search (rules, namings);
  functions = short (function_calls t_items t_defs) ([] ∷ [] ∷ []) (search (rules, namings)) refl;
}

s_body : IsBodyOf decls 1 (scope_of s_items) (body_calling (0 ∷ []) s_defs (0 ∷ 1 ∷ []))
unfolding order_of is_ready is_within
s_body = record {
  placed = (refl, (refl, tt));
  defs = (
    plain_def s_names 1 1 call (at 11 3) x_out_s None except.No (own s_names 1 x_out_s refl refl)
        (typed.scope_call
        (typed.fields_more flat.Integer refl (typed.item (n_in_s, refl, refl, refl)) typed.fields_none) refl
        (b_out, refl, refl)),
    tt,
  );
  assertions = tt;
  source = (refl, refl, refl);
  lists = search (rules, placings);
  conditions = (tt, (tt, tt));
  order = ordered (item_dependencies s_items s_defs) ([] ∷ (0 ∷ []) ∷ []) (0 ∷ 1 ∷ []) (search (rules, namings)) refl;
  calls = search (rules, namings);
  functions = short (function_calls s_items s_defs) ([] ∷ [] ∷ []) (search (rules, namings)) refl;
}

depend : scope_dependencies nested_scopes nested_bodies ≡ [] ∷ (0 ∷ []) ∷ []
depend = search (rules, namings)

well_formed : IsWellFormed decls nested_bodies (0 ∷ 1 ∷ [])
unfolding order_of is_ready is_within
well_formed = record {
  counted = refl;
  bodies_are = (t_body, (s_body, tt));
  order = ordered (scope_dependencies nested_scopes nested_bodies) ([] ∷ (0 ∷ []) ∷ []) (0 ∷ 1 ∷ []) depend refl;
  chains = short (scope_dependencies nested_scopes nested_bodies) ([] ∷ (0 ∷ []) ∷ []) depend refl;
}
