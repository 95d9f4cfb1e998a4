-- A scope that calls another by a declared item is well formed.
use Rattle.std.proofs.Common.{◌≡◌, IsTrue, List, [], ◌∷◌, None, Some, refl, rules, inl}
use Rattle.cat_value.specs.declared.ty.Ty.TheVariants as flat
use Rattle.cat_value.specs.declared.ty.Ty.TheViews as ty
use Rattle.cat_value.specs.declared.decls.Decls.{Decls}
use Rattle.cat_value.specs.declared.declaration.ItemDecl.{ItemDecl}
use Rattle.cat_value.specs.declared.declaration.Kind.TheVariants as kind
use Rattle.cat_value.specs.Declarations.{are_sound}
use Rattle.cat_value.specs.Dependencies.{are_ordered}
use Rattle.cat_order.specs.Order.{is_ready}
use Rattle.cat_order.specs.Computed.{order_of}
use Rattle.cat_scope.specs.declared.expr.Expr.TheVariants as leaf
use Rattle.cat_scope.specs.declared.defs.Except.TheVariants as except
use Rattle.cat_scope.specs.declared.defs.Def.{Def}
use Rattle.cat_scope.specs.declared.programs.Program.{Program}
use Rattle.cat_scope.specs.Names.{Names}
use Rattle.cat_scope.specs.Signatures.{comparison}
use Rattle.cat_scope.specs.HasType.{HasType}
use Rattle.cat_scope.specs.HasType as typed
use Rattle.cat_scope.specs.Orders.{item_dependencies, function_calls, scope_dependencies}
use Rattle.cat_scope.specs.Chains.{is_within}
use Rattle.cat_scope.specs.WellFormed.{IsBodyOf, IsWellFormed}
use Rattle.cat_scope.specs.Naming.{IsCalledOutput, IsTargetAt}
use Rattle.cat_scope.proofs.Exported.{namings}
use Rattle.cat_scope.proofs.Exported.{placings}
use Rattle.cat_scope.proofs.Samples.{at, variable, item, truth_item, n_in, n_above, n, whole, def, body, body_calling}
use Rattle.cat_scope.proofs.Samples.{scope_of, calling_scopes, calling_bodies}
use Rattle.cat_sound.proofs.WellFormedParts.{integer_is_sound, boolean_is_sound, ordered, short, whole_typed, own}
use Rattle.cat_sound.proofs.WellFormedParts.{plain_def}

-- T and S, of which S calls T
pub calling_is_sound : IsTrue (are_sound [] [] calling_scopes)
unfolding are_sound are_ordered order_of
calling_is_sound = search (rules, ty.the_lemmas, integer_is_sound, boolean_is_sound)

abbrev pub decls : Decls
decls = record { structures = []; enumerations = []; scopes = calling_scopes; sound = calling_is_sound }

abbrev pub x_in_t : ItemDecl
x_in_t = item kind.ContextOutput (at 4 18)

abbrev pub t_items : List ItemDecl
t_items = x_in_t ∷ []

abbrev called : ItemDecl
called = truth_item (kind.Called 0) (at 7 3)

abbrev pub y : ItemDecl
y = item kind.Output (at 8 10)

abbrev pub s_items : List ItemDecl
s_items = n_in ∷ called ∷ y ∷ []

abbrev t_names : Names
t_names = record { decls = decls; items = t_items }

abbrev pub s_names : Names
s_names = record { decls = decls; items = s_items }

abbrev pub t_defs : List Def
t_defs = def (variable 0 0) None except.No None (whole 7) (at 10 3) ∷ []

abbrev pub s_defs : List Def
s_defs = def (record { scope = 1; item = 1; inner = Some 0 }) None except.No (Some (n_above 0)) n (at 12 3)
    ∷ def (variable 1 2) None except.No None (leaf.Output (at 13 23) 1 0) (at 13 3) ∷ []

n_typed : HasType s_names [] n flat.Integer
n_typed = typed.item (n_in, refl, refl, refl)

pub n_above_zero_typed : HasType s_names [] (n_above 0) flat.Boolean
n_above_zero_typed = typed.binary (comparison flat.Integer) (inl refl) n_typed (whole_typed s_names [] 0 refl)

-- x of T is given by S, and is read there
pub x_of_t : IsTargetAt s_names 1 (Some 0) [] flat.Integer
x_of_t = record {
  called = called;
  scope = 0;
  decl = x_in_t;
  called_is = refl;
  kind_is = refl;
  decl_is = refl;
  given = refl;
  params_are = refl;
  ty_is = refl;
}

x_read : IsCalledOutput s_names 1 0 flat.Integer
x_read = record {
  called = called;
  scope = 0;
  output = x_in_t;
  called_is = refl;
  kind_is = refl;
  output_is = refl;
  ty_is = refl;
}

t_body : IsBodyOf decls 0 (scope_of t_items) (body t_defs (0 ∷ []))
unfolding order_of is_ready is_within
t_body = record {
  placed = (refl, tt);
  defs = (
    plain_def t_names 0 0 (whole 7) (at 10 3) x_in_t None except.No (own t_names 0 x_in_t refl refl)
        (whole_typed t_names [] 7 refl),
    tt,
  );
  assertions = tt;
  source = (refl, refl, refl);
  lists = search (rules, placings);
  conditions = (tt, (tt, tt));
  order = ordered (item_dependencies t_items t_defs) ([] ∷ []) (0 ∷ []) (search (rules, namings)) refl;
  calls = search (rules, namings);
  functions = short (function_calls t_items t_defs) ([] ∷ []) (search (rules, namings)) refl;
}

s_body : IsBodyOf decls 1 (scope_of s_items) (body_calling (0 ∷ []) s_defs (0 ∷ 1 ∷ 2 ∷ []))
unfolding order_of is_ready is_within
s_body = record {
  placed = (refl, (refl, (refl, tt)));
  defs = (
    record {
      params = [];
      ty = flat.Integer;
      scope_is = refl;
      target = x_of_t;
      counted = refl;
      condition = n_above_zero_typed;
      consequence = n_typed;
    },
    (
      plain_def s_names 1 2 (leaf.Output (at 13 23) 1 0) (at 13 3) y None except.No (own s_names 2 y refl refl)
          (typed.output x_read),
      tt,
    ),
  );
  assertions = tt;
  source = (refl, refl, refl);
  lists = search (rules, placings);
  conditions = (tt, (tt, (tt, tt)));
  order =
      ordered (item_dependencies s_items s_defs) ([] ∷ (0 ∷ 0 ∷ []) ∷ (1 ∷ []) ∷ []) (0 ∷ 1 ∷ 2 ∷ [])
      (search (rules, namings)) refl;
  calls = search (rules, namings);
  functions = short (function_calls s_items s_defs) ([] ∷ [] ∷ [] ∷ []) (search (rules, namings)) refl;
}

pub depend : scope_dependencies calling_scopes calling_bodies ≡ [] ∷ (0 ∷ []) ∷ []
depend = search (rules, namings)

pub well_formed : IsWellFormed decls calling_bodies (0 ∷ 1 ∷ [])
unfolding order_of is_ready is_within
well_formed = record {
  counted = refl;
  bodies_are = (t_body, (s_body, tt));
  order = ordered (scope_dependencies calling_scopes calling_bodies) ([] ∷ (0 ∷ []) ∷ []) (0 ∷ 1 ∷ []) depend refl;
  chains = short (scope_dependencies calling_scopes calling_bodies) ([] ∷ (0 ∷ []) ∷ []) depend refl;
}

-- such a program there is
abbrev pub program : Program
program = record { decls = decls; bodies = calling_bodies; scope_order = 0 ∷ 1 ∷ []; well_formed = ∣ well_formed ∣₁ }
