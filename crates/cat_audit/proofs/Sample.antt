-- A program with a plain scope, written out: x is 1 where the input n is true, and 2 where it isn't.
use Rattle.std.proofs.Common.{◌≡◌, ℕ, zero, suc, pos, IsTrue, List, [], ◌∷◌, None, Some, refl, sym, subst}
use Rattle.std.proofs.Common.{rules, true≢false, arith}
use Rattle.cat_num.specs.Whole.{fits}
use Rattle.cat_order.specs.Computed.{order_of}
use Rattle.cat_order.specs.Order.{IsOrder, dependencies_of, is_listed, is_ready}
use Rattle.cat_order.proofs.Exported.{order_of-iff_IsOrder}
use Rattle.cat_value.specs.declared.decls.Decls.{Decls}
use Rattle.cat_value.specs.declared.declaration.ItemDecl.{ItemDecl}
use Rattle.cat_value.specs.declared.declaration.Scope.{Scope}
use Rattle.cat_value.specs.declared.ty.Ty.TheVariants as flat
use Rattle.cat_value.specs.declared.ty.Ty.TheViews as ty
use Rattle.cat_value.specs.Declarations.{are_sound}
use Rattle.cat_value.specs.Dependencies.{are_ordered}
use Rattle.cat_scope.specs.declared.defs.Body.{Body}
use Rattle.cat_scope.specs.declared.defs.Except.TheVariants as except
use Rattle.cat_scope.specs.declared.programs.Program.{Program}
use Rattle.cat_scope.specs.declared.defs.Def.{Def}
use Rattle.cat_scope.specs.declared.expr.Expr.{Expr}
use Rattle.cat_scope.specs.declared.expr.Expr.TheViews as expr
use Rattle.cat_scope.specs.declared.operators.UnaryOp.TheVariants.{Not}
use Rattle.cat_value.specs.declared.declaration.Kind.TheVariants as kind
use Rattle.cat_scope.specs.Chains.{HasShortChains}
use Rattle.cat_scope.specs.HasType.{HasType}
use Rattle.cat_scope.specs.HasType as typed
use Rattle.cat_scope.specs.Names.{Names}
use Rattle.cat_scope.specs.Naming.{IsTargetAt}
use Rattle.cat_scope.specs.Orders.{function_calls, item_dependencies, scope_dependencies}
use Rattle.cat_scope.specs.WellFormed.{DefTyped, IsBodyOf, IsWellFormed}
use Rattle.cat_scope.proofs.Exported.{namings, placings}
use Rattle.cat_sound.proofs.Exported.{boolean_is_sound, integer_is_sound}
use Rattle.cat_scope.proofs.Samples.{at, body, def, n, scope_of, truth_item, whole, x, x_out}

-- `input n content boolean`
abbrev pub n_in : ItemDecl
n_in = truth_item kind.Input (at 3 9)

abbrev pub items : List ItemDecl
items = n_in ∷ x_out ∷ []

abbrev pub scopes : List Scope
scopes = scope_of items ∷ []

-- `not n`
abbrev pub not_n : Expr
not_n = expr.Unary (at 0 0) Not n

abbrev pub one : Def
one = def x None except.No (Some n) (whole 1) (at 6 3)

abbrev pub two : Def
two = def x None except.No (Some not_n) (whole 2) (at 7 3)

abbrev pub defs : List Def
defs = one ∷ two ∷ []

abbrev pub the_body : Body
the_body = body defs (0 ∷ 1 ∷ [])

pub all_sound : IsTrue (are_sound [] [] scopes)
unfolding are_sound are_ordered order_of
all_sound = search (rules, ty.the_lemmas, boolean_is_sound, integer_is_sound)

abbrev pub decls : Decls
decls = record { structures = []; enumerations = []; scopes = scopes; sound = all_sound }

abbrev names : Names
names = record { decls = decls; items = items }

-- ---- types

whole_typed : (k : ℕ) → IsTrue (fits (pos k)) → HasType names [] (whole k) flat.Integer
whole_typed k fits = typed.literal fits

n_typed : HasType names [] n flat.Boolean
n_typed = typed.item (n_in, refl, refl, refl)

target_is : IsTargetAt names 1 None [] flat.Integer
target_is = record { decl = x_out; decl_is = refl; defined = refl; params_are = refl; ty_is = refl }

one_typed : DefTyped names 0 one
one_typed = record {
  params = [];
  ty = flat.Integer;
  scope_is = refl;
  target = target_is;
  counted = refl;
  condition = n_typed;
  consequence = whole_typed 1 refl;
}

two_typed : DefTyped names 0 two
two_typed = record {
  params = [];
  ty = flat.Integer;
  scope_is = refl;
  target = target_is;
  counted = refl;
  condition = typed.unary n_typed;
  consequence = whole_typed 2 refl;
}

-- ---- orders

ordered : (deps closed : List (List ℕ)) (order : List ℕ) → deps ≡ closed → order_of closed ≡ Some order
    → IsOrder deps order
ordered deps closed order is computed =
    subst (λ d. IsOrder d order) (sym is) ((order_of-iff_IsOrder closed order).0 computed)

-- what leads to nothing has no chain of two
nothing_on : (deps : List (List ℕ)) → ((n : ℕ) → dependencies_of deps n ≡ []) → HasShortChains deps
nothing_on deps none [] chain = omega arith
nothing_on deps none (n ∷ []) chain = omega arith
nothing_on deps none (n ∷ m ∷ ns) chain =
    let on : IsTrue (is_listed [] m) = subst (λ (ks : List ℕ). IsTrue (is_listed ks m)) (none n) chain.0 in
    absurd (true≢false (sym on))

one_none : (n : ℕ) → dependencies_of ([] ∷ []) n ≡ []
one_none zero = refl
one_none (suc n) = refl

two_none : (n : ℕ) → dependencies_of ([] ∷ [] ∷ []) n ≡ []
two_none zero = refl
two_none (suc n) = one_none n

short : (deps closed : List (List ℕ)) → deps ≡ closed → ((n : ℕ) → dependencies_of closed n ≡ [])
    → HasShortChains deps
short deps closed is none = subst (λ d. HasShortChains d) (sym is) (nothing_on closed none)

-- ---- the program

body_is : IsBodyOf decls 0 (scope_of items) the_body
unfolding order_of is_ready
body_is = record {
  placed = (refl, (refl, tt));
  defs = (one_typed, (two_typed, tt));
  assertions = tt;
  source = (refl, refl, refl);
  lists = search (rules, placings);
  conditions = (tt, (tt, (tt, tt)));
  order = ordered (item_dependencies items defs) ([] ∷ (0 ∷ 0 ∷ []) ∷ []) (0 ∷ 1 ∷ []) (search (rules, namings)) refl;
  calls = search (rules, namings);
  functions = short (function_calls items defs) ([] ∷ [] ∷ []) (search (rules, namings)) two_none;
}

depend : scope_dependencies scopes (the_body ∷ []) ≡ [] ∷ []
depend = search (rules, namings)

pub well_formed : IsWellFormed decls (the_body ∷ []) (0 ∷ [])
unfolding order_of is_ready
well_formed = record {
  counted = refl;
  bodies_are = (body_is, tt);
  order = ordered (scope_dependencies scopes (the_body ∷ [])) ([] ∷ []) (0 ∷ []) depend refl;
  chains = short (scope_dependencies scopes (the_body ∷ [])) ([] ∷ []) depend one_none;
}

-- such a program there is
abbrev pub program : Program
program = record { decls = decls; bodies = the_body ∷ []; scope_order = 0 ∷ []; well_formed = ∣ well_formed ∣₁ }
