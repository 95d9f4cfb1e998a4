-- Parts of the reasons why a program is well formed.
use Rattle.std.proofs.Common.{◌≡◌, ℕ, pos, true, IsTrue, List, [], length, Option, None, Some, slice_get, refl, sym}
use Rattle.std.proofs.Common.{subst, rules}
use Rattle.cat_pos.specs.declared.pos.Pos.{Pos}
use Rattle.cat_value.specs.declared.ty.Ty.{Ty}
use Rattle.cat_value.specs.declared.ty.Ty.TheVariants as flat
use Rattle.cat_value.specs.declared.ty.Ty.TheViews as ty
use Rattle.cat_value.specs.declared.declaration.ItemDecl.{ItemDecl}
use Rattle.cat_value.specs.Heights.{height_to}
use Rattle.cat_value.specs.Declarations.{is_sound}
use Rattle.cat_value.proofs.Exported.{declared}
use Rattle.cat_order.specs.Order.{IsOrder}
use Rattle.cat_order.specs.Computed.{order_of}
use Rattle.cat_order.proofs.Exported.{order_of-iff_IsOrder}
use Rattle.cat_scope.specs.declared.expr.Expr.{Expr}
use Rattle.cat_scope.specs.declared.defs.Label.{Label}
use Rattle.cat_scope.specs.declared.defs.Except.{Except}
use Rattle.cat_scope.specs.Names.{Names}
use Rattle.cat_num.specs.Whole.{fits}
use Rattle.cat_scope.specs.HasType.{HasType}
use Rattle.cat_scope.specs.HasType as typed
use Rattle.cat_scope.specs.Chains.{HasShortChains, are_within}
use Rattle.cat_scope.specs.WellFormed.{DefTyped}
use Rattle.cat_scope.specs.Naming.{IsTargetAt, is_defined}
use Rattle.cat_sound.proofs.ForestLaws.{short_chains}
use Rattle.cat_scope.proofs.Samples.{variable, item, whole, def}

pub integer_is_sound : is_sound [] [] flat.Integer ≡ true
unfolding height_to
integer_is_sound = search (rules, ty.the_lemmas, declared)

pub boolean_is_sound : is_sound [] [] flat.Boolean ≡ true
unfolding height_to
boolean_is_sound = search (rules, ty.the_lemmas, declared)

-- an order that is computed, of dependencies that come to these
pub ordered : (deps closed : List (List ℕ)) (order : List ℕ) → deps ≡ closed → order_of closed ≡ Some order
    → IsOrder deps order
ordered deps closed order is computed =
    subst (λ d. IsOrder d order) (sym is) ((order_of-iff_IsOrder closed order).0 computed)

pub short : (deps closed : List (List ℕ)) → deps ≡ closed → are_within closed 256 (length closed) ≡ true
    → HasShortChains deps
short deps closed is within = subst (λ d. HasShortChains d) (sym is) (short_chains closed 255 within)

-- the integers of the samples
pub whole_typed : (names : Names) (locals : List Ty) (k : ℕ) → IsTrue (fits (pos k))
    → HasType names locals (whole k) flat.Integer
whole_typed names locals k fits = typed.literal fits

-- a variable of the scope is a target
pub own : (names : Names) (item : ℕ) (i : ItemDecl) → slice_get names.items item ≡ Some i → IsTrue (is_defined i)
    → IsTargetAt names item None i.params i.ty
own names item i is defined = record { decl = i; decl_is = is; defined = defined; params_are = refl; ty_is = refl }

-- a definition without a condition, of a variable of its scope
pub plain_def : (names : Names) (scope item : ℕ) (e : Expr) (p : Pos) (i : ItemDecl) (label : Option Label)
    (ex : Except) → IsTargetAt names item None [] i.ty → HasType names [] e i.ty
    → DefTyped names scope (def (variable scope item) label ex None e p)
plain_def names scope item e p i label ex target typed = record {
  params = [];
  ty = i.ty;
  scope_is = refl;
  target = target;
  counted = refl;
  condition = tt;
  consequence = typed;
}
