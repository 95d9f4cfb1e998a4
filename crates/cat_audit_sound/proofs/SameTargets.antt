-- Targets that may be empty, and functions, are the same by both definitions.
use Rattle.std.proofs.Common.{◌≡◌, ℕ, false, not}
use Rattle.std.proofs.Common.{List, [], Option, Some, None, slice_get, refl, sym, ap, ◌∙◌}
use Rattle.cat_value.specs.declared.ty.Ty.{Ty}
use Rattle.cat_value.specs.declared.decls.Decls.{Decls}
use Rattle.cat_value.specs.declared.declaration.Kind.{Kind}
use Rattle.cat_value.specs.declared.declaration.Kind.TheVariants as kind
use Rattle.cat_value.specs.declared.declaration.ItemDecl.{ItemDecl}
use Rattle.cat_scope.specs.Names.{Names, has_none}
use Rattle.cat_scope.specs.Naming.{IsTargetAt}
use Rattle.cat_sound.specs.Settled.{empty_variable, empty_input, items_of_kind, items_called}
use Rattle.cat_sound.specs.Settled.{may_be_empty as settled_empty}
use Rattle.cat_guard.specs.Tables.{inner_items, inner_item, is_condition, condition_or_context, may_be_empty}
use Rattle.cat_guard.specs.Tables.{is_function}

kind_items : (ds : Decls) (k : Kind) → inner_items ds k ≡ items_of_kind ds k
kind_items ds (kind.Called scope) = refl
kind_items ds _ = refl

pub same_empty : (ns : Names) (item : ℕ) (inner : Option ℕ)
    → may_be_empty ns.decls (slice_get ns.items item) inner ≡ settled_empty ns item inner
same_empty ns item None = by (slice_get ns.items item)
  where
    by : (o : Option ItemDecl) → is_condition o ≡ empty_variable o
    by None = refl
    by (Some decl) = refl
same_empty ns item (Some n) = by (slice_get ns.items item)
  where
    inside : (o : Option ItemDecl) → condition_or_context o ≡ empty_input o
    inside None = refl
    inside (Some decl) = refl

    by : (o : Option ItemDecl)
        → condition_or_context (inner_item ns.decls o n) ≡ empty_input (slice_get (items_called ns.decls o) n)
    by None = refl
    by (Some decl) =
        ap (λ items. condition_or_context (slice_get items n)) (kind_items ns.decls decl.kind)
        ∙ inside (slice_get (items_of_kind ns.decls decl.kind) n)

-- a target with parameters is a function
pub no_function : (ns : Names) (item : ℕ) (inner : Option ℕ) (ps : List Ty) (t : Ty) → IsTargetAt ns item inner ps t
    → ps ≡ [] → is_function (slice_get ns.items item) inner ≡ false
no_function ns item None ps t h none =
    ap (λ o. is_function o None) h.decl_is ∙ ap (λ ts. not (has_none ts)) (sym h.params_are ∙ none)
no_function ns item (Some n) ps t h none = by (slice_get ns.items item)
  where
    by : (o : Option ItemDecl) → is_function o (Some n) ≡ false
    by None = refl
    by (Some decl) = refl
