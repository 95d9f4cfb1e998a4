-- Which numbers of an expression are wanted.
use Rattle.std.specs.Prelude.{ℕ, Bool, true, List, [], ◌∷◌, ◌+◌, ◌++◌, Option, None, Some, if◌then◌else◌}
use Rattle.cat_value.specs.declared.declaration.ItemDecl.{ItemDecl}
use Rattle.cat_scope.specs.declared.expr.Expr.{Expr}
use Rattle.cat_scope.specs.declared.expr.Arm.{Arm}
use Rattle.cat_scope.specs.declared.expr.FieldValue.{FieldValue}
use Rattle.cat_scope.specs.declared.expr.Expr.TheOpen.{Expr-F}
use Rattle.cat_scope.specs.declared.defs.Def.{Def}
use Rattle.cat_scope.specs.Names.{is_function}
use Rattle.cat_scope.specs.Mentions.{named_by, own_item, own_function, own_scope}
use Rattle.cat_scope.specs.Orders.{in_defs_of}
use Rattle.cat_depend.specs.declared.naming.Wanted.{Wanted}
use Rattle.cat_depend.specs.declared.naming.Wanted.TheVariants.{Items, Functions, Scopes}

-- what an expression has itself of these
abbrev pub own_of : Wanted → Expr-F (List ℕ) (List ℕ) (List ℕ) → List ℕ
own_of Items = own_item
own_of Functions = own_function
own_of Scopes = own_scope

-- what an expression and its parts have of these
abbrev pub named : Wanted → Expr → List ℕ
named w = named_by (own_of w)

-- the number of an item that is no function, where it is wanted
abbrev pub item_in : Wanted → ℕ → List ℕ
item_in Items n = n ∷ []
item_in _ n = []

-- that of a function
abbrev pub function_in : Wanted → ℕ → List ℕ
function_in Scopes n = []
function_in _ n = n ∷ []

-- that of a scope
abbrev pub scope_in : Wanted → ℕ → List ℕ
scope_in Scopes n = n ∷ []
scope_in _ n = []

-- those of some expressions
abbrev pub in_each : Wanted → List Expr → List ℕ
in_each w [] = []
in_each w (e ∷ es) = named w e ++ in_each w es

-- those of some fields
abbrev pub in_fields : Wanted → List FieldValue → List ℕ
in_fields w [] = []
in_fields w (f ∷ fs) = named w f.value ++ in_fields w fs

-- those of some arms
abbrev pub in_arms : Wanted → List Arm → List ℕ
in_arms w [] = []
in_arms w (a ∷ arms) = named w a.body ++ in_arms w arms

-- those of a content, where there is one
abbrev pub in_content : Wanted → Option Expr → List ℕ
in_content w None = []
in_content w (Some e) = named w e

-- whether what the definitions of an item name is wanted
abbrev pub wants : Wanted → ItemDecl → Bool
wants Functions item = is_function item
wants _ item = true

-- for each item from number n on, what its definitions name of these
abbrev pub lists_from : Wanted → List Def → ℕ → List ItemDecl → List (List ℕ)
lists_from w defs n [] = []
lists_from w defs n (item ∷ items) =
    (if wants w item then in_defs_of (named w) n defs else []) ∷ lists_from w defs (n + 1) items
