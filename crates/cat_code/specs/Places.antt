-- What the numbers of functions, targets and cases name.
use Rattle.std.specs.Prelude.{ℕ, ◌+◌, List, [], ◌∷◌, ◌++◌, Option, Some, None, slice_get, if◌then◌else◌}
use Rattle.cat_value.specs.declared.declaration.ItemDecl.{ItemDecl}
use Rattle.cat_value.specs.declared.declaration.Scope.{Scope}
use Rattle.cat_value.specs.declared.declaration.Kind.{Kind}
use Rattle.cat_value.specs.declared.declaration.Kind.TheVariants as kind
use Rattle.cat_value.specs.declared.declaration.Case.{Case}
use Rattle.cat_value.specs.declared.declaration.Enumeration.{Enumeration}
use Rattle.cat_value.specs.declared.decls.Decls.{Decls}
use Rattle.cat_value.specs.declared.outcome.Target.{Target}
use Rattle.cat_scope.specs.Names.{is_function, scope_items}
use Rattle.cat_code.specs.declared.code.CasePlace.{CasePlace}
use Rattle.cat_code.specs.Forms.{Form, Truth, form_of}

-- the cases of an enumeration, from number k on
abbrev pub places_in : ℕ → ℕ → List Case → List CasePlace
places_in n k [] = []
places_in n k (c ∷ cs) = record { enumeration = n; case = k } ∷ places_in n (k + 1) cs

-- the cases of enumerations from number n on, as a listing has them
abbrev pub case_places : ℕ → List Enumeration → List CasePlace
case_places n [] = []
case_places n (e ∷ es) = places_in n 0 e.cases ++ case_places (n + 1) es

-- a function: its scope, and its item there
pub record FunctionPlace : Type 0 where
  pub scope : ℕ
  pub item : ℕ
  pub decl : ItemDecl

-- the functions among the items of a scope, from item k on
abbrev pub functions_in : ℕ → ℕ → List ItemDecl → List FunctionPlace
functions_in n k [] = []
functions_in n k (item ∷ items) =
    if is_function item
    then record { scope = n; item = k; decl = item } ∷ functions_in n (k + 1) items
    else functions_in n (k + 1) items

-- the functions of scopes from number n on, as a listing has them
abbrev pub functions_from : ℕ → List Scope → List FunctionPlace
functions_from n [] = []
functions_from n (scope ∷ scopes) = functions_in n 0 scope.items ++ functions_from (n + 1) scopes

-- all functions, by scope and item
abbrev pub function_places : Decls → List FunctionPlace
function_places ds = functions_from 0 ds.scopes

-- the scope that an item calls
abbrev pub called_scope : Kind → Option ℕ
called_scope (kind.Called scope) = Some scope
called_scope _ = None

-- an item of the scope that an item calls
abbrev pub inner_item : Decls → ℕ → Option ℕ → Option ItemDecl
inner_item ds inner None = None
inner_item ds inner (Some scope) = slice_get (scope_items ds scope) inner

-- the same, where there is such an item
abbrev pub inner_of : Decls → ℕ → Option ItemDecl → Option ItemDecl
inner_of ds inner None = None
inner_of ds inner (Some item) = inner_item ds inner (called_scope item.kind)

-- the declaration of the variable that a target is, by its item and inner item
abbrev pub target_decl : Decls → ℕ → ℕ → Option ℕ → Option ItemDecl
target_decl ds scope item None = slice_get (scope_items ds scope) item
target_decl ds scope item (Some inner) = inner_of ds inner (slice_get (scope_items ds scope) item)

-- the type of the values of a variable: a boolean of a condition
abbrev pub held_form : Decls → Option ItemDecl → Option Form
held_form ds None = None
held_form ds (Some item) = Some (if item.condition then Truth else form_of ds item.ty)

-- the type of the values that the definitions of a target give
abbrev pub target_form : Decls → Target → Option Form
target_form ds target = held_form ds (target_decl ds target.scope target.item target.inner)
