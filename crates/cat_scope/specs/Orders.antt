-- What items and scopes depend on, and the orders that follow.
use Rattle.std.specs.Prelude.{ℕ, ◌+◌, nat_eq, List, [], ◌∷◌, ◌++◌, Option, Some, None, if◌then◌else◌}
use Rattle.cat_value.specs.declared.declaration.Kind.{Kind}
use Rattle.cat_value.specs.declared.declaration.Kind.TheVariants as kind
use Rattle.cat_value.specs.declared.declaration.ItemDecl.{ItemDecl}
use Rattle.cat_value.specs.declared.declaration.Scope.{Scope}
use Rattle.cat_scope.specs.declared.expr.Expr.{Expr}
use Rattle.cat_scope.specs.declared.defs.Def.{Def}
use Rattle.cat_scope.specs.declared.defs.Assertion.{Assertion}
use Rattle.cat_scope.specs.declared.defs.SourcePart.{SourcePart}
use Rattle.cat_scope.specs.declared.defs.SourcePart.TheVariants as part
use Rattle.cat_scope.specs.declared.defs.Body.{Body}
use Rattle.cat_scope.specs.Names.{is_in, is_function}
use Rattle.cat_scope.specs.Mentions.{items_named, functions_named, scopes_named}

-- what a condition names, where there is one
abbrev pub in_condition : (Expr → List ℕ) → Option Expr → List ℕ
in_condition named None = []
in_condition named (Some e) = named e

-- what a definition names: first in its condition, then in its consequence
abbrev pub in_def : (Expr → List ℕ) → Def → List ℕ
in_def named d = in_condition named d.condition ++ named d.consequence

-- what the definitions of an item name, those of a called scope's variables too
abbrev pub in_defs_of : (Expr → List ℕ) → ℕ → List Def → List ℕ
in_defs_of named item [] = []
in_defs_of named item (d ∷ ds) =
    if nat_eq d.target.item item
    then in_def named d ++ in_defs_of named item ds
    else in_defs_of named item ds

-- for each item from number n on, what its definitions name
abbrev pub dependencies_from : (Expr → List ℕ) → List Def → ℕ → List ItemDecl → List (List ℕ)
dependencies_from named defs n [] = []
dependencies_from named defs n (item ∷ items) = in_defs_of named n defs ∷ dependencies_from named defs (n + 1) items

-- an item depends on each item that its definitions name
abbrev pub item_dependencies : List ItemDecl → List Def → List (List ℕ)
item_dependencies items defs = dependencies_from items_named defs 0 items

-- the functions that each function calls
abbrev pub only_functions : List ItemDecl → List (List ℕ) → List (List ℕ)
only_functions [] deps = []
only_functions (item ∷ items) [] = []
only_functions (item ∷ items) (called ∷ deps) = (if is_function item then called else []) ∷ only_functions items deps

-- for each item, the functions that it calls where it is a function itself
abbrev pub function_calls : List ItemDecl → List Def → List (List ℕ)
function_calls items defs = only_functions items (dependencies_from functions_named defs 0 items)

-- the scope that an item calls, where it is a called scope
abbrev pub called_by_kind : Kind → List ℕ
called_by_kind (kind.Called scope) = scope ∷ []
called_by_kind _ = []

-- the scopes that items call, in the order of their declarations
abbrev pub called_by_items : List ItemDecl → List ℕ
called_by_items [] = []
called_by_items (item ∷ items) = called_by_kind item.kind ++ called_by_items items

-- the scopes that parts of a source call, in its order, where these definitions and assertions are the next ones
abbrev pub called_in : List ItemDecl → List SourcePart → List Def → List Assertion → List ℕ
called_in items [] defs assertions = []
called_in items (part.Declaration ∷ parts) defs assertions =
    called_by_items items ++ called_in items parts defs assertions
called_in items (part.Condition e ∷ parts) defs assertions = scopes_named e ++ called_in items parts defs assertions
called_in items (part.Definition ∷ parts) [] assertions = called_in items parts [] assertions
called_in items (part.Definition ∷ parts) (d ∷ defs) assertions =
    in_def scopes_named d ++ called_in items parts defs assertions
called_in items (part.Assertion ∷ parts) defs [] = called_in items parts defs []
called_in items (part.Assertion ∷ parts) defs (a ∷ assertions) =
    scopes_named a.condition ++ called_in items parts defs assertions

-- the scopes that a scope calls, as they stand in its source
abbrev pub calls_in : List ItemDecl → Body → List ℕ
calls_in items body = called_in items body.source body.defs body.assertions

-- each number once, by first appearance
abbrev pub once : List ℕ → List ℕ → List ℕ
once seen [] = []
once seen (n ∷ ns) = if is_in n seen then once seen ns else n ∷ once (n ∷ seen) ns

-- the scopes that each scope calls
abbrev pub scope_dependencies : List Scope → List Body → List (List ℕ)
scope_dependencies [] bodies = []
scope_dependencies (scope ∷ scopes) [] = []
scope_dependencies (scope ∷ scopes) (body ∷ bodies) =
    once [] (calls_in scope.items body) ∷ scope_dependencies scopes bodies
