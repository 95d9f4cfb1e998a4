-- What is logged where a default frame ends.
use Rattle.std.specs.Prelude.{ℕ, Bool, true, false, List, [], ◌∷◌, Option, Some, None, slice_get}
use Rattle.cat_value.specs.declared.value.Value.{Value}
use Rattle.cat_value.specs.declared.outcome.Target.{Target}
use Rattle.cat_value.specs.declared.decls.Decls.{Decls}
use Rattle.cat_value.specs.declared.declaration.ItemDecl.{ItemDecl}
use Rattle.cat_scope.specs.Runs.{Decider}
use Rattle.cat_scope.specs.Names.{is_function, scope_items}
use Rattle.cat_scope.specs.Judging.{Held, held_position}
use Rattle.cat_code.specs.declared.code.TargetEntry.{TargetEntry}
use Rattle.cat_code.specs.declared.code.Tables.{Tables}

-- a function of a scope
abbrev pub is_function_in : Option ItemDecl → Bool
is_function_in None = false
is_function_in (Some item) = is_function item

-- whether a target is a function
abbrev pub is_function_target : Decls → Target → Option ℕ → Bool
is_function_target decls target None = is_function_in (slice_get (scope_items decls target.scope) target.item)
is_function_target decls target (Some inner) = false

-- the target with the definition that holds, where it is no function
abbrev pub unless_function : Bool → Target → Option (Held Value) → List Decider
unless_function true target found = []
unless_function false target found = record { target = target; by = held_position found } ∷ []

-- what is logged of a target
abbrev pub logged_of : Tables → Option TargetEntry → Option (Held Value) → List Decider
logged_of tables None found = []
logged_of tables (Some entry) found =
    unless_function (is_function_target tables.decls entry.target entry.target.inner) entry.target found

-- what is logged where a default frame ends: its target is the one of its last check
abbrev pub logged : Tables → Option ℕ → Option (Held Value) → List Decider
logged tables None found = []
logged tables (Some v) found = logged_of tables (slice_get tables.targets v) found
