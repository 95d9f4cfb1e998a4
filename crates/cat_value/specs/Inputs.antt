-- Which inputs a scope takes, and which outputs it has.
use Rattle.std.specs.Prelude.{ℕ, Bool, true, false, ◌&&◌, not, IsTrue, List, [], ◌∷◌, Option, None, Some, slice_get}
use Rattle.std.specs.Prelude.{if◌then◌else◌}
use Rattle.cat_value.specs.declared.value.Value.{Value}
use Rattle.cat_value.specs.declared.declaration.Kind.{Kind}
use Rattle.cat_value.specs.declared.declaration.Kind.TheVariants.{Input, Output, InputOutput, Context, ContextOutput}
use Rattle.cat_value.specs.declared.declaration.Kind.TheVariants.{Called}
use Rattle.cat_value.specs.declared.declaration.ItemDecl.{ItemDecl}
use Rattle.cat_value.specs.declared.declaration.Scope.{Scope}
use Rattle.cat_value.specs.declared.decls.Decls.{Decls}
use Rattle.cat_value.specs.Typing.{has_type}

-- a called scope
abbrev pub is_called : Kind → Bool
is_called (Called scope) = true
is_called _ = false

-- an empty list
abbrev pub has_none : {A : Type 0} → List A → Bool
has_none [] = true
has_none (x ∷ xs) = false

-- a variable that is no function, and so one with a value
abbrev pub is_plain : ItemDecl → Bool
is_plain item = not (is_called item.kind) && has_none item.params

-- a function
abbrev pub is_function : ItemDecl → Bool
is_function item = not (is_called item.kind) && not (has_none item.params)

-- whether an item must be given
abbrev pub must_be_given : Kind → Bool
must_be_given Input = true
must_be_given InputOutput = true
must_be_given _ = false

-- whether an item may be given
abbrev pub may_be_given : Kind → Bool
may_be_given Context = true
may_be_given ContextOutput = true
may_be_given kind = must_be_given kind

-- a variable that is an output of its scope
abbrev pub is_output : Kind → Bool
is_output Output = true
is_output InputOutput = true
is_output ContextOutput = true
is_output _ = false

-- the outputs of a scope that has these items
abbrev pub outputs_in : List ItemDecl → List ItemDecl
outputs_in [] = []
outputs_in (item ∷ items) = if is_output item.kind then item ∷ outputs_in items else outputs_in items

-- whether an item may have this value, or none, in an input
abbrev pub is_given_for : Decls → ItemDecl → Option Value → Bool
is_given_for ds item None = not (must_be_given item.kind)
is_given_for ds item (Some v) = may_be_given item.kind && has_type ds v item.ty

-- one entry for each item
abbrev pub are_given_for : Decls → List ItemDecl → List (Option Value) → Bool
are_given_for ds [] [] = true
are_given_for ds [] (given ∷ input) = false
are_given_for ds (item ∷ items) [] = false
are_given_for ds (item ∷ items) (given ∷ input) = is_given_for ds item given && are_given_for ds items input

-- whether an input has a value, or none, as the items of the scope want it
abbrev pub is_input_for : Decls → List (Option Value) → Option Scope → Bool
is_input_for ds input None = false
is_input_for ds input (Some scope) = are_given_for ds scope.items input

-- whether an input is one of a scope: a value of its type for each input and input output variable, a value or none
-- for each context and context output variable, and none for every other item
unfoldable pub is_input_of : Decls → ℕ → List (Option Value) → Bool
is_input_of ds scope input = is_input_for ds input (slice_get ds.scopes scope)

-- the input is a well-typed one of the scope
abbrev pub IsWellTyped : Decls → ℕ → List (Option Value) → Type 0
IsWellTyped ds scope input = IsTrue (is_input_of ds scope input)
