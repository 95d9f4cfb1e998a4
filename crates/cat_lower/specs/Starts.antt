-- Tables that are made once: how many cases and functions stand in front, and which items are outputs.
use Rattle.std.specs.Prelude.{ℕ, ◌+◌, List, [], ◌∷◌, length, if◌then◌else◌}
use Rattle.cat_value.specs.declared.declaration.Enumeration.{Enumeration}
use Rattle.cat_value.specs.declared.declaration.ItemDecl.{ItemDecl}
use Rattle.cat_value.specs.declared.declaration.Scope.{Scope}
use Rattle.cat_value.specs.Inputs.{is_output}
use Rattle.cat_scope.specs.Names.{is_function}

-- for each enumeration how many cases stand in front of its own, behind n others
abbrev pub case_starts : ℕ → List Enumeration → List ℕ
case_starts n [] = []
case_starts n (e ∷ es) = n ∷ case_starts (n + length e.cases) es

-- for each item how many functions stand in front of it, behind n others
abbrev pub function_starts : ℕ → List ItemDecl → List ℕ
function_starts n [] = []
function_starts n (item ∷ items) =
    n ∷ (if is_function item then function_starts (n + 1) items else function_starts n items)

-- the numbers of the outputs among the items from number n on
abbrev pub output_numbers : ℕ → List ItemDecl → List ℕ
output_numbers n [] = []
output_numbers n (item ∷ items) =
    if is_output item.kind then n ∷ output_numbers (n + 1) items else output_numbers (n + 1) items

-- the same of each scope
abbrev pub outputs_of_each : List Scope → List (List ℕ)
outputs_of_each [] = []
outputs_of_each (scope ∷ scopes) = output_numbers 0 scope.items ∷ outputs_of_each scopes
