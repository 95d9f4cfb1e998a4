-- A table of names, and what it is a table of.
use Rattle.std.specs.Prelude.{◌≡◌, ℕ, bytes_eq, is_some, List, [], ◌∷◌, ◌++◌, Option, option_map, if◌then◌else◌}
use Rattle.std.specs.Map.{lookup}
use Rattle.cat_names.specs.Lookup.{first_named}

-- names with their numbers
abbrev pub Table : Type 0
Table = List (List ℕ × ℕ)

-- the number of a name in a table
abbrev pub number_in : Table → List ℕ → Option ℕ
number_in table w = lookup (bytes_eq w) table

-- a table with one name more, unless it is there
abbrev pub with_name : Table → List ℕ → ℕ → Table
with_name table w n = if is_some (number_in table w) then table else table ++ (w, n) ∷ []

-- the number of the first of some things that has the name
abbrev pub number_named : {A : Type 0} → (A → List ℕ) → List ℕ → List A → Option ℕ
number_named name_of w things = option_map (λ x. x.0) (first_named name_of w things)

-- a table has the names of some things, each with the number of the first that has it
abbrev pub IsTableOf : {A : Type 0} → (A → List ℕ) → List A → Table → Type 0
IsTableOf name_of things table = (w : List ℕ) → number_in table w ≡ number_named name_of w things
