-- Cases that are counted one after another.
use Rattle.std.specs.Prelude.{◌≡◌, ℕ, bytes_eq, List, ◌++◌, option_map, option_to_list}
use Rattle.std.specs.Map.{lookup}
use Rattle.cat_value.specs.declared.declaration.Case.{Case}
use Rattle.cat_value.specs.declared.declaration.Enumeration.{Enumeration}
use Rattle.cat_names.specs.Lookup.{cases_named}
use Rattle.cat_check_names.specs.Table.{number_named}
use Rattle.cat_check_names.specs.CaseTable.{CaseTable, only_of}

-- the case of that name among the cases of the enumeration of number n
abbrev pub case_among : List ℕ → ℕ → List Case → List (ℕ × ℕ)
case_among w n cases = option_to_list (option_map (λ k. (n, k)) (number_named (λ k. k.name) w cases))

-- a table has the cases of some enumerations, and some of the next one, whose number is n
abbrev pub AreCounted : List Enumeration → ℕ → List Case → CaseTable → Type 0
AreCounted enumerations n cases table =
    (w : List ℕ) → lookup (bytes_eq w) table ≡ only_of (cases_named w enumerations ++ case_among w n cases)
