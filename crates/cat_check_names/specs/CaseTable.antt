-- Cases that are named without their enumerations.
use Rattle.std.specs.Prelude.{◌≡◌, ℕ, bytes_eq, cond, List, [], ◌∷◌, Option, Some, None}
use Rattle.std.specs.Option.{option_flatten}
use Rattle.std.specs.Map.{lookup}
use Rattle.cat_value.specs.declared.declaration.Enumeration.{Enumeration}
use Rattle.cat_names.specs.Lookup.{cases_named}

-- names of cases, each with the only case of that name, or without one where several have it
abbrev pub CaseTable : Type 0
CaseTable = List (List ℕ × Option (ℕ × ℕ))

-- the case of that name, where it is the only one
abbrev pub case_in : CaseTable → List ℕ → Option (ℕ × ℕ)
case_in table w = option_flatten (lookup (bytes_eq w) table)

-- the only one: where there is one already, there is none
abbrev pub only_after : {A B : Type 0} → Option B → A → Option A
only_after None a = Some a
only_after (Some b) a = None

-- a table has one case more under its name, and under other names what it had
abbrev pub IsWithCase : List ℕ → ℕ × ℕ → CaseTable → CaseTable → Type 0
IsWithCase v k old new = (w : List ℕ) → lookup (bytes_eq w) new
    ≡ cond (bytes_eq v w) (Some (only_after (lookup (bytes_eq v) old) k)) (lookup (bytes_eq w) old)

-- what a table has under the name of some cases: nothing, the only one, or that there are several
abbrev pub only_of : {A : Type 0} → List A → Option (Option A)
only_of [] = None
only_of (x ∷ []) = Some (Some x)
only_of (x ∷ y ∷ more) = Some None

-- a table has the name of each case, with the case where it is the only one of that name
abbrev pub AreOnlyCases : List Enumeration → CaseTable → Type 0
AreOnlyCases enumerations table =
    (w : List ℕ) → lookup (bytes_eq w) table ≡ only_of (cases_named w enumerations)
