-- Declarations in which each name stands for one thing.
use Rattle.std.specs.Prelude.{ℕ, Bool, true, ◌&&◌, not, List, [], ◌∷◌}
use Rattle.std.specs.List.{list_all}
use Rattle.cat_value.specs.declared.declaration.Structure.{Structure}
use Rattle.cat_value.specs.declared.declaration.Case.{Case}
use Rattle.cat_value.specs.declared.declaration.Enumeration.{Enumeration}
use Rattle.cat_value.specs.declared.declaration.Scope.{Scope}
use Rattle.cat_value.specs.declared.decls.Decls.{Decls}
use Rattle.cat_json.specs.Keys.{is_among, field_names}
use Rattle.cat_json.specs.InputsRead.{given_names}

-- no two of some names are the same
abbrev pub are_distinct : List (List ℕ) → Bool
are_distinct [] = true
are_distinct (name ∷ names) = not (is_among names name) && are_distinct names

-- the names of the cases
abbrev pub case_names : List Case → List (List ℕ)
case_names [] = []
case_names (c ∷ cs) = c.name ∷ case_names cs

-- no two fields of a structure have one name
abbrev pub fields_are_distinct : Structure → Bool
fields_are_distinct s = are_distinct (field_names s.fields)

-- no two cases of an enumeration have one name
abbrev pub cases_are_distinct : Enumeration → Bool
cases_are_distinct e = are_distinct (case_names e.cases)

-- no two variables of a scope that may be given have one name
abbrev pub inputs_are_distinct : Scope → Bool
inputs_are_distinct s = are_distinct (given_names s.items)

-- no two fields of a structure, no two cases of an enumeration and no two inputs of a scope have one name
unfoldable pub names_are_distinct : Decls → Bool
names_are_distinct ds = list_all fields_are_distinct ds.structures && list_all cases_are_distinct ds.enumerations
    && list_all inputs_are_distinct ds.scopes
