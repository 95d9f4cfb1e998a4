-- What a tree declares, as it is written.
use Rattle.std.specs.Prelude.{ℕ, List, [], ◌∷◌, map}
use Rattle.cat_pos.specs.declared.pos.Pos.{Pos}
use Rattle.cat_tree.specs.declared.name.Name.{Name}
use Rattle.cat_tree.specs.declared.program.FieldItem.{FieldItem}
use Rattle.cat_tree.specs.declared.program.CaseItem.{CaseItem}
use Rattle.cat_tree.specs.declared.program.Variable.{Variable}
use Rattle.cat_tree.specs.declared.program.Item.{Item}
use Rattle.cat_tree.specs.declared.program.Item.TheVariants as item
use Rattle.cat_names.specs.Lookup.{TypeNames}

-- the structures of a tree, each with its fields
abbrev pub structures_in : List Item → List (Name × List FieldItem)
structures_in [] = []
structures_in (item.Structure p u fields ∷ more) = (u, fields) ∷ structures_in more
structures_in (_ ∷ more) = structures_in more

-- the enumerations of a tree, each with its cases
abbrev pub enumerations_in : List Item → List (Name × List CaseItem)
enumerations_in [] = []
enumerations_in (item.Enumeration p u cases ∷ more) = (u, cases) ∷ enumerations_in more
enumerations_in (_ ∷ more) = enumerations_in more

-- the scopes of a tree, each with its variables
abbrev pub scopes_in : List Item → List (Name × List Variable)
scopes_in [] = []
scopes_in (item.Scope p u variables ∷ more) = (u, variables) ∷ scopes_in more
scopes_in (_ ∷ more) = scopes_in more

-- the texts of names
abbrev pub texts : List Name → List (List ℕ)
texts names = map (λ w. w.text) names

-- the positions of names
abbrev pub positions : List Name → List Pos
positions names = map (λ w. w.pos) names

-- the names of what is declared
abbrev pub names_of : {A : Type 0} → List (Name × A) → List Name
names_of declared = map (λ d. d.0) declared

-- the names of the types that a tree declares
abbrev pub types_in : List Item → TypeNames
types_in items = record {
  structures = texts (names_of (structures_in items));
  enumerations = texts (names_of (enumerations_in items));
}

-- the names of its scopes
abbrev pub scope_names_in : List Item → List (List ℕ)
scope_names_in items = texts (names_of (scopes_in items))
