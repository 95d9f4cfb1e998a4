-- Names that stand twice in a declaration, and counts that it passes.
use Rattle.std.specs.Prelude.{ℕ, List, [], ◌∷◌, ◌++◌, map, flat_map, Option, Some, None, slice_get}
use Rattle.cat_pos.specs.declared.pos.Pos.{Pos}
use Rattle.cat_tree.specs.declared.name.Name.{Name}
use Rattle.cat_tree.specs.declared.program.Variable.{Variable}
use Rattle.cat_tree.specs.declared.program.Variable.TheVariants as variable
use Rattle.cat_tree.specs.declared.program.Item.{Item}
use Rattle.cat_tree.specs.declared.program.Item.TheVariants as item
use Rattle.cat_names.specs.Limits.{most_items, most_parameters}
use Rattle.cat_value.specs.Declarations.{most_cases}
use Rattle.cat_names.specs.declared.fault.Fault.{Fault}
use Rattle.cat_names.specs.declared.fault.Fault.TheVariants.{TooMany}
use Rattle.cat_names.specs.Written.{positions}
use Rattle.cat_names.specs.Unknown.{twice}

-- a thing that is past a limit, where there is one
abbrev pub too_many : Option Pos → List Fault
too_many None = []
too_many (Some p) = TooMany p ∷ []

-- the first thing past a limit, where so many may stand
abbrev pub past : ℕ → List Pos → List Fault
past limit positions = too_many (slice_get positions limit)

-- the name of a variable or of a called scope
abbrev pub variable_name : Variable → Name
variable_name (variable.Own k p w t params) = w
variable_name (variable.Called w u) = w

-- parameters: no name twice, and past the most of them stands the name of the next
abbrev pub param_faults : Variable → List Fault
param_faults (variable.Own k p w t params) =
    twice (map (λ f. f.name) params) ++ past most_parameters (positions (map (λ f. f.name) params))
param_faults (variable.Called w u) = []

-- a declaration: in it no name stands twice; past the most cases or items stands the name of the next
abbrev pub declaration_faults : Item → List Fault
declaration_faults (item.Structure p u fields) = twice (map (λ f. f.name) fields)
declaration_faults (item.Enumeration p u cases) =
    twice (map (λ c. c.name) cases) ++ past most_cases (positions (map (λ c. c.name) cases))
declaration_faults (item.Scope p u variables) = twice (map variable_name variables)
    ++ past most_items (positions (map variable_name variables)) ++ flat_map param_faults variables
declaration_faults (item.Block b) = []

-- the name that a declaration declares: types and scopes share their names
abbrev pub declared_name : Item → List Name
declared_name (item.Structure p u fields) = u ∷ []
declared_name (item.Enumeration p u cases) = u ∷ []
declared_name (item.Scope p u variables) = u ∷ []
declared_name (item.Block b) = []
