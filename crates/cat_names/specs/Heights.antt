-- Declared types that are too high.
use Rattle.std.specs.Prelude.{ℕ, ◌&&◌, not, nat_le, Bool, false, List, [], ◌++◌, map, flat_map, Option, Some}
use Rattle.std.specs.Prelude.{option_to_list}
use Rattle.cat_value.specs.declared.ty.Ty.{Ty}
use Rattle.cat_value.specs.declared.ty.Ty.TheVariants as flat
use Rattle.cat_value.specs.declared.ty.Ty.TheViews.{out-Ty}
use Rattle.cat_value.specs.Heights.{height_to, highest_part}
use Rattle.cat_value.specs.Declarations.{highest}
use Rattle.cat_tree.specs.declared.name.Name.{Name}
use Rattle.cat_tree.specs.declared.name.Type as written
use Rattle.cat_tree.specs.declared.program.Variable.{Variable}
use Rattle.cat_tree.specs.declared.program.Variable.TheVariants as variable
use Rattle.cat_tree.specs.declared.program.Item.{Item}
use Rattle.cat_tree.specs.declared.program.Item.TheVariants as item
use Rattle.cat_tree.specs.declared.program.Tree.{Tree}
use Rattle.cat_names.specs.declared.fault.Fault.{Fault}
use Rattle.cat_names.specs.declared.fault.Fault.TheVariants.{TooMany}
use Rattle.cat_names.specs.Found.{fault_if}
use Rattle.cat_names.specs.Lookup.{TypeNames, base_type, type_written}
use Rattle.cat_names.specs.Lists.{numbered}
use Rattle.cat_names.specs.Written.{types_in, structures_in, enumerations_in, names_of}
use Rattle.cat_names.specs.Declarations.{Declared}

-- whether a type is higher than types may be
abbrev pub is_high : Declared → Ty → Bool
is_high ds t = not (nat_le (height_to ds.structures ds.enumerations highest t) highest)

-- whether none of its parts is
abbrev pub has_low_parts : Declared → Ty → Bool
has_low_parts ds t =
    nat_le (highest_part ds.structures ds.enumerations (height_to ds.structures ds.enumerations highest) (out-Ty t))
    highest

-- structures, or enumerations: the name of each that is too high though no part of it is
abbrev pub high_named : Declared → (ℕ → Ty) → List Name → List Fault
high_named ds of_number names =
    flat_map (λ w. fault_if (is_high ds (of_number w.0) && has_low_parts ds (of_number w.0)) (TooMany w.1.pos))
    (numbered names)

-- the types that are written in the declaration of a variable
abbrev pub variable_types : Variable → List written.Type
variable_types (variable.Own k p w t params) = option_to_list t ++ map (λ f. f.ty) params
variable_types (variable.Called w u) = []

-- the types that are written in a declaration
abbrev pub types_written : Item → List written.Type
types_written (item.Structure p u fields) = map (λ f. f.ty) fields
types_written (item.Enumeration p u cases) = flat_map (λ c. option_to_list c.content) cases
types_written (item.Scope p u variables) = flat_map variable_types variables
types_written (item.Block b) = []

-- whether a list is too high, though what stands behind all its `list of` is not
abbrev pub is_high_list : Declared → Option Ty → Option Ty → Bool
is_high_list ds (Some t) (Some inside) = is_high ds t && not (is_high ds inside)
is_high_list ds _ _ = false

-- a written type, where it is such a list: at its base
abbrev pub high_list : Declared → TypeNames → written.Type → List Fault
high_list ds names t =
    fault_if (is_high_list ds (type_written names t) (base_type names t.base)) (TooMany t.pos)

-- the first things of a declared type that pass the greatest height: the names of structures and enumerations that are
-- too high though no part of them is, and the lists that are too high though what they are made of is not
abbrev pub height_faults : Tree → Declared → List Fault
height_faults tree ds =
    high_named ds flat.Structure (names_of (structures_in tree.items))
    ++ high_named ds flat.Enumeration (names_of (enumerations_in tree.items))
    ++ flat_map (high_list ds (types_in tree.items)) (flat_map types_written tree.items)
