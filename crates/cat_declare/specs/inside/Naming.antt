-- The faults of names, by the steps in which they are looked for.
use Rattle.std.specs.Prelude.{◌≤◌, List, [], ◌++◌, length, flat_map}
use Rattle.std.specs.List.{AllZip}
use Rattle.cat_tree.specs.declared.program.Item.{Item}
use Rattle.cat_tree.specs.declared.program.Item.TheVariants as item
use Rattle.cat_tree.specs.declared.program.Variable.{Variable}
use Rattle.cat_scope.specs.Names.{AllHave}
use Rattle.cat_check_names.specs.Table.{Table, IsTableOf}
use Rattle.cat_names.specs.declared.fault.Fault.{Fault}
use Rattle.cat_names.specs.Limits.{most_items, most_definitions}
use Rattle.cat_names.specs.DeclarationFaults.{declared_name, declaration_faults, past, variable_name}
use Rattle.cat_names.specs.NameFaults.{item_faults, definition_positions}
use Rattle.cat_names.specs.Unknown.{twice}
use Rattle.cat_declare.specs.declared.written.Declaration.{Declaration}
use Rattle.cat_declare.specs.inside.Made.{unknown_declared}

-- names of declarations that stand twice, and names and counts inside of them
abbrev pub repeated : List Item → List Fault
repeated items = twice (flat_map declared_name items) ++ flat_map declaration_faults items

-- a block
abbrev pub block_faults : List Item → Item → List Fault
block_faults items (item.Block b) = item_faults items (item.Block b)
block_faults items _ = []

-- names that name nothing, and the first definition past the most
abbrev pub unresolved : List Item → List Fault
unresolved items = unknown_declared items ++ flat_map (block_faults items) items
    ++ past most_definitions (flat_map definition_positions items)

-- each scope has so many variables at most
abbrev pub AreFew : List (Declaration Variable) → Type 0
AreFew scopes = AllHave (λ s. length s.parts.now ≤ most_items) scopes

-- a table of the variables of each scope
abbrev pub AreItemTables : List (Declaration Variable) → List Table → Type 0
AreItemTables scopes tables =
    AllZip (λ s table. IsTableOf (λ v. (variable_name v).text) s.parts.now table) scopes tables
