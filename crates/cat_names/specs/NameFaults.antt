-- The faults of names and of counts in a whole tree: these stand in front of all others.
use Rattle.std.specs.Prelude.{ℕ, bytes_eq, List, [], ◌∷◌, ◌++◌, map, flat_map, Option, Some, None, if◌then◌else◌}
use Rattle.cat_pos.specs.declared.pos.Pos.{Pos}
use Rattle.cat_tree.specs.declared.name.Name.{Name}
use Rattle.cat_tree.specs.declared.expression.Node.{Node}
use Rattle.cat_tree.specs.declared.program.Variable.{Variable}
use Rattle.cat_tree.specs.declared.program.TargetName.{TargetName}
use Rattle.cat_tree.specs.declared.program.Use.{Use}
use Rattle.cat_tree.specs.declared.program.Use.TheVariants as uses
use Rattle.cat_tree.specs.declared.program.Block.{Block}
use Rattle.cat_tree.specs.declared.program.Item.{Item}
use Rattle.cat_tree.specs.declared.program.Item.TheVariants as item
use Rattle.cat_tree.specs.declared.program.Tree.{Tree}
use Rattle.cat_names.specs.Limits.{most_definitions}
use Rattle.cat_names.specs.declared.fault.Fault.{Fault}
use Rattle.cat_names.specs.declared.fault.Fault.TheVariants.{NameUnknown}
use Rattle.cat_names.specs.Found.{faults_of}
use Rattle.cat_names.specs.Written.{texts, types_in, scopes_in, scope_names_in}
use Rattle.cat_names.specs.Declarations.{declared_of}
use Rattle.cat_names.specs.Unknown.{Known, twice, is_name, unless, unknown_in}
use Rattle.cat_names.specs.DeclarationFaults.{past, variable_name, declaration_faults, declared_name}

-- what a condition names, where there is one
abbrev pub unknown_in_condition : Known → Option Node → List (List ℕ) → List Fault
unknown_in_condition known None bound = []
unknown_in_condition known (Some e) bound = unknown_in known e bound

-- what a definition or a rule is for: an item, and no parameter's name twice
abbrev pub target_faults : Known → TargetName → List Fault
target_faults known t = unless (is_name t.name.text known.items) t.name ++ twice t.params

-- a line of a block; the names of its parameters are bound in a definition
abbrev pub use_faults : Known → Use → List Fault
use_faults known (uses.Definition l p t c e) =
    target_faults known t ++ unknown_in_condition known c (texts t.params) ++ unknown_in known e (texts t.params)
use_faults known (uses.Rule l p t c f) = target_faults known t ++ unknown_in_condition known c (texts t.params)
use_faults known (uses.Assertion p e) = unknown_in known e []
use_faults known (uses.DateRound p up) = []

-- what may be named in a block of a scope with these variables; where several have its name, with those of all
abbrev pub known_in : List Item → List Variable → Known
known_in items variables = record {
  types = types_in items;
  scopes = scope_names_in items;
  items = texts (map variable_name variables);
}

-- the variables of each scope of that name
abbrev pub variables_of : List ℕ → Name × List Variable → List Variable
variables_of w s = if bytes_eq s.0.text w then s.1 else []

-- a block of a scope: its condition knows no parameters
abbrev pub block_faults : Known → Block → List Fault
block_faults known b = unknown_in_condition known b.condition [] ++ flat_map (use_faults known) b.uses

-- a declaration or a block
abbrev pub item_faults : List Item → Item → List Fault
item_faults items (item.Block b) =
    if is_name b.name.text (scope_names_in items)
    then block_faults (known_in items (flat_map (variables_of b.name.text) (scopes_in items))) b
    else NameUnknown b.name.pos ∷ []
item_faults items declaration = declaration_faults declaration

-- the position of a definition or a rule
abbrev pub definition_position : Use → List Pos
definition_position (uses.Definition l p t c e) = p ∷ []
definition_position (uses.Rule l p t c f) = p ∷ []
definition_position _ = []

-- the positions of the definitions and rules of a block
abbrev pub definition_positions : Item → List Pos
definition_positions (item.Block b) = flat_map definition_position b.uses
definition_positions _ = []

-- the later of two equal names; names of types and scopes in declarations, of scopes of blocks, of items and bound
-- names that name nothing; and the first thing past each count
abbrev pub name_faults : Tree → List Fault
name_faults tree = twice (flat_map declared_name tree.items) ++ faults_of (declared_of tree.items)
    ++ flat_map (item_faults tree.items) tree.items
    ++ past most_definitions (flat_map definition_positions tree.items)
