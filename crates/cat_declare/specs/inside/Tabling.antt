-- The tables of a tree's names.
use Rattle.std.specs.Prelude.{ℕ, List}
use Rattle.cat_tree.specs.declared.program.Tree.{Tree}
use Rattle.cat_check_names.specs.Table.{IsTableOf}
use Rattle.cat_check_names.specs.Tables.{AreTypesOf}
use Rattle.cat_names.specs.Lookup.{TypeNames}
use Rattle.cat_names.specs.Written.{types_in, scope_names_in}
use Rattle.cat_declare.specs.declared.tables.TreeTables.{TreeTables}
use Rattle.cat_declare.specs.inside.Writings.{AreDeclarations}

-- the tree
abbrev pub tree_at : TreeTables → Tree
tree_at tables = tables.declarations.tree.now

-- the names of the types
abbrev pub types_at : TreeTables → TypeNames
types_at tables = types_in (tree_at tables).items

-- the names of the scopes
abbrev pub scopes_at : TreeTables → List (List ℕ)
scopes_at tables = scope_names_in (tree_at tables).items

-- the lists are of all that a tree declares, and the tables of its types and scopes
pub record AreTables (tables : TreeTables) : Type 0 where
  pub declarations : AreDeclarations tables.declarations
  pub types : AreTypesOf (types_at tables) tables.types
  pub scopes : IsTableOf (λ name. name) (scopes_at tables) tables.scopes
