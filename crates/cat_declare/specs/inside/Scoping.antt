-- What may be named in blocks, as the code has it.
use Rattle.std.specs.Prelude.{◌≡◌, [], flat_map}
use Rattle.cat_names.specs.DeclarationFaults.{declared_name}
use Rattle.cat_names.specs.Unknown.{twice}
use Rattle.cat_declare.specs.declared.blocks.Scoped.{Scoped}
use Rattle.cat_declare.specs.inside.Naming.{AreItemTables}
use Rattle.cat_declare.specs.inside.Tabling.{AreTables, tree_at}

-- tables of all that a tree declares, where no name of a declaration stands twice
pub record AreScoped (here : Scoped) : Type 0 where
  pub tables : AreTables here.tables.now
  pub items : AreItemTables here.tables.now.declarations.scopes here.items
  pub apart : twice (flat_map declared_name (tree_at here.tables.now).items) ≡ []
