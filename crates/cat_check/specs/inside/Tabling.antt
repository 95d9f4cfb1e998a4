-- Tables of declarations.
use Rattle.std.specs.Prelude.{◌≡◌, map}
use Rattle.cat_value.specs.declared.decls.Decls.{Decls}
use Rattle.cat_value.specs.Table.{AreHeights}
use Rattle.cat_check_names.specs.Tables.{AreTablesOf}
use Rattle.cat_check_forms.specs.Tabled.{required_from}
use Rattle.cat_check.specs.declared.tables.DeclarationTables.{DeclarationTables}

-- the tables are those of the declarations
pub record AreTables (ds : Decls) (tables : DeclarationTables) : Type 0 where
  pub names : AreTablesOf ds tables.names
  pub inputs : tables.inputs ≡ map (λ s. required_from 0 s.items) ds.scopes
  pub heights : AreHeights ds.structures ds.enumerations tables.heights
