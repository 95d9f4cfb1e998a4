-- Tables of declarations.
use Rattle.std.specs.Prelude.{◌≡◌, ℕ, List, Option, Some, option_map, map, slice_get}
use Rattle.std.specs.Option.{option_or}
use Rattle.std.specs.List.{AllZip}
use Rattle.cat_value.specs.declared.ty.Ty.{Ty}
use Rattle.cat_value.specs.declared.ty.Ty.TheVariants as flat
use Rattle.cat_value.specs.declared.declaration.ItemDecl.{ItemDecl}
use Rattle.cat_value.specs.declared.decls.Decls.{Decls}
use Rattle.cat_value.specs.Inputs.{outputs_in}
use Rattle.cat_names.specs.Lookup.{TypeNames, type_names}
use Rattle.cat_check_names.specs.declared.types.TypeTable.{TypeTable}
use Rattle.cat_check_names.specs.declared.outputs.Outputs.{Outputs}
use Rattle.cat_check_names.specs.declared.tables.NameTables.{NameTables}
use Rattle.cat_check_names.specs.Table.{number_in, IsTableOf}
use Rattle.cat_check_names.specs.CaseTable.{AreOnlyCases}

-- the type that has a name in two tables: a structure, or else an enumeration
abbrev pub type_in : TypeTable → List ℕ → Option Ty
type_in types w = option_or (option_map flat.Structure (number_in types.structures w))
    (option_map flat.Enumeration (number_in types.enumerations w))

-- tables of the names of types
pub record AreTypesOf (names : TypeNames) (types : TypeTable) : Type 0 where
  pub structures : IsTableOf (λ name. name) names.structures types.structures
  pub enumerations : IsTableOf (λ name. name) names.enumerations types.enumerations

-- the outputs of a scope, by their names, and the number of the item that each is
pub record AreOutputsOf (items : List ItemDecl) (outputs : Outputs) : Type 0 where
  pub names : IsTableOf (λ i. i.name) (outputs_in items) outputs.names
  pub numbers : map (slice_get items) outputs.items ≡ map Some (outputs_in items)

-- tables of declarations
pub record AreTablesOf (ds : Decls) (tables : NameTables) : Type 0 where
  pub types : AreTypesOf (type_names ds) tables.types
  pub scopes : IsTableOf (λ s. s.name) ds.scopes tables.scopes
  pub fields : AllZip (λ s table. IsTableOf (λ f. f.name) s.fields table) ds.structures tables.fields
  pub cases : AllZip (λ e table. IsTableOf (λ k. k.name) e.cases table) ds.enumerations tables.cases
  pub only_cases : AreOnlyCases ds.enumerations tables.only_cases
  pub items : AllZip (λ s table. IsTableOf (λ i. i.name) s.items table) ds.scopes tables.items
  pub outputs : AllZip (λ s outputs. AreOutputsOf s.items outputs) ds.scopes tables.outputs
