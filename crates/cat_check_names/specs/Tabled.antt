-- What may be named where an expression stands, and the tables of it.
use Rattle.cat_check_names.specs.Table.{IsTableOf}
use Rattle.cat_check_names.specs.Tables.{AreTypesOf}
use Rattle.cat_names.specs.DeclarationFaults.{variable_name}
use Rattle.cat_names.specs.NameFaults.{known_in}
use Rattle.cat_names.specs.Unknown.{Known}
use Rattle.cat_names.specs.Written.{types_in, scope_names_in}
use Rattle.cat_check_names.specs.declared.here.NamingContext.{NamingContext}

-- what may be named
abbrev pub known_at : NamingContext → Known
known_at here = known_in here.tree.now.items here.variables.now

-- the tables are those of what may be named
pub record AreTabled (here : NamingContext) : Type 0 where
  pub types : AreTypesOf (types_in here.tree.now.items) here.types.now
  pub scopes : IsTableOf (λ name. name) (scope_names_in here.tree.now.items) here.scopes.now
  pub items : IsTableOf (λ v. (variable_name v).text) here.variables.now here.items.now
