-- Declarations as the code has them.
use Rattle.std.specs.Prelude.{◌≡◌, List, map}
use Rattle.cat_tree.specs.declared.name.Name.{Name}
use Rattle.cat_names.specs.Written.{structures_in, enumerations_in, scopes_in}
use Rattle.cat_declare.specs.declared.written.Declaration.{Declaration}
use Rattle.cat_declare.specs.declared.written.Declarations.{Declarations}

-- a declaration as a pair
abbrev pub as_pair : {T : Type 0} → Declaration T → Name × List T
as_pair declaration = (declaration.name.now, declaration.parts.now)

-- lists of all that a tree declares
pub record AreDeclarations (ds : Declarations) : Type 0 where
  pub structures : map as_pair ds.structures ≡ structures_in ds.tree.now.items
  pub enumerations : map as_pair ds.enumerations ≡ enumerations_in ds.tree.now.items
  pub scopes : map as_pair ds.scopes ≡ scopes_in ds.tree.now.items
