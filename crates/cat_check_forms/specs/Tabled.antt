-- What may be named where an expression stands, and the tables of it.
use Rattle.std.specs.Prelude.{◌≡◌, ◌&&◌, ◌+◌, ℕ, not, List, [], ◌∷◌, map, if◌then◌else◌}
use Rattle.cat_value.specs.declared.declaration.ItemDecl.{ItemDecl}
use Rattle.cat_value.specs.Inputs.{must_be_given}
use Rattle.cat_value.specs.Table.{AreHeights}
use Rattle.cat_scope.specs.Names.{Names}
use Rattle.cat_names.specs.Naming.{names_in_scope}
use Rattle.cat_check_names.specs.Tables.{AreTablesOf}
use Rattle.cat_check_forms.specs.declared.here.Here.{Here}

-- what names stand for where an expression stands
abbrev pub names_at : Here → Names
names_at here = names_in_scope here.decls.now here.scope

-- the numbers, from n on, of the inputs that a call of their scope must give
abbrev pub required_from : ℕ → List ItemDecl → List ℕ
required_from n [] = []
required_from n (item ∷ items) =
    if must_be_given item.kind && not item.condition then n ∷ required_from (n + 1) items
    else required_from (n + 1) items

-- the tables are those of the declarations
pub record IsTabled (here : Here) : Type 0 where
  pub names : AreTablesOf here.decls.now here.tables.now
  pub inputs : here.inputs.now ≡ map (λ s. required_from 0 s.items) here.decls.now.scopes
  pub heights : AreHeights here.decls.now.structures here.decls.now.enumerations here.heights.now
