-- Where a scope is called, by a table of the names of scopes.
use Rattle.std.specs.Prelude.{ℕ, nat_eq, Bool, false, List, [], ◌∷◌, Option, Some, None, flat_map, if◌then◌else◌}
use Rattle.cat_pos.specs.declared.pos.Pos.{Pos}
use Rattle.cat_value.specs.declared.declaration.Kind.{Kind}
use Rattle.cat_value.specs.declared.declaration.Kind.TheVariants as kind
use Rattle.cat_value.specs.declared.declaration.ItemDecl.{ItemDecl}
use Rattle.cat_tree.specs.declared.name.Name.{Name}
use Rattle.cat_check_names.specs.Table.{Table, number_in}
use Rattle.cat_check.specs.declared.outline.BlockOutline.{BlockOutline}

-- whether what was found is that number
abbrev pub is_it : ℕ → Option ℕ → Bool
is_it n None = false
is_it n (Some found) = nat_eq found n

-- whether a name is one of that number
abbrev pub is_for : Table → ℕ → Name → Bool
is_for table n w = is_it n (number_in table w.text)

-- the position of a word that names that scope
abbrev pub of_word : Table → ℕ → Name → List Pos
of_word table called w = if is_for table called w then w.pos ∷ [] else []

-- where a block of the scope that calls names that scope
abbrev pub called_about : Table → ℕ → ℕ → BlockOutline → List Pos
called_about table caller called b =
    if is_for table caller b.scope then flat_map (of_word table called) b.words else []

-- whether an item of that kind calls that scope
abbrev pub called_by_item : Kind → ℕ → Bool
called_by_item (kind.Called scope) called = nat_eq scope called
called_by_item _ called = false

-- the position of an item that calls that scope
abbrev pub declared_at : ℕ → ItemDecl → List Pos
declared_at called i = if called_by_item i.kind called then i.pos ∷ [] else []
