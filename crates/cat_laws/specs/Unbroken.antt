-- Names in one piece.
use Rattle.std.specs.Prelude.{ℕ, ◌==◌, ◌&&◌, not, Bool, IsTrue, List}
use Rattle.std.specs.List.{list_all}
use Rattle.cat_value.specs.declared.declaration.Scope.{Scope}
use Rattle.cat_scope.specs.Names.{AllHave}

-- a byte that is neither a line feed nor a hyphen
abbrev pub is_inner : ℕ → Bool
is_inner byte = not (byte == 10) && not (byte == 45)

-- a text that holds neither
abbrev pub is_unbroken : List ℕ → Bool
is_unbroken text = list_all is_inner text

-- a scope whose name and whose items' names hold neither
abbrev pub IsUnbroken : Scope → Type 0
IsUnbroken s = IsTrue (is_unbroken s.name) × AllHave (λ item. IsTrue (is_unbroken item.name)) s.items

-- each of some scopes
abbrev pub AreUnbroken : List Scope → Type 0
AreUnbroken scopes = AllHave IsUnbroken scopes
