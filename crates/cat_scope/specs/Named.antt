-- The scope that a name names.
use Rattle.std.specs.Prelude.{ℕ, ◌+◌, bytes_eq, List, [], ◌∷◌, Option, Some, None, if◌then◌else◌}
use Rattle.cat_value.specs.declared.declaration.Scope.{Scope}

-- the number of the first scope with a name, where the scopes are numbered from n on
abbrev pub number_named : List ℕ → ℕ → List Scope → Option ℕ
number_named name n [] = None
number_named name n (s ∷ ss) = if bytes_eq s.name name then Some n else number_named name (n + 1) ss
