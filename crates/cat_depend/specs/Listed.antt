-- The calls that bodies list.
use Rattle.std.specs.Prelude.{ℕ, List, map}
use Rattle.cat_scope.specs.declared.defs.Body.{Body}

-- the scopes that each body says that its scope calls
abbrev pub listed_calls : List Body → List (List ℕ)
listed_calls bodies = map (λ b. b.calls) bodies
