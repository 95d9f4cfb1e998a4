-- What forms mean, part after part.
use Rattle.std.specs.Prelude.{List, ◌++◌, Option, Some, None, Ok}
use Rattle.cat_tree.specs.declared.name.Name.{Name}
use Rattle.cat_scope.specs.Names.{Names}
use Rattle.cat_names.specs.declared.typed.Typed.{Typed}
use Rattle.cat_names.specs.Found.{Found, and_then, both}
use Rattle.cat_names.specs.Forms.{field_of}

-- the answers of two parts that don't hang on each other, or the faults of both
abbrev pub paired : {A B : Type 0} → Found A → Found B → Found (A × B)
paired a b = both a b (λ x y. Ok (x, y))

-- what is found, behind what is made
abbrev pub behind : {A : Type 0} → List A → Found (List A) → Found (List A)
behind made found = and_then found (λ xs. Ok (made ++ xs))

-- the output that was found, or else a field of what is in front of `.`
abbrev pub or_field : Names → Name → Found Typed → Option Typed → Found Typed
or_field ns w base (Some x) = Ok x
or_field ns w base None = and_then base (field_of ns w)
