-- The definitions of a scope by their targets, as a table has them.
use Rattle.std.specs.Prelude.{◌≡◌, ℕ, nat_eq, ◌&&◌, Bool, Option, List, [], ◌∷◌, length, if◌then◌else◌}
use Rattle.cat_value.specs.declared.outcome.Target.{Target}
use Rattle.cat_scope.specs.declared.defs.Def.{Def}
use Rattle.cat_scope.specs.Targets.{same_inner, defs_from}
use Rattle.cat_scope.specs.Forests.{definition_numbers}

-- an item, and the one that is meant of the scope that it calls
abbrev pub TargetKey : Type 0
TargetKey = ℕ × Option ℕ

-- a target is one of that key
abbrev pub is_at : Target → TargetKey → Bool
is_at target key = nat_eq key.0 target.item && same_inner key.1 target.inner

-- the list of a target
abbrev pub list_at : Target → List TargetKey → List (List ℕ) → List ℕ
list_at target [] lists = []
list_at target (key ∷ keys) [] = []
list_at target (key ∷ keys) (list ∷ lists) = if is_at target key then list else list_at target keys lists

-- keys and lists have for each target the numbers of its definitions
abbrev pub ArePartedBy : List Def → List TargetKey → List (List ℕ) → Type 0
ArePartedBy defs keys lists =
    (length lists ≡ length keys)
    × ((target : Target) → list_at target keys lists ≡ definition_numbers (defs_from target 0 defs))
