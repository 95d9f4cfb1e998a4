-- The roots of a target by numbers: the groups of a forest whose first definitions are no exceptions.
use Rattle.std.specs.Prelude.{ℕ, ◌+◌, Bool, false, List, [], ◌∷◌, Option, Some, None, slice_get, if◌then◌else◌}
use Rattle.cat_scope.specs.declared.defs.Def.{Def}
use Rattle.cat_scope.specs.declared.forest.ForestGroup.{ForestGroup}
use Rattle.cat_scope.specs.Groups.{is_none}

-- a definition, where there is one, that is no exception
abbrev pub is_no_exception : Option Def → Bool
is_no_exception None = false
is_no_exception (Some d) = is_none d.except

-- whether the first of some definitions is no exception
abbrev pub is_first_root : List Def → List ℕ → Bool
is_first_root defs [] = false
is_first_root defs (n ∷ ns) = is_no_exception (slice_get defs n)

-- the numbers, from n on, of the groups whose first definitions are no exceptions
abbrev pub root_numbers : List Def → ℕ → List ForestGroup → List ℕ
root_numbers defs n [] = []
root_numbers defs n (g ∷ gs) =
    if is_first_root defs g.defs then n ∷ root_numbers defs (n + 1) gs else root_numbers defs (n + 1) gs
