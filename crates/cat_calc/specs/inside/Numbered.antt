-- Definitions by their numbers, and the groups of a target.
use Rattle.std.specs.Prelude.{ℕ, List, [], ◌∷◌, Option, Some, None, slice_get}
use Rattle.cat_value.specs.declared.outcome.Target.{Target}
use Rattle.cat_scope.specs.declared.defs.Def.{Def}
use Rattle.cat_scope.specs.Groups.{Numbered, Group, groups_of}
use Rattle.cat_scope.specs.Targets.{defs_from}

-- one more definition in front, where there is one
abbrev pub numbered_as : ℕ → Option Def → List Numbered → List Numbered
numbered_as n None rest = rest
numbered_as n (Some d) rest = (n, d) ∷ rest

-- the definitions of these numbers
abbrev pub numbered_at : List Def → List ℕ → List Numbered
numbered_at defs [] = []
numbered_at defs (n ∷ ns) = numbered_as n (slice_get defs n) (numbered_at defs ns)

-- the groups of a target's definitions
abbrev pub groups_in : List Def → Target → List Group
groups_in defs target = groups_of (defs_from target 0 defs)
