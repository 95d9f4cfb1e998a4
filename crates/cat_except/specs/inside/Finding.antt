-- Which fault is looked for, and the first position of one.
use Rattle.std.specs.Prelude.{List, [], ◌∷◌, Option, slice_get}
use Rattle.cat_pos.specs.declared.pos.Pos.{Pos}
use Rattle.cat_scope.specs.declared.defs.Def.{Def}
use Rattle.cat_scope.specs.Names.{AllHave}
use Rattle.cat_scope.specs.Groups.{Group}
use Rattle.cat_except.specs.declared.faults.ExceptionFault.{ExceptionFault}
use Rattle.cat_except.specs.declared.faults.ExceptionFault.TheVariants.{UnknownLabel, SplitLabel, AmbiguousException}
use Rattle.cat_except.specs.declared.groups.Groups.{Groups}
use Rattle.cat_except.specs.Faults.{Kind, unknown_label, split_label, ambiguous_exception}
use Rattle.cat_except.specs.inside.Grouping.{groups_at, AreGroups}

-- the kind of fault that is looked for
abbrev pub kind_of : ExceptionFault → Kind
kind_of UnknownLabel groups g d = unknown_label groups d.except
kind_of SplitLabel groups g d = split_label g.except d.label d.except
kind_of AmbiguousException groups g d = ambiguous_exception groups d.except

-- the first position
abbrev pub first_of : List Pos → Option Pos
first_of positions = slice_get positions 0

-- the groups of each target
abbrev pub groups_at_each : List Def → List Groups → List (List Group)
groups_at_each defs [] = []
groups_at_each defs (groups ∷ targets) = groups_at defs groups.lists.items ∷ groups_at_each defs targets

-- what holds of the groups of each target
abbrev pub AreGroupsOfEach : List Def → List Groups → Type 0
AreGroupsOfEach defs targets = AllHave (AreGroups defs) targets
