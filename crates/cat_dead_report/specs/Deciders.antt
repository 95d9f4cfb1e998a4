-- Deciders of a run that are of a target and of a definition that stands at a position.
use Rattle.std.specs.Prelude.{nat_eq, Bool, false, ◌&&◌, List, Option, None, Some}
use Rattle.std.specs.List.{list_any}
use Rattle.cat_pos.specs.declared.pos.Pos.{Pos}
use Rattle.cat_value.specs.declared.outcome.Target.{Target}
use Rattle.cat_scope.specs.Runs.{Decider}
use Rattle.cat_scope.specs.Targets.{same_target}
use Rattle.cat_dead.specs.Winners.{is_same}

-- two targets are one
abbrev pub is_target : Target → Target → Bool
is_target t u = nat_eq t.scope u.scope && same_target t u

-- a definition stands there, if there is one
abbrev pub stands_at : Pos → Option Pos → Bool
stands_at p None = false
stands_at p (Some q) = is_same p q

-- a decider is of that target, and of a definition that stands there
abbrev pub is_by : Target → Pos → Decider → Bool
is_by target p d = is_target target d.target && stands_at p d.by

-- one of some deciders is
abbrev pub has_decider : Target → Pos → List Decider → Bool
has_decider target p ds = list_any (is_by target p) ds
