-- What a target of definitions comes to.
use Rattle.std.specs.Prelude.{ℕ, ◌+◌, nat_eq, ◌&&◌, Bool, true, false, List, [], ◌∷◌, length, map, Option, Some, None}
use Rattle.std.specs.Prelude.{Ok, Err, slice_get, if◌then◌else◌}
use Rattle.cat_pos.specs.declared.pos.Pos.{Pos}
use Rattle.cat_value.specs.declared.value.Value.{Value}
use Rattle.cat_value.specs.declared.value.Value.TheVariants.{Boolean}
use Rattle.cat_value.specs.declared.outcome.Target.{Target}
use Rattle.cat_scope.specs.declared.stop.Stop.TheVariants.{NoValue, Stuck}
use Rattle.cat_scope.specs.declared.expr.Expr.{Expr}
use Rattle.cat_scope.specs.declared.defs.Def.{Def}
use Rattle.cat_scope.specs.Replies.{Reply}
use Rattle.cat_scope.specs.Runs.{Run, gives, stops, and_then, choose}
use Rattle.cat_scope.specs.Groups.{Numbered, Group, groups_of, roots_of, excepts}
use Rattle.cat_scope.specs.Judging.{Held, Judged, settle, judge}

-- two inner items are the same, or there is none in both
abbrev pub same_inner : Option ℕ → Option ℕ → Bool
same_inner None None = true
same_inner (Some n) (Some m) = nat_eq n m
same_inner _ _ = false

-- two targets of one scope are the same
abbrev pub same_target : Target → Target → Bool
same_target p q = nat_eq p.item q.item && same_inner p.inner q.inner

-- the definitions of a target, in source order, with their numbers from n on
abbrev pub defs_from : Target → ℕ → List Def → List Numbered
defs_from target n [] = []
defs_from target n (d ∷ ds) =
    if same_target d.target target
    then (n, d) ∷ defs_from target (n + 1) ds
    else defs_from target (n + 1) ds

-- a condition is true where there is none
abbrev pub condition_of : (Expr → Run Value) → Option Expr → Run Value
condition_of value None = gives (Boolean true)
condition_of value (Some e) = value e

-- a definition that holds, with what it gives
abbrev pub held_as : Numbered → Value → Held Value
held_as d v = record { number = d.0; pos = d.1.pos; value = v }

-- a definition: its condition and, where that is true, at once its consequence
abbrev pub judge_def : (Expr → Run Value) → Numbered → Judged Value
judge_def value d =
    and_then (condition_of value d.1.condition)
    (λ t. choose t (and_then (value d.1.consequence) (λ v. gives (Some (held_as d v)))) (gives None))

-- a group's own definitions, where each definition comes to something
abbrev pub own_by : {A : Type 0} → (Numbered → Judged A) → Target → Option Group → Judged A
own_by each target None = stops Stuck
own_by each target (Some group) = settle target (map each group.defs)

-- a target is judged as the list of its roots
abbrev pub groups_by : {A : Type 0} → (Numbered → Judged A) → Target → List Group → Judged A
groups_by each target groups =
    settle target
    (map (judge target (excepts groups) (λ g. own_by each target (slice_get groups g)) (length groups))
    (roots_of groups))

-- all groups of a target, each definition by its condition and its consequence
abbrev pub judge_groups : (Expr → Run Value) → Target → List Group → Judged Value
judge_groups value target groups = groups_by (judge_def value) target groups

-- a target, by the definitions of its scope
unfoldable pub judge_target : (Expr → Run Value) → Target → List Def → Judged Value
judge_target value target defs = judge_groups value target (groups_of (defs_from target 0 defs))

-- in place of a value where no definition holds: false for a condition, else NoValue at a position
abbrev pub absent : Target → Pos → Bool → Reply
absent target pos true = Ok (Boolean false)
absent target pos false = Err (NoValue target pos)

-- the value of a target, by what holds there
abbrev pub value_or : Reply → Option (Held Value) → Reply
value_or other (Some h) = Ok h.value
value_or other None = other
