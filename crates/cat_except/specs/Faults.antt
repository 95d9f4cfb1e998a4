-- Where labels and exceptions of a scope's definitions are at fault.
use Rattle.std.specs.Prelude.{ℕ, ◌++◌, Bool, true, false, bytes_eq, List, [], ◌∷◌, Option, Some, None, slice_get}
use Rattle.std.specs.Prelude.{if◌then◌else◌}
use Rattle.cat_pos.specs.declared.pos.Pos.{Pos}
use Rattle.cat_value.specs.declared.outcome.Target.{Target}
use Rattle.cat_scope.specs.declared.defs.Label.{Label}
use Rattle.cat_scope.specs.declared.defs.Except.{Except}
use Rattle.cat_scope.specs.declared.defs.Except.TheVariants as except
use Rattle.cat_scope.specs.declared.defs.Def.{Def}
use Rattle.cat_scope.specs.declared.defs.Body.{Body}
use Rattle.cat_scope.specs.declared.programs.Program.{Program}
use Rattle.cat_scope.specs.Names.{scope_items}
use Rattle.cat_scope.specs.Groups.{Numbered, Group, groups_of, target_of}
use Rattle.cat_scope.specs.Targets.{defs_from}
use Rattle.cat_scope.specs.Forests.{targets_of}

-- the groups of each target
abbrev pub groups_of_each : List Def → List Target → List (List Group)
groups_of_each defs [] = []
groups_of_each defs (target ∷ targets) = groups_of (defs_from target 0 defs) ∷ groups_of_each defs targets

-- the groups of each target of a scope with a body, in the evaluation order
abbrev pub groups_in_body : Program → ℕ → Option Body → List (List Group)
groups_in_body program scope None = []
groups_in_body program scope (Some body) =
    groups_of_each body.defs (targets_of program.decls scope (scope_items program.decls scope) body.order)

-- the groups of each target of the scope of that number
abbrev pub groups_in : Program → ℕ → List (List Group)
groups_in program scope = groups_in_body program scope (slice_get program.bodies scope)

-- a position at which something is missing
abbrev pub where_missing : {A : Type 0} → Option A → Pos → Option Pos
where_missing None p = Some p
where_missing (Some x) p = None

-- the word after `exception`, where no definition of the target has the label
abbrev pub unknown_label : List Group → Except → Option Pos
unknown_label groups except.No = None
unknown_label groups (except.OnlyRoot pos) = None
unknown_label groups (except.Named pos label) = where_missing (target_of groups (except.Named pos label)) label.pos

-- the bare `exception` of a target that hasn't exactly one root
abbrev pub ambiguous_exception : List Group → Except → Option Pos
ambiguous_exception groups except.No = None
ambiguous_exception groups (except.OnlyRoot pos) = where_missing (target_of groups (except.OnlyRoot pos)) pos
ambiguous_exception groups (except.Named pos label) = None

-- exception parts that are written alike: none, bare, or with one label
abbrev pub are_alike : Except → Except → Bool
are_alike except.No except.No = true
are_alike (except.OnlyRoot p) (except.OnlyRoot q) = true
are_alike (except.Named p l) (except.Named q m) = bytes_eq l.text m.text
are_alike _ _ = false

-- the label word of a definition, where the exception part differs from that of the first one with its label
abbrev pub split_label : Except → Option Label → Except → Option Pos
split_label first None e = None
split_label first (Some label) e = if are_alike first e then None else Some label.pos

-- a kind of fault: where it stands at a definition of a group among the groups of its target
abbrev pub Kind : Type 0
Kind = List Group → Group → Def → Option Pos

-- a position in front, where there is one
abbrev pub in_front : Option Pos → List Pos → List Pos
in_front None positions = positions
in_front (Some p) positions = p ∷ positions

-- where a fault of a kind stands at definitions of a group, at those of groups of a target, and at those of all targets
abbrev pub in_defs : Kind → List Group → Group → List Numbered → List Pos
in_defs kind groups g [] = []
in_defs kind groups g (d ∷ ds) = in_front (kind groups g d.1) (in_defs kind groups g ds)

-- the positions that a check finds in the definitions of some groups of one target
abbrev pub in_groups : Kind → List Group → List Group → List Pos
in_groups kind groups [] = []
in_groups kind groups (g ∷ gs) = in_defs kind groups g g.defs ++ in_groups kind groups gs

-- and in the groups of each target
abbrev pub in_targets : Kind → List (List Group) → List Pos
in_targets kind [] = []
in_targets kind (groups ∷ targets) = in_groups kind groups groups ++ in_targets kind targets

-- the words after `exception` that are no label of their target
abbrev pub unknown_labels : List (List Group) → List Pos
unknown_labels targets = in_targets (λ groups g d. unknown_label groups d.except) targets

-- the label words of definitions whose exception parts aren't those of their groups
abbrev pub split_labels : List (List Group) → List Pos
split_labels targets = in_targets (λ groups g d. split_label g.except d.label d.except) targets

-- the bare `exception`s of targets that haven't exactly one root
abbrev pub ambiguous_exceptions : List (List Group) → List Pos
ambiguous_exceptions targets = in_targets (λ groups g d. ambiguous_exception groups d.except) targets
