-- What a forest is, and that it stands for the labels of a scope's definitions.
use Rattle.std.specs.Prelude.{◌≡◌, ℕ, ◌+◌, ◌&&◌, Bool, true, List, [], ◌∷◌, ◌++◌, length, Option, Some, None, slice_get}
use Rattle.std.specs.Prelude.{if◌then◌else◌}
use Rattle.cat_value.specs.declared.decls.Decls.{Decls}
use Rattle.cat_value.specs.declared.declaration.Kind.{Kind}
use Rattle.cat_value.specs.declared.declaration.Kind.TheVariants as kind
use Rattle.cat_value.specs.declared.declaration.ItemDecl.{ItemDecl}
use Rattle.cat_value.specs.declared.outcome.Target.{Target}
use Rattle.cat_value.specs.Inputs.{must_be_given, may_be_given}
use Rattle.cat_scope.specs.declared.defs.Def.{Def}
use Rattle.cat_scope.specs.declared.defs.Body.{Body}
use Rattle.cat_scope.specs.declared.programs.Program.{Program}
use Rattle.cat_scope.specs.declared.forest.ForestGroup.{ForestGroup}
use Rattle.cat_scope.specs.declared.forest.ForestTarget.{ForestTarget}
use Rattle.cat_scope.specs.Names.{scope_items}
use Rattle.cat_scope.specs.Groups.{Numbered, Group, groups_of, excepts, excepting}
use Rattle.cat_scope.specs.Targets.{defs_from}
use Rattle.cat_scope.specs.Chains.{HasNoCycle, HasShortChains, longest_chain, are_within}

-- for each group, those that except it
abbrev pub above : List ForestGroup → List (List ℕ)
above [] = []
above (g ∷ gs) = g.excepted_by ∷ above gs

-- no group is above itself, and no chain of groups is too long
abbrev pub IsLow : ForestTarget → Type 0
IsLow target = HasNoCycle (above target.groups) × HasShortChains (above target.groups)

-- whether no chain of groups is too long; one that comes back to its first group would be
abbrev pub is_low : ForestTarget → Bool
is_low target = are_within (above target.groups) longest_chain (length target.groups)

-- whether this is so of each target
unfoldable pub are_low : List ForestTarget → Bool
are_low [] = true
are_low (target ∷ targets) = is_low target && are_low targets

-- the inputs and contexts of a scope that an item calls, from number n on
abbrev pub called_targets : ℕ → ℕ → ℕ → List ItemDecl → List Target
called_targets scope item n [] = []
called_targets scope item n (inner ∷ rest) =
    if may_be_given inner.kind
    then record { scope = scope; item = item; inner = Some n } ∷ called_targets scope item (n + 1) rest
    else called_targets scope item (n + 1) rest

-- the targets that an item stands for, by its kind
abbrev pub targets_at : Decls → ℕ → ℕ → Kind → List Target
targets_at ds scope item (kind.Called called) = called_targets scope item 0 (scope_items ds called)
targets_at ds scope item k = if must_be_given k then [] else record { scope = scope; item = item; inner = None } ∷ []

-- the targets of an item of that number
abbrev pub item_targets : Decls → ℕ → ℕ → Option ItemDecl → List Target
item_targets ds scope item None = []
item_targets ds scope item (Some decl) = targets_at ds scope item decl.kind

-- the targets of a scope, in the evaluation order: its variables that are no inputs, and for a called scope that
-- scope's inputs and contexts in the order of their declarations
abbrev pub targets_of : Decls → ℕ → List ItemDecl → List ℕ → List Target
targets_of ds scope items [] = []
targets_of ds scope items (item ∷ order) =
    item_targets ds scope item (slice_get items item) ++ targets_of ds scope items order

-- the numbers of some definitions
abbrev pub definition_numbers : List Numbered → List ℕ
definition_numbers [] = []
definition_numbers (d ∷ ds) = d.0 ∷ definition_numbers ds

-- groups from number n on, each with the numbers of its definitions and of the groups that except it
abbrev pub forest_groups : List (ℕ × ℕ) → ℕ → List Group → List ForestGroup
forest_groups pairs n [] = []
forest_groups pairs n (g ∷ gs) =
    record { defs = definition_numbers g.defs; excepted_by = excepting pairs n } ∷ forest_groups pairs (n + 1) gs

-- all groups of a target
abbrev pub forest_of_groups : List Group → List ForestGroup
forest_of_groups groups = forest_groups (excepts groups) 0 groups

-- the groups of each target
abbrev pub forest_of : List Def → List Target → List ForestTarget
forest_of defs [] = []
forest_of defs (target ∷ targets) =
    record { target = target; groups = forest_of_groups (groups_of (defs_from target 0 defs)) } ∷ forest_of defs targets

-- the program has a scope of that number, and a forest has each target of it, with its groups and what excepts what, as
-- the labels tell
abbrev pub StandsFor : Program → ℕ → List ForestTarget → Type 0
StandsFor program scope targets =
    (body : Body) × (slice_get program.bodies scope ≡ Some body)
    × (targets ≡ forest_of body.defs (targets_of program.decls scope (scope_items program.decls scope) body.order))
