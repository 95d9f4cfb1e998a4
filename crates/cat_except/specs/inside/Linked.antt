-- Targets whose groups stand in an order, as the code has them.
use Rattle.std.specs.Prelude.{◌≡◌, ◌<◌, ℕ, ◌+◌, List, [], ◌∷◌, length, Option, slice_index_or}
use Rattle.cat_pos.specs.declared.pos.Pos.{Pos}
use Rattle.cat_pos.specs.declared.limits.TheConstants.{ENTRIES_BOUND}
use Rattle.cat_value.specs.declared.outcome.Target.{Target}
use Rattle.cat_order.specs.Order.{AreItems, IsOrder}
use Rattle.cat_scope.specs.declared.defs.Def.{Def}
use Rattle.cat_scope.specs.declared.forest.ForestGroup.{ForestGroup}
use Rattle.cat_scope.specs.declared.forest.ForestTarget.{ForestTarget}
use Rattle.cat_scope.specs.Names.{AllHave}
use Rattle.cat_scope.specs.Groups.{Group, excepting}
use Rattle.cat_scope.specs.Forests.{forest_of_groups}
use Rattle.cat_scope.specs.Chains.{HasNoCycle, HasShortChains}
use Rattle.cat_except.specs.declared.refusal.ExceptRefusal.{ExceptRefusal}
use Rattle.cat_except.specs.declared.refusal.ExceptRefusal.TheVariants as refusal
use Rattle.cat_except.specs.declared.groups.Groups.{Groups}
use Rattle.cat_except.specs.declared.linked.Linked.{Linked}
use Rattle.cat_except.specs.Excepted.{exception_word}
use Rattle.cat_except.specs.inside.Grouping.{defs_at, group_by, groups_at, ArePlaced}
use Rattle.cat_except.specs.inside.Linking.{targets_from, lists_of}

-- the word `exception` of a group
abbrev pub word_at : List Def → List (List ℕ) → ℕ → Option Pos
word_at defs lists g = exception_word (group_by (defs_at defs (slice_index_or lists g []))).except

-- the groups of a target, what each excepts, and their order
pub record IsLinked (defs : List Def) (linked : Linked) : Type 0 where
  pub excepted : linked.excepted.items
      ≡ targets_from (groups_at defs linked.lists.items) (groups_at defs linked.lists.items)
  pub items : AreItems (lists_of linked.excepted.items)
  pub order : IsOrder (lists_of linked.excepted.items) linked.order
  pub acyclic : HasNoCycle (lists_of linked.excepted.items)
  pub placed : ArePlaced defs linked.lists.items
  pub few : length linked.lists.items < ENTRIES_BOUND

-- the groups of each target
abbrev pub linked_groups : List Def → List Linked → List (List Group)
linked_groups defs [] = []
linked_groups defs (l ∷ ls) = groups_at defs l.lists.items ∷ linked_groups defs ls

-- the targets that are linked
abbrev pub linked_targets : List Linked → List Target
linked_targets [] = []
linked_targets (l ∷ ls) = l.target ∷ linked_targets ls

-- the targets that have groups
abbrev pub group_targets : List Groups → List Target
group_targets [] = []
group_targets (g ∷ gs) = g.target ∷ group_targets gs

-- a refusal for a cycle in groups, or in those of some target
abbrev pub IsCycleIn : (Pos → Type 0) → ExceptRefusal → Type 0
IsCycleIn Stands (refusal.ExceptionCycle p) = Stands p
IsCycleIn Stands refusal.Memory = Unit {0}
IsCycleIn Stands _ = ⊥

-- a refusal for a chain
abbrev pub IsLimitIn : (Pos → Type 0) → ExceptRefusal → Type 0
IsLimitIn Stands (refusal.TooMany p) = Stands p
IsLimitIn Stands refusal.Memory = Unit {0}
IsLimitIn Stands _ = ⊥

-- no chain of a target is too long
abbrev pub AreShort : List Linked → Type 0
AreShort targets = AllHave (λ (l : Linked). HasShortChains (lists_of l.excepted.items)) targets

-- the forest of targets
abbrev pub forest_at : List Def → List Linked → List ForestTarget
forest_at defs [] = []
forest_at defs (l ∷ ls) =
    record { target = l.target; groups = forest_of_groups (groups_at defs l.lists.items) } ∷ forest_at defs ls

-- the groups that no group excepts yet
abbrev pub bare_groups : List (List ℕ) → List ForestGroup
bare_groups [] = []
bare_groups (list ∷ lists) = record { defs = list; excepted_by = [] } ∷ bare_groups lists

-- the groups from number n on with those that except them by some pairs
abbrev pub with_pairs : List (ℕ × ℕ) → ℕ → List (List ℕ) → List ForestGroup
with_pairs pairs n [] = []
with_pairs pairs n (list ∷ lists) = record { defs = list; excepted_by = excepting pairs n } ∷ with_pairs pairs (n + 1)
    lists
