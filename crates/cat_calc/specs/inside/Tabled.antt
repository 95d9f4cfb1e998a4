-- The targets of a forest, by item and inner item.
use Rattle.std.specs.Prelude.{◌≡◌, ◌<◌, ◌&&◌, ◌||◌, ℕ, nat_eq, Bool, true, false, List, [], ◌∷◌, length, Option}
use Rattle.std.specs.Prelude.{Some, None, slice_get}
use Rattle.std.specs.Option.{option_eq}
use Rattle.indexmap.specs.IndexMap.{IndexMap, get}
use Rattle.cat_pos.specs.declared.limits.TheConstants.{ENTRIES_BOUND}
use Rattle.cat_scope.specs.declared.defs.Def.{Def}
use Rattle.cat_scope.specs.declared.forest.ForestTarget.{ForestTarget}
use Rattle.cat_scope.specs.Names.{AllHave}
use Rattle.cat_scope.specs.Targets.{same_target}
use Rattle.cat_scope.specs.Forests.{forest_of_groups}
use Rattle.cat_calc.specs.inside.Numbered.{groups_in}
use Rattle.cat_calc.specs.inside.Terms.{HasLowGroups}
use Rattle.cat_calc.specs.inside.Items.{target_at}

-- an item, and the inner item of the scope that it calls
abbrev pub TargetKey : Type 0
TargetKey = ℕ × Option ℕ

-- two keys are the same
abbrev pub same_key : TargetKey → TargetKey → Bool
same_key p q = nat_eq p.0 q.0 && option_eq nat_eq p.1 q.1

-- a target is one of that item and inner item
abbrev pub is_at : ForestTarget → ℕ → Option ℕ → Bool
is_at target item inner = same_target target.target (target_at item inner)

-- one of some targets is
abbrev pub is_any_at : List ForestTarget → ℕ → Option ℕ → Bool
is_any_at [] item inner = false
is_any_at (target ∷ targets) item inner = is_at target item inner || is_any_at targets item inner

-- there is a target, and it is one of that item and inner item
abbrev pub IsAt : Option ForestTarget → ℕ → Option ℕ → Type 0
IsAt None item inner = ⊥
IsAt (Some target) item inner = is_at target item inner ≡ true

-- the number of such a target, or none where none is
abbrev pub IsFound : List ForestTarget → ℕ → Option ℕ → Option ℕ → Type 0
IsFound targets item inner None = is_any_at targets item inner ≡ false
IsFound targets item inner (Some n) = IsAt (slice_get targets n) item inner

-- a table tells where each target stands
abbrev pub IsTableOf : {S : Type 0} → List ForestTarget → IndexMap TargetKey ℕ S → Type 0
IsTableOf targets table =
    (item : ℕ) (inner : Option ℕ) → IsFound targets item inner (get same_key table (item, inner))

-- a target of a forest stands for the labels of its definitions
pub record IsForestOf (defs : List Def) (target : ForestTarget) : Type 0 where
  pub few : length target.groups < ENTRIES_BOUND
  pub groups : target.groups ≡ forest_of_groups (groups_in defs target.target)
  pub low : HasLowGroups (groups_in defs target.target)

-- the targets of some definitions: each definition is one of a target that is listed
pub record AreTargetsOf (defs : List Def) (targets : List ForestTarget) : Type 0 where
  pub each : AllHave (IsForestOf defs) targets
  pub others : (item : ℕ) (inner : Option ℕ) → is_any_at targets item inner ≡ false
      → groups_in defs (target_at item inner) ≡ []
