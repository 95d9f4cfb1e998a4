-- Groups by the numbers of their definitions, as the code has them.
use Rattle.std.specs.Prelude.{◌≡◌, ◌<◌, ◌≤◌, ℕ, false, List, [], ◌∷◌, length, Option, Some, None, slice_get}
use Rattle.cat_scope.specs.declared.defs.Except.TheVariants.{No}
use Rattle.cat_scope.specs.declared.defs.Def.{Def}
use Rattle.cat_scope.specs.Names.{AllHave}
use Rattle.cat_scope.specs.Groups.{Numbered, Base, Group, key_of, same_key, groups_of, roots_of, only}
use Rattle.cat_scope.specs.Groups.{group_numbers, is_none}
use Rattle.cat_pos.specs.declared.limits.TheConstants.{ENTRIES_BOUND}
use Rattle.cat_except.specs.declared.group_key.GroupKey.{GroupKey}
use Rattle.cat_except.specs.declared.groups.Groups.{Groups}
use Rattle.cat_except.specs.inside.Keys.{coded_key}

-- a definition of that number in front, where there is one
abbrev pub numbered : ℕ → Option Def → List Numbered → List Numbered
numbered n None ds = ds
numbered n (Some d) ds = (n, d) ∷ ds

-- the definitions of some numbers
abbrev pub defs_at : List Def → List ℕ → List Numbered
defs_at defs [] = []
defs_at defs (n ∷ ns) = numbered n (slice_get defs n) (defs_at defs ns)

-- the group of some definitions
abbrev pub group_by : List Numbered → Group
group_by [] = record { key = Base; except = No; defs = [] }
group_by (d ∷ ds) = record { key = key_of d; except = d.1.except; defs = d ∷ ds }

-- the groups of lists of numbers
abbrev pub groups_at : List Def → List (List ℕ) → List Group
groups_at defs [] = []
groups_at defs (list ∷ lists) = group_by (defs_at defs list) ∷ groups_at defs lists

-- the keys of groups as the code has them
abbrev pub coded_keys : List Group → List GroupKey
coded_keys [] = []
coded_keys (g ∷ gs) = coded_key g.key ∷ coded_keys gs

-- each list has a number, and numbers of definitions alone
abbrev pub ArePlaced : List Def → List (List ℕ) → Type 0
ArePlaced defs lists = AllHave (λ list. (0 < length list) × AllHave (λ n. n < length defs) list) lists

-- no two groups have one key
abbrev pub AreApart : List Group → Type 0
AreApart [] = Unit {0}
AreApart (g ∷ gs) = AllHave (λ (h : Group). same_key h.key g.key ≡ false) gs × AreApart gs

-- keys and lists are those of the groups of the definitions of some numbers
pub record AreParted (defs : List Def) (numbers : List ℕ) (keys : List GroupKey) (lists : List (List ℕ)) : Type 0 where
  pub groups : groups_at defs lists ≡ groups_of (defs_at defs numbers)
  pub keys_are : keys ≡ coded_keys (groups_at defs lists)
  pub apart : AreApart (groups_at defs lists)
  pub placed : ArePlaced defs lists
  pub counted : length keys ≡ length lists
  pub few : length lists ≤ length numbers

-- the groups from number n on that are no exceptions
abbrev pub roots_from : ℕ → List Group → List ℕ
roots_from n groups = group_numbers (λ g. is_none g.except) n groups

-- groups with their keys and their only root
pub record AreGroups (defs : List Def) (groups : Groups) : Type 0 where
  pub keys_are : groups.keys.keys ≡ coded_keys (groups_at defs groups.lists.items)
  pub apart : AreApart (groups_at defs groups.lists.items)
  pub placed : ArePlaced defs groups.lists.items
  pub root : groups.only_root ≡ only (roots_of (groups_at defs groups.lists.items))
  pub few_keys : length groups.keys.keys < ENTRIES_BOUND
  pub few : length groups.lists.items < ENTRIES_BOUND
