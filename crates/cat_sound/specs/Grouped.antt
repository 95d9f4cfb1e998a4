-- How definitions are parted into groups, and in which order a conflict names them.
use Rattle.std.specs.Prelude.{◌≡◌, ◌⊎◌, ◌<◌, ◌≤◌, ℕ, true, false, List, [], ◌∷◌, map, length, Option, Some, slice_get}
use Rattle.cat_value.specs.declared.value.Value.{Value}
use Rattle.cat_value.specs.declared.outcome.Target.{Target}
use Rattle.cat_scope.specs.Names.{AllHave, IsOneOf}
use Rattle.cat_scope.specs.Groups.{Numbered, Group, groups_of, key_of, same_key, with_key, excepts, excepting}
use Rattle.cat_scope.specs.Judging.{Held, Judged, judge, settle, or_else}

-- the first list is the second without some of its entries
abbrev pub IsPartOf : {A : Type 0} → List A → List A → Type 0
IsPartOf [] ys = Unit {0}
IsPartOf (x ∷ xs) [] = ⊥
IsPartOf (x ∷ xs) (y ∷ ys) = ((x ≡ y) × IsPartOf xs ys) ⊎ IsPartOf (x ∷ xs) ys

-- no two groups have one key
abbrev pub AreApart : List Group → Type 0
AreApart [] = Unit {0}
AreApart (g ∷ gs) = AllHave (λ (h : Group). same_key h.key g.key ≡ false) gs × AreApart gs

-- a definition is in a group by its key
abbrev pub IsGrouped : List Group → Numbered → Type 0
IsGrouped groups d = (g : Group) × IsOneOf g groups × (same_key (key_of d) g.key ≡ true)

-- the first definition of a group
abbrev pub first_of : Group → Option Numbered
first_of g = slice_get g.defs 0

-- each definition is in the one group of its key, a group has its definitions in their order, and the first ones of the
-- groups stand in theirs
pub record AreParted (defs : List Numbered) : Type 0 where
  pub each : AllHave (λ (g : Group). g.defs ≡ with_key g.key defs) (groups_of defs)
  pub grouped : (d : Numbered) → IsOneOf d defs → IsGrouped (groups_of defs) d
  pub apart : AreApart (groups_of defs)
  pub first : IsPartOf (map first_of (groups_of defs)) (map Some defs)

-- the numbers of definitions
abbrev pub numbers_held : List (Held Value) → List ℕ
numbers_held [] = []
numbers_held (h ∷ hs) = h.number ∷ numbers_held hs

-- no number is below one that stands before it
abbrev pub AreRising : List ℕ → Type 0
AreRising [] = Unit {0}
AreRising (n ∷ ns) = AllHave (λ m. n ≤ m) ns × AreRising ns

-- each group of a target is judged as the list of the groups that except it and, where that is Empty, by its own
-- definitions
abbrev pub AreJudgedByRule : Target → List Group → Type 0
AreJudgedByRule target groups =
    (own : ℕ → Judged Value) (group : ℕ) → group < length groups
    → judge target (excepts groups) own (length groups) group
    ≡ or_else
    (settle target (map (judge target (excepts groups) own (length groups)) (excepting (excepts groups) group)))
    (own group)
