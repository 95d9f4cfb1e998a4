-- Groups of a target by the places of their definitions, as the code makes them.
use Rattle.std.specs.Prelude.{◌<◌, ℕ, ◌+◌, nat_eq, List, [], ◌∷◌, map}
use Rattle.std.specs.Prelude.{if◌then◌else◌}
use Rattle.cat_scope.specs.declared.forest.ForestGroup.{ForestGroup}
use Rattle.cat_scope.specs.Names.{AllHave}
use Rattle.cat_guard.specs.declared.guard.GuardGroup.{GuardGroup}

-- each number is less than those behind it
abbrev pub Ascend : List ℕ → Type 0
Ascend [] = Unit {0}
Ascend (n ∷ ns) = AllHave (λ m. n < m) ns × Ascend ns

-- where a number stands among some
abbrev pub place_in : ℕ → List ℕ → ℕ
place_in n [] = 0
place_in n (m ∷ ms) = if nat_eq m n then 0 else 1 + place_in n ms

-- a group by the places of its definitions among those of its target
abbrev pub group_by_places : List ℕ → ForestGroup → GuardGroup
group_by_places numbers g =
    record { defs = map (λ n. place_in n numbers) g.defs; excepted_by = g.excepted_by }
