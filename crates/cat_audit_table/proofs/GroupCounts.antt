-- How many groups a target has.
use Rattle.std.proofs.Common.{◌≡◌, ℕ, ◌+◌, ◌≤◌, Bool, List, [], ◌∷◌, length, refl}
use Rattle.std.proofs.Common.{arith, true, false, if◌then◌else◌}
use Rattle.cat_value.specs.declared.outcome.Target.{Target}
use Rattle.cat_scope.specs.declared.defs.Def.{Def}
use Rattle.cat_scope.specs.Groups.{Numbered, Key, Group, key_of, is_among, group_at, groups_from, groups_of, excepts}
use Rattle.cat_scope.specs.Targets.{defs_from}
use Rattle.cat_scope.specs.Forests.{definition_numbers, forest_groups, forest_of_groups}
use Rattle.cat_except.proofs.Exported.{few_numbers}

groups_few : (all : List Numbered) (seen : List Key) (ds : List Numbered) → length (groups_from all seen ds) ≤ length ds
groups_few all seen [] = omega arith
groups_few all seen (d ∷ ds) =
    by (is_among (key_of d) seen) (groups_few all seen ds) (groups_few all (key_of d ∷ seen) ds)
  where
    by : (b : Bool) → length (groups_from all seen ds) ≤ length ds
        → length (groups_from all (key_of d ∷ seen) ds) ≤ length ds
        → length (if b then groups_from all seen ds else group_at all d ∷ groups_from all (key_of d ∷ seen) ds)
        ≤ length (d ∷ ds)
    by true old new = omega (arith, old)
    by false old new = omega (arith, new)

pub forest_length : (pairs : List (ℕ × ℕ)) (n : ℕ) (gs : List Group) → length (forest_groups pairs n gs) ≡ length gs
forest_length pairs n [] = refl
forest_length pairs n (g ∷ gs) = omega (arith, forest_length pairs (n + 1) gs)

numbers_length : (ds : List Numbered) → length (definition_numbers ds) ≡ length ds
numbers_length [] = refl
numbers_length (d ∷ ds) = omega (arith, numbers_length ds)

-- a target has no more groups than its scope has definitions
pub few_groups : (defs : List Def) (target : Target)
    → length (forest_of_groups (groups_of (defs_from target 0 defs))) ≤ length defs
few_groups defs target =
    let ds = defs_from target 0 defs in
    omega (
      arith,
      forest_length (excepts (groups_of ds)) 0 (groups_of ds),
      groups_few ds [] ds,
      numbers_length ds,
      few_numbers target defs,
    )
