-- Groups by the places of their definitions among those of their target.
use Rattle.std.proofs.Common.{◌≡◌, ℕ, zero, suc, ◌+◌, ◌<◌, ◌≤◌, nat_eq, nat_lt, Bool, true, false, List, []}
use Rattle.std.proofs.Common.{◌∷◌, ◌++◌, map, length, take}
use Rattle.std.proofs.Common.{get_or, refl, sym, ap, ◌∙◌, arith, if◌then◌else◌}
use Rattle.std.proofs.lemmas.Bool.Decides.{nat_tests}
use Rattle.std.proofs.lemmas.List.{take_more}
use Rattle.cat_value.specs.declared.outcome.Target.{Target}
use Rattle.cat_scope.specs.declared.defs.Def.{Def}
use Rattle.cat_scope.specs.declared.forest.ForestGroup.{ForestGroup}
use Rattle.cat_scope.specs.Names.{AllHave}
use Rattle.cat_scope.specs.Groups.{Numbered, Group, excepting}
use Rattle.cat_scope.specs.Targets.{same_target, defs_from}
use Rattle.cat_scope.specs.Forests.{definition_numbers, forest_groups}
use Rattle.cat_guard.specs.declared.guard.GuardGroup.{GuardGroup}
use Rattle.cat_guard.specs.Tables.{place_of, guard_groups}
use Rattle.cat_audit_table.specs.inside.Placed.{Ascend, place_in, group_by_places}

-- ---- numbers that ascend

above_from : (target : Target) (n m : ℕ) (defs : List Def) → n ≤ m
    → AllHave (λ k. n ≤ k) (definition_numbers (defs_from target m defs))
above_from target n m [] h = tt
above_from target n m (d ∷ defs) h =
    by (same_target d.target target) (above_from target n (m + 1) defs (omega (arith, h)))
  where
    by : (b : Bool) → AllHave (λ k. n ≤ k) (definition_numbers (defs_from target (m + 1) defs))
        → AllHave (λ k. n ≤ k)
        (definition_numbers (if b then (m, d) ∷ defs_from target (m + 1) defs else defs_from target (m + 1) defs))
    by true rest = (h, rest)
    by false rest = rest

all_lt : (n : ℕ) (ns : List ℕ) → AllHave (λ k. n + 1 ≤ k) ns → AllHave (λ k. n < k) ns
all_lt n [] h = tt
all_lt n (m ∷ ms) h = (less h.0, all_lt n ms h.1)
  where
    less : n + 1 ≤ m → n < m
    less h = omega (arith, h)

ascend_from : (target : Target) (n : ℕ) (defs : List Def) → Ascend (definition_numbers (defs_from target n defs))
ascend_from target n [] = tt
ascend_from target n (d ∷ defs) = by (same_target d.target target) (ascend_from target (n + 1) defs)
  where
    by : (b : Bool) → Ascend (definition_numbers (defs_from target (n + 1) defs))
        → Ascend (definition_numbers
        (if b then (n, d) ∷ defs_from target (n + 1) defs else defs_from target (n + 1) defs))
    by true rest = (
      all_lt n (definition_numbers (defs_from target (n + 1) defs))
          (above_from target (n + 1) (n + 1) defs (omega arith)),
      rest,
    )
    by false rest = rest

pub numbers_ascend : (target : Target) (defs : List Def) → Ascend (definition_numbers (defs_from target 0 defs))
numbers_ascend target defs = ascend_from target 0 defs

all_at : (n : ℕ) (ns : List ℕ) → AllHave (λ k. n < k) ns → (i : ℕ) → i < length ns → n < get_or ns i 0
all_at n [] h i within = absurd (omega (arith, within))
all_at n (m ∷ ms) h zero within = h.0
all_at n (m ∷ ms) h (suc i) within = all_at n ms h.1 i (omega (arith, within))

pub ascend_at : (ns : List ℕ) → Ascend ns → (i j : ℕ) → i ≤ j → j < length ns → get_or ns i 0 ≤ get_or ns j 0
ascend_at [] a i j le within = absurd (omega (arith, within))
ascend_at (n ∷ ns) a zero zero le within = omega arith
ascend_at (n ∷ ns) a zero (suc j) le within = less (all_at n ns a.0 j (omega (arith, within)))
  where
    less : n < get_or ns j 0 → n ≤ get_or ns j 0
    less h = omega (arith, h)
ascend_at (n ∷ ns) a (suc i) zero le within = absurd (omega (arith, le))
ascend_at (n ∷ ns) a (suc i) (suc j) le within = ascend_at ns a.1 i j (omega (arith, le)) (omega (arith, within))

-- ---- places

pub place_found : (ns : List ℕ) → Ascend ns → (i n : ℕ) → i < length ns → get_or ns i 0 ≡ n → place_in n ns ≡ i
place_found [] a i n within is = absurd (omega (arith, within))
place_found (m ∷ ms) a zero n within is = ap (λ (b : Bool). if b then 0 else 1 + place_in n ms) (same m n is)
  where
    same : (m n : ℕ) → m ≡ n → nat_eq m n ≡ true
    same m n h = grind (arith, nat_tests)
place_found (m ∷ ms) a (suc i) n within is =
    ap (λ (b : Bool). if b then 0 else 1 + place_in n ms)
    (other m n (get_or ms i 0) (all_at m ms a.0 i (omega (arith, within))) is)
    ∙ ap (λ (k : ℕ). 1 + k) (place_found ms a.1 i n (omega (arith, within)) is) ∙ one_plus i
  where
    other : (m n k : ℕ) → m < k → k ≡ n → nat_eq m n ≡ false
    other m n k h e = grind (arith, nat_tests)

    one_plus : (k : ℕ) → 1 + k ≡ suc k
    one_plus k = omega arith

pub place_none : (ns : List ℕ) (n : ℕ) → ((k : ℕ) → k < length ns → get_or ns k 0 ≡ n → ⊥)
    → place_in n ns ≡ length ns
place_none [] n none = refl
place_none (m ∷ ms) n none =
    by (nat_eq m n) refl (place_none ms n (λ k within is. none (suc k) (omega (arith, within)) is))
  where
    same : (m n : ℕ) → nat_eq m n ≡ true → m ≡ n
    same m n h = grind (arith, nat_tests)

    by : (b : Bool) → nat_eq m n ≡ b → place_in n ms ≡ length ms
        → (if b then 0 else 1 + place_in n ms) ≡ suc (length ms)
    by true e rest = absurd (none 0 (omega arith) (same m n e))
    by false e rest = omega (arith, rest)

pub none_between : (ns : List ℕ) (n i : ℕ) → ((k : ℕ) → k < i → get_or ns k 0 < n)
    → ((k : ℕ) → i ≤ k → k < length ns → n < get_or ns k 0) → place_in n ns ≡ length ns
none_between ns n i low high = place_none ns n (λ k within is. by k within is (nat_lt k i) refl)
  where
    lt_is : (k i : ℕ) → nat_lt k i ≡ true → k < i
    lt_is k i h = grind (arith, nat_tests)

    le_is : (k i : ℕ) → nat_lt k i ≡ false → i ≤ k
    le_is k i h = grind (arith, nat_tests)

    by : (k : ℕ) → k < length ns → get_or ns k 0 ≡ n → (b : Bool) → nat_lt k i ≡ b → ⊥
    by k within is true e = absurd (omega (arith, is, low k (lt_is k i e)))
    by k within is false e = absurd (omega (arith, is, high k (le_is k i e) within))

place_is : (n : ℕ) (ds : List Numbered) → place_in n (definition_numbers ds) ≡ place_of n ds
place_is n [] = refl
place_is n (d ∷ ds) = ap (λ (k : ℕ). if nat_eq d.0 n then 0 else 1 + k) (place_is n ds)

places_are : (all ds : List Numbered)
    → map (λ n. place_in n (definition_numbers all)) (definition_numbers ds) ≡ map (λ d. place_of d.0 all) ds
places_are all [] = refl
places_are all (d ∷ ds) =
    ap (λ (k : ℕ). k ∷ map (λ n. place_in n (definition_numbers all)) (definition_numbers ds)) (place_is d.0 all)
    ∙ ap (λ (ks : List ℕ). place_of d.0 all ∷ ks) (places_are all ds)

abbrev the_group : List ℕ → List ℕ → GuardGroup
the_group defs excepted_by = record { defs = defs; excepted_by = excepted_by }

-- the groups of a forest, by places
pub groups_placed : (all : List Numbered) (pairs : List (ℕ × ℕ)) (n : ℕ) (gs : List Group)
    → map (group_by_places (definition_numbers all)) (forest_groups pairs n gs) ≡ guard_groups all pairs n gs
groups_placed all pairs n [] = refl
groups_placed all pairs n (g ∷ gs) =
    ap (λ (ks : List ℕ). the_group ks (excepting pairs n)
    ∷ map (group_by_places (definition_numbers all)) (forest_groups pairs (n + 1) gs)) (places_are all g.defs)
    ∙ ap (λ (rest : List GuardGroup). the_group (map (λ d. place_of d.0 all) g.defs) (excepting pairs n) ∷ rest)
    (groups_placed all pairs (n + 1) gs)

-- one group more
pub group_more : (numbers : List ℕ) (groups : List ForestGroup) (i : ℕ) (g : ForestGroup) (made now : List GuardGroup)
    (defs excepted_by : List ℕ) → i < length groups → g ≡ get_or groups i g
    → defs ≡ map (λ n. place_in n numbers) g.defs → excepted_by ≡ g.excepted_by
    → made ≡ map (group_by_places numbers) (take i groups) → now ≡ made ++ the_group defs excepted_by ∷ []
    → now ≡ map (group_by_places numbers) (take (i + 1) groups)
group_more numbers groups i g made now defs excepted_by within at defs_are excepted_is before pushed =
    pushed ∙ ap (λ (gs : List GuardGroup). gs ++ the_group defs excepted_by ∷ []) before
    ∙ ap (λ (x : GuardGroup). map (group_by_places numbers) (take i groups) ++ x ∷ [])
    (ap (λ (ds : List ℕ). the_group ds excepted_by) defs_are
    ∙ ap (the_group (map (λ n. place_in n numbers) g.defs)) excepted_is)
    ∙ sym (pushed_map (take i groups) g)
    ∙ ap (λ (x : ForestGroup). map (group_by_places numbers) (take i groups ++ x ∷ [])) at
    ∙ ap (map (group_by_places numbers)) (sym (take_more groups i g within))
  where
    pushed_map : (gs : List ForestGroup) (x : ForestGroup) → map (group_by_places numbers) (gs ++ x ∷ [])
        ≡ map (group_by_places numbers) gs ++ group_by_places numbers x ∷ []
    pushed_map [] x = refl
    pushed_map (y ∷ gs) x = ap (λ (zs : List GuardGroup). group_by_places numbers y ∷ zs) (pushed_map gs x)
