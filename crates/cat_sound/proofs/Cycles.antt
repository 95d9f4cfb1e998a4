-- Where nothing leads to itself, no chain is longer than there are numbers.
use Rattle.std.proofs.Common.{◌≡◌, ℕ, zero, suc, ◌+◌, ◌<◌, ◌≤◌, true, false, eqb, List, [], ◌∷◌, ◌++◌, length, sym}
use Rattle.std.proofs.Common.{arith, subst, refl, inl, inr, true≢false}
use Rattle.std.specs.List.{IsDistinct, list_any, AllByRecursion}
use Rattle.std.proofs.Math.Logic.{⊎_elim}
use Rattle.std.proofs.lemmas.Bool.{cases_eq}
use Rattle.std.proofs.lemmas.Bool.Decides.{nat_tests}
use Rattle.std.proofs.lemmas.Map.Steps.{length-le_from_distinct_below}
use Rattle.cat_order.specs.Cycle.{DependsOn, IsPath, IsOnCycle}
use Rattle.cat_scope.specs.Names.{AllHave, IsOneOf}
use Rattle.cat_scope.specs.Chains.{HasNoCycle}

-- no chain from a number on has more than n numbers, where `next` tells which ones a number leads to
abbrev pub IsWithin : (ℕ → List ℕ) → ℕ → ℕ → Type 0
IsWithin next zero g = ⊥
IsWithin next (suc n) g = AllHave (IsWithin next n) (next g)

pub all_from : {A : Type 0} (Has : A → Type 0) (xs : List A) → ((x : A) → IsOneOf x xs → Has x) → AllHave Has xs
all_from Has [] each = tt
all_from Has (x ∷ xs) each = (each x (inl refl), all_from Has xs (λ y among. each y (inr among)))

-- a path with one more step
pub longer : (deps : List (List ℕ)) (path : List ℕ) (from via to : ℕ) → IsPath deps from path via
    → DependsOn deps via to → IsPath deps from (path ++ via ∷ []) to
longer deps [] from via to goes step = (goes, step)
longer deps (first ∷ path) from via to goes step = (goes.0, longer deps path first via to goes.1 step)

abbrev LeadsTo : List (List ℕ) → ℕ → ℕ → Type 0
LeadsTo deps to from = (path : List ℕ) × IsPath deps from path to

-- numbers that lead to one that is on no cycle are others
others : (deps : List (List ℕ)) → HasNoCycle deps → (g : ℕ) (used : List ℕ) → AllHave (LeadsTo deps g) used
    → AllByRecursion (λ y. eqb g y ≡ false) used
unfolding IsOnCycle
others deps none g [] all = tt
others deps none g (u ∷ used) all = (
  ⊎_elim (λ same. absurd (none g (subst (λ (n : ℕ). LeadsTo deps g n) (sym same) all.0)))
      (λ other. grind (arith, nat_tests)) (cases_eq g u),
  others deps none g used all.1,
)

further : (deps : List (List ℕ)) (g h : ℕ) (used : List ℕ) → DependsOn deps g h → AllHave (LeadsTo deps g) used
    → AllHave (LeadsTo deps h) used
further deps g h [] step all = tt
further deps g h (u ∷ used) step all =
    ((all.0.0 ++ g ∷ [], longer deps all.0.0 u g h all.0.1 step), further deps g h used step all.1)

below : (n q : ℕ) (xs : List ℕ) → AllHave (λ x. x < n) xs → list_any (eqb q) xs ≡ true → q < n
below n q [] all among = absurd (true≢false (sym among))
below n q (x ∷ xs) all among = ⊎_elim (λ same. subst (λ (m : ℕ). m < n) (sym same) all.0)
    (λ other. below n q xs all.1 (grind (arith, nat_tests))) (cases_eq q x)

within_unused : (deps : List (List ℕ)) (next : ℕ → List ℕ) (bound : ℕ) → HasNoCycle deps
    → ((g h : ℕ) → g < bound → IsOneOf h (next g) → DependsOn deps g h × (h < bound))
    → (n : ℕ) (g : ℕ) (used : List ℕ) → IsDistinct eqb used → AllHave (λ u. u < bound) used → AllHave (LeadsTo deps g)
    used
    → g < bound → n + length used ≡ bound → IsWithin next n g
unfolding IsDistinct
within_unused deps next bound none steps zero g used distinct low lead under whole =
    let most : length (g ∷ used) ≤ bound = length-le_from_distinct_below (g ∷ used) bound (
      others deps none g used lead,
      distinct,
    ) (λ q. below bound q (g ∷ used) (under, low)) in
    absurd (omega (arith, most))
within_unused deps next bound none steps (suc n) g used distinct low lead under whole =
    all_from (IsWithin next n) (next g) (λ h among.
    let step : DependsOn deps g h × (h < bound) = steps g h under among in
    within_unused deps next bound none steps n h (g ∷ used) (others deps none g used lead, distinct) (under, low)
    (([], step.0), further deps g h used step.0 lead) step.1 (omega (arith, whole)))

pub within_of_no_cycle : (deps : List (List ℕ)) (next : ℕ → List ℕ) (bound : ℕ) → HasNoCycle deps
    → ((g h : ℕ) → g < bound → IsOneOf h (next g) → DependsOn deps g h × (h < bound)) → (g : ℕ) → g < bound
    → IsWithin next bound g
unfolding IsDistinct
within_of_no_cycle deps next bound none steps g under =
    within_unused deps next bound none steps bound g [] tt tt tt under (omega arith)
