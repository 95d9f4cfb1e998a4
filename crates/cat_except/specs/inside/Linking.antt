-- What each group excepts, as the code has it.
use Rattle.std.specs.Prelude.{ℕ, ◌+◌, List, [], ◌∷◌, Option}
use Rattle.cat_scope.specs.Groups.{Group, target_of, paired}
use Rattle.cat_except.specs.Excepted.{listed}

-- for each group of some, the group that it excepts among all groups of the target
abbrev pub targets_from : List Group → List Group → List (Option ℕ)
targets_from all [] = []
targets_from all (g ∷ gs) = target_of all g.except ∷ targets_from all gs

-- for each group the number as a list
abbrev pub lists_of : List (Option ℕ) → List (List ℕ)
lists_of [] = []
lists_of (target ∷ targets) = listed target ∷ lists_of targets

-- the pairs of groups from number n on of which the first excepts the second
abbrev pub pairs_at : ℕ → List (Option ℕ) → List (ℕ × ℕ)
pairs_at n [] = []
pairs_at n (target ∷ targets) = paired n target (pairs_at (n + 1) targets)
