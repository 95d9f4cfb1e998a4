-- Lists of numbers by key, as the code makes them.
use Rattle.std.specs.Prelude.{ℕ, Bool, List, [], ◌∷◌, ◌++◌, if◌then◌else◌}

-- the lists of some keys, where a number was put to the end of the list of its key: a new key stands last
abbrev pub with_number : {K : Type 0} → (K → K → Bool) → K → ℕ → List K → List (List ℕ) → List (List ℕ)
with_number eq key n [] lists = lists ++ (n ∷ []) ∷ []
with_number eq key n (k ∷ ks) [] = []
with_number eq key n (k ∷ ks) (list ∷ lists) =
    if eq key k then (list ++ n ∷ []) ∷ lists else list ∷ with_number eq key n ks lists
