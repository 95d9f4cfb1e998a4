-- Elements of a list under their numbers, and behind others.
use Rattle.std.specs.List.{enumerate_from, list_any}
use Rattle.std.specs.Prelude.{ℕ, Bool, List, map, filter, take}

-- the elements of a list, each with its number
abbrev pub numbered : {A : Type 0} → List A → List (ℕ × A)
numbered xs = enumerate_from 0 xs

-- each element that clashes with one in front of it
abbrev pub clashing : {A : Type 0} → (A → A → Bool) → List A → List A
clashing clash xs = map (λ x. x.1) (filter (λ x. list_any (clash x.1) (take x.0 xs)) (numbered xs))
