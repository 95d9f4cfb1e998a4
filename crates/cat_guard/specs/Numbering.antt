-- Things that are numbered by first appearance, where some are one.
use Rattle.std.specs.Prelude.{ℕ, ◌+◌, Bool, true, false, List, [], ◌∷◌, if◌then◌else◌}

-- one that is the same was seen
abbrev pub is_seen : {A : Type 0} → (A → A → Bool) → A → List A → Bool
is_seen same a [] = false
is_seen same a (b ∷ bs) = if same b a then true else is_seen same a bs

-- each that is the same as none before it, where some were seen
abbrev pub firsts : {A : Type 0} → (A → A → Bool) → List A → List A → List A
firsts same seen [] = []
firsts same seen (a ∷ rest) =
    if is_seen same a seen then firsts same seen rest else a ∷ firsts same (a ∷ seen) rest

-- the number of the first that is the same
abbrev pub number_of : {A : Type 0} → (A → A → Bool) → A → List A → ℕ
number_of same a [] = 0
number_of same a (b ∷ bs) = if same b a then 0 else 1 + number_of same a bs
