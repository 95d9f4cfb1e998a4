-- What is told of entries one behind the other.
use Rattle.std.specs.Prelude.{List, [], ◌∷◌, ◌++◌}

-- one for each, told of behind those in front of it
abbrev pub AreTold : {A B : Type 0} → (List A → A → B → Type 0) → List A → List A → List B → Type 0
AreTold Told front [] [] = Unit {0}
AreTold Told front [] (y ∷ ys) = ⊥
AreTold Told front (x ∷ xs) [] = ⊥
AreTold Told front (x ∷ xs) (y ∷ ys) = Told front x y × AreTold Told (front ++ x ∷ []) xs ys

-- none has a fault behind those in front of it
abbrev pub AreRight : {A : Type 0} → (List A → A → Type 0) → List A → List A → Type 0
AreRight Fault front [] = Unit {0}
AreRight Fault front (x ∷ xs) = (Fault front x → ⊥) × AreRight Fault (front ++ x ∷ []) xs
