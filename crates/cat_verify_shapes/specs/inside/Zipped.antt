-- Two lists element by element.
use Rattle.std.specs.Prelude.{◌&&◌, Bool, List, [], ◌∷◌}

-- two lists element by element, as far as both go
abbrev pub zipped : {A : Type 0} → (A → A → A) → List A → List A → List A
zipped f [] ys = []
zipped f (x ∷ xs) [] = []
zipped f (x ∷ xs) (y ∷ ys) = f x y ∷ zipped f xs ys

-- the flags that stand in both lists
abbrev pub both : List Bool → List Bool → List Bool
both xs ys = zipped (λ a b. a && b) xs ys
