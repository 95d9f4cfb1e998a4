-- A number that isn't among others that differ differs from them.
use Rattle.std.proofs.Common.{◌≡◌, ◌||◌, ℕ, Bool, true, false, List, [], ◌∷◌, refl}
use Rattle.std.specs.Prelude.{eqb}
use Rattle.std.specs.List.{list_any, IsDistinct, AllByRecursion}

pub apart_push : (i : ℕ) (trail : List ℕ) → list_any (eqb i) trail ≡ false → IsDistinct eqb trail
    → IsDistinct eqb (i ∷ trail)
unfolding IsDistinct
apart_push i trail out apart = (each trail out, apart)
  where
    each : (ys : List ℕ) → list_any (eqb i) ys ≡ false → AllByRecursion (λ y. eqb i y ≡ false) ys
    each [] h = tt
    each (y ∷ ys) h = pick (eqb i y) refl h (λ g. each ys g)
      where
        pick : (b : Bool) → eqb i y ≡ b → (b || list_any (eqb i) ys) ≡ false
            → (list_any (eqb i) ys ≡ false → AllByRecursion (λ y. eqb i y ≡ false) ys)
            → AllByRecursion (λ y. eqb i y ≡ false) (y ∷ ys)
        pick true e g rest = cc g
        pick false e g rest = (e, rest g)
