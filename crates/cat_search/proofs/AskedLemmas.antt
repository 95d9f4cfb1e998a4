-- Each element of a list is one of it.
use Rattle.std.proofs.Common.{inl, inr, ℕ, zero, suc, List, [], ◌∷◌, refl, arith}
use Rattle.std.specs.Prelude.{All}
use Rattle.cat_scope.specs.Names.{IsOneOf}

pub among_itself : (xs : List ℕ) → All (λ a. IsOneOf a xs) xs
among_itself [] k d within = absurd (omega arith)
among_itself (x ∷ xs) zero d within = inl refl
among_itself (x ∷ xs) (suc k) d within = inr (among_itself xs k d (omega arith))
