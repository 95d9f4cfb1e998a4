-- Bound names that are taken off.
use Rattle.std.proofs.Common.{◌≡◌, ◌∙◌, ℕ, ◌+◌, ◌-◌, List, [], ◌∷◌, ◌++◌, length, take, Option}
use Rattle.std.proofs.Common.{ap, arith}
use Rattle.std.proofs.lemmas.List.{take-take, length-take-le}
use Rattle.std.specs.Option.{MatchOption}
use Rattle.cat_pos.proofs.Popping.{popped}

-- one name less
pub one_less : {A : Type 0} (names old new : List A) (last : Option A) (count k : ℕ)
    → old ≡ take (length names - k) names
    → MatchOption last ((old ≡ []) × (new ≡ [])) (λ x. old ≡ new ++ x ∷ [])
    → new ≡ take (length names - (k + 1)) names
one_less names old new last count k front pop =
    let long : length (take (length names - k) names) ≡ length names - k =
    length-take-le (length names - k) names (omega arith) in
    let less : length names - k - 1 ≡ length names - (k + 1) = omega arith in
    popped old new last pop ∙ ap (λ xs. take (length xs - 1) xs) front
    ∙ ap (λ (m : ℕ). take (m - 1) (take (length names - k) names)) long
    ∙ take-take (length names - k - 1) (length names - k) names (omega arith)
    ∙ ap (λ (m : ℕ). take m names) less
