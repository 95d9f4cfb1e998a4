-- Names in lists of names.
use Rattle.std.proofs.Common.{◌≡◌, ◌∙◌, ℕ, ◌+◌, ◌<◌, ◌||◌, List, ◌∷◌, length, drop, get_or}
use Rattle.std.proofs.Common.{bytes_eq}
use Rattle.std.proofs.Common.{ap, suc, arith}
use Rattle.std.proofs.Math.Seq.{drop-cons}
use Rattle.cat_names.specs.Unknown.{is_name}

-- whether a name is one of the rest of some names
pub is_name_rest : (w : List ℕ) (names : List (List ℕ)) (i : ℕ) (name : List ℕ) → i < length names
    → get_or names i name ≡ name → is_name w (drop i names) ≡ (bytes_eq name w || is_name w (drop (i + 1) names))
is_name_rest w names i name within is =
    let next : suc i ≡ i + 1 = omega arith in
    ap (is_name w) (drop-cons names i name within ∙ ap (λ n. n ∷ drop (suc i) names) is)
    ∙ ap (λ (k : ℕ). bytes_eq name w || is_name w (drop k names)) next
