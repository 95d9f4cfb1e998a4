-- The lines of bands, one after the other.
use Rattle.std.proofs.Common.{◌≡◌, ◌++◌, ◌∙◌, ◌+◌, ℕ, suc, List, ap, sym, append_assoc, arith}
use Rattle.cat_app.specs.Texts.{definition_of, definitions_to}

-- one band more
pub grown : (bands n : ℕ) (old text new : List ℕ) → text ≡ old ++ definitions_to bands n
    → new ≡ text ++ definition_of bands n → new ≡ old ++ definitions_to bands (n + 1)
grown bands n old text new e f =
    let next : n + 1 ≡ suc n = omega arith in
    f ∙ (ap (λ (t : List ℕ). t ++ definition_of bands n) e
    ∙ (append_assoc old (definitions_to bands n) (definition_of bands n)
    ∙ ap (λ k. old ++ definitions_to bands k) (sym next)))
