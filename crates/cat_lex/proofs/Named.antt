-- Names that were met keep their texts.
use Rattle.std.proofs.Common.{◌≡◌, ℕ, Bool, true, false, cond, List, refl, sym, ◌∙◌, subst}
use Rattle.std.specs.Prelude.{Option, Some, IfSome, bytes_eq}
use Rattle.std.specs.HashMap.{HashMap, get_by}
use denote.Ref.{Bor}
use Rattle.std.proofs.lemmas.Slice.Eq.{bytes_eq-Decides}
use Rattle.cat_lex.specs.inside.Tables.{TellsNames}

-- the text that was met under a name
abbrev pub met_as : {S : Type 0} → HashMap (Bor (List ℕ)) (List ℕ) S → Bor (List ℕ) → Option (List ℕ)
met_as met name = get_by (λ (key : Bor (List ℕ)). bytes_eq name.now key.now) met

pub met_is : {S : Type 0} (met : HashMap (Bor (List ℕ)) (List ℕ) S) (name : Bor (List ℕ)) (text : List ℕ)
    → TellsNames met → met_as met name ≡ Some text → text ≡ name.now
met_is met name text tells found =
    subst (λ (w : Option (List ℕ)). IfSome w (λ (t : List ℕ). t ≡ name.now)) found (tells name)

told_by : (name other : Bor (List ℕ)) (text : List ℕ) (b : Bool) (before : Option (List ℕ))
    → bytes_eq name.now other.now ≡ b → text ≡ name.now → IfSome before (λ (t : List ℕ). t ≡ other.now)
    → IfSome (cond b (Some text) before) (λ (t : List ℕ). t ≡ other.now)
told_by name other text true before same is told = is ∙ (bytes_eq-Decides name.now other.now).0 same
told_by name other text false before same is told = told

-- a name's own text is added
pub told_more : {S : Type 0} (met more : HashMap (Bor (List ℕ)) (List ℕ) S) (name : Bor (List ℕ)) (text : List ℕ)
    → TellsNames met
    → ((other : Bor (List ℕ)) → met_as more other ≡ cond (bytes_eq name.now other.now) (Some text) (met_as met other))
    → text ≡ name.now → TellsNames more
told_more met more name text tells added is =
    λ other.
    subst (λ (w : Option (List ℕ)). IfSome w (λ (t : List ℕ). t ≡ other.now)) (sym (added other))
    (told_by name other text (bytes_eq name.now other.now) (met_as met other) refl is (tells other))
