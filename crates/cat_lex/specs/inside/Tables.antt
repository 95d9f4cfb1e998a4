-- The tables of the code, as the lists of their entries.
use Rattle.std.specs.Prelude.{ℕ, Bool, false, ◌||◌, List, [], ◌∷◌, Option, Some, None, bytes_eq}
use Rattle.std.specs.Prelude.{◌≡◌, IfSome}
use Rattle.std.specs.HashMap.{HashMap, get_by}
use denote.Ref.{Bor}
use Rattle.cat_lex.specs.declared.form.Form.{Form}

-- the entries of a table, by the bytes that spell them
abbrev pub spelled : {K : Type 0} → List (Bor (List ℕ) × K) → List (List ℕ × K)
spelled [] = []
spelled (entry ∷ entries) = (entry.0.now, entry.1) ∷ spelled entries

-- the entries of a table of pairs, by the bytes of both words
abbrev pub spelled_pairs : {K : Type 0} → List (Bor (List ℕ) × Bor (List ℕ) × K) → List (List ℕ × List ℕ × K)
spelled_pairs [] = []
spelled_pairs (entry ∷ entries) = (entry.0.now, entry.1.now, entry.2) ∷ spelled_pairs entries

-- an entry of a table of pairs has this word in front
abbrev pub begins_pair : {K : Type 0} → List (List ℕ × List ℕ × K) → List ℕ → Bool
begins_pair [] word = false
begins_pair (entry ∷ entries) word = bytes_eq word entry.0 || begins_pair entries word

-- what is read, where the rest is lent
abbrev pub seen : Option (Form × Bor (List ℕ)) → Option (Form × List ℕ)
seen None = None
seen (Some found) = Some (found.0, found.1.now)

-- a name that was met has its own text
abbrev pub TellsNames : {S : Type 0} → HashMap (Bor (List ℕ)) (List ℕ) S → Type 0
TellsNames met = (name : Bor (List ℕ))
    → IfSome (get_by (λ (key : Bor (List ℕ)). bytes_eq name.now key.now) met) (λ (text : List ℕ). text ≡ name.now)
