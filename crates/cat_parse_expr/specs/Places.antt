-- Readers over indices of a list of tokens.
use Rattle.std.specs.Prelude.{ℕ, ◌≡◌, ◌≤◌, List, length, drop, Option, Some, None, ⊤, Result, Ok, Err}
use Rattle.cat_lex.specs.declared.token.Token.{Token}
use Rattle.cat_parse_expr.specs.declared.miss.Miss.{Miss}
use Rattle.cat_parse_expr.specs.declared.miss.Miss.TheVariants.{Broken, Memory}
use Rattle.cat_parse_expr.specs.Reader.{Reader, Fails, Reads}

-- what is left behind the last whole front
abbrev pub left_behind : List Token → Option ℕ → Option (List Token)
left_behind tokens None = None
left_behind tokens (Some place) = Some (drop place tokens)

-- the index behind the last whole front is none past the end
abbrev pub IsWithin : (end : ℕ) → Option ℕ → Type 0
IsWithin end None = ⊤
IsWithin end (Some place) = place ≤ end

-- What a call gives is what the reader comes to at the index; want of memory says nothing.
abbrev pub Gives : {A : Type 0} → Reader A → List Token → (at : ℕ) → Result (A × ℕ) Miss → Type 0
Gives r tokens at (Ok x) = (r (drop at tokens) ≡ Reads x.0 (drop x.1 tokens)) × (at ≤ x.1) × (x.1 ≤ length tokens)
Gives r tokens at (Err (Broken b)) =
    (r (drop at tokens) ≡ Fails (drop b.at tokens) b.deep (left_behind tokens b.whole)) × (b.at ≤ length tokens)
    × IsWithin (length tokens) b.whole
Gives r tokens at (Err Memory) = ⊤

-- what was found stays, and a miss is still one
abbrev pub SameFound : {A : Type 0} → Result (A × ℕ) Miss → Result (A × ℕ) Miss → Type 0
SameFound (Ok x) after = after ≡ Ok x
SameFound (Err miss) after = (other : Miss) × (after ≡ Err other)
