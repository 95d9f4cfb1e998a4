-- When a reader keeps the longest front that is whole, also where it breaks off further on.
use Rattle.std.specs.Prelude.{ℕ, ◌≡◌, ◌≤◌, true, false, List, ◌++◌, length, Some, None}
use Rattle.cat_lex.specs.declared.token.Token.{Token}
use Rattle.cat_tree.specs.Phrase.{Parts}
use Rattle.cat_parse_expr.specs.Reader.{Parsed, Reader, Fails, Reads}
use Rattle.cat_parse_expr.specs.Right.{Is}

-- What a parse says of a value that is spelled in front of the rest: it read as far, or as much stood whole at the
-- least. Where it broke off for the height, that is said of low values alone.
abbrev pub ReadsAsFar : {B : Type 0} → (low : B → Type 0) → Parsed B → B → (rest : List Token) → Type 0
ReadsAsFar low (Reads x left) y rest = length left ≤ length rest
ReadsAsFar low (Fails left false None) y rest = ⊥
ReadsAsFar low (Fails left false (Some front)) y rest = length front ≤ length rest
ReadsAsFar low (Fails left true None) y rest = low y → ⊥
ReadsAsFar low (Fails left true (Some front)) y rest = low y → length front ≤ length rest

-- what stood whole where a parse broke off: a low value is spelled in front of what is left behind it
abbrev pub Stood : {B : Type 0} → (low fits : B → Type 0) → (B → Parts) → Parsed B → List Token → Type 0
Stood {B = B} low fits row (Fails left deep (Some behind)) ts =
    (x : B) × (w : List Token) × (ts ≡ w ++ behind) × Is fits row x w × low x
Stood {B = B} low fits row _ ts = Unit {0}

-- a reader keeps the longest front that is whole
pub record KeepsWhole {B : Type 0} (low : B → Type 0) (bound : ℕ) (fits : B → Type 0) (row : B → Parts)
    (r : Reader B) : Type 0 where
  pub longest : (ts : List Token) (y : B) (w rest : List Token) → length ts ≤ bound → ts ≡ w ++ rest → Is fits row y w
      → ReadsAsFar low (r ts) y rest
  pub stood : (ts : List Token) → length ts ≤ bound → Stood low fits row (r ts) ts
