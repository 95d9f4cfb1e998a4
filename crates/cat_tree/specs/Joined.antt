-- Rows behind one another.
use Rattle.std.specs.Prelude.{List, [], ◌∷◌}
use Rattle.cat_lex.specs.declared.symbol.Symbol.TheVariants as symbol
use Rattle.cat_tree.specs.Phrase.{Parts, End, Word, Part}
use Rattle.cat_tree.specs.Wording.{◌▹◌, sign}

-- a row, and another one behind it
infixr 20 ◌▸◌
abbrev pub ◌▸◌ : Parts → Parts → Parts
End ▸ rest = rest
Word m ps ▸ rest = Word m (ps ▸ rest)
Part s e ps ▸ rest = Part s e (ps ▸ rest)

-- the rows of all of a list
abbrev pub all : {A : Type 0} → (A → Parts) → List A → Parts
all row [] = End
all row (x ∷ more) = row x ▸ all row more

-- the row of one behind a comma
abbrev pub behind_comma : {A : Type 0} → (A → Parts) → A → Parts
behind_comma row x = sign symbol.Comma ▹ row x

-- the rows of all of a list, with commas between
abbrev pub with_commas : {A : Type 0} → (A → Parts) → List A → Parts
with_commas row [] = End
with_commas row (x ∷ more) = row x ▸ all (behind_comma row) more
