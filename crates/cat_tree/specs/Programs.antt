-- Which tokens spell a program.
use Rattle.std.specs.Prelude.{ℕ, ◌≡◌, ◌≤◌, Bool, true, false, ◌&&◌, List, [], ◌∷◌, ◌++◌, Option, Some, None}
use Rattle.cat_lex.specs.declared.token.Token.{Token}
use Rattle.cat_lex.specs.declared.words.Keyword.TheVariants as key
use Rattle.cat_lex.specs.declared.words.DoubleKeyword.TheVariants as pair
use Rattle.cat_lex.specs.declared.symbol.Symbol.TheVariants as symbol
use Rattle.cat_tree.specs.Limits.{most_height}
use Rattle.cat_tree.specs.declared.expression.Node.{Node}
use Rattle.cat_tree.specs.declared.program.Block.{Block}
use Rattle.cat_tree.specs.declared.program.Item.{Item}
use Rattle.cat_tree.specs.declared.program.Item.TheVariants as item
use Rattle.cat_tree.specs.declared.program.Tree.{Tree}
use Rattle.cat_tree.specs.Phrase.{Parts, End, tallest, AreLevelled, AreSpelled}
use Rattle.cat_tree.specs.Wording.{◌▹◌, key_at, «word», words, sign, upper, part}
use Rattle.cat_tree.specs.Grammar.{phrase}
use Rattle.cat_tree.specs.Joined.{◌▸◌, all}
use Rattle.cat_tree.specs.Declarations.{field_parts, case_parts, variable_parts}
use Rattle.cat_tree.specs.Uses.{use_parts}

-- the condition of a scope block
abbrev pub condition_parts : Option Node → Parts
condition_parts None = End
condition_parts (Some e) = words pair.UnderCondition ▹ part 0 (phrase e) ▹ End

-- a scope block: scope U [under condition E] : use*
abbrev pub block_parts : Block → Parts
block_parts b = key_at key.Scope b.pos ▹ upper b.name ▹ condition_parts b.condition ▸ sign symbol.Colon ▹ all use_parts
    b.uses

-- a declaration, or a scope block
abbrev pub item_parts : Item → Parts
item_parts (item.Structure p u fields) = key_at key.Declaration p ▹ «word» key.Structure ▹ upper u ▹ sign symbol.Colon ▹
    all field_parts fields
item_parts (item.Enumeration p u cases) =
    key_at key.Declaration p ▹ «word» key.Enumeration ▹ upper u ▹ sign symbol.Colon ▹ all case_parts cases
item_parts (item.Scope p u variables) = key_at key.Declaration p ▹ «word» key.Scope ▹ upper u ▹ sign symbol.Colon ▹ all
    variable_parts variables
item_parts (item.Block b) = block_parts b

-- there is one at least
abbrev pub has_some : {A : Type 0} → List A → Bool
has_some [] = false
has_some (x ∷ more) = true

-- A structure has a field, and an enumeration a case.
abbrev pub is_filled : Item → Bool
is_filled (item.Structure p u fields) = has_some fields
is_filled (item.Enumeration p u cases) = has_some cases
is_filled _ = true

-- each item is filled
abbrev pub are_filled : List Item → Bool
are_filled [] = true
are_filled (i ∷ more) = is_filled i && are_filled more

-- a program as the words and parts that spell it
abbrev pub program_parts : Tree → Parts
program_parts t = all item_parts t.items

-- how high the highest of its expressions is, 0 where it has none
abbrev pub highest_in : Tree → ℕ
highest_in t = tallest (program_parts t)

-- the tokens spell the program: structures and enumerations have a part, each part stands where it may, and the words
-- and parts follow each other
pub record SpellsProgram (t : Tree) (tokens : List Token) : Type 0 where
  pub filled : are_filled t.items ≡ true
  pub levels : AreLevelled (program_parts t)
  pub words : AreSpelled (program_parts t) tokens

-- the same, where none of its expressions is too high
pub record SpellsLowProgram (t : Tree) (tokens : List Token) : Type 0 where
  pub spells : SpellsProgram t tokens
  pub low : highest_in t ≤ most_height

-- the tokens begin the spelling of a program, with expressions of any height
pub record BeginsProgram (front : List Token) : Type 0 where
  pub tree : Tree
  pub rest : List Token
  pub spells : SpellsProgram tree (front ++ rest)
