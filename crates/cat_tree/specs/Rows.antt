-- The words and parts of fields, arms, elements and forms over lists.
use Rattle.std.specs.Prelude.{ℕ, List, [], ◌∷◌, Some, None}
use Rattle.cat_pos.specs.declared.pos.Pos.{Pos}
use Rattle.cat_lex.specs.declared.words.Keyword.TheVariants as key
use Rattle.cat_lex.specs.declared.words.DoubleKeyword.TheVariants as pair
use Rattle.cat_lex.specs.declared.symbol.Symbol.{Symbol}
use Rattle.cat_lex.specs.declared.symbol.Symbol.TheVariants as symbol
use Rattle.cat_tree.specs.declared.name.Name.{Name}
use Rattle.cat_tree.specs.declared.expression.Each.{Each}
use Rattle.cat_tree.specs.declared.expression.Each.TheVariants as each
use Rattle.cat_tree.specs.declared.expression.Pattern.{Pattern}
use Rattle.cat_tree.specs.declared.expression.Pattern.TheVariants as pattern
use Rattle.cat_tree.specs.Phrase.{Phrase, Parts, End, Part, Inner}
use Rattle.cat_tree.specs.Wording.{◌▹◌, key_at, pair_at, «word», words, sign, lower, part}
use Rattle.cat_tree.specs.Literals.{case_parts}

-- the fields of a literal or of a scope call, then the rest
abbrev pub fields : List (Name × Phrase) → Parts → Parts
fields [] rest = rest
fields (f ∷ fs) rest = sign symbol.MinusMinus ▹ lower f.0 ▹ sign symbol.Colon ▹ part 0 f.1 ▹ fields fs rest

-- how a pattern is spelled, then the rest
abbrev pub pattern_parts : Pattern → Parts → Parts
pattern_parts pattern.Anything rest = «word» key.Anything ▹ rest
pattern_parts (pattern.Case c None) rest = case_parts c rest
pattern_parts (pattern.Case c (Some w)) rest = case_parts c («word» key.Of ▹ lower w ▹ rest)

-- An arm that isn't the last of its match doesn't end in a match.
abbrev pub arms : List (Pattern × Phrase) → Parts
arms [] = End
arms (a ∷ []) = sign symbol.MinusMinus ▹ pattern_parts a.0 (sign symbol.Colon ▹ part 0 a.1 ▹ End)
arms (a ∷ more) = sign symbol.MinusMinus ▹ pattern_parts a.0 (sign symbol.Colon ▹ Part Inner a.1 (arms more))

-- elements with a sign between
abbrev pub elements : ℕ → Symbol → List Phrase → Parts → Parts
elements k s [] rest = rest
elements k s (e ∷ []) rest = part k e ▹ rest
elements k s (e ∷ more) rest = part k e ▹ sign s ▹ elements k s more rest

-- how a form over a list is spelled
abbrev pub each_parts : Each → Pos → Name → Phrase → Phrase → Parts
each_parts each.ForAll p w l e = pair_at pair.ForAll p ▹ lower w ▹ «word» key.Among ▹ part 0 l ▹ words pair.WeHave ▹
    part 0 e ▹ End
each_parts each.Exists p w l e = key_at key.Exists p ▹ lower w ▹ «word» key.Among ▹ part 0 l ▹ words pair.SuchThat ▹
    part 0 e ▹ End
each_parts each.MapEach p w l e = pair_at pair.MapEach p ▹ lower w ▹ «word» key.Among ▹ part 0 l ▹ «word» key.To ▹ part
    0 e ▹ End
each_parts each.ListOf p w l e = pair_at pair.ListOf p ▹ lower w ▹ «word» key.Among ▹ part 0 l ▹ words pair.SuchThat ▹
    part 0 e ▹ End
