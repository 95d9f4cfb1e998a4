-- The forms of expressions: each as the words and parts that spell it.
use Rattle.std.specs.Prelude.{suc}
use Rattle.cat_lex.specs.declared.words.Keyword.TheVariants as key
use Rattle.cat_lex.specs.declared.words.DoubleKeyword.TheVariants as pair
use Rattle.cat_lex.specs.declared.symbol.Symbol.TheVariants as symbol
use Rattle.cat_tree.specs.declared.name.Name.{Name}
use Rattle.cat_tree.specs.declared.expression.Pattern.{Pattern}
use Rattle.cat_tree.specs.declared.expression.Node.{Node}
use Rattle.cat_tree.specs.declared.expression.Node.TheOpen.{Node-F, SurfaceField-F, SurfaceArm-F}
use Rattle.cat_tree.specs.declared.expression.Node.TheFolds.{fold-Node}
use Rattle.cat_tree.specs.Phrase.{Phrase, Row, End}
use Rattle.cat_tree.specs.Wording.{◌▹◌, first, key_at, pair_at, symbol_at, «word», words, sign, lower, upper, part}
use Rattle.cat_tree.specs.Wording.{left, of_level, form, if_some, match_of}
use Rattle.cat_tree.specs.Literals.{literal_parts, literal_rank, case_parts, type_parts}
use Rattle.cat_tree.specs.Operators.{prefix_parts, prefix_level, operator_kind, operator_level, left_level}
use Rattle.cat_tree.specs.Rows.{fields, arms, elements, each_parts}

-- how an expression is spelled, where its parts are spelled so
abbrev pub phrase_step : Node-F Phrase (Pattern × Phrase) (Name × Phrase) → Phrase
phrase_step (Node-F.Literal l p) = Row (literal_rank l) (literal_parts l p)
phrase_step (Node-F.Name w) = Row (of_level 9) (lower w ▹ End)
phrase_step (Node-F.Case c) = Row (of_level 9) (case_parts c End)
phrase_step (Node-F.Parens p e) =
    Row (of_level 9) (symbol_at symbol.LeftParen p ▹ part 0 e ▹ sign symbol.RightParen ▹ End)
phrase_step (Node-F.Field e w) = Row (of_level 9) (left 9 e ▹ sign symbol.Dot ▹ lower w ▹ End)
phrase_step (Node-F.Prefixed o p e) = Row (of_level (prefix_level o)) (prefix_parts o p (part (prefix_level o) e ▹ End))
phrase_step (Node-F.Sum p t e) = Row (of_level 8) (key_at key.Sum p ▹ type_parts t («word» key.Of ▹ part 8 e ▹ End))
phrase_step (Node-F.Content c e) = Row (of_level 8) (case_parts c («word» key.Content ▹ part 8 e ▹ End))
phrase_step (Node-F.Call f args) = Row (if_some 8 args) (lower f ▹ «word» key.Of ▹ elements 9 symbol.Comma args End)
phrase_step (Node-F.Binary o p a b) = Row (of_level (operator_level o))
    (left (left_level o) a ▹ first (operator_kind o) p ▹ part (suc (operator_level o)) b ▹ End)
phrase_step (Node-F.Test e p c) = Row (of_level 4) (left 5 e ▹ pair_at pair.WithPattern p ▹ case_parts c End)
phrase_step (Node-F.List p es) =
    Row (of_level 9) (symbol_at symbol.LeftBracket p ▹ elements 0 symbol.Semicolon es (sign symbol.RightBracket ▹ End))
phrase_step (Node-F.Structure u fs) =
    Row (if_some 9 fs) (upper u ▹ sign symbol.LeftBrace ▹ fields fs (sign symbol.RightBrace ▹ End))
phrase_step (Node-F.ScopeCall p u fs w) = Row (of_level 9) (pair_at pair.OutputOf p ▹ upper u ▹ «word» key.With ▹ sign
    symbol.LeftBrace ▹ fields fs (sign symbol.RightBrace ▹ sign symbol.Dot ▹ lower w ▹ End))
phrase_step (Node-F.If p c t e) =
    Row form (key_at key.If p ▹ part 0 c ▹ «word» key.Then ▹ part 0 t ▹ «word» key.Else ▹ part 0 e ▹ End)
phrase_step (Node-F.Match p e more) =
    Row (match_of more) (key_at key.Match p ▹ part 0 e ▹ words pair.WithPattern ▹ arms more)
phrase_step (Node-F.Each k p w l e) = Row form (each_parts k p w l e)
phrase_step (Node-F.Combine c l start e) =
    Row form (pair_at pair.CombineAll c.pos ▹ lower c.element ▹ «word» key.Among ▹ part 0 l ▹ «word» key.In
    ▹ lower c.sum ▹ «word» key.Initially ▹ part 0 start ▹ «word» key.With ▹ part 0 e ▹ End)

-- a field, with how its value is spelled
abbrev pub field_step : SurfaceField-F Phrase (Pattern × Phrase) (Name × Phrase) → Name × Phrase
field_step f = (f.name, f.value)

-- an arm, with how its body is spelled
abbrev pub arm_step : SurfaceArm-F Phrase (Pattern × Phrase) (Name × Phrase) → Pattern × Phrase
arm_step a = (a.pattern, a.body)

-- an expression as the words and parts that spell it
unfoldable pub phrase : Node → Phrase
phrase = fold-Node Phrase (Pattern × Phrase) (Name × Phrase) phrase_step arm_step field_step
