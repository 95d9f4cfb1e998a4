-- Where an expression ends in a program.
use Rattle.std.specs.Prelude.{◌≡◌, true, List, [], ◌∷◌, ◌++◌}
use Rattle.cat_lex.specs.declared.token.Token.{Token}
use Rattle.cat_tree.specs.declared.expression.Node.{Node}
use Rattle.cat_tree.specs.Spells.{Spells, Begins}
use Rattle.cat_parse.specs.Uses.{behind_expression}

-- tokens that spell an expression, with one that may follow it, begin no expression
abbrev pub EndsBefore : Node → List Token → Token → Type 0
EndsBefore e front p = Spells e front → behind_expression p.kind ≡ true → Begins (front ++ p ∷ []) → ⊥
