-- The reader of expressions is right before the words that may follow one in a program.
use Rattle.std.proofs.Common.{◌≡◌, ◌≤◌, ℕ, true, List, [], ◌∷◌, refl, sym, ap, subst, arith}
use Rattle.cat_lex.specs.declared.token.TokenKind.TheVariants as kind
use Rattle.cat_lex.specs.declared.words.Keyword.TheVariants as key
use Rattle.cat_lex.specs.declared.words.DoubleKeyword.TheVariants as pair
use Rattle.cat_lex.specs.declared.symbol.Symbol.TheVariants as symbol
use Rattle.cat_parse_expr.specs.Rightly as measured
use Rattle.cat_parse_expr.proofs.Exported as over
use Rattle.cat_parse_expr.specs.Climbing.{operand}
use Rattle.cat_parse.specs.Expression.{expression_to}
use Rattle.cat_parse.proofs.Common.{Token, TokenKind, Node, tallest, Other, Measured, MayFollow, may_stand}
use Rattle.cat_parse.proofs.Common.{Is, IsMeasured, operand_row, measured_of, Outside, Before, IsLow, none_past}
use Rattle.cat_parse.proofs.Common.{behind_expression, expression_row, ReadsExpressionsTo}

-- what holds of each of the tokens that may follow an expression in a program
by_kind : (P : TokenKind → Type 0) → P (kind.Symbol symbol.Colon) → P (kind.Word key.Consequence)
    → P (kind.Word key.Label) → P (kind.Word key.Exception) → P (kind.Word key.Definition) → P (kind.Word key.Rule)
    → P (kind.Word key.Assertion) → P (kind.Word key.Declaration) → P (kind.Word key.Scope)
    → P (kind.Pair pair.DateRound) → (k : TokenKind) → behind_expression k ≡ true → P k
by_kind P a b c d e f g h i j (kind.Symbol symbol.Colon) yes_it = a
by_kind P a b c d e f g h i j (kind.Word key.Consequence) yes_it = b
by_kind P a b c d e f g h i j (kind.Word key.Label) yes_it = c
by_kind P a b c d e f g h i j (kind.Word key.Exception) yes_it = d
by_kind P a b c d e f g h i j (kind.Word key.Definition) yes_it = e
by_kind P a b c d e f g h i j (kind.Word key.Rule) yes_it = f
by_kind P a b c d e f g h i j (kind.Word key.Assertion) yes_it = g
by_kind P a b c d e f g h i j (kind.Word key.Declaration) yes_it = h
by_kind P a b c d e f g h i j (kind.Word key.Scope) yes_it = i
by_kind P a b c d e f g h i j (kind.Pair pair.DateRound) yes_it = j
by_kind P a b c d e f g h i j _ yes_it = absurd cc

-- an expression takes none of them
pub may_follow : (y : Measured) (behind : List Token) → Outside behind_expression behind → MayFollow Other 0 y behind
may_follow y [] h = tt
may_follow y (p ∷ ts) h =
    by_kind (λ (k : TokenKind). may_stand Other 0 y.strength y.in_match k ts ≡ true) refl refl refl refl refl refl refl
    refl refl refl
    p.kind h

-- ---- an expression, with what counts of it and without

row_is : (y : Measured) (w : List Token) → Is IsMeasured (operand_row 0) y w
    → Is (λ e. Unit {0}) expression_row y.node w
row_is y w is = record { fit = tt; levels = is.levels; spelled = is.spelled }

measured_is : (e : Node) (w : List Token) → Is (λ e. Unit {0}) expression_row e w
    → Is IsMeasured (operand_row 0) (measured_of e) w
measured_is e w is = record { fit = refl; levels = is.levels; spelled = is.spelled }

height_is : (y : Measured) → IsMeasured y → tallest (expression_row y.node) ≡ y.height
height_is y fit = omega (arith, ap (λ (m : Measured). m.height) fit)

pub reads_expressions : (limit : ℕ) → ReadsExpressionsTo limit (expression_to limit)
unfolding expression_to
reads_expressions limit bound =
    record {
      right =
          over.recast bound (measured.IsLow limit) (IsLow limit expression_row) (MayFollow Other 0)
          (Before behind_expression) none_past IsMeasured (λ e. Unit {0}) (operand_row 0) expression_row (λ y. y.node)
          (operand limit Other 0)
          (record {
            to = row_is;
            from = λ e w is. (measured_of e, refl, measured_is e w is);
            lows = λ y fit low. subst (λ (m : ℕ). m ≤ limit) (sym (height_is y fit)) low;
            back = λ y fit low. subst (λ (m : ℕ). m ≤ limit) (height_is y fit) low;
            outside = λ y v fit out. may_follow y v out;
          })
          (over.rightly limit Other 0 bound (omega arith));
    }
