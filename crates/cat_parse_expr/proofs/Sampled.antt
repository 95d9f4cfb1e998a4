-- Each word that begins an operand begins some expression.
use Rattle.std.proofs.Common.{◌≡◌, ℕ, ◌≤◌, true, false, [], ◌∷◌, refl, arith}
use Rattle.cat_lex.specs.declared.token.TokenKind.TheVariants as kind
use Rattle.cat_lex.specs.declared.symbol.Symbol.TheVariants as symbol
use Rattle.cat_tree.specs.declared.expression.SurfaceLiteral.TheVariants as literal
use Rattle.cat_tree.specs.declared.expression.Prefix.TheVariants as prefix
use Rattle.cat_tree.specs.declared.expression.Each.TheVariants as each
use Rattle.cat_tree.specs.declared.expression.Node.TheVariants as leaves
use Rattle.cat_tree.specs.declared.expression.Node.TheViews as node
use Rattle.cat_lex.specs.declared.words.Keyword.TheVariants as key
use Rattle.cat_lex.specs.declared.words.DoubleKeyword.TheVariants as pair
use Rattle.cat_parse_expr.proofs.Common.{Token, TokenKind, Bare, phrase_Case, phrase_Each, phrase_List, phrase_Literal}
use Rattle.cat_parse_expr.proofs.Common.{phrase_Name, phrase_Parens, phrase_Prefixed, opening_of, stands, Begun}
use Rattle.cat_parse_expr.proofs.Common.{IsMeasured, operand_row}
use Rattle.cat_parse_expr.proofs.Leaves.{token_is}
use Rattle.cat_parse_expr.proofs.Truth.{le_of}
use Rattle.cat_parse_expr.proofs.Sampling.{Sample, sample_of, literal_sample, one_word, two_words, over_words}
use Rattle.cat_parse_expr.proofs.Sampling.{if_sample, match_sample, combine_sample, sum_sample, call_sample, a_name}
use Rattle.cat_parse_expr.proofs.Sampling.{a_node, a_token, lower_token, node_levels, node_spelled}

sample_by : (k : ℕ) (p : Token) (q : TokenKind) → k ≤ 9 → p.kind ≡ q → stands k (opening_of q) ≡ true → Sample k p
sample_by k p (kind.Int n) le e h = literal_sample k p (literal.Int n) _ le e (phrase_Literal (literal.Int n) p.pos)
sample_by k p (kind.Dec d) le e h = literal_sample k p (literal.Dec d) _ le e (phrase_Literal (literal.Dec d) p.pos)
sample_by k p (kind.Pct d) le e h = literal_sample k p (literal.Pct d) _ le e (phrase_Literal (literal.Pct d) p.pos)
sample_by k p (kind.Money m) le e h =
    literal_sample k p (literal.Money m) _ le e (phrase_Literal (literal.Money m) p.pos)
sample_by k p (kind.Date d) le e h = literal_sample k p (literal.Date d) _ le e (phrase_Literal (literal.Date d) p.pos)
sample_by k p (kind.Word key.True) le e h =
    literal_sample k p (literal.Boolean true) _ le e (phrase_Literal (literal.Boolean true) p.pos)
sample_by k p (kind.Word key.False) le e h =
    literal_sample k p (literal.Boolean false) _ le e (phrase_Literal (literal.Boolean false) p.pos)
sample_by k p (kind.Lower w) le e h =
    sample_of k p (leaves.Name (record { text = w; pos = p.pos })) _ _ []
    (phrase_Name (record { text = w; pos = p.pos })) le
    refl tt (p, [], refl, token_is p (kind.Lower w) p.pos e refl, refl)
sample_by k p (kind.Upper w) le e h =
    sample_of k p (leaves.Case (Bare (record { text = w; pos = p.pos }))) _ _ []
    (phrase_Case (Bare (record { text = w; pos = p.pos }))) le refl tt
    (p, [], refl, token_is p (kind.Upper w) p.pos e refl, refl)
sample_by k p (kind.Symbol symbol.LeftParen) le e h =
    let l = node_levels 0 (omega arith) in
    let r = a_token (kind.Symbol symbol.RightParen) in
    sample_of k p (node.Parens p.pos a_node) _ _ (lower_token ∷ r ∷ []) (phrase_Parens p.pos a_node) le refl
    (l.0, l.1, tt) (
      p,
      lower_token ∷ r ∷ [],
      refl,
      token_is p (kind.Symbol symbol.LeftParen) p.pos e refl,
      (lower_token ∷ [], r ∷ [], refl, node_spelled, (r, [], refl, refl, refl)),
    )
sample_by k p (kind.Symbol symbol.LeftBracket) le e h =
    let r = a_token (kind.Symbol symbol.RightBracket) in
    sample_of k p (node.List p.pos []) _ _ (r ∷ []) (phrase_List p.pos []) le refl tt
    (p, r ∷ [], refl, token_is p (kind.Symbol symbol.LeftBracket) p.pos e refl, (r, [], refl, refl, refl))
sample_by k p (kind.Pair pair.OutputOf) le e h = call_sample k p le e
sample_by k p (kind.Word key.Not) le e h =
    one_word k 3 p (node.Prefixed prefix.Not p.pos a_node) _ (le_of k 3 h) (omega arith) e
    (phrase_Prefixed prefix.Not p.pos a_node)
sample_by k p (kind.Symbol symbol.Minus) le e h =
    one_word k 7 p (node.Prefixed prefix.Negate p.pos a_node) _ (le_of k 7 h) (omega arith) e
    (phrase_Prefixed prefix.Negate p.pos a_node)
sample_by k p (kind.Word key.Integer) le e h =
    two_words k p (node.Prefixed prefix.IntegerOf p.pos a_node) _ (le_of k 8 h) e
    (phrase_Prefixed prefix.IntegerOf p.pos a_node)
sample_by k p (kind.Word key.Decimal) le e h =
    two_words k p (node.Prefixed prefix.DecimalOf p.pos a_node) _ (le_of k 8 h) e
    (phrase_Prefixed prefix.DecimalOf p.pos a_node)
sample_by k p (kind.Word key.Money) le e h =
    two_words k p (node.Prefixed prefix.MoneyOf p.pos a_node) _ (le_of k 8 h) e
    (phrase_Prefixed prefix.MoneyOf p.pos a_node)
sample_by k p (kind.Word key.GetYear) le e h =
    two_words k p (node.Prefixed prefix.GetYear p.pos a_node) _ (le_of k 8 h) e
    (phrase_Prefixed prefix.GetYear p.pos a_node)
sample_by k p (kind.Word key.GetMonth) le e h =
    two_words k p (node.Prefixed prefix.GetMonth p.pos a_node) _ (le_of k 8 h) e
    (phrase_Prefixed prefix.GetMonth p.pos a_node)
sample_by k p (kind.Word key.GetDay) le e h =
    two_words k p (node.Prefixed prefix.GetDay p.pos a_node) _ (le_of k 8 h) e
    (phrase_Prefixed prefix.GetDay p.pos a_node)
sample_by k p (kind.Pair pair.RoundOf) le e h =
    one_word k 8 p (node.Prefixed prefix.RoundOf p.pos a_node) _ (le_of k 8 h) (omega arith) e
    (phrase_Prefixed prefix.RoundOf p.pos a_node)
sample_by k p (kind.Pair pair.NumberOf) le e h =
    one_word k 8 p (node.Prefixed prefix.NumberOf p.pos a_node) _ (le_of k 8 h) (omega arith) e
    (phrase_Prefixed prefix.NumberOf p.pos a_node)
sample_by k p (kind.Word key.Sum) le e h = sum_sample k p (le_of k 8 h) e
sample_by k p (kind.Word key.If) le e h = if_sample k p (le_of k 8 h) e
sample_by k p (kind.Word key.Match) le e h = match_sample k p (le_of k 8 h) e
sample_by k p (kind.Pair pair.ForAll) le e h =
    over_words k p (node.Each each.ForAll p.pos a_name a_node a_node) _ _ (le_of k 8 h) e
    (phrase_Each each.ForAll p.pos a_name a_node a_node)
sample_by k p (kind.Word key.Exists) le e h =
    over_words k p (node.Each each.Exists p.pos a_name a_node a_node) _ _ (le_of k 8 h) e
    (phrase_Each each.Exists p.pos a_name a_node a_node)
sample_by k p (kind.Pair pair.MapEach) le e h =
    over_words k p (node.Each each.MapEach p.pos a_name a_node a_node) _ _ (le_of k 8 h) e
    (phrase_Each each.MapEach p.pos a_name a_node a_node)
sample_by k p (kind.Pair pair.ListOf) le e h =
    over_words k p (node.Each each.ListOf p.pos a_name a_node a_node) _ _ (le_of k 8 h) e
    (phrase_Each each.ListOf p.pos a_name a_node a_node)
sample_by k p (kind.Pair pair.CombineAll) le e h = combine_sample k p (le_of k 8 h) e
sample_by k p _ le e h = absurd cc

-- each word that begins an operand of the level
pub sampled : (k : ℕ) (p : Token) → k ≤ 9 → stands k (opening_of p.kind) ≡ true → Begun IsMeasured (operand_row k)
    (p ∷ [])
sampled k p le h = sample_by k p p.kind le refl h
