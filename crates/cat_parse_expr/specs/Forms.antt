-- The readers of the forms that end in a part, over a reader of parts that are one lower.
use Rattle.std.specs.Prelude.{ℕ, max, true}
use Rattle.cat_lex.specs.declared.words.Keyword.TheVariants as key
use Rattle.cat_lex.specs.declared.words.DoubleKeyword.TheVariants as pair
use Rattle.cat_pos.specs.declared.pos.Pos.{Pos}
use Rattle.cat_tree.specs.Accumulation.{accumulation}
use Rattle.cat_tree.specs.declared.name.Name.{Name}
use Rattle.cat_tree.specs.declared.expression.Each.{Each}
use Rattle.cat_tree.specs.declared.expression.Each.TheVariants as each
use Rattle.cat_tree.specs.declared.expression.Node.TheViews as node
use Rattle.cat_parse_expr.specs.declared.cue.Cue.{Cue}
use Rattle.cat_parse_expr.specs.declared.cue.Cue.TheVariants as cue
use Rattle.cat_parse_expr.specs.declared.behind.Behind.{Behind}
use Rattle.cat_parse_expr.specs.declared.measured.Measured.{Measured}
use Rattle.cat_parse_expr.specs.Measures.{form}
use Rattle.cat_parse_expr.specs.Reader.{Reader, ◌⨟◌, pure}
use Rattle.cat_parse_expr.specs.Cues.{«word», lower}
use Rattle.cat_parse_expr.specs.Parts.{Lower, key_word, pair_word, inner}
use Rattle.cat_parse_expr.specs.Arms.{arms, matched_value}
use Rattle.cat_parse_expr.specs.Prefixes.{opened}

-- the first word of a form over a list
abbrev pub each_cue : Each → Cue
each_cue each.ForAll = cue.Pair pair.ForAll
each_cue each.Exists = cue.Word key.Exists
each_cue each.MapEach = cue.Pair pair.MapEach
each_cue each.ListOf = cue.Pair pair.ListOf

-- the word before its body
abbrev pub body_cue : Each → Cue
body_cue each.ForAll = cue.Pair pair.WeHave
body_cue each.Exists = cue.Pair pair.SuchThat
body_cue each.MapEach = cue.Word key.To
body_cue each.ListOf = cue.Pair pair.SuchThat

-- `combine` with its parts
abbrev pub combination : Pos → (element sum : Name) → (list start body : Measured) → Measured
combination p w s l i e =
    form (max (max l.height i.height) e.height) e.in_match
    (node.Combine (accumulation p w s) l.node i.node e.node)

module _ (ex : Lower) (room : ℕ) where
  -- if E then E else E
  abbrev pub choice : Behind → Reader Measured
  choice b =
      opened ex room (cue.Word key.If) ⨟ λ p. inner ex ⨟ λ c. key_word key.Then ⨟ λ q. inner ex
      ⨟ λ t. key_word key.Else ⨟ λ r. ex b 0
      ⨟ λ e. pure (form (max (max c.height t.height) e.height) e.in_match (node.If p c.node t.node e.node))

  -- match E with pattern [-- P : E]*
  abbrev pub matched : Behind → Reader Measured
  matched b =
      opened ex room (cue.Word key.Match) ⨟ λ p. matched_value ex ⨟ λ e. pair_word pair.WithPattern
      ⨟ λ q. arms ex b ⨟ λ l. pure (form (max e.height l.tallest) true (node.Match p e.node l.arms))

  -- w among E
  abbrev pub among : Reader (Name × Measured)
  among = lower ⨟ λ w. key_word key.Among ⨟ λ p. inner ex ⨟ λ l. pure (w, l)

  -- for all w among E we have E, and its like
  abbrev pub over_each : Behind → Each → Reader Measured
  over_each b k =
      «word» (each_cue k) ⨟ λ p. among ⨟ λ l. «word» (body_cue k) ⨟ λ q. ex b 0
      ⨟ λ e. pure (form (max l.1.height e.height) e.in_match (node.Each k p l.0 l.1.node e.node))

  -- in w initially E
  abbrev pub initially : Reader (Name × Measured)
  initially = key_word key.In ⨟ λ p. lower ⨟ λ w. key_word key.Initially ⨟ λ q. inner ex ⨟ λ i. pure (w, i)

  -- combine all w among E in w initially E with E
  abbrev pub combined : Behind → Reader Measured
  combined b =
      pair_word pair.CombineAll ⨟ λ p. among ⨟ λ l. initially ⨟ λ i. key_word key.With ⨟ λ q. ex b 0
      ⨟ λ e. pure (combination p l.0 i.0 l.1 i.1 e)
