-- The readers of names, calls and cases, over a reader of parts that are one lower.
use Rattle.std.specs.Prelude.{if◌then◌else◌, ℕ, nat_le}
use Rattle.cat_lex.specs.declared.words.Keyword.TheVariants as key
use Rattle.cat_lex.specs.declared.symbol.Symbol.TheVariants as symbol
use Rattle.cat_tree.specs.declared.name.CaseName.{CaseName}
use Rattle.cat_tree.specs.declared.name.CaseName.TheVariants.{Bare, Qualified}
use Rattle.cat_tree.specs.declared.name.Name.{Name}
use Rattle.cat_tree.specs.declared.expression.Node.TheVariants as leaves
use Rattle.cat_tree.specs.declared.expression.Node.TheViews as node
use Rattle.cat_parse_expr.specs.declared.cue.Cue.TheVariants as cue
use Rattle.cat_parse_expr.specs.declared.behind.Behind.{Behind}
use Rattle.cat_parse_expr.specs.declared.measured.Measured.{Measured}
use Rattle.cat_parse_expr.specs.Measures.{leaf, closed, ending, no_fields}
use Rattle.cat_parse_expr.specs.Reader.{Reader, ◌⨟◌, pure, by_word, behind_whole, with_room}
use Rattle.cat_parse_expr.specs.Cues.{cue_is, lower, upper}
use Rattle.cat_parse_expr.specs.Parts.{Lower, key_word, sign, is_sign, next_field, fields, arguments, is_lower}

module _ (ex : Lower) (room : ℕ) where
  -- of E, E
  abbrev pub called : Name → Reader Measured
  called f = key_word key.Of ⨟ λ p. arguments ex ⨟ λ l. pure (closed 8 l.tallest (node.Call f l.nodes))

  -- w [of E, E]
  abbrev pub name : (level : ℕ) → Reader Measured
  name k =
      lower ⨟ λ w. if nat_le k 8 then by_word (cue_is (cue.Word key.Of)) (behind_whole (called w))
      (pure (leaf (leaves.Name w))) else pure (leaf (leaves.Name w))

  -- content E
  abbrev pub content : Behind → CaseName → Reader Measured
  content b c =
      key_word key.Content ⨟ λ p. ex b 8 ⨟ λ e. pure (ending 8 e.height e.strength e.in_match (node.Content c e.node))

  -- [content E]
  abbrev pub case_content : Behind → (level : ℕ) → CaseName → Reader Measured
  case_content b k c =
      if nat_le k 8 then by_word (cue_is (cue.Word key.Content)) (behind_whole (content b c))
      (pure (leaf (leaves.Case c))) else pure (leaf (leaves.Case c))

  -- { [-- w : E]* }, one field at least
  abbrev pub structure : Name → Reader Measured
  structure u =
      sign symbol.LeftBrace ⨟ λ p. next_field ex no_fields ⨟ λ first. fields ex first
      ⨟ λ l. sign symbol.RightBrace ⨟ λ q. pure (closed 9 l.tallest (node.Structure u l.values))

  -- w, behind U .
  abbrev pub case_field : Name → Reader Measured
  case_field u = with_room room lower ⨟ λ w. pure (closed 9 1 (node.Field (leaves.Case (Bare u)) w))

  -- . V [content E] | . w
  abbrev pub dotted : Behind → (level : ℕ) → Name → Reader Measured
  dotted b k u =
      sign symbol.Dot ⨟ λ p. by_word is_lower (case_field u) (upper ⨟ λ v. case_content b k (Qualified u v))

  -- U | U . V | U content E | U { .. } | U . w
  abbrev pub case : Behind → (level : ℕ) → Reader Measured
  case b k =
      upper ⨟ λ u. by_word (is_sign symbol.Dot) (behind_whole (dotted b k u)) (by_word (is_sign symbol.LeftBrace)
      (behind_whole (structure u)) (case_content b k (Bare u)))
