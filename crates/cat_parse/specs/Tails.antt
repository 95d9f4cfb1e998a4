-- The readers of conditions, definitions and rules, over a reader of expressions.
use Rattle.std.specs.Prelude.{Bool, Option}
use Rattle.cat_pos.specs.declared.pos.Pos.{Pos}
use Rattle.cat_lex.specs.declared.token.TokenKind.{TokenKind}
use Rattle.cat_lex.specs.declared.words.Keyword.TheVariants as key
use Rattle.cat_lex.specs.declared.words.DoubleKeyword.TheVariants as pair
use Rattle.cat_tree.specs.declared.expression.Node.{Node}
use Rattle.cat_tree.specs.declared.program.Lead.{Lead}
use Rattle.cat_tree.specs.declared.program.TargetName.{TargetName}
use Rattle.cat_tree.specs.declared.program.Fulfilled.{Fulfilled}
use Rattle.cat_tree.specs.declared.program.Fulfilled.TheVariants as fulfilled
use Rattle.cat_tree.specs.declared.program.Use.{Use}
use Rattle.cat_tree.specs.declared.program.Use.TheVariants as uses
use Rattle.cat_parse_expr.specs.declared.cue.Cue.TheVariants as cue
use Rattle.cat_parse_expr.specs.Reader.{Reader, ◌⨟◌, pure, by_word}
use Rattle.cat_parse.specs.Many.{optional}
use Rattle.cat_parse_expr.specs.Cues.{cue_is, «word»}
use Rattle.cat_parse.specs.Declarations.{key_word, is_word}
use Rattle.cat_parse.specs.Leads.{target}

-- ---- conditions

-- whether a condition follows
abbrev pub is_under : TokenKind → Bool
is_under = cue_is (cue.Pair pair.UnderCondition)

-- under condition E
abbrev pub condition : Reader Node → Reader Node
condition ex = «word» (cue.Pair pair.UnderCondition) ⨟ λ p. ex

-- under condition E consequence
abbrev pub guard : Reader Node → Reader Node
guard ex = «word» (cue.Pair pair.UnderCondition) ⨟ λ p. ex ⨟ λ e. key_word key.Consequence ⨟ λ q. pure e

-- ---- definitions and rules

-- [not] fulfilled
abbrev pub whether_fulfilled : Reader Fulfilled
whether_fulfilled =
    by_word (is_word key.Not) (key_word key.Not ⨟ λ p. key_word key.Fulfilled ⨟ λ q. pure fulfilled.No)
    (key_word key.Fulfilled ⨟ λ p. pure fulfilled.Yes)

-- a definition or a rule without its lead
pub data Tail : Type 0 where
  Defined : Pos × TargetName × Option Node × Node → Tail
  Ruled : Pos × TargetName × Option Node × Fulfilled → Tail

-- definition w [. w] [of w, w] [under condition E consequence] equals E
abbrev pub defined : Reader Node → Reader (Pos × TargetName × Option Node × Node)
defined ex =
    key_word key.Definition ⨟ λ p. target ⨟ λ t. optional is_under (guard ex) ⨟ λ c. key_word key.Equals ⨟ λ q. ex
    ⨟ λ e. pure (p, t, c, e)

-- rule w [. w] [of w, w] [under condition E consequence] [not] fulfilled
abbrev pub ruled : Reader (Node) → Reader (Pos × TargetName × Option Node × Fulfilled)
ruled ex =
    key_word key.Rule ⨟ λ p. target ⨟ λ t. optional is_under (guard ex) ⨟ λ c. whether_fulfilled
    ⨟ λ f. pure (p, t, c, f)

-- a definition or a rule, by its first word
abbrev pub tail : Reader Node → Reader Tail
tail ex = by_word (is_word key.Rule) (ruled ex ⨟ λ x. pure (Ruled x)) (defined ex ⨟ λ x. pure (Defined x))

-- a definition or a rule with its lead
abbrev pub use_of : Lead × Tail → Use
use_of (l, Defined x) = uses.Definition l x.0 x.1 x.2 x.3
use_of (l, Ruled x) = uses.Rule l x.0 x.1 x.2 x.3
