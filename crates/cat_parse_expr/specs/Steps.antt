-- The readers of what goes on behind a whole expression: an operator, a field, a test.
use Rattle.std.specs.Prelude.{if◌then◌else◌, ℕ, suc, max, Bool, false, not, nat_le, ◌&&◌, List, None}
use Rattle.cat_lex.specs.declared.token.Token.{Token}
use Rattle.cat_lex.specs.declared.words.DoubleKeyword.TheVariants as pair
use Rattle.cat_lex.specs.declared.symbol.Symbol.TheVariants as symbol
use Rattle.cat_tree.specs.Operators.{operator_level, left_level}
use Rattle.cat_pos.specs.declared.pos.Pos.{Pos}
use Rattle.cat_tree.specs.declared.name.CaseName.{CaseName}
use Rattle.cat_tree.specs.declared.expression.Operator.{Operator}
use Rattle.cat_tree.specs.declared.expression.Node.TheViews as node
use Rattle.cat_parse_expr.specs.declared.behind.Behind.{Behind}
use Rattle.cat_parse_expr.specs.declared.behind.Behind.TheVariants.{Pattern as Tested}
use Rattle.cat_parse_expr.specs.declared.follow.Follow.{Follow}
use Rattle.cat_parse_expr.specs.declared.follow.Follow.TheVariants as follow
use Rattle.cat_parse_expr.specs.declared.measured.Measured.{Measured}
use Rattle.cat_parse_expr.specs.Measures.{closed, ending}
use Rattle.cat_parse_expr.specs.Reader.{Fails, Reader, ◌⨟◌, pure, nothing, heads_second, behind_whole, with_room}
use Rattle.cat_parse_expr.specs.Cues.{lower, upper, any_pos}
use Rattle.cat_parse_expr.specs.Openings.{opening_at, stands, follow_at}
use Rattle.cat_parse_expr.specs.Parts.{Lower, is_sign, sign, pair_word}
use Rattle.cat_parse_expr.specs.Arms.{case_from}

-- what follows are the arms of an outer match, and no case
abbrev pub ends_test : Behind → List Token → Bool
ends_test Tested ts = heads_second (is_sign symbol.MinusMinus) ts
ends_test _ ts = false

-- whether an expression of that strength as a left operand goes on so, read at level k
abbrev pub goes_so : Behind → (k strength : ℕ) → Follow → List Token → Bool
goes_so b k s (follow.Operated o) ts = nat_le k (operator_level o) && nat_le (left_level o) s
goes_so b k s follow.Dotted ts = nat_le 9 s
goes_so b k s follow.Tests ts = nat_le k 4 && (nat_le 5 s && not (ends_test b ts))
goes_so b k s follow.Other ts = false

-- whether it goes on
abbrev pub goes_on : Behind → (k : ℕ) → Measured → List Token → Bool
goes_on b k a ts = goes_so b k a.strength (follow_at ts) ts

-- how high a part may be beside what was read: not at all where that is too high already
abbrev pub room_beside : (room : ℕ) → Measured → ℕ
room_beside room a = if nat_le a.height room then room else 0

-- nothing is read for the height, where an expression would begin
abbrev pub nothing_at : ℕ → Reader Measured
nothing_at k ts = Fails ts (stands k (opening_at ts)) None

-- with pattern C, by its position and the case
abbrev pub tested_case : (room : ℕ) → Reader (Pos × CaseName)
tested_case room =
    pair_word pair.WithPattern ⨟ λ p. with_room room upper ⨟ λ u. behind_whole (case_from u) ⨟ λ c. pure (p, c)

module _ (ex : Lower) (room : ℕ) where
  -- a part beside what was read: none where that is too high already
  abbrev pub beside : Measured → Lower
  beside a b k = if nat_le a.height room then ex b k else nothing_at k

  -- o E
  abbrev pub operated : Behind → Measured → Operator → Reader Measured
  operated b a o =
      any_pos ⨟ λ p. beside a b (suc (operator_level o))
      ⨟ λ e. pure (ending (operator_level o) (max a.height e.height) e.strength e.in_match
      (node.Binary o p a.node e.node))

  -- . w
  abbrev pub selected : Measured → Reader Measured
  selected a =
      sign symbol.Dot ⨟ λ p. with_room (room_beside room a) lower
      ⨟ λ w. pure (closed 9 a.height (node.Field a.node w))

  -- with pattern C
  abbrev pub tested : Measured → Reader Measured
  tested a =
      pair_word pair.WithPattern ⨟ λ p. with_room (room_beside room a) upper ⨟ λ u. behind_whole (case_from u)
      ⨟ λ c. pure (closed 4 a.height (node.Test a.node p c))

  -- one step, by what follows
  abbrev pub step_by : Behind → Measured → Follow → Reader Measured
  step_by b a (follow.Operated o) = operated b a o
  step_by b a follow.Dotted = selected a
  step_by b a follow.Tests = tested a
  step_by b a follow.Other = nothing

  -- one step
  abbrev pub step : Behind → Measured → Reader Measured
  step b a = behind_whole (λ ts. step_by b a (follow_at ts) ts)
