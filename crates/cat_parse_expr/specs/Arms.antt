-- The readers of patterns and of the arms of a match.
use Rattle.std.specs.Prelude.{Bool, false, not, ◌&&◌, List, Some, None}
use Rattle.cat_lex.specs.declared.token.Token.{Token}
use Rattle.cat_lex.specs.declared.words.Keyword.TheVariants as key
use Rattle.cat_lex.specs.declared.symbol.Symbol.TheVariants as symbol
use Rattle.cat_tree.specs.declared.name.CaseName.{CaseName}
use Rattle.cat_tree.specs.declared.name.CaseName.TheVariants.{Bare, Qualified}
use Rattle.cat_tree.specs.declared.name.Name.{Name}
use Rattle.cat_tree.specs.declared.expression.Pattern.{Pattern}
use Rattle.cat_tree.specs.declared.expression.Pattern.TheVariants as pattern
use Rattle.cat_parse_expr.specs.declared.cue.Cue.TheVariants as cue
use Rattle.cat_parse_expr.specs.declared.behind.Behind.{Behind}
use Rattle.cat_parse_expr.specs.declared.behind.Behind.TheVariants.{Field, Pattern as Tested}
use Rattle.cat_parse_expr.specs.declared.measured.Measured.{Measured}
use Rattle.cat_parse_expr.specs.declared.measured.MatchArms.{MatchArms}
use Rattle.cat_parse_expr.specs.Measures.{with_arm, no_arms}
use Rattle.cat_parse_expr.specs.Reader.{Reader, ◌⨟◌, pure, by_word, heads, heads_second, hidden, behind_whole}
use Rattle.cat_parse_expr.specs.Cues.{cue_is, lower, upper}
use Rattle.cat_parse_expr.specs.Parts.{Lower, key_word, sign, is_sign, is_lower, as_many}

-- [. U]
abbrev pub case_from : Name → Reader CaseName
case_from u =
    by_word (is_sign symbol.Dot) (sign symbol.Dot ⨟ λ p. upper ⨟ λ c. pure (Qualified u c)) (pure (Bare u))

-- C [of w]
abbrev pub case_pattern : Reader Pattern
case_pattern =
    upper ⨟ λ u. case_from u ⨟ λ c. by_word (cue_is (cue.Word key.Of))
    (key_word key.Of ⨟ λ p. lower ⨟ λ w. pure (pattern.Case c (Some w))) (pure (pattern.Case c None))

-- anything | C [of w]
abbrev pub a_pattern : Reader Pattern
a_pattern =
    by_word (cue_is (cue.Word key.Anything)) (key_word key.Anything ⨟ λ p. pure pattern.Anything) case_pattern

-- -- P :
abbrev pub arm_head : Reader Pattern
arm_head = sign symbol.MinusMinus ⨟ λ p. a_pattern ⨟ λ a. sign symbol.Colon ⨟ λ q. pure a

-- -- P : E
abbrev pub next_arm : Lower → Behind → MatchArms → Reader MatchArms
next_arm ex b l = arm_head ⨟ λ a. ex b 0 ⨟ λ e. pure (with_arm l a e)

-- the same behind a match that is whole
abbrev pub further_arm : Lower → Behind → MatchArms → Reader MatchArms
further_arm ex b l = behind_whole (next_arm ex b l)

-- what follows is a field of an outer form, and no arm
abbrev pub ends_arms : Behind → List Token → Bool
ends_arms Field ts = heads_second is_lower ts
ends_arms _ ts = false

-- Whether an arm follows. One that ends in a match leaves none over.
abbrev pub has_arm_behind : Behind → (in_match : Bool) → List Token → Bool
has_arm_behind b in_match ts = not in_match && (heads (is_sign symbol.MinusMinus) ts && not (ends_arms b ts))

-- whether one follows these
abbrev pub has_arm : Behind → MatchArms → List Token → Bool
has_arm b l ts = has_arm_behind b l.in_match ts

-- [-- P : E]*, one at least
abbrev pub arms : Lower → Behind → Reader MatchArms
arms ex b = next_arm ex b no_arms ⨟ as_many (has_arm b) (further_arm ex b)

-- what is matched
abbrev pub matched_value : Lower → Reader Measured
matched_value ex = hidden (ex Tested 0)
