-- Worked examples: tokens with the tree that they spell, and trees that no tokens spell.
use Rattle.std.proofs.Common.{◌≡◌, ◌≤◌, ◌∙◌, ℕ, zero, suc, pos, List, [], ◌∷◌, None, ap, arith, rules}
use Rattle.cat_pos.specs.declared.pos.Pos.{Pos}
use Rattle.cat_lex.specs.declared.token.Token.{Token}
use Rattle.cat_lex.specs.declared.token.TokenKind.TheVariants as kind
use Rattle.cat_lex.specs.declared.words.Keyword.{Keyword}
use Rattle.cat_lex.specs.declared.words.Keyword.TheVariants as key
use Rattle.cat_lex.specs.declared.words.DoubleKeyword.{DoubleKeyword}
use Rattle.cat_lex.specs.declared.words.DoubleKeyword.TheVariants as pair
use Rattle.cat_lex.specs.declared.symbol.Symbol.{Symbol}
use Rattle.cat_lex.specs.declared.symbol.Symbol.TheVariants as symbol
use Rattle.cat_tree.specs.declared.name.Name.{Name}
use Rattle.cat_tree.specs.declared.name.CaseName.TheVariants.{Bare}
use Rattle.cat_tree.specs.declared.name.Base.TheVariants as base
use Rattle.cat_tree.specs.declared.expression.Unit.TheVariants as unit
use Rattle.cat_tree.specs.declared.expression.SurfaceLiteral.TheVariants as literal
use Rattle.cat_tree.specs.declared.expression.Prefix.TheVariants as prefix
use Rattle.cat_tree.specs.declared.expression.Operator.TheVariants as op
use Rattle.cat_tree.specs.declared.expression.Each.TheVariants as each
use Rattle.cat_tree.specs.declared.expression.Pattern.TheVariants as pattern
use Rattle.cat_tree.specs.declared.expression.Node.{Node}
use Rattle.cat_tree.specs.declared.expression.Node.TheVariants as leaf
use Rattle.cat_tree.specs.declared.expression.Node.TheViews as node
use Rattle.cat_tree.specs.declared.expression.SurfaceArm.{SurfaceArm}
use Rattle.cat_tree.specs.Limits.{most_height}
use Rattle.cat_tree.specs.Spells.{Spells, height_of}
use Rattle.cat_tree.proofs.Along.{spells}
use Rattle.cat_tree.proofs.Equations.{phrases}
use Rattle.cat_tree.proofs.HeightEquations.{height_of_is, part_Parens}

abbrev pub name : Name → Token
name w = record { kind = kind.Lower w.text; pos = w.pos }

abbrev pub type : Name → Token
type u = record { kind = kind.Upper u.text; pos = u.pos }

abbrev pub «word» : Keyword → Pos → Token
«word» k p = record { kind = kind.Word k; pos = p }

abbrev pub words : DoubleKeyword → Pos → Token
words d p = record { kind = kind.Pair d; pos = p }

abbrev pub sign : Symbol → Pos → Token
sign s p = record { kind = kind.Symbol s; pos = p }

abbrev pub local : Name → Node
local w = leaf.Name w

abbrev arm : Name → Node → SurfaceArm
arm u e = record { pattern = pattern.Case (Bare u) None; body = e }

-- a - b - c
differences_go_left : (a b c : Name) (p q : Pos)
    → Spells (node.Binary op.Minus q (node.Binary op.Minus p (local a) (local b)) (local c))
    (name a ∷ sign symbol.Minus p ∷ name b ∷ sign symbol.Minus q ∷ name c ∷ [])
differences_go_left a b c p q = spells _ _ (search (rules, phrases)) (search (rules, phrases))

-- a - (b - c)
parentheses_stay_in_the_tree : (a b c : Name) (p q r s : Pos)
    → Spells (node.Binary op.Minus p (local a) (node.Parens q (node.Binary op.Minus r (local b) (local c))))
    (name a ∷ sign symbol.Minus p ∷ sign symbol.LeftParen q ∷ name b ∷ sign symbol.Minus r ∷ name c ∷ sign
    symbol.RightParen s ∷ [])
parentheses_stay_in_the_tree a b c p q r s = spells _ _ (search (rules, phrases)) (search (rules, phrases))

-- f of a, b + c
arguments_end_before_an_operator : (f a b c : Name) (p q r : Pos)
    → Spells (node.Binary op.Plus r (node.Call f (local a ∷ local b ∷ [])) (local c))
    (name f ∷ «word» key.Of p ∷ name a ∷ sign symbol.Comma q ∷ name b ∷ sign symbol.Plus r ∷ name c ∷ [])
arguments_end_before_an_operator f a b c p q r = spells _ _ (search (rules, phrases)) (search (rules, phrases))

-- - a * b
a_negation_is_a_factor : (a b : Name) (p q : Pos)
    → Spells (node.Binary op.Times q (node.Prefixed prefix.Negate p (local a)) (local b))
    (sign symbol.Minus p ∷ name a ∷ sign symbol.Star q ∷ name b ∷ [])
a_negation_is_a_factor a b p q = spells _ _ (search (rules, phrases)) (search (rules, phrases))

-- not a = b
a_comparison_is_negated : (a b : Name) (p q : Pos)
    → Spells (node.Prefixed prefix.Not p (node.Binary op.Equal q (local a) (local b)))
    («word» key.Not p ∷ name a ∷ sign symbol.Equal q ∷ name b ∷ [])
a_comparison_is_negated a b p q = spells _ _ (search (rules, phrases)) (search (rules, phrases))

-- 30 day
days_are_one_literal : (p q : Pos) → Spells (leaf.Literal (literal.Span (pos 30) unit.Day) p)
    (record { kind = kind.Int (pos 30); pos = p } ∷ «word» key.Day q ∷ [])
days_are_one_literal p q = spells _ _ (search (rules, phrases)) (search (rules, phrases))

-- sum list of money of a
a_type_keeps_its_lists : (a : Name) (p q r s : Pos)
    → Spells (node.Sum p (record { lists = 1; base = base.Money; pos = r }) (local a))
    («word» key.Sum p ∷ words pair.ListOf q ∷ «word» key.Money r ∷ «word» key.Of s ∷ name a ∷ [])
a_type_keeps_its_lists a p q r s = spells _ _ (search (rules, phrases)) (search (rules, phrases))

-- a + if b then c else d
a_form_is_a_right_operand : (a b c d : Name) (p q r s : Pos)
    → Spells (node.Binary op.Plus p (local a) (node.If q (local b) (local c) (local d)))
    (name a ∷ sign symbol.Plus p ∷ «word» key.If q ∷ name b ∷ «word» key.Then r ∷ name c ∷ «word» key.Else s ∷ name d
    ∷ [])
a_form_is_a_right_operand a b c d p q r s = spells _ _ (search (rules, phrases)) (search (rules, phrases))

-- match a with pattern -- A : match b with pattern -- B : c -- C : d
arms_go_to_the_inner_match : (a b c d u v w : Name) (p q p1 p2 p3 p4 p5 p6 p7 p8 : Pos)
    → Spells (node.Match p (local a) (arm u (node.Match q (local b) (arm v (local c) ∷ arm w (local d) ∷ [])) ∷ []))
    («word» key.Match p ∷ name a ∷ words pair.WithPattern p1 ∷ sign symbol.MinusMinus p2 ∷ type u ∷ sign symbol.Colon p3
    ∷ «word» key.Match q ∷ name b ∷ words pair.WithPattern p4 ∷ sign symbol.MinusMinus p5 ∷ type v ∷ sign symbol.Colon
    p6 ∷ name c
    ∷ sign symbol.MinusMinus p7 ∷ type w ∷ sign symbol.Colon p8 ∷ name d ∷ [])
arms_go_to_the_inner_match a b c d u v w p q p1 p2 p3 p4 p5 p6 p7 p8 =
    spells _ _ (search (rules, phrases)) (search (rules, phrases))

-- output of S with { -- a : b } . c
a_scope_is_called : (s a b c : Name) (p p1 p2 p3 p4 p5 p6 : Pos)
    → Spells (node.ScopeCall p s (record { name = a; value = local b } ∷ []) c)
    (words pair.OutputOf p ∷ type s ∷ «word» key.With p1 ∷ sign symbol.LeftBrace p2 ∷ sign symbol.MinusMinus p3 ∷ name a
    ∷ sign symbol.Colon p4 ∷ name b ∷ sign symbol.RightBrace p5 ∷ sign symbol.Dot p6 ∷ name c ∷ [])
a_scope_is_called s a b c p p1 p2 p3 p4 p5 p6 = spells _ _ (search (rules, phrases)) (search (rules, phrases))

-- ( ( a ) )
parentheses_count : (a : Name) (p q : Pos) → height_of (node.Parens p (node.Parens q (local a))) ≡ 3
parentheses_count a p q = search (rules, phrases)

-- so many parentheses about a name
abbrev enclosed : ℕ → Name → Pos → Node
enclosed zero a p = local a
enclosed (suc n) a p = node.Parens p (enclosed n a p)

each_pair_counts : (n : ℕ) (a : Name) (p : Pos) → height_of (enclosed n a p) ≡ suc n
each_pair_counts zero a p = search (rules, phrases)
each_pair_counts (suc n) a p =
    height_of_is (node.Parens p (enclosed n a p))
    ∙ ap suc (part_Parens p (enclosed n a p) ∙ each_pair_counts n a p)

-- 255 pairs keep the limit, and one more doesn't
as_high_as_may_be : (a : Name) (p : Pos) → height_of (enclosed 255 a p) ≤ most_height
as_high_as_may_be a p = let high = each_pair_counts 255 a p in omega (arith, high)

one_too_high : (a : Name) (p : Pos) → height_of (enclosed 256 a p) ≤ most_height → ⊥
one_too_high a p low = let high = each_pair_counts 256 a p in omega (arith, high, low)

-- [ a ; b + c ]
the_highest_element_counts : (a b c : Name) (p q : Pos)
    → height_of (node.List p (local a ∷ node.Binary op.Plus q (local b) (local c) ∷ [])) ≡ 3
the_highest_element_counts a b c p q = search (rules, phrases)

-- ---- trees that no tokens spell

-- a - (b - c) without its parentheses
differences_do_not_go_right : (a b c : Node) (p q : Pos) (ts : List Token)
    → Spells (node.Binary op.Minus p a (node.Binary op.Minus q b c)) ts → ⊥
differences_do_not_go_right a b c p q ts h = let l = h.levels in absurd (search (rules, phrases))

-- (a < b) < c without its parentheses
comparisons_are_not_compared : (a b c : Node) (p q : Pos) (ts : List Token)
    → Spells (node.Binary op.Less q (node.Binary op.Less p a b) c) ts → ⊥
comparisons_are_not_compared a b c p q ts h = let l = h.levels in absurd (search (rules, phrases))

-- (if a then b else c) + d without its parentheses
a_form_is_no_left_operand : (a b c d : Node) (p q : Pos) (ts : List Token)
    → Spells (node.Binary op.Plus q (node.If p a b c) d) ts → ⊥
a_form_is_no_left_operand a b c d p q ts h = let l = h.levels in absurd (search (rules, phrases))

-- (not if a then b else c) and d without its parentheses
nor_is_what_ends_in_one : (a b c d : Node) (p q r : Pos) (ts : List Token)
    → Spells (node.Binary op.And q (node.Prefixed prefix.Not p (node.If r a b c)) d) ts → ⊥
nor_is_what_ends_in_one a b c d p q r ts h = let l = h.levels in absurd (search (rules, phrases))

-- (for all w among a we have b) with pattern C, without its parentheses
a_form_is_not_tested : (a b : Node) (w c : Name) (p q : Pos) (ts : List Token)
    → Spells (node.Test (node.Each each.ForAll p w a b) q (Bare c)) ts → ⊥
a_form_is_not_tested a b w c p q ts h = let l = h.levels in absurd (search (rules, phrases))

-- f of - a
an_argument_is_no_negation : (f : Name) (p : Pos) (a : Node) (ts : List Token)
    → Spells (node.Call f (node.Prefixed prefix.Negate p a ∷ [])) ts → ⊥
an_argument_is_no_negation f p a ts h = let l = h.levels in absurd (search (rules, phrases))

-- an arm behind an inner match, which would have taken it
an_inner_match_is_in_the_last_arm : (a b c d : Node) (u v w : Name) (p q : Pos) (ts : List Token)
    → Spells (node.Match p a (arm u (node.Match q b (arm v c ∷ [])) ∷ arm w d ∷ [])) ts → ⊥
an_inner_match_is_in_the_last_arm a b c d u v w p q ts h = let l = h.levels in absurd (search (rules, phrases))

-- U { }
a_literal_has_fields : (u : Name) (ts : List Token) → Spells (node.Structure u []) ts → ⊥
a_literal_has_fields u ts h = let l = h.levels in absurd (search (rules, phrases))

a_call_has_arguments : (f : Name) (ts : List Token) → Spells (node.Call f []) ts → ⊥
a_call_has_arguments f ts h = let l = h.levels in absurd (search (rules, phrases))

a_match_has_arms : (a : Node) (p : Pos) (ts : List Token) → Spells (node.Match p a []) ts → ⊥
a_match_has_arms a p ts h = let l = h.levels in absurd (search (rules, phrases))

-- 1000000000 day
a_duration_is_bounded : (p : Pos) (ts : List Token) → Spells (leaf.Literal (literal.Span (pos 1000000000) unit.Day) p)
    ts → ⊥
a_duration_is_bounded p ts h = let l = h.levels in absurd (search (rules, phrases))
