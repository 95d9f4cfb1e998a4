-- The height of the highest part of each form.
use Rattle.std.proofs.Common.{◌≡◌, ℕ, zero, suc, max, List, [], ◌∷◌, map, Some, None, refl, ◌∙◌, arith}
use Rattle.std.proofs.Math.Nat.{max-zero}
use Rattle.cat_pos.specs.declared.pos.Pos.{Pos}
use Rattle.cat_lex.specs.declared.symbol.Symbol.{Symbol}
use Rattle.cat_lex.specs.declared.symbol.Symbol.TheVariants as symbol
use Rattle.cat_tree.specs.Accumulation.{accumulation}
use Rattle.cat_tree.specs.declared.name.Name.{Name}
use Rattle.cat_tree.specs.declared.name.CaseName.{CaseName}
use Rattle.cat_tree.specs.declared.name.CaseName.TheVariants.{Bare, Qualified}
use Rattle.cat_tree.specs.declared.name.Type as types
use Rattle.cat_tree.specs.declared.expression.SurfaceLiteral.{SurfaceLiteral}
use Rattle.cat_tree.specs.declared.expression.SurfaceLiteral.TheVariants as literal
use Rattle.cat_tree.specs.declared.expression.Prefix.{Prefix}
use Rattle.cat_tree.specs.declared.expression.Prefix.TheVariants as prefix
use Rattle.cat_tree.specs.declared.expression.Operator.{Operator}
use Rattle.cat_tree.specs.declared.expression.Each.{Each}
use Rattle.cat_tree.specs.declared.expression.Each.TheVariants as each
use Rattle.cat_tree.specs.declared.expression.Pattern.{Pattern}
use Rattle.cat_tree.specs.declared.expression.Pattern.TheVariants as pattern
use Rattle.cat_tree.specs.declared.expression.Node.{Node}
use Rattle.cat_tree.specs.declared.expression.Node.TheVariants as leaf
use Rattle.cat_tree.specs.declared.expression.Node.TheViews as node
use Rattle.cat_tree.specs.declared.expression.SurfaceField.{SurfaceField}
use Rattle.cat_tree.specs.declared.expression.SurfaceArm.{SurfaceArm}
use Rattle.cat_tree.specs.Phrase.{Phrase, Row, Parts, End, tallest}
use Rattle.cat_tree.specs.Phrase as Phrase
use Rattle.cat_tree.specs.Grammar.{phrase}
use Rattle.cat_tree.specs.Literals.{case_parts, lists_of, literal_parts}
use Rattle.cat_tree.specs.Operators.{prefix_parts}
use Rattle.cat_tree.specs.Rows.{pattern_parts, elements, fields, arms, each_parts}
use Rattle.cat_tree.specs.Spells.{height_of}
use Rattle.cat_tree.specs.inside.Highest.{tallest_part, highest_part, highest_node, highest_value, highest_body}
use Rattle.cat_tree.proofs.Equations.{field_row, arm_row, phrase_Literal, phrase_Name, phrase_Case, phrase_Parens}
use Rattle.cat_tree.proofs.Equations.{phrase_Field, phrase_Prefixed, phrase_Sum, phrase_Content, phrase_Call}
use Rattle.cat_tree.proofs.Equations.{phrase_Binary, phrase_Test, phrase_List, phrase_Structure, phrase_ScopeCall}
use Rattle.cat_tree.proofs.Equations.{phrase_If, phrase_Match, phrase_Each, phrase_Combine}

one_above : (e : Phrase) → Phrase.height e ≡ suc (tallest_part e)
one_above (Row r ps) = refl

pub height_of_is : (e : Node) → height_of e ≡ suc (highest_part e)
height_of_is e = one_above (phrase e)

-- ---- what words add nothing to

literal_low : (l : SurfaceLiteral) (p : Pos) → tallest (literal_parts l p) ≡ 0
literal_low (literal.Int n) p = refl
literal_low (literal.Dec d) p = refl
literal_low (literal.Pct d) p = refl
literal_low (literal.Money m) p = refl
literal_low (literal.Date d) p = refl
literal_low (literal.Boolean b) p = refl
literal_low (literal.Span n u) p = refl

case_low : (c : CaseName) (rest : Parts) → tallest (case_parts c rest) ≡ tallest rest
case_low (Bare c) rest = refl
case_low (Qualified e c) rest = refl

lists_low : (n : ℕ) (rest : Parts) → tallest (lists_of n rest) ≡ tallest rest
lists_low zero rest = refl
lists_low (suc n) rest = lists_low n rest

prefix_low : (o : Prefix) (p : Pos) (rest : Parts) → tallest (prefix_parts o p rest) ≡ tallest rest
prefix_low prefix.Not p rest = refl
prefix_low prefix.Negate p rest = refl
prefix_low prefix.IntegerOf p rest = refl
prefix_low prefix.DecimalOf p rest = refl
prefix_low prefix.MoneyOf p rest = refl
prefix_low prefix.RoundOf p rest = refl
prefix_low prefix.GetYear p rest = refl
prefix_low prefix.GetMonth p rest = refl
prefix_low prefix.GetDay p rest = refl
prefix_low prefix.NumberOf p rest = refl

pattern_low : (a : Pattern) (rest : Parts) → tallest (pattern_parts a rest) ≡ tallest rest
pattern_low pattern.Anything rest = refl
pattern_low (pattern.Case c None) rest = case_low c rest
pattern_low (pattern.Case c (Some w)) rest = case_low c _

-- ---- rows

elements_high : (k : ℕ) (s : Symbol) (es : List Node) (rest : Parts) → tallest (elements k s (map phrase es) rest) ≡ max
    (highest_node es) (tallest rest)
elements_high k s [] rest = omega arith
elements_high k s (e ∷ []) rest = omega arith
elements_high k s (e ∷ d ∷ es) rest = omega (arith, elements_high k s (d ∷ es) rest)

fields_high : (fs : List SurfaceField) (rest : Parts) → tallest (fields (map field_row fs) rest)
    ≡ max (highest_value fs)
    (tallest rest)
fields_high [] rest = omega arith
fields_high (f ∷ fs) rest = omega (arith, fields_high fs rest)

arms_high : (xs : List SurfaceArm) → tallest (arms (map arm_row xs)) ≡ highest_body xs
arms_high [] = refl
arms_high (a ∷ []) = pattern_low a.pattern _
arms_high (a ∷ b ∷ more) = pattern_low a.pattern _ ∙ omega (arith, arms_high (b ∷ more))

-- ---- the forms

pub part_Literal : (l : SurfaceLiteral) (p : Pos) → highest_part (leaf.Literal l p) ≡ 0
part_Literal l p = rw (phrase_Literal l p) (literal_low l p)

pub part_Name : (w : Name) → highest_part (leaf.Name w) ≡ 0
part_Name w = rw (phrase_Name w) refl

pub part_Case : (c : CaseName) → highest_part (leaf.Case c) ≡ 0
part_Case c = rw (phrase_Case c) (case_low c End)

pub part_Parens : (p : Pos) (e : Node) → highest_part (node.Parens p e) ≡ height_of e
part_Parens p e = rw (phrase_Parens p e) (omega arith)

pub part_Field : (e : Node) (w : Name) → highest_part (node.Field e w) ≡ height_of e
part_Field e w = rw (phrase_Field e w) (omega arith)

pub part_Prefixed : (o : Prefix) (p : Pos) (e : Node) → highest_part (node.Prefixed o p e) ≡ height_of e
part_Prefixed o p e = rw (phrase_Prefixed o p e) (prefix_low o p _ ∙ omega arith)

pub part_Sum : (p : Pos) (t : types.Type) (e : Node) → highest_part (node.Sum p t e) ≡ height_of e
part_Sum p t e = rw (phrase_Sum p t e) (lists_low t.lists _ ∙ omega arith)

pub part_Content : (c : CaseName) (e : Node) → highest_part (node.Content c e) ≡ height_of e
part_Content c e = rw (phrase_Content c e) (case_low c _ ∙ omega arith)

pub part_Call : (f : Name) (args : List Node) → highest_part (node.Call f args) ≡ highest_node args
part_Call f args = rw (phrase_Call f args) (omega (arith, elements_high 9 symbol.Comma args End))

pub part_Binary : (o : Operator) (p : Pos) (a b : Node) → highest_part (node.Binary o p a b) ≡ max (height_of a)
    (height_of b)
part_Binary o p a b = rw (phrase_Binary o p a b) (omega arith)

pub part_Test : (e : Node) (p : Pos) (c : CaseName) → highest_part (node.Test e p c) ≡ height_of e
part_Test e p c = rw (phrase_Test e p c) (omega (arith, case_low c End))

pub part_List : (p : Pos) (es : List Node) → highest_part (node.List p es) ≡ highest_node es
part_List p es = rw (phrase_List p es) (elements_high 0 symbol.Semicolon es _ ∙ max-zero (highest_node es))

pub part_Structure : (u : Name) (fs : List SurfaceField) → highest_part (node.Structure u fs) ≡ highest_value fs
part_Structure u fs = rw (phrase_Structure u fs) (fields_high fs _ ∙ max-zero (highest_value fs))

pub part_ScopeCall : (p : Pos) (u : Name) (fs : List SurfaceField) (w : Name) → highest_part (node.ScopeCall p u fs w)
    ≡ highest_value fs
part_ScopeCall p u fs w = rw (phrase_ScopeCall p u fs w) (fields_high fs _ ∙ max-zero (highest_value fs))

pub part_If : (p : Pos) (c t e : Node) → highest_part (node.If p c t e) ≡ max (height_of c)
    (max (height_of t) (height_of e))
part_If p c t e = rw (phrase_If p c t e) (omega arith)

pub part_Match : (p : Pos) (e : Node) (more : List SurfaceArm) → highest_part (node.Match p e more) ≡ max (height_of e)
    (highest_body more)
part_Match p e more = rw (phrase_Match p e more) (omega (arith, arms_high more))

each_high : (k : Each) (p : Pos) (w : Name) (l e : Phrase) → tallest (each_parts k p w l e) ≡ max (Phrase.height l)
    (Phrase.height e)
each_high each.ForAll p w l e = omega arith
each_high each.Exists p w l e = omega arith
each_high each.MapEach p w l e = omega arith
each_high each.ListOf p w l e = omega arith

pub part_Each : (k : Each) (p : Pos) (w : Name) (l e : Node) → highest_part (node.Each k p w l e) ≡ max (height_of l)
    (height_of e)
part_Each k p w l e = rw (phrase_Each k p w l e) (each_high k p w (phrase l) (phrase e))

pub part_Combine : (p : Pos) (w : Name) (l : Node) (acc : Name) (s e : Node)
    → highest_part (node.Combine (accumulation p w acc) l s e)
    ≡ max (height_of l) (max (height_of s) (height_of e))
part_Combine p w l acc s e = rw (phrase_Combine p w l acc s e) (omega arith)

pub ruleset parts = (
  part_Literal,
  part_Name,
  part_Case,
  part_Parens,
  part_Field,
  part_Prefixed,
  part_Sum,
  part_Content,
  part_Call,
  part_Binary,
  part_Test,
  part_List,
  part_Structure,
  part_ScopeCall,
  part_If,
  part_Match,
  part_Each,
  part_Combine,
)
