-- How an expression begins: its first word, and the form that it is by that.
use Rattle.std.proofs.Common.{◌≡◌, Bool, true, false, List, ◌∷◌, ◌++◌, Option, Some, None, refl, sym, ap, subst, ◌∙◌}
use Rattle.std.proofs.Common.{◌⊎◌}
use Rattle.cat_lex.specs.declared.token.TokenKind.TheVariants as kind
use Rattle.cat_tree.specs.declared.name.Type as types
use Rattle.cat_tree.specs.declared.expression.SurfaceLiteral.TheVariants as literal
use Rattle.cat_tree.specs.declared.expression.Prefix.TheVariants as prefix
use Rattle.cat_tree.specs.declared.expression.Each.TheVariants as each
use Rattle.cat_tree.specs.declared.expression.Node.TheVariants as leaves
use Rattle.cat_tree.specs.declared.expression.Node.TheViews as node
use Rattle.cat_parse_expr.specs.declared.opening.Opening.TheVariants as opening
use Rattle.cat_parse_expr.proofs.Common.{Pos, Token, TokenKind, accumulation, Name, CaseName, Bare, Qualified}
use Rattle.cat_parse_expr.proofs.Common.{SurfaceLiteral, Prefix, Each, SurfaceArm, SurfaceField, Node, literal_parts}
use Rattle.cat_parse_expr.proofs.Common.{prefix_level, prefix_parts, each_parts, Phrase, Row, Parts, End, Word, Part}
use Rattle.cat_parse_expr.proofs.Common.{Operand, At, IsSpelling, AreSpelled, phrase, phrase_Call, phrase_Case}
use Rattle.cat_parse_expr.proofs.Common.{phrase_Combine, phrase_Content, phrase_Each, phrase_Field, phrase_If}
use Rattle.cat_parse_expr.proofs.Common.{phrase_List, phrase_Literal, phrase_Match, phrase_Name, phrase_Parens}
use Rattle.cat_parse_expr.proofs.Common.{phrase_Prefixed, phrase_ScopeCall, phrase_Structure, phrase_Sum, Opening}
use Rattle.cat_parse_expr.proofs.Common.{opening_of, opening_at}
use Rattle.cat_parse_expr.proofs.Follows.{kind_at, kind_is}

-- ---- the first word

abbrev mutual
  pub first_of : Phrase → Option TokenKind
  first_of (Row r ps) = firsts ps

  pub firsts : Parts → Option TokenKind
  firsts End = None
  firsts (Word m ps) = Some (kind_at m)
  firsts (Part s e ps) = first_of e

-- the tokens begin with a token of that kind
abbrev pub Begins : TokenKind → List Token → Type 0
Begins k w = (t : Token) × (more : List Token) × (w ≡ t ∷ more) × (t.kind ≡ k)

mutual
  pub first_is : (f : Phrase) (k : TokenKind) (w : List Token) → first_of f ≡ Some k → IsSpelling f w → Begins k w
  first_is (Row r ps) k w e s = firsts_are ps k w e s

  pub firsts_are : (ps : Parts) (k : TokenKind) (w : List Token) → firsts ps ≡ Some k → AreSpelled ps w → Begins k w
  firsts_are End k w e s = absurd cc
  firsts_are (Word m ps) k w e s =
      (s.0, s.1, s.2, kind_is m s.0 s.3 ∙ ap (λ (o : Option TokenKind). elim o [ None ↦ k | Some z ↦ z ]) e)
  firsts_are (Part q f ps) k w e s =
      let b = first_is f k s.0 e s.3 in
      (b.0, b.1 ++ s.1, s.2 ∙ ap (λ (u : List Token). u ++ s.1) b.2, b.3)

-- ---- the form by the first word

abbrev pub opening_with : Option TokenKind → Opening
opening_with None = opening.Nothing
opening_with (Some k) = opening_of k

-- the form that an expression is, by its first word
abbrev pub class_of : Node → Opening
class_of n = opening_with (first_of (phrase n))

pub opens : (f : Phrase) (w v : List Token) → IsSpelling f w → (opening_with (first_of f) ≡ opening.Nothing → ⊥)
    → opening_at (w ++ v) ≡ opening_with (first_of f)
opens f w v s some = by (first_of f) refl some
  where
    by : (o : Option TokenKind) → first_of f ≡ o → (opening_with o ≡ opening.Nothing → ⊥)
        → opening_at (w ++ v) ≡ opening_with o
    by None e some = absurd (some refl)
    by (Some k) e some =
        let b = first_is f k w e s in
        ap (λ (u : List Token). opening_at (u ++ v)) b.2 ∙ ap opening_of b.3

-- a bare case
abbrev pub is_bare : Phrase → Bool
is_bare (Row r (Word (At (kind.Upper u) p) End)) = true
is_bare f = false

-- What an expression is, that is no step behind another one. A field of a bare case is read with the case.
abbrev pub Shape : Opening → Node → Type 0
Shape opening.Literal n = (l : SurfaceLiteral) × (p : Pos) × (n ≡ leaves.Literal l p)
Shape opening.Name n = ((w : Name) × (n ≡ leaves.Name w)) ⊎ ((f : Name) × (args : List Node) × (n ≡ node.Call f args))
Shape opening.Case n =
    ((c : CaseName) × (n ≡ leaves.Case c)) ⊎ (((c : CaseName) × (e : Node) × (n ≡ node.Content c e))
    ⊎ (((u : Name) × (fs : List SurfaceField) × (n ≡ node.Structure u fs))
    ⊎ ((u w : Name) × (n ≡ node.Field (leaves.Case (Bare u)) w))))
Shape opening.Parens n = (p : Pos) × (e : Node) × (n ≡ node.Parens p e)
Shape opening.List n = (p : Pos) × (es : List Node) × (n ≡ node.List p es)
Shape opening.ScopeCall n = (p : Pos) × (u : Name) × (fs : List SurfaceField) × (w : Name)
    × (n ≡ node.ScopeCall p u fs w)
Shape (opening.Prefixed o) n = (p : Pos) × (e : Node) × (n ≡ node.Prefixed o p e)
Shape opening.Sum n = (p : Pos) × (t : types.Type) × (e : Node) × (n ≡ node.Sum p t e)
Shape opening.If n = (p : Pos) × (c t e : Node) × (n ≡ node.If p c t e)
Shape opening.Match n = (p : Pos) × (e : Node) × (more : List SurfaceArm) × (n ≡ node.Match p e more)
Shape (opening.Each k) n = (p : Pos) × (w : Name) × (l e : Node) × (n ≡ node.Each k p w l e)
Shape opening.Combine n =
    (p : Pos) × (w : Name) × (l : Node) × (acc : Name) × (s e : Node)
    × (n ≡ node.Combine (accumulation p w acc) l s e)
Shape opening.Nothing n = ⊥

-- what begins with the word that its form begins with
abbrev pub IsPrimary : Node → Type 0
IsPrimary n = Shape (class_of n) n

pub class_by : (n : Node) (f : Phrase) (c : Opening) → phrase n ≡ f → opening_with (first_of f) ≡ c → class_of n ≡ c
class_by n f c e i = ap (λ (g : Phrase). opening_with (first_of g)) e ∙ i

pub primary_by : (n : Node) (c : Opening) → class_of n ≡ c → Shape c n → IsPrimary n
primary_by n c e s = subst (λ (d : Opening). Shape d n) (sym e) s

-- ---- the class of each form

pub class_Literal : (l : SurfaceLiteral) (p : Pos) → class_of (leaves.Literal l p) ≡ opening.Literal
class_Literal l p = ap (λ (g : Phrase). opening_with (first_of g)) (phrase_Literal l p) ∙ by l
  where
    by : (l : SurfaceLiteral) → opening_with (firsts (literal_parts l p)) ≡ opening.Literal
    by (literal.Int n) = refl
    by (literal.Dec d) = refl
    by (literal.Pct d) = refl
    by (literal.Money m) = refl
    by (literal.Date d) = refl
    by (literal.Boolean true) = refl
    by (literal.Boolean false) = refl
    by (literal.Span n u) = refl

pub class_Name : (w : Name) → class_of (leaves.Name w) ≡ opening.Name
class_Name w = class_by (leaves.Name w) _ opening.Name (phrase_Name w) refl

pub class_Call : (f : Name) (args : List Node) → class_of (node.Call f args) ≡ opening.Name
class_Call f args = class_by (node.Call f args) _ opening.Name (phrase_Call f args) refl

pub class_Case : (c : CaseName) → class_of (leaves.Case c) ≡ opening.Case
class_Case (Bare u) = class_by (leaves.Case (Bare u)) _ opening.Case (phrase_Case (Bare u)) refl
class_Case (Qualified e u) = class_by (leaves.Case (Qualified e u)) _ opening.Case (phrase_Case (Qualified e u)) refl

pub class_Content : (c : CaseName) (e : Node) → class_of (node.Content c e) ≡ opening.Case
class_Content (Bare u) e = class_by (node.Content (Bare u) e) _ opening.Case (phrase_Content (Bare u) e) refl
class_Content (Qualified d u) e =
    class_by (node.Content (Qualified d u) e) _ opening.Case (phrase_Content (Qualified d u) e) refl

pub class_Structure : (u : Name) (fs : List SurfaceField) → class_of (node.Structure u fs) ≡ opening.Case
class_Structure u fs = class_by (node.Structure u fs) _ opening.Case (phrase_Structure u fs) refl

pub class_Selected : (u w : Name) → class_of (node.Field (leaves.Case (Bare u)) w) ≡ opening.Case
class_Selected u w =
    class_by (node.Field (leaves.Case (Bare u)) w) _ opening.Case (phrase_Field (leaves.Case (Bare u)) w)
    (class_Case (Bare u))

pub class_Parens : (p : Pos) (e : Node) → class_of (node.Parens p e) ≡ opening.Parens
class_Parens p e = class_by (node.Parens p e) _ opening.Parens (phrase_Parens p e) refl

pub class_List : (p : Pos) (es : List Node) → class_of (node.List p es) ≡ opening.List
class_List p es = class_by (node.List p es) _ opening.List (phrase_List p es) refl

pub class_ScopeCall : (p : Pos) (u : Name) (fs : List SurfaceField) (w : Name)
    → class_of (node.ScopeCall p u fs w) ≡ opening.ScopeCall
class_ScopeCall p u fs w = class_by (node.ScopeCall p u fs w) _ opening.ScopeCall (phrase_ScopeCall p u fs w) refl

pub class_Prefixed : (o : Prefix) (p : Pos) (e : Node) → class_of (node.Prefixed o p e) ≡ opening.Prefixed o
class_Prefixed o p e = ap (λ (g : Phrase). opening_with (first_of g)) (phrase_Prefixed o p e) ∙ by o
  where
    by : (o : Prefix)
        → opening_with (firsts (prefix_parts o p (Part (Operand (prefix_level o)) (phrase e) End))) ≡ opening.Prefixed o
    by prefix.Not = refl
    by prefix.Negate = refl
    by prefix.IntegerOf = refl
    by prefix.DecimalOf = refl
    by prefix.MoneyOf = refl
    by prefix.RoundOf = refl
    by prefix.GetYear = refl
    by prefix.GetMonth = refl
    by prefix.GetDay = refl
    by prefix.NumberOf = refl

pub class_Sum : (p : Pos) (t : types.Type) (e : Node) → class_of (node.Sum p t e) ≡ opening.Sum
class_Sum p t e = class_by (node.Sum p t e) _ opening.Sum (phrase_Sum p t e) refl

pub class_If : (p : Pos) (c t e : Node) → class_of (node.If p c t e) ≡ opening.If
class_If p c t e = class_by (node.If p c t e) _ opening.If (phrase_If p c t e) refl

pub class_Match : (p : Pos) (e : Node) (more : List SurfaceArm) → class_of (node.Match p e more) ≡ opening.Match
class_Match p e more = class_by (node.Match p e more) _ opening.Match (phrase_Match p e more) refl

pub class_Each : (k : Each) (p : Pos) (w : Name) (l e : Node) → class_of (node.Each k p w l e) ≡ opening.Each k
class_Each k p w l e = ap (λ (g : Phrase). opening_with (first_of g)) (phrase_Each k p w l e) ∙ by k
  where
    by : (k : Each) → opening_with (firsts (each_parts k p w (phrase l) (phrase e))) ≡ opening.Each k
    by each.ForAll = refl
    by each.Exists = refl
    by each.MapEach = refl
    by each.ListOf = refl

pub class_Combine : (p : Pos) (w : Name) (l : Node) (acc : Name) (s e : Node)
    → class_of (node.Combine (accumulation p w acc) l s e) ≡ opening.Combine
class_Combine p w l acc s e =
    class_by (node.Combine (accumulation p w acc) l s e) _ opening.Combine (phrase_Combine p w l acc s e) refl
