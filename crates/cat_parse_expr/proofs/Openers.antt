-- Each expression begins with a word that begins some form, which stands at its level.
use Rattle.std.proofs.Common.{◌≡◌, Bool, true, false, List, [], ◌∷◌, ◌++◌, refl, sym, ap, ◌∙◌}
use Rattle.cat_tree.specs.declared.expression.Node.TheVariants as leaves
use Rattle.cat_tree.specs.declared.expression.Node.TheViews as node
use Rattle.cat_parse_expr.specs.declared.opening.Opening.TheVariants as opening
use Rattle.cat_parse_expr.proofs.Common.{Pos, Token, accumulation, Name, CaseName, Operator, Node, IsSpelling, phrase}
use Rattle.cat_parse_expr.proofs.Common.{phrase_Binary, phrase_Field, phrase_Test, Opening, opening_of, opening_at, Cue}
use Rattle.cat_parse_expr.proofs.Common.{kind_of, cue_is, heads}
use Rattle.cat_parse_expr.proofs.Firsts.{class_of, class_by, opens, class_Literal, class_Name, class_Call, class_Case}
use Rattle.cat_parse_expr.proofs.Firsts.{class_Content, class_Structure, class_Parens, class_List, class_ScopeCall}
use Rattle.cat_parse_expr.proofs.Firsts.{class_Prefixed, class_Sum, class_If, class_Match, class_Each, class_Combine}
use Rattle.cat_parse_expr.proofs.Leaves.{cue_found}
use Rattle.cat_parse_expr.proofs.Induction as forms

-- ---- some form

class_differs : (n : Node) (c : Opening) → class_of n ≡ c → (c ≡ opening.Nothing → ⊥) → class_of n ≡ opening.Nothing → ⊥
class_differs n c e not h = not (sym e ∙ h)

pub class_Binary : (o : Operator) (p : Pos) (a b : Node) → class_of (node.Binary o p a b) ≡ class_of a
class_Binary o p a b = class_by (node.Binary o p a b) _ (class_of a) (phrase_Binary o p a b) refl

pub class_Test : (e : Node) (p : Pos) (c : CaseName) → class_of (node.Test e p c) ≡ class_of e
class_Test e p c = class_by (node.Test e p c) _ (class_of e) (phrase_Test e p c) refl

pub class_Field : (e : Node) (w : Name) → class_of (node.Field e w) ≡ class_of e
class_Field e w = class_by (node.Field e w) _ (class_of e) (phrase_Field e w) refl

-- each expression begins some form
pub some_class : (n : Node) → class_of n ≡ opening.Nothing → ⊥
some_class =
    forms.induction (λ n. class_of n ≡ opening.Nothing → ⊥)
    (λ l p. class_differs (leaves.Literal l p) _ (class_Literal l p) (λ h. absurd cc))
    (λ w. class_differs (leaves.Name w) _ (class_Name w) (λ h. absurd cc))
    (λ c. class_differs (leaves.Case c) _ (class_Case c) (λ h. absurd cc))
    (λ p e h. class_differs (node.Parens p e) _ (class_Parens p e) (λ h. absurd cc))
    (λ e w h. class_differs (node.Field e w) _ (class_Field e w) h)
    (λ o p e h. class_differs (node.Prefixed o p e) _ (class_Prefixed o p e) (λ h. absurd cc))
    (λ p t e h. class_differs (node.Sum p t e) _ (class_Sum p t e) (λ h. absurd cc))
    (λ c e h. class_differs (node.Content c e) _ (class_Content c e) (λ h. absurd cc))
    (λ f args h. class_differs (node.Call f args) _ (class_Call f args) (λ h. absurd cc))
    (λ o p a b x y. class_differs (node.Binary o p a b) _ (class_Binary o p a b) x)
    (λ e p c h. class_differs (node.Test e p c) _ (class_Test e p c) h)
    (λ p es h. class_differs (node.List p es) _ (class_List p es) (λ h. absurd cc))
    (λ u fs h. class_differs (node.Structure u fs) _ (class_Structure u fs) (λ h. absurd cc))
    (λ p u fs w h. class_differs (node.ScopeCall p u fs w) _ (class_ScopeCall p u fs w) (λ h. absurd cc))
    (λ p c t e x y z. class_differs (node.If p c t e) _ (class_If p c t e) (λ h. absurd cc))
    (λ p e more x h. class_differs (node.Match p e more) _ (class_Match p e more) (λ h. absurd cc))
    (λ k p w l e x y. class_differs (node.Each k p w l e) _ (class_Each k p w l e) (λ h. absurd cc))
    (λ p w l acc s e x y z. class_differs (node.Combine (accumulation p w acc) l s e) _ (class_Combine p w l acc s e)
    (λ h. absurd cc))

-- the next word is that of its form
pub opens_with : (n : Node) (w v : List Token) → IsSpelling (phrase n) w → opening_at (w ++ v) ≡ class_of n
opens_with n w v s = opens (phrase n) w v s (some_class n)

-- a word that begins nothing begins no expression
pub begins_not : (c : Cue) (n : Node) (w v : List Token) → opening_of (kind_of c) ≡ opening.Nothing
    → IsSpelling (phrase n) w → heads (cue_is c) (w ++ v) ≡ false
begins_not c n w v none s = by (heads (cue_is c) (w ++ v)) refl
  where
    at : (ts : List Token) → heads (cue_is c) ts ≡ true → opening_at ts ≡ opening.Nothing
    at [] h = refl
    at (p ∷ ts) h = ap opening_of (cue_found c p.kind h) ∙ none

    by : (b : Bool) → heads (cue_is c) (w ++ v) ≡ b → heads (cue_is c) (w ++ v) ≡ false
    by true e = absurd (some_class n (sym (opens_with n w v s) ∙ at (w ++ v) e))
    by false e = e
