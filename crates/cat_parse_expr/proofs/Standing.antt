-- Where no room is left, nothing is read that stands at the level.
use Rattle.std.proofs.Common.{◌≡◌, ℕ, ◌≤◌, Bool, true, false, map, refl, ap, subst, ◌∙◌, arith, if◌then◌else◌}
use Rattle.cat_tree.specs.declared.expression.Node.TheVariants as leaves
use Rattle.cat_tree.specs.declared.expression.Node.TheViews as node
use Rattle.cat_parse_expr.proofs.Common.{accumulation, Node, prefix_level, Phrase, Row, Parts, phrase, phrase_Binary}
use Rattle.cat_parse_expr.proofs.Common.{phrase_Call, phrase_Case, phrase_Combine, phrase_Content, phrase_Each}
use Rattle.cat_parse_expr.proofs.Common.{phrase_Field, phrase_If, phrase_List, phrase_Literal, phrase_Match}
use Rattle.cat_parse_expr.proofs.Common.{phrase_Name, phrase_Parens, phrase_Prefixed, phrase_ScopeCall}
use Rattle.cat_parse_expr.proofs.Common.{phrase_Structure, phrase_Sum, phrase_Test, Opening, right_strength}
use Rattle.cat_parse_expr.proofs.Common.{left_strength, ends_in_form, IsLevelled, operator_level, left_level, arm_row}
use Rattle.cat_parse_expr.proofs.Common.{stands, Rank}
use Rattle.cat_parse_expr.proofs.Firsts.{class_of, class_Literal, class_Name, class_Call, class_Case, class_Content}
use Rattle.cat_parse_expr.proofs.Firsts.{class_Structure, class_Parens, class_List, class_ScopeCall, class_Prefixed}
use Rattle.cat_parse_expr.proofs.Firsts.{class_Sum, class_If, class_Match, class_Each, class_Combine}
use Rattle.cat_parse_expr.proofs.Follows.{one_level}
use Rattle.cat_parse_expr.proofs.Openers.{class_Binary, class_Test, class_Field}
use Rattle.cat_parse_expr.proofs.Positive.{match_level}
use Rattle.cat_parse_expr.proofs.Truth.{le_true}
use Rattle.cat_parse_expr.proofs.Induction as forms

-- ---- each stands at its level

abbrev StandsAt : Node → Type 0
StandsAt n = (k : ℕ) → IsLevelled (phrase n) → k ≤ right_strength (phrase n) → stands k (class_of n) ≡ true

stood_by : (n : Node) (c : Opening) (r : Rank) (ps : Parts) → class_of n ≡ c → phrase n ≡ Row r ps
    → ((k : ℕ) → k ≤ r.level → stands k c ≡ true) → StandsAt n
stood_by n c r ps e is h k l le =
    ap (stands k) e ∙ h k (subst (λ (f : Phrase). k ≤ right_strength f) is le)

-- a left operand is of its level at the least
pub left_low : (f : Phrase) (j k : ℕ) → j ≤ left_strength f → k ≤ j → k ≤ right_strength f
left_low f j k le low = by (ends_in_form f) le
  where
    by : (b : Bool) → j ≤ (if b then 0 else right_strength f) → k ≤ right_strength f
    by true h = omega (arith, h, low)
    by false h = omega (arith, h, low)

pub stands_all : (n : Node) → StandsAt n
stands_all =
    forms.induction StandsAt
    (λ l p. stood_by (leaves.Literal l p) _ _ _ (class_Literal l p) (phrase_Literal l p) (λ k le. refl))
    (λ w. stood_by (leaves.Name w) _ _ _ (class_Name w) (phrase_Name w) (λ k le. refl))
    (λ c. stood_by (leaves.Case c) _ _ _ (class_Case c) (phrase_Case c) (λ k le. refl))
    (λ p e h. stood_by (node.Parens p e) _ _ _ (class_Parens p e) (phrase_Parens p e) (λ k le. refl))
    (λ e w h k l le. let is = phrase_Field e w in
    let s = subst IsLevelled is l in
    ap (stands k) (class_Field e w)
    ∙ h k s.1.1 (left_low (phrase e) 9 k s.1.0 (subst (λ (f : Phrase). k ≤ right_strength f) is le)))
    (λ o p e h. stood_by (node.Prefixed o p e) _ _ _ (class_Prefixed o p e) (phrase_Prefixed o p e)
    (λ k le. le_true k (prefix_level o) le))
    (λ p t e h. stood_by (node.Sum p t e) _ _ _ (class_Sum p t e) (phrase_Sum p t e) (λ k le. le_true k 8 le))
    (λ c e h. stood_by (node.Content c e) _ _ _ (class_Content c e) (phrase_Content c e) (λ k le. refl))
    (λ f args h. stood_by (node.Call f args) _ _ _ (class_Call f args) (phrase_Call f args) (λ k le. refl))
    (λ o p a b x y k l le. let is = phrase_Binary o p a b in
    let s = subst IsLevelled is l in
    let low : k ≤ operator_level o = subst (λ (f : Phrase). k ≤ right_strength f) is le in
    ap (stands k) (class_Binary o p a b)
    ∙ x k s.1.1 (left_low (phrase a) (left_level o) k s.1.0 (omega (arith, low, (one_level o).1))))
    (λ e p c h k l le. let is = phrase_Test e p c in
    let s = subst IsLevelled is l in
    let low : k ≤ 4 = subst (λ (f : Phrase). k ≤ right_strength f) is le in
    ap (stands k) (class_Test e p c) ∙ h k s.1.1 (left_low (phrase e) 5 k s.1.0 (omega (arith, low))))
    (λ p es h. stood_by (node.List p es) _ _ _ (class_List p es) (phrase_List p es) (λ k le. refl))
    (λ u fs h. stood_by (node.Structure u fs) _ _ _ (class_Structure u fs) (phrase_Structure u fs) (λ k le. refl))
    (λ p u fs w h. stood_by (node.ScopeCall p u fs w) _ _ _ (class_ScopeCall p u fs w) (phrase_ScopeCall p u fs w)
    (λ k le. refl))
    (λ p c t e x y z. stood_by (node.If p c t e) _ _ _ (class_If p c t e) (phrase_If p c t e) (λ k le. le_true k 8 le))
    (λ p e more x h. stood_by (node.Match p e more) _ _ _ (class_Match p e more) (phrase_Match p e more)
    (λ k le. le_true k 8 (omega (arith, le, match_level (map arm_row more)))))
    (λ q p w l e x y. stood_by (node.Each q p w l e) _ _ _ (class_Each q p w l e) (phrase_Each q p w l e)
    (λ k le. le_true k 8 le))
    (λ p w l acc s e x y z. stood_by (node.Combine (accumulation p w acc) l s e) _ _ _ (class_Combine p w l acc s e)
    (phrase_Combine p w l acc s e) (λ k le. le_true k 8 le))
