-- Of what level expressions are.
use Rattle.std.proofs.Common.{◌≡◌, ℕ, ◌≤◌, Bool, false, List, [], ◌∷◌, map, refl, sym, ap, subst, arith, if◌then◌else◌}
use Rattle.cat_tree.specs.declared.expression.SurfaceLiteral.TheVariants as literal
use Rattle.cat_tree.specs.declared.expression.Prefix.TheVariants as prefix
use Rattle.cat_tree.specs.declared.expression.Node.TheVariants as leaves
use Rattle.cat_tree.specs.declared.expression.Node.TheViews as node
use Rattle.cat_lex.specs.declared.token.TokenKind.TheVariants as kind
use Rattle.cat_lex.specs.declared.symbol.Symbol.TheVariants as symbol
use Rattle.cat_parse_expr.proofs.Common.{Pos, Name, SurfaceLiteral, Prefix, Node, literal_rank, prefix_level, CaseName}
use Rattle.cat_parse_expr.proofs.Common.{Bare, Qualified, literal_parts, case_parts, operator_level, fields, ◌▹◌}
use Rattle.cat_parse_expr.proofs.Common.{of_level, upper, lower, sign, Phrase, Row, Parts, End, Word, Terminal}
use Rattle.cat_parse_expr.proofs.Common.{Anywhere, Rank, right_strength, left_strength, ends_in_form, ends_in_match}
use Rattle.cat_parse_expr.proofs.Common.{last_in_form, last_in_match, phrase, phrase_Binary, phrase_Call, phrase_Case}
use Rattle.cat_parse_expr.proofs.Common.{phrase_Combine, phrase_Content, phrase_Each, phrase_Field, phrase_If}
use Rattle.cat_parse_expr.proofs.Common.{phrase_List, phrase_Literal, phrase_Match, phrase_Name, phrase_Parens}
use Rattle.cat_parse_expr.proofs.Common.{phrase_Prefixed, phrase_ScopeCall, phrase_Structure, phrase_Sum, phrase_Test}
use Rattle.cat_parse_expr.proofs.Common.{field_row, arm_row, accumulation, if_some, match_of}
use Rattle.cat_parse_expr.proofs.Nodes.{elements_last}
use Rattle.cat_parse_expr.proofs.Follows.{one_level}
use Rattle.cat_parse_expr.proofs.Induction as forms

pub some_level : {A : Type 0} (k : ℕ) (xs : List A) → (if_some k xs).level ≡ k
some_level k [] = refl
some_level k (x ∷ xs) = refl

pub match_level : {A : Type 0} (xs : List A) → (match_of xs).level ≡ 8
match_level [] = refl
match_level (x ∷ xs) = refl

pub prefix_low : (o : Prefix) → (3 ≤ prefix_level o) × (prefix_level o ≤ 8)
prefix_low prefix.Not = (omega arith, omega arith)
prefix_low prefix.Negate = (omega arith, omega arith)
prefix_low _ = (omega arith, omega arith)

literal_level : (l : SurfaceLiteral) → (literal_rank l).level ≡ 9
literal_level (literal.Span n u) = refl
literal_level _ = refl

level_by : (n : Node) (r : Rank) (ps : Parts) → phrase n ≡ Row r ps → 1 ≤ r.level → 1 ≤ right_strength (phrase n)
level_by n r ps e low = subst (λ (f : Phrase). 1 ≤ right_strength f) (sym e) low

-- each has one
pub positive : (n : Node) → 1 ≤ right_strength (phrase n)
positive =
    forms.induction (λ n. 1 ≤ right_strength (phrase n))
    (λ l p. level_by (leaves.Literal l p) _ _ (phrase_Literal l p) (omega (arith, literal_level l)))
    (λ w. level_by (leaves.Name w) _ _ (phrase_Name w) (omega arith))
    (λ c. level_by (leaves.Case c) _ _ (phrase_Case c) (omega arith))
    (λ p e h. level_by (node.Parens p e) _ _ (phrase_Parens p e) (omega arith))
    (λ e w h. level_by (node.Field e w) _ _ (phrase_Field e w) (omega arith))
    (λ o p e h. level_by (node.Prefixed o p e) _ _ (phrase_Prefixed o p e) (omega (arith, (prefix_low o).0)))
    (λ p t e h. level_by (node.Sum p t e) _ _ (phrase_Sum p t e) (omega arith))
    (λ c e h. level_by (node.Content c e) _ _ (phrase_Content c e) (omega arith))
    (λ f args h. level_by (node.Call f args) _ _ (phrase_Call f args) (omega (arith, some_level 8 (map phrase args))))
    (λ o p a b x y. level_by (node.Binary o p a b) _ _ (phrase_Binary o p a b) (omega (arith, (one_level o).2)))
    (λ e p c h. level_by (node.Test e p c) _ _ (phrase_Test e p c) (omega arith))
    (λ p es h. level_by (node.List p es) _ _ (phrase_List p es) (omega arith))
    (λ u fs h. level_by (node.Structure u fs) _ _ (phrase_Structure u fs)
    (omega (arith, some_level 9 (map field_row fs))))
    (λ p u fs w h. level_by (node.ScopeCall p u fs w) _ _ (phrase_ScopeCall p u fs w) (omega arith))
    (λ p c t e x y z. level_by (node.If p c t e) _ _ (phrase_If p c t e) (omega arith))
    (λ p e more x h. level_by (node.Match p e more) _ _ (phrase_Match p e more)
    (omega (arith, match_level (map arm_row more))))
    (λ k p w l e x y. level_by (node.Each k p w l e) _ _ (phrase_Each k p w l e) (omega arith))
    (λ p w l acc s e x y z. level_by (node.Combine (accumulation p w acc) l s e) _ _ (phrase_Combine p w l acc s e)
    (omega arith))

-- ---- what ends in no part

pub fields_form : (fs : List (Name × Phrase)) (m : Terminal) (ps : Parts) (b : Bool)
    → last_in_form b (fields fs (Word m ps)) ≡ last_in_form false ps
fields_form [] m ps b = refl
fields_form (f ∷ fs) m ps b = fields_form fs m ps (ends_in_form f.1)

pub fields_match : (fs : List (Name × Phrase)) (m : Terminal) (ps : Parts) (b : Bool)
    → last_in_match b (fields fs (Word m ps)) ≡ last_in_match false ps
fields_match [] m ps b = refl
fields_match (f ∷ fs) m ps b = fields_match fs m ps (ends_in_match f.1)

-- an expression of level 9 ends in a word
abbrev pub EndsInWord : Phrase → Type 0
EndsInWord f = 9 ≤ right_strength f → (ends_in_form f ≡ false) × (ends_in_match f ≡ false)

word_by : (n : Node) (f : Phrase) → phrase n ≡ f → EndsInWord f → EndsInWord (phrase n)
word_by n f e h = subst EndsInWord (sym e) h

too_low : {A : Type 0} (k : ℕ) → k ≤ 8 → 9 ≤ k → A
too_low k le h = absurd (omega (arith, le, h))

literal_ends : (l : SurfaceLiteral) (p : Pos) → EndsInWord (Row (literal_rank l) (literal_parts l p))
literal_ends (literal.Int n) p h = (refl, refl)
literal_ends _ p h = (refl, refl)

case_ends : (c : CaseName) → EndsInWord (Row (of_level 9) (case_parts c End))
case_ends (Bare u) h = (refl, refl)
case_ends (Qualified e u) h = (refl, refl)

structure_ends : (u : Name) (fs : List (Name × Phrase)) → EndsInWord (Row (if_some 9 fs)
    (upper u ▹ sign symbol.LeftBrace ▹ fields fs (sign symbol.RightBrace ▹ End)))
structure_ends u [] h = (refl, refl)
structure_ends u (f ∷ fs) h = (
  fields_form (f ∷ fs) (Anywhere (kind.Symbol symbol.RightBrace)) End false,
  fields_match (f ∷ fs) (Anywhere (kind.Symbol symbol.RightBrace)) End false,
)

pub ends_in_word : (n : Node) → EndsInWord (phrase n)
ends_in_word =
    forms.induction (λ n. EndsInWord (phrase n))
    (λ l p. word_by (leaves.Literal l p) _ (phrase_Literal l p) (literal_ends l p))
    (λ w. word_by (leaves.Name w) _ (phrase_Name w) (λ h. (refl, refl)))
    (λ c. word_by (leaves.Case c) _ (phrase_Case c) (case_ends c))
    (λ p e h. word_by (node.Parens p e) _ (phrase_Parens p e) (λ h. (refl, refl)))
    (λ e w h. word_by (node.Field e w) _ (phrase_Field e w) (λ h. (refl, refl)))
    (λ o p e h. word_by (node.Prefixed o p e) _ (phrase_Prefixed o p e)
    (λ h. too_low (prefix_level o) (prefix_low o).1 h))
    (λ p t e h. word_by (node.Sum p t e) _ (phrase_Sum p t e) (λ h. too_low 8 (omega arith) h))
    (λ c e h. word_by (node.Content c e) _ (phrase_Content c e) (λ h. too_low 8 (omega arith) h))
    (λ f args h. word_by (node.Call f args) _ (phrase_Call f args)
    (λ h. too_low (if_some 8 (map phrase args)).level (omega (arith, some_level 8 (map phrase args))) h))
    (λ o p a b x y. word_by (node.Binary o p a b) _ (phrase_Binary o p a b)
    (λ h. too_low (operator_level o) (omega (arith, (one_level o).3)) h))
    (λ e p c h. word_by (node.Test e p c) _ (phrase_Test e p c) (λ h. too_low 4 (omega arith) h))
    (λ p es h. word_by (node.List p es) _ (phrase_List p es)
    (λ h. elements_last 0 symbol.Semicolon (map phrase es) (Anywhere (kind.Symbol symbol.RightBracket)) false))
    (λ u fs h. word_by (node.Structure u fs) _ (phrase_Structure u fs) (structure_ends u (map field_row fs)))
    (λ p u fs w h. word_by (node.ScopeCall p u fs w) _ (phrase_ScopeCall p u fs w)
    (λ h. (
      fields_form (map field_row fs) (Anywhere (kind.Symbol symbol.RightBrace)) (sign symbol.Dot ▹ lower w ▹ End) false,
      fields_match (map field_row fs) (Anywhere (kind.Symbol symbol.RightBrace))
          (sign symbol.Dot ▹ lower w ▹ End) false,
    )))
    (λ p c t e x y z. word_by (node.If p c t e) _ (phrase_If p c t e) (λ h. too_low 8 (omega arith) h))
    (λ p e more x h. word_by (node.Match p e more) _ (phrase_Match p e more)
    (λ h. too_low (match_of (map arm_row more)).level (omega (arith, match_level (map arm_row more))) h))
    (λ k p w l e x y. word_by (node.Each k p w l e) _ (phrase_Each k p w l e) (λ h. too_low 8 (omega arith) h))
    (λ p w l acc s e x y z. word_by (node.Combine (accumulation p w acc) l s e) _ (phrase_Combine p w l acc s e)
    (λ h. too_low 8 (omega arith) h))

-- so its strength is its level
pub nine_strength : (n : Node) → 9 ≤ right_strength (phrase n) → left_strength (phrase n) ≡ right_strength (phrase n)
nine_strength n h = ap (λ (b : Bool). if b then 0 else right_strength (phrase n)) (ends_in_word n h).0
