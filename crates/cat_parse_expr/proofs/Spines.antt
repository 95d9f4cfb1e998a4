-- Each expression is something in front of all operators, and steps behind it.
use Rattle.std.proofs.Common.{◌≡◌, ℕ, ◌≤◌, Bool, true, false, List, [], ◌∷◌, ◌++◌, refl, sym, ap, subst, ◌∙◌}
use Rattle.std.proofs.Common.{append_assoc, arith, inl, inr}
use Rattle.std.proofs.lemmas.List.{append-nil}
use Rattle.cat_tree.specs.declared.expression.Node.TheVariants as leaves
use Rattle.cat_tree.specs.declared.expression.Node.TheViews as node
use Rattle.cat_lex.specs.declared.symbol.Symbol.TheVariants as symbol
use Rattle.cat_tree.specs.declared.expression.SurfaceLiteral.TheVariants as literal
use Rattle.cat_tree.specs.declared.expression.Prefix.TheVariants as prefix
use Rattle.cat_tree.specs.declared.expression.Each.TheVariants as each
use Rattle.cat_parse_expr.specs.declared.opening.Opening.TheVariants as opening
use Rattle.cat_tree.specs.Wording.{form}
use Rattle.cat_parse_expr.proofs.Common.{Pos, Token, accumulation, Name, CaseName, Bare, Qualified, Operator, Node, ◌▸◌}
use Rattle.cat_parse_expr.proofs.Common.{all, case_parts, operator_level, left_level, prefix_level, Phrase, Row, Parts}
use Rattle.cat_parse_expr.proofs.Common.{End, Word, IsLevelled, AreLevelled, IsSpelling, AreSpelled, Rank, Terminal}
use Rattle.cat_parse_expr.proofs.Common.{right_strength, left_strength, phrase, phrase_Binary, phrase_Call, phrase_Case}
use Rattle.cat_parse_expr.proofs.Common.{phrase_Combine, phrase_Content, phrase_Each, phrase_Field, phrase_If}
use Rattle.cat_parse_expr.proofs.Common.{phrase_List, phrase_Literal, phrase_Match, phrase_Name, phrase_Parens}
use Rattle.cat_parse_expr.proofs.Common.{phrase_Prefixed, phrase_ScopeCall, phrase_Structure, phrase_Sum, phrase_Test}
use Rattle.cat_parse_expr.proofs.Common.{SurfaceLiteral, Prefix, Each, literal_parts, literal_rank, prefix_parts}
use Rattle.cat_parse_expr.proofs.Common.{each_parts, ◌▹◌, of_level, left, sign, lower, Measured, measured_of}
use Rattle.cat_parse_expr.proofs.Common.{IsMeasured, Opening}
use Rattle.cat_parse_expr.proofs.Chains.{Step, Operates, Selects, TestsFor, put, put_all, step_parts}
use Rattle.cat_parse_expr.proofs.Firsts.{class_of, is_bare, Shape, IsPrimary, primary_by, class_Literal, class_Name}
use Rattle.cat_parse_expr.proofs.Firsts.{class_Call, class_Case, class_Content, class_Structure, class_Selected}
use Rattle.cat_parse_expr.proofs.Firsts.{class_Parens, class_List, class_ScopeCall, class_Prefixed, class_Sum, class_If}
use Rattle.cat_parse_expr.proofs.Firsts.{class_Match, class_Each, class_Combine}
use Rattle.cat_parse_expr.proofs.Follows.{one_level}
use Rattle.cat_parse_expr.proofs.Joining.{spelled_join, levels_join, spelled_split, levels_split}
use Rattle.cat_parse_expr.proofs.Measuring.{binary_measured, field_measured}
use Rattle.cat_parse_expr.proofs.Operands.{Placed, measured_by, height_is}
use Rattle.cat_parse_expr.proofs.Positive.{positive}
use Rattle.cat_parse_expr.proofs.Standing.{left_low}
use Rattle.cat_parse_expr.proofs.StepWords.{FitsOne}
use Rattle.cat_parse_expr.proofs.Induction as forms

-- ---- what counts of an expression with a step more

test_measured : (s : Measured) (p : Pos) (c : CaseName) → IsMeasured s → IsMeasured (put s (TestsFor p c))
test_measured s p (Bare u) m =
    measured_by (node.Test s.node p (Bare u)) _ _ _ _ (phrase_Test s.node p (Bare u))
    (omega (arith, height_is s m)) refl refl
test_measured s p (Qualified d u) m =
    measured_by (node.Test s.node p (Qualified d u)) _ _ _ _ (phrase_Test s.node p (Qualified d u))
    (omega (arith, height_is s m)) refl refl

pub put_measured : (k : ℕ) (s : Measured) (x : Step) → IsMeasured s → FitsOne k s x → IsMeasured (put s x)
put_measured k s (Operates o p e) m f = binary_measured s e m f.2 o p (positive e.node)
put_measured k s (Selects w) m f = field_measured s w m
put_measured k s (TestsFor p c) m f = test_measured s p c m

strength_is : (s : Measured) → IsMeasured s → s.strength ≡ left_strength (phrase s.node)
strength_is s m = ap (λ (z : Measured). z.strength) m

-- it is of the level, and stands where it may
abbrev pub Stood : (k : ℕ) → Measured → Type 0
Stood k s = (k ≤ right_strength (phrase s.node)) × IsLevelled (phrase s.node)

case_levels : (c : CaseName) → AreLevelled (case_parts c End)
case_levels (Bare u) = tt
case_levels (Qualified d u) = tt

put_stood : (k : ℕ) (s : Measured) (x : Step) → k ≤ 9 → IsMeasured s → FitsOne k s x → IsLevelled (phrase s.node)
    → AreLevelled (step_parts x) → Stood k (put s x)
put_stood k s (Operates o p e) le m f l i =
    subst (λ (g : Phrase). (k ≤ right_strength g) × IsLevelled g) (sym (phrase_Binary o p s.node e.node))
    (f.0, (refl, (omega (arith, f.1, strength_is s m), l, i)))
put_stood k s (Selects w) le m f l i =
    subst (λ (g : Phrase). (k ≤ right_strength g) × IsLevelled g) (sym (phrase_Field s.node w))
    (le, (refl, (omega (arith, f.0, strength_is s m), l, tt)))
put_stood k s (TestsFor p c) le m f l i =
    subst (λ (g : Phrase). (k ≤ right_strength g) × IsLevelled g) (sym (phrase_Test s.node p c))
    (f.0, (refl, (omega (arith, f.1, strength_is s m), l, case_levels c)))

-- ---- with all steps

abbrev pub FitsAll : (k : ℕ) → Measured → List Step → Type 0
FitsAll k s [] = Unit {0}
FitsAll k s (x ∷ xs) = FitsOne k s x × FitsAll k (put s x) xs

pub all_measured : (k : ℕ) (s : Measured) (xs : List Step) → IsMeasured s → FitsAll k s xs → IsMeasured (put_all s xs)
all_measured k s [] m f = m
all_measured k s (x ∷ xs) m f = all_measured k (put s x) xs (put_measured k s x m f.0) f.1

pub all_stood : (k : ℕ) (s : Measured) (xs : List Step) → k ≤ 9 → IsMeasured s → FitsAll k s xs → Stood k s
    → AreLevelled (all step_parts xs) → Stood k (put_all s xs)
all_stood k s [] le m f l i = l
all_stood k s (x ∷ xs) le m f l i =
    let j = levels_split (step_parts x) (all step_parts xs) i in
    all_stood k (put s x) xs le (put_measured k s x m f.0) f.1 (put_stood k s x le m f.0 l.1 j.0) j.1

-- ---- the spine of an expression

pub record Spine (k : ℕ) (n : Node) (w : List Token) : Type 0 where
  pub first : Measured
  pub steps : List Step
  pub is : measured_of n ≡ put_all first steps
  pub placed : Placed k first
  pub levels : IsLevelled (phrase first.node)
  pub fits : FitsAll k first steps
  pub rows : AreLevelled (all step_parts steps)
  pub front : List Token
  pub rest : List Token
  pub text : w ≡ front ++ rest
  pub spelled : IsSpelling (phrase first.node) front
  pub words : AreSpelled (all step_parts steps) rest

-- one that stands in front of all operators
alone : (k : ℕ) (n : Node) (w : List Token) → IsPrimary n → k ≤ right_strength (phrase n) → IsLevelled (phrase n)
    → IsSpelling (phrase n) w → Spine k n w
alone k n w prim le l s = record {
  first = measured_of n;
  steps = [];
  is = refl;
  placed = record { measured = refl; primary = prim; level = le };
  levels = l;
  fits = tt;
  rows = tt;
  front = w;
  rest = [];
  text = sym (append-nil w);
  spelled = s;
  words = refl;
}

put_behind : (s : Measured) (xs : List Step) (x : Step) → put_all s (xs ++ x ∷ []) ≡ put (put_all s xs) x
put_behind s [] x = refl
put_behind s (y ∷ xs) x = put_behind (put s y) xs x

fits_behind : (k : ℕ) (s : Measured) (xs : List Step) (x : Step) → FitsAll k s xs → FitsOne k (put_all s xs) x
    → FitsAll k s (xs ++ x ∷ [])
fits_behind k s [] x f g = (g, tt)
fits_behind k s (y ∷ xs) x f g = (f.0, fits_behind k (put s y) xs x f.1 g)

levels_behind : (xs : List Step) (x : Step) → AreLevelled (all step_parts xs) → AreLevelled (step_parts x)
    → AreLevelled (all step_parts (xs ++ x ∷ []))
levels_behind [] x i j = levels_join (step_parts x) End j tt
levels_behind (y ∷ xs) x i j =
    let l = levels_split (step_parts y) (all step_parts xs) i in
    levels_join (step_parts y) (all step_parts (xs ++ x ∷ [])) l.0 (levels_behind xs x l.1 j)

words_behind : (xs : List Step) (x : Step) (u v : List Token) → AreSpelled (all step_parts xs) u
    → AreSpelled (step_parts x) v → AreSpelled (all step_parts (xs ++ x ∷ [])) (u ++ v)
words_behind [] x u v i j =
    subst (λ (z : List Token). AreSpelled (step_parts x ▸ End) (z ++ v)) (sym i)
    (subst (AreSpelled (step_parts x ▸ End)) (append-nil v) (spelled_join (step_parts x) End v [] j refl))
words_behind (y ∷ xs) x u v i j =
    let q = spelled_split (step_parts y) (all step_parts xs) u i in
    subst (AreSpelled (all step_parts (y ∷ (xs ++ x ∷ []))))
    (sym (ap (λ (z : List Token). z ++ v) q.text ∙ append_assoc q.first q.second v))
    (spelled_join (step_parts y) (all step_parts (xs ++ x ∷ [])) q.first (q.second ++ v) q.one
    (words_behind xs x q.second v q.two j))

-- with a step more
longer : (k : ℕ) (a n : Node) (u v w : List Token) (x : Step) → Spine k a u → measured_of n ≡ put (measured_of a) x
    → FitsOne k (measured_of a) x → AreLevelled (step_parts x) → AreSpelled (step_parts x) v → w ≡ u ++ v → Spine k n w
longer k a n u v w x s is fit l words text = record {
  first = s.first;
  steps = s.steps ++ x ∷ [];
  is = is ∙ ap (λ (m : Measured). put m x) s.is ∙ sym (put_behind s.first s.steps x);
  placed = s.placed;
  levels = s.levels;
  fits = fits_behind k s.first s.steps x s.fits (subst (λ (m : Measured). FitsOne k m x) s.is fit);
  rows = levels_behind s.steps x s.rows l;
  front = s.front;
  rest = s.rest ++ v;
  text = text ∙ ap (λ (z : List Token). z ++ v) s.text ∙ append_assoc s.front s.rest v;
  spelled = s.spelled;
  words = words_behind s.steps x s.rest v s.words words;
}

abbrev HasSpine : Node → Type 0
HasSpine n =
    (k : ℕ) (w : List Token) → k ≤ 9 → IsLevelled (phrase n) → k ≤ right_strength (phrase n)
    → IsSpelling (phrase n) w → Spine k n w

by_form : (n : Node) (c : Opening) → class_of n ≡ c → Shape c n → HasSpine n
by_form n c e shape k w le l low s = alone k n w (primary_by n c e shape) low l s

binary_spine : (o : Operator) (p : Pos) (a e : Node) → HasSpine a → HasSpine (node.Binary o p a e)
binary_spine o p a e h k w le l low s =
    let is = phrase_Binary o p a e in
    let i = subst IsLevelled is l in
    let below : k ≤ operator_level o = subst (λ (f : Phrase). k ≤ right_strength f) is low in
    let t = subst (λ (f : Phrase). IsSpelling f w) is s in
    let x = Operates o p (measured_of e) in
    longer k a (node.Binary o p a e) t.0 t.1 w x
    (h k t.0 le i.1.1 (left_low (phrase a) (left_level o) k i.1.0 (omega (arith, below, (one_level o).1))) t.3)
    (sym (binary_measured (measured_of a) (measured_of e) refl refl o p (positive e)))
    (below, i.1.0, refl) i.1.2 t.4 t.2

test_spine : (e : Node) (p : Pos) (c : CaseName) → HasSpine e → HasSpine (node.Test e p c)
test_spine e p c h k w le l low s =
    let is = phrase_Test e p c in
    let i = subst IsLevelled is l in
    let below : k ≤ 4 = subst (λ (f : Phrase). k ≤ right_strength f) is low in
    let t = subst (λ (f : Phrase). IsSpelling f w) is s in
    longer k e (node.Test e p c) t.0 t.1 w (TestsFor p c)
    (h k t.0 le i.1.1 (left_low (phrase e) 5 k i.1.0 (omega (arith, below))) t.3)
    (sym (test_measured (measured_of e) p c refl)) (below, i.1.0) (case_levels c) t.4 t.2

-- a field of a bare case is read with it
abbrev pub BareOnly : Node → Type 0
BareOnly n = is_bare (phrase n) ≡ true → (u : Name) × (n ≡ leaves.Case (Bare u))

not_bare : (n : Node) (f : Phrase) → phrase n ≡ f → is_bare f ≡ false → BareOnly n
not_bare n f e h b = absurd (clash (is_bare f) (ap is_bare (sym e) ∙ b) h)
  where
    clash : (c : Bool) → c ≡ true → c ≡ false → ⊥
    clash c x y = absurd cc

literal_not_bare : (l : SurfaceLiteral) (p : Pos) → is_bare (Row (literal_rank l) (literal_parts l p)) ≡ false
literal_not_bare (literal.Int n) p = refl
literal_not_bare _ p = refl

prefix_not_bare : (o : Prefix) (p : Pos) (ps : Parts) (r : Rank) → is_bare (Row r (prefix_parts o p ps)) ≡ false
prefix_not_bare prefix.Not p ps r = refl
prefix_not_bare _ p ps r = refl

each_not_bare : (q : Each) (p : Pos) (w : Name) (l e : Phrase) (r : Rank) → is_bare (Row r (each_parts q p w l e))
    ≡ false
each_not_bare each.ForAll p w l e r = refl
each_not_bare _ p w l e r = refl

content_not_bare : (c : CaseName) (ps : Parts) (m : Terminal) (r : Rank) → is_bare (Row r (case_parts c (Word m ps)))
    ≡ false
content_not_bare (Bare u) ps m r = refl
content_not_bare (Qualified d u) ps m r = refl

case_bare : (c : CaseName) → BareOnly (leaves.Case c)
case_bare (Bare u) b = (u, refl)
case_bare (Qualified d u) b = not_bare (leaves.Case (Qualified d u)) _ (phrase_Case (Qualified d u)) refl b

pub bare_case : (n : Node) → BareOnly n
bare_case =
    forms.induction BareOnly
    (λ l p. not_bare (leaves.Literal l p) _ (phrase_Literal l p) (literal_not_bare l p))
    (λ w. not_bare (leaves.Name w) _ (phrase_Name w) refl)
    case_bare
    (λ p e h. not_bare (node.Parens p e) _ (phrase_Parens p e) refl)
    (λ e w h. not_bare (node.Field e w) _ (phrase_Field e w) refl)
    (λ o p e h. not_bare (node.Prefixed o p e) _ (phrase_Prefixed o p e)
    (prefix_not_bare o p _ (of_level (prefix_level o))))
    (λ p t e h. not_bare (node.Sum p t e) _ (phrase_Sum p t e) refl)
    (λ c e h. not_bare (node.Content c e) _ (phrase_Content c e) (content_not_bare c _ _ (of_level 8)))
    (λ f args h. not_bare (node.Call f args) _ (phrase_Call f args) refl)
    (λ o p a b x y. not_bare (node.Binary o p a b) _ (phrase_Binary o p a b) refl)
    (λ e p c h. not_bare (node.Test e p c) _ (phrase_Test e p c) refl)
    (λ p es h. not_bare (node.List p es) _ (phrase_List p es) refl)
    (λ u fs h. not_bare (node.Structure u fs) _ (phrase_Structure u fs) refl)
    (λ p u fs w h. not_bare (node.ScopeCall p u fs w) _ (phrase_ScopeCall p u fs w) refl)
    (λ p c t e x y z. not_bare (node.If p c t e) _ (phrase_If p c t e) refl)
    (λ p e more x h. not_bare (node.Match p e more) _ (phrase_Match p e more) refl)
    (λ q p w l e x y. not_bare (node.Each q p w l e) _ (phrase_Each q p w l e) (each_not_bare q p w _ _ form))
    (λ p w l acc s e x y z. not_bare (node.Combine (accumulation p w acc) l s e) _ (phrase_Combine p w l acc s e) refl)

field_spine : (e : Node) (w : Name) → HasSpine e → HasSpine (node.Field e w)
field_spine e x h k w le l low s = by (is_bare (phrase e)) refl
  where
    is : phrase (node.Field e x) ≡ Row (of_level 9) (left 9 (phrase e) ▹ sign symbol.Dot ▹ lower x ▹ End)
    is = phrase_Field e x

    by : (c : Bool) → is_bare (phrase e) ≡ c → Spine k (node.Field e x) w
    by true b =
        let u = bare_case e b in
        let same : node.Field e x ≡ node.Field (leaves.Case (Bare u.0)) x = ap (λ (z : Node). node.Field z x) u.1 in
        alone k (node.Field e x) w
        (subst IsPrimary (sym same)
        (primary_by (node.Field (leaves.Case (Bare u.0)) x) opening.Case (class_Selected u.0 x)
        (inr (inr (inr (u.0, x, refl)))))) low l s
    by false b =
        let i = subst IsLevelled is l in
        let t = subst (λ (f : Phrase). IsSpelling f w) is s in
        longer k e (node.Field e x) t.0 t.1 w (Selects x)
        (h k t.0 le i.1.1 (left_low (phrase e) 9 k i.1.0 le) t.3)
        (sym (field_measured (measured_of e) x refl)) (i.1.0, b) tt t.4 t.2

pub spine : (n : Node) → HasSpine n
spine =
    forms.induction HasSpine
    (λ l p. by_form (leaves.Literal l p) _ (class_Literal l p) (l, p, refl))
    (λ w. by_form (leaves.Name w) _ (class_Name w) (inl (w, refl)))
    (λ c. by_form (leaves.Case c) _ (class_Case c) (inl (c, refl)))
    (λ p e h. by_form (node.Parens p e) _ (class_Parens p e) (p, e, refl))
    (λ e w h. field_spine e w h)
    (λ o p e h. by_form (node.Prefixed o p e) _ (class_Prefixed o p e) (p, e, refl))
    (λ p t e h. by_form (node.Sum p t e) _ (class_Sum p t e) (p, t, e, refl))
    (λ c e h. by_form (node.Content c e) _ (class_Content c e) (inr (inl (c, e, refl))))
    (λ f args h. by_form (node.Call f args) _ (class_Call f args) (inr (f, args, refl)))
    (λ o p a b x y. binary_spine o p a b x)
    (λ e p c h. test_spine e p c h)
    (λ p es h. by_form (node.List p es) _ (class_List p es) (p, es, refl))
    (λ u fs h. by_form (node.Structure u fs) _ (class_Structure u fs) (inr (inr (inl (u, fs, refl)))))
    (λ p u fs w h. by_form (node.ScopeCall p u fs w) _ (class_ScopeCall p u fs w) (p, u, fs, w, refl))
    (λ p c t e x y z. by_form (node.If p c t e) _ (class_If p c t e) (p, c, t, e, refl))
    (λ p e more x h. by_form (node.Match p e more) _ (class_Match p e more) (p, e, more, refl))
    (λ q p w l e x y. by_form (node.Each q p w l e) _ (class_Each q p w l e) (p, w, l, e, refl))
    (λ p w l acc s e x y z. by_form (node.Combine (accumulation p w acc) l s e) _ (class_Combine p w l acc s e)
    (p, w, l, acc, s, e, refl))
