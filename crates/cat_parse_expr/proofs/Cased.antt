-- Cases, alone, with content, as structures and with a field.
use Rattle.std.proofs.Common.{◌≡◌, ℕ, ◌≤◌, Bool, true, false, List, [], ◌∷◌, ◌++◌, refl, sym, ap, subst, ◌∙◌, arith}
use Rattle.std.proofs.Common.{inl, inr, map, if◌then◌else◌}
use Rattle.cat_lex.specs.declared.token.TokenKind.TheVariants as kind
use Rattle.cat_lex.specs.declared.words.Keyword.TheVariants as key
use Rattle.cat_lex.specs.declared.symbol.Symbol.TheVariants as symbol
use Rattle.cat_tree.specs.declared.expression.Node.TheViews as node
use Rattle.cat_tree.specs.Wording as wording
use Rattle.cat_parse_expr.specs.declared.opening.Opening.TheVariants as opening
use Rattle.cat_tree.specs.declared.expression.Node.TheVariants as leaves
use Rattle.cat_parse_expr.proofs.Common.{Token, Name, Node, Phrase, Row, Rank, Parts, End, Word, At, Anywhere, height}
use Rattle.cat_parse_expr.proofs.Common.{◌▹◌, lower, sign, part, of_level, phrase, phrase_Case, phrase_Content}
use Rattle.cat_parse_expr.proofs.Common.{phrase_Structure, phrase_Field, Measured, closed, measured_of, IsMeasured}
use Rattle.cat_parse_expr.proofs.Common.{AreLevelled, AreSpelled, right_strength, left_strength, IsLevelled, if_some}
use Rattle.cat_parse_expr.proofs.Common.{leaf, SurfaceField, fields, field_row, MeasuredFields, with_field}
use Rattle.cat_parse_expr.proofs.Common.{no_fields, upper}
use Rattle.cat_parse_expr.proofs.Common.{Bare, Qualified, left, IsSpelling}
use Rattle.cat_parse_expr.proofs.Firsts.{Shape, class_of, class_Case, class_Content, class_Structure, class_Selected}
use Rattle.cat_parse_expr.proofs.Positive.{positive, fields_form, fields_match}
use Rattle.cat_parse_expr.proofs.Operands.{Form, measured_by, height_is, match_is, strength_by}
use Rattle.cat_parse_expr.proofs.FieldParts.{Valued, field_rows, AreValued, valued_of, valued_are, values_back}
use Rattle.cat_parse_expr.proofs.FieldParts.{rows_are}
use Rattle.cat_parse_expr.proofs.FieldParts.{fields_from, values_are, highest_is, fields_height}
use Rattle.cat_parse_expr.proofs.CaseContent.{content_of}

abbrev pub built : Valued → List Valued → MeasuredFields
built f fs = fields_from no_fields (f ∷ fs)

pub data Cased : Type 0 where
  Plain : Name → Cased
  Dotted : Name → Name → Cased
  Holds : Name → Measured → Cased
  DottedHolds : Name → Name → Measured → Cased
  Builds : Name → Valued → List Valued → Cased
  Selects : Name → Name → Cased

abbrev pub first_in : Cased → Name
first_in (Plain u) = u
first_in (Dotted d u) = d
first_in (Holds u e) = u
first_in (DottedHolds d u e) = d
first_in (Builds u f fs) = u
first_in (Selects u w) = u

abbrev pub second_in : Cased → Name
second_in (Plain u) = u
second_in (Dotted d u) = u
second_in (Holds u e) = u
second_in (DottedHolds d u e) = u
second_in (Builds u f fs) = u
second_in (Selects u w) = w

abbrev pub selected_of : Name → Name → Measured
selected_of u w = closed 9 1 (node.Field (leaves.Case (Bare u)) w)

abbrev pub cased_of : Cased → Measured
cased_of (Plain u) = leaf (leaves.Case (Bare u))
cased_of (Dotted d u) = leaf (leaves.Case (Qualified d u))
cased_of (Holds u e) = content_of (Bare u) e
cased_of (DottedHolds d u e) = content_of (Qualified d u) e
cased_of (Builds u f fs) = closed 9 (built f fs).tallest (node.Structure u (built f fs).values)
cased_of (Selects u w) = selected_of u w

-- behind a dot
abbrev pub after_dot : Cased → Parts
after_dot (Plain u) = End
after_dot (Dotted d u) = upper u ▹ End
after_dot (Holds u e) = End
after_dot (DottedHolds d u e) = upper u ▹ wording.«word» key.Content ▹ part 8 (phrase e.node) ▹ End
after_dot (Builds u f fs) = End
after_dot (Selects u w) = lower w ▹ End

-- behind the second name
abbrev pub after_second : Cased → Parts
after_second (DottedHolds d u e) = wording.«word» key.Content ▹ part 8 (phrase e.node) ▹ End
after_second y = End

abbrev pub cased_rest : Cased → Parts
cased_rest (Plain u) = End
cased_rest (Dotted d u) = sign symbol.Dot ▹ upper u ▹ End
cased_rest (Holds u e) = wording.«word» key.Content ▹ part 8 (phrase e.node) ▹ End
cased_rest (DottedHolds d u e) = sign symbol.Dot ▹ upper u ▹ wording.«word» key.Content ▹ part 8 (phrase e.node) ▹ End
cased_rest (Builds u f fs) = sign symbol.LeftBrace ▹ fields (field_rows (f ∷ fs)) (sign symbol.RightBrace ▹ End)
cased_rest (Selects u w) = sign symbol.Dot ▹ lower w ▹ End

abbrev pub cased_flat : Cased → Parts
cased_flat y = Word (At (kind.Upper (first_in y).text) (first_in y).pos) (cased_rest y)

abbrev pub cased_fits : (k : ℕ) → Cased → Type 0
cased_fits k (Holds u e) = IsMeasured e × (k ≤ 8)
cased_fits k (DottedHolds d u e) = IsMeasured e × (k ≤ 8)
cased_fits k (Builds u f fs) = IsMeasured f.1 × AreValued fs
cased_fits k y = Unit {0}

abbrev pub cased_rank : Cased → Rank
cased_rank (Holds u e) = of_level 8
cased_rank (DottedHolds d u e) = of_level 8
cased_rank y = of_level 9

-- as it is spelled in parts
abbrev pub cased_row : Cased → Parts
cased_row (Selects u w) = left 9 (phrase (leaves.Case (Bare u))) ▹ sign symbol.Dot ▹ lower w ▹ End
cased_row y = cased_flat y

-- ---- as operands

bare_levels : (u : Name) → (9 ≤ left_strength (phrase (leaves.Case (Bare u)))) × IsLevelled
    (phrase (leaves.Case (Bare u)))
bare_levels u =
    subst (λ (f : Phrase). (9 ≤ left_strength f) × IsLevelled f) (sym (phrase_Case (Bare u))) (omega arith, (refl, tt))

pub to_parts : (y : Cased) (w : List Token) → AreLevelled (cased_flat y) → AreSpelled (cased_flat y) w
    → AreLevelled (cased_row y) × AreSpelled (cased_row y) w
to_parts (Plain u) w l s = (l, s)
to_parts (Dotted d u) w l s = (l, s)
to_parts (Holds u e) w l s = (l, s)
to_parts (DottedHolds d u e) w l s = (l, s)
to_parts (Builds u f fs) w l s = (l, s)
to_parts (Selects u x) w l s =
    let b = bare_levels u in (
      (b.0, b.1, tt),
      (
        s.0 ∷ [],
        s.1,
        s.2,
        subst (λ (f : Phrase). IsSpelling f (s.0 ∷ [])) (sym (phrase_Case (Bare u))) (s.0, [], refl, s.3, refl),
        s.4,
      ),
    )

pub from_parts : (y : Cased) (w : List Token) → AreLevelled (cased_row y) → AreSpelled (cased_row y) w
    → AreLevelled (cased_flat y) × AreSpelled (cased_flat y) w
from_parts (Plain u) w l s = (l, s)
from_parts (Dotted d u) w l s = (l, s)
from_parts (Holds u e) w l s = (l, s)
from_parts (DottedHolds d u e) w l s = (l, s)
from_parts (Builds u f fs) w l s = (l, s)
from_parts (Selects u x) w l s =
    let t = subst (λ (f : Phrase). IsSpelling f s.0) (phrase_Case (Bare u)) s.3 in (
      tt,
      (
        t.0,
        s.1,
        s.2 ∙ ap (λ (z : List Token). z ++ s.1) (t.2 ∙ ap (λ (z : List Token). t.0 ∷ z) t.4),
        t.3,
        s.4,
      ),
    )

cased_is : (y : Cased) → phrase (cased_of y).node ≡ Row (cased_rank y) (cased_row y)
cased_is (Plain u) = phrase_Case (Bare u)
cased_is (Dotted d u) = phrase_Case (Qualified d u)
cased_is (Holds u e) = phrase_Content (Bare u) e.node
cased_is (DottedHolds d u e) = phrase_Content (Qualified d u) e.node
cased_is (Builds u f fs) =
    phrase_Structure u (built f fs).values
    ∙ ap (λ (vs : List SurfaceField). Row (if_some 9 (map field_row vs)) (upper u ▹ sign symbol.LeftBrace
    ▹ fields (map field_row vs) (sign symbol.RightBrace ▹ End))) (values_are (with_field no_fields f.0 f.1) fs)
    ∙ ap (λ (rs : List (Name × Phrase)). Row (of_level 9) (upper u ▹ sign symbol.LeftBrace
    ▹ fields ((f.0, phrase f.1.node) ∷ rs) (sign symbol.RightBrace ▹ End))) (rows_are fs)
cased_is (Selects u w) = phrase_Field (leaves.Case (Bare u)) w

bare_height : (u : Name) → height (phrase (leaves.Case (Bare u))) ≡ 1
bare_height u = ap height (phrase_Case (Bare u))

cased_measured : (k : ℕ) (y : Cased) → cased_fits k y → IsMeasured (cased_of y)
cased_measured k (Plain u) m = measured_by (leaves.Case (Bare u)) _ _ _ _ (cased_is (Plain u)) (omega arith) refl refl
cased_measured k (Dotted d u) m =
    measured_by (leaves.Case (Qualified d u)) _ _ _ _ (cased_is (Dotted d u)) (omega arith) refl refl
cased_measured k (Holds u e) m =
    measured_by (content_of (Bare u) e).node _ _ _ _ (cased_is (Holds u e)) (omega (arith, height_is e m.0))
    (strength_by e 8 m.0 (positive e.node)) (match_is e m.0)
cased_measured k (DottedHolds d u e) m =
    measured_by (content_of (Qualified d u) e).node _ _ _ _ (cased_is (DottedHolds d u e))
    (omega (arith, height_is e m.0)) (strength_by e 8 m.0 (positive e.node)) (match_is e m.0)
cased_measured k (Builds u f fs) m =
    measured_by (cased_of (Builds u f fs)).node _ _ _ _ (cased_is (Builds u f fs))
    (omega (
      arith,
      highest_is (with_field no_fields f.0 f.1) fs,
      fields_height (f ∷ fs) (sign symbol.RightBrace ▹ End) (m.0, m.1),
    ))
    (ap (λ (c : Bool). if c then 0 else 9)
    (sym (fields_form (field_rows (f ∷ fs)) (Anywhere (kind.Symbol symbol.RightBrace)) End false)))
    (sym (fields_match (field_rows (f ∷ fs)) (Anywhere (kind.Symbol symbol.RightBrace)) End false))
cased_measured k (Selects u w) m =
    measured_by (selected_of u w).node _ _ _ _ (cased_is (Selects u w)) (omega (arith, bare_height u)) refl refl

cased_class : (y : Cased) → class_of (cased_of y).node ≡ opening.Case
cased_class (Plain u) = class_Case (Bare u)
cased_class (Dotted d u) = class_Case (Qualified d u)
cased_class (Holds u e) = class_Content (Bare u) e.node
cased_class (DottedHolds d u e) = class_Content (Qualified d u) e.node
cased_class (Builds u f fs) = class_Structure u (built f fs).values
cased_class (Selects u w) = class_Selected u w

cased_shape : (y : Cased) → Shape opening.Case (cased_of y).node
cased_shape (Plain u) = inl (Bare u, refl)
cased_shape (Dotted d u) = inl (Qualified d u, refl)
cased_shape (Holds u e) = inr (inl (Bare u, e.node, refl))
cased_shape (DottedHolds d u e) = inr (inl (Qualified d u, e.node, refl))
cased_shape (Builds u f fs) = inr (inr (inl (u, (built f fs).values, refl)))
cased_shape (Selects u w) = inr (inr (inr (u, w, refl)))

cased_split : (k : ℕ) (n : Node) → Shape opening.Case n → IsLevelled (phrase n) → k ≤ right_strength (phrase n)
    → (y : Cased) × (n ≡ (cased_of y).node) × cased_fits k y
cased_split k n (inl (Bare u, e)) l low = (Plain u, e, tt)
cased_split k n (inl (Qualified d u, e)) l low = (Dotted d u, e, tt)
cased_split k n (inr (inl (Bare u, e, is))) l low = (
  Holds u (measured_of e),
  is,
  (
    refl,
    subst (λ (f : Phrase). k ≤ right_strength f)
        (ap phrase is ∙ phrase_Content (Bare u) e) low,
  ),
)
cased_split k n (inr (inl (Qualified d u, e, is))) l low = (
  DottedHolds d u (measured_of e),
  is,
  (
    refl,
    subst (λ (f : Phrase). k ≤ right_strength f)
        (ap phrase is ∙ phrase_Content (Qualified d u) e) low,
  ),
)
cased_split k n (inr (inr (inl (u, [], is)))) l low =
    absurd (clash (subst IsLevelled (ap phrase is ∙ phrase_Structure u []) l).0)
  where
    clash : false ≡ true → ⊥
    clash h = absurd cc
cased_split k n (inr (inr (inl (u, f ∷ fs, is)))) l low = (
  Builds u (f.name, measured_of f.value) (valued_of fs),
  is ∙ ap (λ (vs : List SurfaceField). node.Structure u vs)
      (sym (values_are (with_field no_fields f.name (measured_of f.value)) (valued_of fs)
      ∙ ap (λ (vs : List SurfaceField). f ∷ vs) (values_back fs))),
  (refl, valued_are fs),
)
cased_split k n (inr (inr (inr (u, w, is)))) l low = (Selects u w, is, tt)

pub cased_form : (k : ℕ) → k ≤ 9 → Form k opening.Case (cased_fits k) cased_row cased_of
cased_form k le = record {
  rank = cased_rank;
  is = cased_is;
  measured = cased_measured k;
  level = level;
  bounded = bounded;
  class = cased_class;
  shape = cased_shape;
  split = cased_split k;
}
  where
    level : (y : Cased) → cased_fits k y → k ≤ (cased_rank y).level
    level (Plain u) m = le
    level (Dotted d u) m = le
    level (Holds u e) m = m.1
    level (DottedHolds d u e) m = m.1
    level (Builds u f fs) m = le
    level (Selects u w) m = le

    bounded : (y : Cased) → cased_fits k y → (cased_rank y).fits ≡ true
    bounded (Plain u) m = refl
    bounded (Dotted d u) m = refl
    bounded (Holds u e) m = refl
    bounded (DottedHolds d u e) m = refl
    bounded (Builds u f fs) m = refl
    bounded (Selects u w) m = refl
