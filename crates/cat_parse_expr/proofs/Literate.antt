-- Literals.
use Rattle.std.proofs.Common.{◌≡◌, ℕ, ◌≤◌, Bool, true, false, not, int_lt, Option, None, Some, refl, sym, ap, subst}
use Rattle.std.proofs.Common.{◌∙◌}
use Rattle.cat_lex.specs.declared.token.TokenKind.TheVariants as kind
use Rattle.cat_lex.specs.declared.words.Keyword.TheVariants as key
use Rattle.cat_tree.specs.declared.expression.SurfaceLiteral.TheVariants as literal
use Rattle.cat_tree.specs.declared.expression.Node.TheVariants as leaves
use Rattle.cat_tree.specs.Wording as wording
use Rattle.cat_parse_expr.specs.declared.opening.Opening.TheVariants as opening
use Rattle.cat_parse_expr.proofs.Common.{Pos, Token, TokenKind, SurfaceLiteral, literal_parts, literal_rank, span_bound}
use Rattle.cat_parse_expr.proofs.Common.{unit_word, truth_word, Row, Parts, End, Word, At, IsAt, IsLevelled}
use Rattle.cat_parse_expr.proofs.Common.{left_strength, ends_in_match, height, ◌▹◌, phrase, phrase_Literal, Measured}
use Rattle.cat_parse_expr.proofs.Common.{literal_kind, placed, literal_of, leaf, IsMeasured}
use Rattle.cat_parse_expr.proofs.Firsts.{class_Literal}
use Rattle.cat_parse_expr.proofs.Leaves.{some_one, not_both, token_is, anywhere}
use Rattle.cat_parse_expr.proofs.Operands.{Form, measured_by}
use Rattle.cat_parse_expr.proofs.Token.{Terminals}

abbrev pub Placed : Type 0
Placed = SurfaceLiteral × Pos

abbrev pub literal_node : Placed → Measured
literal_node t = leaf (leaves.Literal t.0 t.1)

-- the literal that its first word is
abbrev pub shortened : SurfaceLiteral → SurfaceLiteral
shortened (literal.Span n u) = literal.Int n
shortened l = l

-- that word
abbrev pub literal_word : SurfaceLiteral → TokenKind
literal_word (literal.Int n) = kind.Int n
literal_word (literal.Dec d) = kind.Dec d
literal_word (literal.Pct d) = kind.Pct d
literal_word (literal.Money m) = kind.Money m
literal_word (literal.Date d) = kind.Date d
literal_word (literal.Boolean b) = kind.Word (truth_word b)
literal_word (literal.Span n u) = kind.Int n

-- the words behind it
abbrev pub literal_rest : SurfaceLiteral → Parts
literal_rest (literal.Span n u) = wording.«word» (unit_word u) ▹ End
literal_rest l = End

pub literal_row_is : (l : SurfaceLiteral) (p : Pos) → Word (At (literal_word l) p) (literal_rest l) ≡ literal_parts l p
literal_row_is (literal.Int n) p = refl
literal_row_is _ p = refl

abbrev pub Bounded : SurfaceLiteral → Type 0
Bounded (literal.Span n u) = int_lt span_bound n ≡ false
Bounded l = Unit {0}

-- ---- as an operand

literal_measured : (t : Placed) → IsMeasured (literal_node t)
literal_measured (l, p) =
    measured_by (leaves.Literal l p) _ _ _ _ (phrase_Literal l p) (tall l) (strong l) (plain l)
  where
    tall : (l : SurfaceLiteral) → 1 ≡ height (Row (literal_rank l) (literal_parts l p))
    tall (literal.Span n u) = refl
    tall (literal.Int n) = refl
    tall (literal.Dec d) = refl
    tall (literal.Pct d) = refl
    tall (literal.Money m) = refl
    tall (literal.Date d) = refl
    tall (literal.Boolean b) = refl

    strong : (l : SurfaceLiteral) → 9 ≡ left_strength (Row (literal_rank l) (literal_parts l p))
    strong (literal.Span n u) = refl
    strong _ = refl

    plain : (l : SurfaceLiteral) → false ≡ ends_in_match (Row (literal_rank l) (literal_parts l p))
    plain (literal.Span n u) = refl
    plain _ = refl

pub literal_form : (k : ℕ) → k ≤ 9 → Form k opening.Literal (λ t. Bounded t.0) (λ t. literal_parts t.0 t.1) literal_node
literal_form k le = record {
  rank = λ t. literal_rank t.0;
  is = λ t. phrase_Literal t.0 t.1;
  measured = λ t m. literal_measured t;
  level = λ t m. level t.0;
  bounded = λ t m. bounded t.0 m;
  class = λ t. class_Literal t.0 t.1;
  shape = λ t. (t.0, t.1, refl);
  split =
      λ n s levels low. (
        (s.0, s.1),
        s.2,
        within s.0 (subst IsLevelled (ap phrase s.2 ∙ phrase_Literal s.0 s.1) levels).0,
      );
}
  where
    level : (l : SurfaceLiteral) → k ≤ (literal_rank l).level
    level (literal.Span n u) = le
    level _ = le

    bounded : (l : SurfaceLiteral) → Bounded l → (literal_rank l).fits ≡ true
    bounded (literal.Span n u) m = ap not m
    bounded _ m = refl

    unnot : (b : Bool) → not b ≡ true → b ≡ false
    unnot true h = absurd cc
    unnot false h = refl

    within : (l : SurfaceLiteral) → (literal_rank l).fits ≡ true → Bounded l
    within (literal.Span n u) h = unnot (int_lt span_bound n) h
    within _ h = tt

-- ---- the first word

literal_found : (k : TokenKind) (l : SurfaceLiteral) → literal_kind k ≡ Some l → k ≡ literal_word l
literal_found (kind.Int n) l e = ap literal_word (some_one (literal.Int n) l e)
literal_found (kind.Dec d) l e = ap literal_word (some_one (literal.Dec d) l e)
literal_found (kind.Pct d) l e = ap literal_word (some_one (literal.Pct d) l e)
literal_found (kind.Money m) l e = ap literal_word (some_one (literal.Money m) l e)
literal_found (kind.Date d) l e = ap literal_word (some_one (literal.Date d) l e)
literal_found (kind.Word key.True) l e = ap literal_word (some_one (literal.Boolean true) l e)
literal_found (kind.Word key.False) l e = ap literal_word (some_one (literal.Boolean false) l e)
literal_found _ l e = absurd cc

literal_self : (l : SurfaceLiteral) → literal_kind (literal_word l) ≡ Some (shortened l)
literal_self (literal.Int n) = refl
literal_self (literal.Boolean true) = refl
literal_self (literal.Boolean false) = refl
literal_self _ = refl

word_shortened : (l : SurfaceLiteral) → literal_word (shortened l) ≡ literal_word l
word_shortened (literal.Span n u) = refl
word_shortened _ = refl

placed_found : (o : Option SurfaceLiteral) (p : Pos) (x : Placed) → placed o p ≡ Some x → (o ≡ Some x.0) × (p ≡ x.1)
placed_found None p x e = absurd cc
placed_found (Some l) p x e =
    let same = some_one (l, p) x e in
    (ap (λ (t : Placed). Some t.0) same, ap (λ (t : Placed). t.1) same)

abbrev pub head_of : Placed → Placed
head_of t = (shortened t.0, t.1)

pub literal_marks : (fits : Placed → Type 0)
    → Terminals fits (λ y. At (literal_word y.0) y.1) literal_of (λ x y. head_of y ≡ x)
literal_marks fits = record {
  gives = λ p x y e f i. some_one (head_of y) x (sym (made p y i) ∙ e);
  is =
      λ p x y e f i. let w = placed_found (literal_kind p.kind) p.pos x e in
      token_is p (literal_word y.0) y.1
      (literal_found p.kind x.0 w.0 ∙ ap (λ (t : Placed). literal_word t.0) (sym i) ∙ word_shortened y.0)
      (w.1 ∙ ap (λ (t : Placed). t.1) (sym i));
  none = λ p y e f i. not_both (literal_of p) (head_of y) e (made p y i);
  token = record { kind = kind.Word key.True; pos = anywhere };
  made = (literal.Boolean true, anywhere);
  sample = refl;
}
  where
    made : (p : Token) (y : Placed) → IsAt (At (literal_word y.0) y.1) p → literal_of p ≡ Some (head_of y)
    made p y i = ap literal_of i ∙ ap (λ (o : Option SurfaceLiteral). placed o y.1) (literal_self y.0)
